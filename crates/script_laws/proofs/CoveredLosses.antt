-- In a log with no loss each loss is covered; so a log with one loss at most ends only by Done or Stop.
use Rattle.std.proofs.Common.{◌≡◌, ◌+◌, ◌≤◌, refl, sym, ◌∙◌, ap, arith, List, [], ◌∷◌, length, Bool, true, false, cond, not, ◌||◌, eq-eqb, Option, Some, None, is_some, true≢false}
use Rattle.std.specs.Option.{option_map_or}
use Rattle.std.proofs.lemmas.Bool.{and_from}
use Rattle.t32_base.specs.declared.process.ClusterNo.{ClusterNo}
use Rattle.sys_text.specs.declared.system.System.{System}
use Rattle.sys_text.specs.Valid.{is_system}
use Rattle.bus_msg.specs.declared.entry.What.{What}
use Rattle.bus_msg.specs.declared.entry.What.TheVariants.{Crash, Done, Stop}
use Rattle.bus_msg.specs.declared.entry.Entry.{Entry}
use Rattle.bus_msg.specs.Places.{is_covered}
use Rattle.bus_msg.specs.PlacedAfter.{what}
use Rattle.cert_sched.specs.declared.script.ScriptWord.{ScriptWord}
use Rattle.cert_sched.specs.declared.script.ScriptWord.TheVariants.{CrashAt}
use Rattle.cert_sched.specs.Schedule.{placement}
use Rattle.cert_sched.specs.Rules.{is_over, ends_run}
use Rattle.cert_sched.specs.Scripted.{closes, is_closed, is_lost_by}
use Rattle.cert_sched.specs.Legal.{IsLegalBy, MayStand}
use Rattle.cert_sched.specs.Told.{cluster_lost}
use Rattle.cert_sched.proofs.LogLaws.{IsLegal-snoc}
use Rattle.cert_sched.proofs.Induction.{legal_induction, is_over-snoc}
use Rattle.backup_laws.specs.LostBy.{AllLostBy}
use Rattle.backup_laws.proofs.SpreadSafe.{spread_covered}
use Rattle.bus_order.specs.View.{BusView, KeepsScript}
use Rattle.bus_order.proofs.OverLaws.{closed-snoc, none_over}
use Rattle.cert_sched.proofs.LiveLaws.{none_legal}
use Rattle.script_laws.specs.Crashes.{is_loss, crashes}
use Rattle.script_laws.proofs.Counts.{count-cons, count-snoc}
use Rattle.script_laws.proofs.CrashLaws.{crashes_within}
use Rattle.script_laws.proofs.OffLosses.{all_stand}
use Rattle.script_laws.proofs.SpreadLosses.{one_word_spread}

-- ---- a log with no loss

uncounted : (b : Bool) → cond b 1 0 ≤ 0 → b ≡ false
uncounted true h = absurd (omega (arith, h))
uncounted false h = refl

-- so each of its losses is of any script
none_lost : (script : List ScriptWord) (log : List Entry) → crashes log ≡ 0 → AllLostBy script log
none_lost script [] none = refl
none_lost script (e ∷ log) none =
    let counted = count-cons (λ (e : Entry). is_loss (what e)) e log in
    let here : is_loss (what e) ≡ false = uncounted (is_loss (what e)) (omega (arith, none, counted)) in
    and_from (option_map_or (is_lost_by script) (cluster_lost (what e)) true) _ (by_loss (cluster_lost (what e)) here) (none_lost script log (omega (arith, none, counted)))
  where
    by_loss : (o : Option ClusterNo) → is_some o ≡ false → option_map_or (is_lost_by script) o true ≡ true
    by_loss None is = refl
    by_loss (Some k) is = absurd (true≢false is)

-- and each loss would be covered, as by a script of that loss alone
pub crashless_covered : (system : System) (log : List Entry) (k : ClusterNo) → is_system system ≡ true → IsLegalBy MayStand system log → crashes log ≡ 0 → is_covered (placement system log) k ≡ true
crashless_covered system log k valid legal none =
    let script : List ScriptWord = CrashAt k 0 ∷ [] in
    spread_covered system script log k valid (one_word_spread system script valid (omega arith)) (all_stand system log legal) (none_lost script log none) (ap (λ b. b || false) (eq-eqb k.0 k.0 refl))

-- ---- one loss at most

record Ends (system : System) (log : List Entry) : Type 0 where
  pub legal : IsLegalBy MayStand system log
  pub closed : crashes log ≤ 1 → is_over system log ≡ true → is_closed log ≡ true

ends_closed : (system : System) (log : List Entry) (w : What) → is_system system ≡ true → IsLegalBy MayStand system log → crashes log + cond (is_loss w) 1 0 ≤ 1 → ends_run (placement system log) w ≡ true → closes w ≡ true
ends_closed system log (Crash k cause) valid legal few h =
    let covered = crashless_covered system log k valid legal (omega (arith, few)) in
    absurd (true≢false (sym h ∙ ap not covered))
ends_closed system log (Done rests) valid legal few h = refl
ends_closed system log Stop valid legal few h = refl
ends_closed system log _ valid legal few h = h

-- such a log ends only by Done or Stop
pub few_losses_close : (system : System) (log : List Entry) → is_system system ≡ true → IsLegalBy MayStand system log → crashes log ≤ 1 → is_over system log ≡ true → is_closed log ≡ true
few_losses_close system log valid legal =
    (legal_induction MayStand system (Ends system) (record { legal = none_legal MayStand system; closed = λ few over. absurd (true≢false (sym over ∙ none_over system)) })
    (λ log e before may. record {
      legal = IsLegal-snoc MayStand system log e before.legal may;
      closed = λ few over.
          let more = count-snoc (λ (e : Entry). is_loss (what e)) log e in
          closed-snoc log e ∙ ends_closed system log (what e) valid before.legal (omega (arith, few, more)) (sym (is_over-snoc system log e) ∙ over);
    }) log legal).closed

-- a script of one word ends no run
pub one_word_closes : (b : BusView) → is_system b.system ≡ true → IsLegalBy MayStand b.system b.log → KeepsScript b → length b.script ≤ 1 → is_over b.system b.log ≡ true → is_closed b.log ≡ true
one_word_closes b valid legal keeps few over =
    let within = crashes_within b keeps in
    few_losses_close b.system b.log valid legal (omega (arith, within, few)) over
