-- A script whose words lose neither both clusters of a root nor both page servers ends no run, however many losses it has.
use Rattle.std.proofs.Common.{◌≡◌, ◌≤◌, refl, sym, ◌∙◌, ap, arith, List, [], ◌∷◌, length, Bool, true, false, not, ◌&&◌, ◌||◌, eqb-true, true≢false}
use Rattle.std.specs.List.{list_all}
use Rattle.std.specs.Option.{option_map_or}
use Rattle.std.proofs.lemmas.Bool.{and_from, and_parts}
use Rattle.std.proofs.lemmas.List.Folds.{list_all-append}
use Rattle.t32_base.specs.declared.process.ClusterNo.{ClusterNo}
use Rattle.sys_text.specs.declared.system.System.{System}
use Rattle.sys_text.specs.declared.system.Root.{Root}
use Rattle.sys_text.specs.Valid.{is_root, is_system}
use Rattle.sys_text.proofs.Bounds.{root_fits, root_tests, system_bounds, tests}
use Rattle.bus_msg.specs.declared.entry.What.{What}
use Rattle.bus_msg.specs.declared.entry.What.TheVariants.{Crash, Done, Stop}
use Rattle.bus_msg.specs.declared.entry.Entry.{Entry}
use Rattle.bus_msg.specs.Places.{is_covered}
use Rattle.bus_msg.specs.PlacedAfter.{what}
use Rattle.cert_sched.specs.declared.script.ScriptWord.{ScriptWord}
use Rattle.cert_sched.specs.declared.script.ScriptWord.TheVariants.{CrashAt, CrashStep, DiskAt, ReturnAt}
use Rattle.cert_sched.specs.Schedule.{placement}
use Rattle.cert_sched.specs.Told.{cluster_lost}
use Rattle.cert_sched.specs.Rules.{ends_run, is_over}
use Rattle.cert_sched.specs.Scripted.{closes, is_closed, is_lost_by, is_spread, loses}
use Rattle.cert_sched.specs.Legal.{IsLegalBy, Stands}
use Rattle.cert_sched.proofs.LogLaws.{IsLegal-snoc}
use Rattle.cert_sched.proofs.Induction.{is_over-snoc, legal_induction}
use Rattle.bus_order.specs.View.{BusView, KeepsScript}
use Rattle.bus_order.proofs.OverLaws.{closed-snoc, none_over}
use Rattle.backup_laws.specs.LostBy.{AllLostBy}
use Rattle.backup_laws.proofs.SpreadSafe.{spread_covered}
use Rattle.script_laws.proofs.OffSince.{none_legal}
use Rattle.script_laws.proofs.WordLosses.{all_worded}

-- the loss of a cluster by a word of such a script is covered
pub spread_covers : (b : BusView) (k : ClusterNo) → is_system b.system ≡ true → IsLegalBy Stands b.system b.log → KeepsScript b → is_spread b.system b.script ≡ true → is_lost_by b.script k ≡ true → is_covered (placement b.system b.log) k ≡ true
spread_covers b k valid legal keeps spread by_word = spread_covered b.system b.script b.log k valid spread legal (all_worded b keeps) by_word

-- ---- the end

record Closes (system : System) (script : List ScriptWord) (log : List Entry) : Type 0 where
  pub legal : IsLegalBy Stands system log
  pub closed : AllLostBy script log → is_over system log ≡ true → is_closed log ≡ true

ends_closed : (system : System) (script : List ScriptWord) (log : List Entry) (w : What) → ((k : ClusterNo) → is_lost_by script k ≡ true → is_covered (placement system log) k ≡ true) → option_map_or (is_lost_by script) (cluster_lost w) true ≡ true
    → ends_run (placement system log) w ≡ true → closes w ≡ true
ends_closed system script log (Crash k cause) covered lost h = absurd (true≢false (sym h ∙ ap not (covered k lost)))
ends_closed system script log (Done rests) covered lost h = refl
ends_closed system script log Stop covered lost h = refl
ends_closed system script log _ covered lost h = h

pub spread_log_closes : (system : System) (script : List ScriptWord) (log : List Entry) → is_system system ≡ true → is_spread system script ≡ true → IsLegalBy Stands system log → AllLostBy script log → is_over system log ≡ true → is_closed log ≡ true
spread_log_closes system script log valid spread legal =
    (legal_induction Stands system (Closes system script) (record { legal = none_legal system; closed = λ lost over. absurd (true≢false (sym over ∙ none_over system)) })
    (λ log e before stands. record {
      legal = IsLegal-snoc Stands system log e before.legal stands;
      closed = λ lost over.
          let test : Entry → Bool = λ (e : Entry). option_map_or (is_lost_by script) (cluster_lost (what e)) true in
          let parts = and_parts (list_all test log) (test e && true) (sym (list_all-append test log (e ∷ [])) ∙ lost) in
          closed-snoc log e
          ∙ ends_closed system script log (what e) (λ k by_word. spread_covered system script log k valid spread before.legal parts.0 by_word) (and_parts (test e) true parts.1).0
          (sym (is_over-snoc system log e) ∙ over);
    }) log legal).closed

pub spread_closes : (b : BusView) → is_system b.system ≡ true → IsLegalBy Stands b.system b.log → KeepsScript b → is_spread b.system b.script ≡ true → is_over b.system b.log ≡ true → is_closed b.log ≡ true
spread_closes b valid legal keeps spread over = spread_log_closes b.system b.script b.log valid spread legal (all_worded b keeps) over

-- ---- a script of one word

loses_one : (w : ScriptWord) (j k : ClusterNo) → loses j w ≡ true → loses k w ≡ true → j.0 ≡ k.0
loses_one (CrashAt i place) j k first second = sym (eqb-true i.0 j.0 first) ∙ eqb-true i.0 k.0 second
loses_one (CrashStep i step) j k first second = sym (eqb-true i.0 j.0 first) ∙ eqb-true i.0 k.0 second
loses_one (DiskAt i call) j k first second = sym (eqb-true i.0 j.0 first) ∙ eqb-true i.0 k.0 second
loses_one (ReturnAt i place) j k first second = absurd (true≢false (sym first))

-- it loses one of two different clusters at most
not_both : (script : List ScriptWord) (j k : ClusterNo) → length script ≤ 1 → (j.0 ≡ k.0 → ⊥) → not (is_lost_by script j && is_lost_by script k) ≡ true
not_both [] j k few apart = refl
not_both (w ∷ []) j k few apart = by_tests (loses j w) (loses k w) refl refl
  where
    by_tests : (a b : Bool) → loses j w ≡ a → loses k w ≡ b → not ((a || false) && (b || false)) ≡ true
    by_tests true true first second = absurd (apart (loses_one w j k first second))
    by_tests true false first second = refl
    by_tests false b first second = refl
not_both (w ∷ v ∷ script) j k few apart = absurd (omega (arith, few))

roots_apart : (s : System) (script : List ScriptWord) → length script ≤ 1 → s.clusters ≤ 16 → (roots : List Root) → list_all (is_root s.clusters (length s.images)) roots ≡ true
    → list_all (λ (r : Root). not (is_lost_by script r.home && is_lost_by script r.backup)) roots ≡ true
roots_apart s script few clusters [] fit = refl
roots_apart s script few clusters (r ∷ roots) fit =
    let parts = and_parts (is_root s.clusters (length s.images) r) (list_all (is_root s.clusters (length s.images)) roots) fit in
    and_from (not (is_lost_by script r.home && is_lost_by script r.backup)) _ (not_both script r.home r.backup few (root_fits s r clusters parts.0).apart) (roots_apart s script few clusters roots parts.1)

pub one_word_spread : (system : System) (script : List ScriptWord) → is_system system ≡ true → length script ≤ 1 → is_spread system script ≡ true
one_word_spread system script valid few =
    let bounds = system_bounds system valid in
    and_from (not (is_lost_by script (system.pager).0 && is_lost_by script (system.pager).1)) _ (not_both script (system.pager).0 (system.pager).1 few bounds.apart)
    (roots_apart system script few bounds.clusters system.roots (root_tests system.clusters (length system.images) system.roots (tests system valid).roots).each)
