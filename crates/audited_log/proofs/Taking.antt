-- What is kept of each process after an entry.
use Rattle.std.proofs.Common.{◌≡◌, ℕ, refl, sym, ◌∙◌, ap, subst, List, [], ◌∷◌, ◌++◌, Bool, true, false, cond, not, Option, Some, None, is_some, true≢false}
use Rattle.std.specs.Map.{lookup}
use Rattle.std.specs.Option.{option_map_or}
use Rattle.std.proofs.lemmas.Option.{same_Some}
use Rattle.t32_base.specs.declared.process.Pid.{Pid}
use Rattle.t32_base.specs.declared.process.End.{End}
use Rattle.sys_text.specs.declared.system.System.{System}
use Rattle.sys_text.specs.Valid.{is_system}
use Rattle.proc_state.specs.declared.process.Process.{Process}
use Rattle.proc_state.specs.State.{state_of}
use Rattle.plain_kernel.specs.Maps.{at_key}
use Rattle.bus_msg.specs.declared.entry.What.{What}
use Rattle.bus_msg.specs.declared.entry.What.TheVariants.{Birth, Exit, Done}
use Rattle.bus_msg.specs.declared.entry.Entry.{Entry}
use Rattle.bus_msg.specs.Places.{Places, same_pid, unended_at}
use Rattle.bus_msg.specs.PlacedAfter.{placed_after, what}
use Rattle.cert_sched.specs.Account.{is_exit_of}
use Rattle.cert_sched.specs.Deeds.{is_birth_of}
use Rattle.cert_sched.specs.Parts.{last_of}
use Rattle.cert_sched.specs.Schedule.{placement, process_after}
use Rattle.cert_sched.specs.Told.{Told, told}
use Rattle.cert_sched.specs.Kinds.{KindHolds}
use Rattle.cert_sched.specs.Rules.{ends_run, is_over}
use Rattle.cert_sched.specs.Legal.{IsLegalBy, Stands, MayStand}
use Rattle.cert_sched.specs.Simulation.{IsUnended}
use Rattle.cert_sched.proofs.BirthPlaces.{child_found}
use Rattle.cert_sched.proofs.CameLaws.{same_of}
use Rattle.cert_sched.proofs.LogLaws.{placement-snoc, told-snoc}
use Rattle.cert_sched.proofs.StayingUnended.{before_unended}
use Rattle.cert_sched.proofs.ThereLaws.{unended_not_born}
use Rattle.line_laws.specs.Meant.{is_end}
use Rattle.log_laws.proofs.records.Standing.{all_stand, itself}
use Rattle.log_cuts.specs.Ahead.{IsAhead}
use Rattle.audited_process.specs.declared.audited.Audited.{Audited}
use Rattle.audited_process.specs.Audited.{BeginsAsChild}
use Rattle.audited_process.specs.Concerns.{goes_on}
use Rattle.audited_process.proofs.Waits.{still_unended}
use Rattle.audited_log.specs.Processes.{AreKept, AreLed, BearsAs, IsKept, IsLed, kept_at}
use Rattle.audited_log.specs.Walk.{AllGoOn, GoesOnIfThere, TakesAll}
use Rattle.audited_log.proofs.Maps.{key_other, same_key}

-- ---- the run goes on

last-snoc : {A : Type 0} (xs : List A) (x : A) → last_of (xs ++ x ∷ []) ≡ Some x
last-snoc [] x = refl
last-snoc (y ∷ []) x = refl
last-snoc (y ∷ z ∷ xs) x = last-snoc (z ∷ xs) x

pub over_by : (system : System) (log : List Entry) (e : Entry) → is_over system (log ++ e ∷ []) ≡ ends_run (placement system log) (what e)
unfolding is_over
over_by system log e = ap (λ (ts : List Told). option_map_or (λ (t : Told). ends_run t.places (what t.entry)) (last_of ts) false) (told-snoc system log e)
    ∙ ap (λ (o : Option Told). option_map_or (λ (t : Told). ends_run t.places (what t.entry)) o false) (last-snoc (told system log) (record { log = log; places = placement system log; entry = e }))

no_end : (places : Places) (w : What) → ends_run places w ≡ false → is_end w ≡ false
no_end places (Done rests) runs = absurd (true≢false runs)
no_end places _ runs = refl

pub goes_on_so : (system : System) (log : List Entry) (e : Entry) → is_over system (log ++ e ∷ []) ≡ false → is_end (what e) ≡ false
goes_on_so system log e runs = no_end (placement system log) (what e) (sym (over_by system log e) ∙ runs)

-- ---- who goes on

going : (p : Pid) (w : What) → is_end w ≡ false → is_exit_of p w ≡ false → goes_on p w ≡ true
going p (Exit pid at end) runs stays = ap not stays
going p (Done rests) runs stays = absurd (true≢false runs)
going p _ runs stays = refl

module _ (system : System) (log : List Entry) (e : Entry) (valid : is_system system ≡ true) (legal : IsLegalBy MayStand system log) (may : MayStand system log e) where
  abbrev more : List Entry
  more = log ++ e ∷ []

  abbrev here : Places
  here = placement system log

  pub not_born : (p : Pid) → IsUnended system log p → is_birth_of p (what e) ≡ false
  not_born p unended = unended_not_born Stands itself system log e p valid (all_stand system log legal) may.stands unended

  pub stays : (p : Pid) → IsUnended system log p → is_exit_of p (what e) ≡ false → IsUnended system more p
  stays p unended stay = ap (λ places. is_some (unended_at places p)) (placement-snoc system log e) ∙ still_unended (what e) here p (not_born p unended) stay unended

  -- one that has not ended then had not before, or is born
  pub was_there : (p : Pid) → is_birth_of p (what e) ≡ false → IsUnended system more p → (is_exit_of p (what e) ≡ false) × IsUnended system log p
  was_there p unborn unended = before_unended (what e) here p unborn (ap (λ places. is_some (unended_at places p)) (sym (placement-snoc system log e)) ∙ unended)

  -- a child that is born has not ended
  pub child_there : (p : Pid) → is_birth_of p (what e) ≡ true → IsUnended system more p
  child_there p bears = by_what (what e) refl bears
    where
      by_what : (w : What) → what e ≡ w → is_birth_of p w ≡ true → IsUnended system more p
      by_what (Birth parent at child end) is own =
          let kind = subst (KindHolds system log e) is (may.stands).kind in
          ap (λ places. is_some (unended_at places p)) (placement-snoc system log e) ∙ ap (λ w. is_some (unended_at (placed_after here w) p)) is
          ∙ subst (λ (q : Pid). is_some (unended_at (placed_after here (Birth parent at child end)) q) ≡ true) (same_of child p own) (child_found here parent child kind.child_is)
      by_what _ is own = absurd (true≢false (sym own))

-- ---- each of them

module _ (before : Places) (e : Entry) (child : Option Process) (old gone new : List (ℕ × Audited)) where
  -- what is left of those that went on, and the child
  pub record Comes : Type 0 where
    pub same : (p : Pid) → is_exit_of p (what e) ≡ false → is_birth_of p (what e) ≡ false → kept_at new p ≡ kept_at gone p
    pub ended : (p : Pid) → is_exit_of p (what e) ≡ true → kept_at new p ≡ None
    pub born : (p : Pid) → is_birth_of p (what e) ≡ true → (s : Process) → child ≡ Some s → (a : Audited) × ((kept_at new p ≡ Some a) × BeginsAsChild (state_of s) a × IsAhead
        (state_of a.process) a.ahead)

  module _ (all : AllGoOn before e old gone) (comes : Comes) (system : System) (log : List Entry) (valid : is_system system ≡ true) (legal : IsLegalBy MayStand system log)
      (may : MayStand system log e)
      (places : placement system log ≡ before) (led : AreLed e system log old) (bears : BearsAs system log e child) (runs : is_end (what e) ≡ false) where
    abbrev then : List Entry
    then = log ++ e ∷ []

    none_there : (p : Pid) → is_birth_of p (what e) ≡ false → is_exit_of p (what e) ≡ true → is_some (unended_at (placement system then) p) ≡ false
    none_there p unborn ends = by_test (is_some (unended_at (placement system then) p)) refl
      where
        by_test : (b : Bool) → is_some (unended_at (placement system then) p) ≡ b → b ≡ false
        by_test true is = absurd (true≢false (sym ends ∙ (was_there system log e valid legal may p unborn is).0))
        by_test false is = refl

    none_before : (p : Pid) → is_birth_of p (what e) ≡ false → is_some (unended_at (placement system log) p) ≡ false → is_some (unended_at (placement system then) p) ≡ false
    none_before p unborn none = by_test (is_some (unended_at (placement system then) p)) refl
      where
        by_test : (b : Bool) → is_some (unended_at (placement system then) p) ≡ b → b ≡ false
        by_test true is = absurd (true≢false (sym (was_there system log e valid legal may p unborn is).1 ∙ none))
        by_test false is = refl

    goes : (p : Pid) → is_exit_of p (what e) ≡ false → is_birth_of p (what e) ≡ false → (o n : Option Audited) → IsLed e system log p o → GoesOnIfThere before e p o n → IsKept system then p n
    goes p stay unborn None None led on_it = none_before p unborn led
    goes p stay unborn None (Some a) led on_it = absurd on_it
    goes p stay unborn (Some a) None led on_it = absurd on_it
    goes p stay unborn (Some a) (Some n) led on_it =
        let on = going p (what e) runs stay in
        let taken = on_it on in
        record {
          unended = stays system log e valid legal may p led.unended stay;
          audited = taken.0 system log valid legal may places led.unended on (led.led on);
          ahead = taken.1;
        }

    child_kept : (p : Pid) → is_birth_of p (what e) ≡ true → (o : Option Process) → child ≡ o → IsKept system then p (kept_at new p)
    child_kept p own None is = absurd (true≢false (sym own ∙ (subst (BearsAs system log e) is bears) p))
    child_kept p own (Some s) is =
        let one = comes.born p own s is in
        let there : process_after system then p ≡ Some (state_of s) = (subst (BearsAs system log e) is bears) p own in
        subst (IsKept system then p) (sym one.1.0) (record {
          unended = child_there system log e valid legal may p own;
          audited = one.1.1 system log e p valid legal may own there;
          ahead = one.1.2;
        })

    pub each : AreKept system then new
    each p = by_kind (is_birth_of p (what e)) (is_exit_of p (what e)) refl refl
      where
        by_kind : (b x : Bool) → is_birth_of p (what e) ≡ b → is_exit_of p (what e) ≡ x → IsKept system then p (kept_at new p)
        by_kind true x born ends = child_kept p born child refl
        by_kind false true unborn ends = subst (IsKept system then p) (sym (comes.ended p ends)) (none_there p unborn ends)
        by_kind false false unborn stay = subst (IsKept system then p) (sym (comes.same p stay unborn)) (goes p stay unborn (kept_at old p) (kept_at gone p) (led p) (all p))

  -- so those of the log become those of the log with the entry
  pub takes_all : AllGoOn before e old gone → Comes → TakesAll before e child old new
  takes_all all comes system log valid legal may places led bears runs = each all comes system log valid legal may places led bears (goes_on_so system log e runs)

-- ---- what is left, by kind

same_number : (p q : Pid) → same_pid p q ≡ true → at_key p.0 q.0 ≡ true
same_number p q is = same_key p.0 q.0 is

other_key : (p q : Pid) → same_pid p q ≡ false → at_key p.0 q.0 ≡ false
other_key p q is = key_other p.0 q.0 is

module _ (before : Places) (e : Entry) (child : Option Process) (old gone new : List (ℕ × Audited)) where
  -- a process that ends goes
  pub comes_without : (pid : Pid) (at : ℕ) (end : End) → what e ≡ Exit pid at end → ((n : ℕ) → lookup (at_key n) new ≡ cond (at_key pid.0 n) None (lookup (at_key n) gone))
      → Comes before e child old gone new
  comes_without pid at end is without = record {
    same = λ p stay unborn. without p.0 ∙ ap (λ b. cond b None (kept_at gone p)) (other_key pid p (ap (is_exit_of p) (sym is) ∙ stay));
    ended = λ p ends. without p.0 ∙ ap (λ b. cond b None (kept_at gone p)) (same_number pid p (ap (is_exit_of p) (sym is) ∙ ends));
    born = λ p own. absurd (true≢false (sym own ∙ ap (is_birth_of p) is));
  }

  -- a child comes
  pub comes_with : (parent : Pid) (at : ℕ) (kid : Pid) (end : ℕ) (s : Process) (a : Audited) → what e ≡ Birth parent at kid end → child ≡ Some s
      → ((n : ℕ) → lookup (at_key n) new ≡ cond (at_key kid.0 n) (Some a) (lookup (at_key n) gone)) → BeginsAsChild (state_of s) a → IsAhead (state_of a.process) a.ahead
      → Comes before e child old gone new
  comes_with parent at kid end s a is some with_it begins ahead = record {
    same = λ p stay unborn. with_it p.0 ∙ ap (λ b. cond b (Some a) (kept_at gone p)) (other_key kid p (ap (is_birth_of p) (sym is) ∙ unborn));
    ended = λ p ends. absurd (true≢false (sym ends ∙ ap (is_exit_of p) is));
    born = λ p own t there.
        let me : s ≡ t = same_Some s t (sym some ∙ there) in
        (a, (with_it p.0 ∙ ap (λ b. cond b (Some a) (kept_at gone p)) (same_number kid p (ap (is_birth_of p) (sym is) ∙ own)), subst (λ (t : Process). BeginsAsChild (state_of t) a) me begins, ahead));
  }

  -- or all of them stay
  pub comes_same : new ≡ gone → ((p : Pid) → is_exit_of p (what e) ≡ false) → ((p : Pid) (s : Process) → is_birth_of p (what e) ≡ true → child ≡ Some s → ⊥) → Comes before e child old gone new
  comes_same is stay unborn = record {
    same = λ p stay unborn. ap (λ es. kept_at es p) is;
    ended = λ p ends. absurd (true≢false (sym ends ∙ stay p));
    born = λ p own s there. absurd (unborn p s own there);
  }

-- neither an exit nor a birth

pub no_exit_at : (w : What) → ((pid : Pid) (at : ℕ) (end : End) → w ≡ Exit pid at end → ⊥) → (p : Pid) → is_exit_of p w ≡ false
no_exit_at (Exit pid at end) none p = absurd (none pid at end refl)
no_exit_at _ none p = refl

pub no_birth_at : (w : What) → ((parent : Pid) (at : ℕ) (kid : Pid) (end : ℕ) → w ≡ Birth parent at kid end → ⊥) → (p : Pid) → is_birth_of p w ≡ false
no_birth_at (Birth parent at kid end) none p = absurd (none parent at kid end refl)
no_birth_at _ none p = refl
