-- The entries of a legal log, and the items of its schedule, have small numbers.
use Rattle.std.proofs.Common.{◌≡◌, ℕ, ◌-◌, ◌^◌, ◌<◌, refl, sym, ◌∙◌, ap, subst, arith, List, [], ◌∷◌, ◌++◌, length, length-append, Bool, true, false, cond, ◌&&◌, eqb, Option, Some, None, is_some, true≢false}
use Rattle.std.specs.Prelude.{nat_le, nat_lt}
use Rattle.std.specs.List.{list_all}
use Rattle.std.proofs.lemmas.Bool.{and_parts}
use Rattle.std.proofs.lemmas.Bool.Decides.{nat_tests}
use Rattle.t32_base.specs.declared.process.Pid.{Pid}
use Rattle.sys_text.specs.declared.system.System.{System}
use Rattle.sys_text.specs.Valid.{is_system}
use Rattle.proc_state.specs.State.{ProcState}
use Rattle.plain_kernel.specs.Kernel.{Kernel}
use Rattle.plain_kernel.specs.declared.item.Item.{Item}
use Rattle.plain_kernel.specs.declared.item.Item.TheVariants.{Run, Fork}
use Rattle.bus_msg.specs.declared.entry.What.{What}
use Rattle.bus_msg.specs.declared.entry.What.TheVariants.{Mail, Birth, Exit, Sync, Rebackup, Done}
use Rattle.bus_msg.specs.declared.entry.Cause.{Cause}
use Rattle.bus_msg.specs.declared.entry.Cause.TheVariants.{Place, Step, Disk}
use Rattle.bus_msg.specs.declared.entry.Entry.{Entry}
use Rattle.bus_msg.specs.PlacedAfter.{what}
use Rattle.cert_sched.specs.Schedule.{done, done_after, items_in, items_of, plain_after, run_upto, runs_of, schedule_of, steps_in, take_of}
use Rattle.cert_sched.specs.Told.{Told, told}
use Rattle.cert_sched.specs.Moved.{fetched}
use Rattle.cert_sched.specs.Steps.{silent_upto}
use Rattle.cert_sched.specs.Kinds.{KindHolds, is_silent_rest}
use Rattle.cert_sched.specs.Legal.{IsLegalBy, MayStand}
use Rattle.cert_sched.proofs.Induction.{legal_induction}
use Rattle.cert_sched.proofs.LogLaws.{IsLegal-snoc, schedule_of-snoc, told-snoc, told_last}
use Rattle.entry_lines.specs.Told.{CauseFits, Fits, IsSmall, WhatFits, told_of, told_what}
use Rattle.number_laws.proofs.Ahead.{reached}
use Rattle.number_laws.proofs.LogNumbers.{FetchFits, FetchesFit, entry_fits, fetch_fits, word_small}
use Rattle.log_section.specs.Printed.{ItemsFit, LogFits}
use Rattle.audit_rules.specs.Explained.{has_small_cause, is_small_cause}

-- ---- one more

below : (a b : ℕ) → nat_lt a b ≡ true → a < b
below a b is = grind (arith, nat_tests)

cause_fits : (cause : Cause) → is_small_cause cause ≡ true → CauseFits cause
cause_fits Place is = tt
cause_fits (Step n) is = below n (2 ^ 64) is
cause_fits (Disk n) is = below n (2 ^ 64) is

log_more : (log : List Entry) (e : Entry) → LogFits log → Fits (told_of e) → LogFits (log ++ e ∷ [])
log_more [] e fit one = (one, tt)
log_more (d ∷ log) e fit one = (fit.0, log_more log e fit.1 one)

fetches_more : (ts : List Told) (t : Told) → FetchesFit ts → FetchFits (fetched (what t.entry)) → FetchesFit (ts ++ t ∷ [])
fetches_more [] t fit one = (one, tt)
fetches_more (s ∷ ts) t fit one = (fit.0, fetches_more ts t fit.1 one)

abbrev pub AllTold : List Told → Type 0
AllTold [] = Unit {0}
AllTold (t ∷ ts) = Fits (told_of t.entry) × AllTold ts

told_more : (ts : List Told) (t : Told) → AllTold ts → Fits (told_of t.entry) → AllTold (ts ++ t ∷ [])
told_more [] t fit one = (one, tt)
told_more (s ∷ ts) t fit one = (fit.0, told_more ts t fit.1 one)

items_more : (xs ys : List Item) → ItemsFit xs → ItemsFit ys → ItemsFit (xs ++ ys)
items_more [] ys fit rest = rest
items_more (x ∷ xs) ys fit rest = (fit.0, items_more xs ys fit.1 rest)

causes_front : (log : List Entry) (e : Entry) → list_all (λ (e : Entry). has_small_cause (what e)) (log ++ e ∷ []) ≡ true → (list_all (λ (e : Entry). has_small_cause (what e)) log ≡ true) × (has_small_cause (what e) ≡ true)
causes_front [] e all = (refl, (and_parts (has_small_cause (what e)) true all).0)
causes_front (d ∷ log) e all =
    let parts = and_parts (has_small_cause (what d)) (list_all (λ (e : Entry). has_small_cause (what e)) (log ++ e ∷ [])) all in
    let rest = causes_front log e parts.1 in
    (λ i. parts.0 i && rest.0 i, rest.1)

-- ---- items

run_fits : (k : Kernel) (p : Pid) (at : ℕ) → IsSmall p.0 → IsSmall at → ItemsFit (run_upto k p at)
run_fits k p at pid count = by_test (eqb (at - done k p) 0)
  where
    by_test : (b : Bool) → ItemsFit (cond b [] (Run p (at - done k p) ∷ []))
    by_test true = tt
    by_test false = ((pid, omega (arith, count)), tt)

take_fits : (p : Pid) (took : Option ℕ) → IsSmall p.0 → ItemsFit (take_of p took)
take_fits p None pid = tt
take_fits p (Some g) pid = (pid, tt)

module _ (system : System) (log : List Entry) (valid : is_system system ≡ true) (legal : IsLegalBy MayStand system log) where
  rest_runs : (k : Kernel) (rests : List (Pid × ℕ)) → list_all (is_silent_rest system log) rests ≡ true → ItemsFit (runs_of k rests)
  rest_runs k [] silent = tt
  rest_runs k (r ∷ rests) silent =
      let parts = and_parts (is_silent_rest system log r) (list_all (is_silent_rest system log) rests) silent in
      items_more (run_upto k r.0 r.1) (runs_of k rests) (by_end (silent_upto system log r.0 r.1) refl (and_parts (nat_le (done_after system log r.0) r.1) (is_some (silent_upto system log r.0 r.1)) parts.0).1) (rest_runs k rests parts.1)
    where
      by_end : (o : Option ProcState) → silent_upto system log r.0 r.1 ≡ o → is_some o ≡ true → ItemsFit (run_upto k r.0 r.1)
      by_end None is some = absurd (true≢false (sym some))
      by_end (Some t) is some = let a = reached system log valid legal r.0 r.1 t is in run_fits k r.0 r.1 (word_small (r.0).0 a.pid) (let c = a.count in omega (arith, c))

  items_fit : (e : Entry) (k : Kernel) (w : What) → KindHolds system log e w → WhatFits (told_what w) → ItemsFit (items_of k w)
  items_fit e k (Mail at letter) kind fits = run_fits k letter.from at fits.0 fits.1
  items_fit e k (Birth parent at child end) kind fits = items_more (run_upto k parent (at - 1)) (Fork parent child ∷ []) (run_fits k parent (at - 1) fits.0 (let a = fits.1 in omega (arith, a))) ((fits.0, fits.2), tt)
  items_fit e k (Exit pid at end) kind fits = run_fits k pid at fits.0 fits.1
  items_fit e k (Sync pid small read took) kind fits = items_more (run_upto k pid small.steps) (take_of pid took) (run_fits k pid small.steps fits.0 fits.1) (take_fits pid took fits.0)
  items_fit e k (Rebackup to true []) kind fits = tt
  items_fit e k (Rebackup to true (r ∷ rs)) kind fits = run_fits k r.pid (steps_in r.state) fits.0.0 fits.1
  items_fit e k (Rebackup to false recs) kind fits = tt
  items_fit e k (Done rests) kind fits = rest_runs k rests kind.silent
  items_fit e k w kind fits = tt

  items_last : (e : Entry) (o : Option Kernel) → MayStand system log e → Fits (told_of e) → ItemsFit (items_in o e)
  items_last e None may fits = tt
  items_last e (Some k) may fits = items_fit e k (what e) (may.stands).kind fits.2

-- ---- the log

pub record AllSmallIn (system : System) (log : List Entry) : Type 0 where
  pub entries : LogFits log
  pub lines : AllTold (told system log)
  pub fetches : FetchesFit (told system log)
  pub items : ItemsFit (schedule_of system log)

record Both (system : System) (log : List Entry) : Type 0 where
  pub legal : IsLegalBy MayStand system log
  pub small : length log < 2 ^ 64 → list_all (λ (e : Entry). has_small_cause (what e)) log ≡ true → AllSmallIn system log

none_both : (system : System) → Both system []
unfolding IsLegalBy told schedule_of
none_both system = record { legal = tt; small = λ few causes. record { entries = tt; lines = tt; fetches = tt; items = tt } }

both_more : (system : System) → is_system system ≡ true → (log : List Entry) (e : Entry) → Both system log → MayStand system log e → Both system (log ++ e ∷ [])
both_more system valid log e both may = record {
  legal = IsLegal-snoc MayStand system log e both.legal may;
  small = λ few causes.
      let more = length-append log (e ∷ []) in
      let parts = causes_front log e causes in
      let before = both.small (omega (arith, few, more)) parts.0 in
      let place : IsSmall e.place = subst IsSmall (sym ((may.stands).placed).0) (omega (arith, few, more)) in
      let fits = entry_fits system log valid both.legal e may place
      (λ k cause is. cause_fits cause (sym (ap has_small_cause is) ∙ parts.1)) before.fetches in
      record {
        entries = log_more log e before.entries fits;
        lines = subst AllTold (sym (told-snoc system log e)) (told_more (told system log) (told_last system log e) before.lines fits);
        fetches = subst FetchesFit (sym (told-snoc system log e)) (fetches_more (told system log) (told_last system log e) before.fetches (fetch_fits system log valid both.legal e may));
        items = subst ItemsFit (sym (schedule_of-snoc system log e)) (items_more (schedule_of system log) (items_in (plain_after system log) e) before.items (items_last system log valid both.legal e (plain_after system log) may fits));
      };
}

pub all_small : (system : System) (log : List Entry) → is_system system ≡ true → IsLegalBy MayStand system log → length log < 2 ^ 64 → list_all (λ (e : Entry). has_small_cause (what e)) log ≡ true → AllSmallIn system log
all_small system log valid legal = (legal_induction MayStand system (Both system) (none_both system) (both_more system valid) log legal).small
