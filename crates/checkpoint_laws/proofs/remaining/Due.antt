-- A process that is due has made steps since its start, or has no state in its record: who has read a letter since then has made a step.
use Rattle.std.proofs.Common.{◌≡◌, ℕ, ◌-◌, ◌≤◌, refl, sym, ◌∙◌, ap, subst, arith, List, [], length, Bool, true, false, not, ◌||◌, ltb, leb, Option, Some, None, true≢false}
use Rattle.std.specs.Prelude.{option_and_then}
use Rattle.std.specs.Option.{option_map_or}
use Rattle.std.proofs.lemmas.Bool.Decides.{nat_tests}
use Rattle.t32_base.specs.declared.process.Pid.{Pid}
use Rattle.sys_text.specs.declared.system.System.{System}
use Rattle.sys_text.specs.Valid.{is_system}
use Rattle.sys_text.proofs.Bounds.{system_bounds}
use Rattle.proc_state.specs.State.{ProcState}
use Rattle.sys_calls.specs.Next.{silently}
use Rattle.sys_calls.proofs.Counting.{silently_counts}
use Rattle.plain_kernel.specs.Kernel.{process_at}
use Rattle.plain_kernel.proofs.Laws.{no_silent}
use Rattle.bus_msg.specs.declared.entry.Entry.{Entry}
use Rattle.cert_sched.specs.Schedule.{done, process_after}
use Rattle.cert_sched.specs.Deeds.{saved_letters, since}
use Rattle.cert_sched.specs.Record.{has_state}
use Rattle.cert_sched.specs.Rolling.{refilled}
use Rattle.cert_sched.specs.Steps.{numbers_read, reads_since, saved_of, silent_upto, start_steps, steps_since}
use Rattle.cert_sched.specs.Kinds.{is_due}
use Rattle.cert_sched.specs.Legal.{IsLegalBy, Stands}
use Rattle.cert_sched.specs.Simulation.{IsUnended}
use Rattle.cert_sched.proofs.OpenLaws.{unended_open}
use Rattle.cert_sched.proofs.ReadLaws.{reads_none}
use Rattle.cert_sched.proofs.ReplayLaws.{Replays}
use Rattle.cert_sched.proofs.RollLaws.{Rolls, all_roll, rolls_steps}
use Rattle.cert_sched.proofs.StepLaws.{SilentFrom, silent_from}
use Rattle.log_laws.proofs.pages.BornSums.{itself}

not_below : (m n : ℕ) → ltb m n ≡ false → n ≤ m
not_below m n is = grind (arith, nat_tests)

none_of : (n : ℕ) → 1 ≤ n → leb n 0 ≡ false
none_of n least = grind (arith, nat_tests)

module _ (system : System) (log : List Entry) (p : Pid) (s : ProcState) (valid : is_system system ≡ true) (legal : IsLegalBy Stands system log) (unended : IsUnended system log p) (reached : silent_upto system log p (s.small).steps ≡ Some s) where
  from : SilentFrom system log p (s.small).steps s
  from = silent_from system log p (s.small).steps s reached

  there : process_after system log p ≡ Some from.was
  there = ap (option_and_then (λ k. process_at k p)) from.before ∙ from.there

  rolls : Rolls system log p from.was
  rolls = (all_roll Stands itself system log valid legal).rolls p from.was there (unended_open Stands itself system log p valid legal unended from.was there)

  gone : ℕ
  gone = (s.small).steps - done from.kernel p

  start_is : start_steps system log p ≡ ((rolls.start).small).steps
  start_is = ap (λ (o : Option ProcState). option_map_or (λ (s : ProcState). (s.small).steps) o 0) rolls.started

  module _ (stays : ltb (start_steps system log p) (s.small).steps ≡ false) where
    -- it has made no step
    none_made : (rolls.made ≡ 0) × (gone ≡ 0)
    unfolding gone
    none_made =
        let earlier = rolls_steps system log p from.was rolls in
        let later = silently_counts gone from.was s from.silent in
        let most = not_below (start_steps system log p) (s.small).steps stays in
        (omega (arith, earlier, later.steps, most, start_is), omega (arith, earlier, later.steps, most, start_is))

    -- so it is its start, with the saved letters
    same_mail : s.mail ≡ saved_letters log p rolls.start
    unfolding gone
    same_mail =
        let ran : from.was ≡ s = no_silent from.was s (subst (λ n. silently n from.was ≡ Some s) none_made.1 from.silent) in
        let back : from.was ≡ refilled log p rolls.start = (subst (λ n. Replays n (refilled log p rolls.start) (since log p) from.was) none_made.0 rolls.replays).1 in
        ap (λ (t : ProcState). t.mail) (sym ran ∙ back)

    none_read : reads_since system log p s ≡ 0
    none_read =
        let saved : saved_of system log p ≡ saved_letters log p rolls.start = ap (λ (o : Option ProcState). option_map_or (saved_letters log p) o []) rolls.started in
        (λ i. length (numbers_read (saved i) (same_mail i))) ∙ reads_none (saved_letters log p rolls.start)

    none_since : steps_since system log p s ≡ 0
    none_since = let most = not_below (start_steps system log p) (s.small).steps stays in omega (arith, most)

    not_due : has_state system log p ≡ true → is_due system log p None s ≡ false
    not_due state =
        let bounds = system_bounds system valid in
        let reads : leb system.syncreads (reads_since system log p s) ≡ false = ap (leb system.syncreads) none_read ∙ none_of system.syncreads bounds.least_reads in
        let least : 1 ≤ system.syncsteps = omega (arith, bounds.least_steps) in
        let steps : leb system.syncsteps (steps_since system log p s) ≡ false = ap (leb system.syncsteps) none_since ∙ none_of system.syncsteps least in
        λ i. reads i || steps i || false || not (state i)

  -- so one that is due has made steps, or has no state
  pub due_stepped : is_due system log p None s ≡ true → (ltb (start_steps system log p) (s.small).steps || not (has_state system log p)) ≡ true
  due_stepped due = by_tests (ltb (start_steps system log p) (s.small).steps) (has_state system log p) refl refl
    where
      by_tests : (b c : Bool) → ltb (start_steps system log p) (s.small).steps ≡ b → has_state system log p ≡ c → (b || not c) ≡ true
      by_tests true c is state = refl
      by_tests false false is state = refl
      by_tests false true is state = absurd (true≢false (sym due ∙ not_due is state))
