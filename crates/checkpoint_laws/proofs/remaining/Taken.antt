-- A synchronisation that takes a signal leaves one less: its process might take one before, and may not after it.
use Rattle.std.proofs.Common.{◌≡◌, ℕ, ◌+◌, ◌*◌, ◌-◌, ◌≤◌, sym, ◌∙◌, arith, List, [], ◌∷◌, ◌++◌, refl, Bool, true, not, Option, Some, None}
use Rattle.std.specs.Prelude.{option_and_then, sum_by}
use Rattle.std.specs.List.{list_any}
use Rattle.t32_base.specs.declared.process.Pid.{Pid}
use Rattle.t32_base.specs.Small.{SmallState}
use Rattle.sys_text.specs.declared.system.System.{System}
use Rattle.sys_text.specs.Valid.{is_system}
use Rattle.plain_kernel.specs.Kernel.{Kernel}
use Rattle.plain_kernel.specs.Apply.{apply_all, take_step}
use Rattle.bus_msg.specs.declared.entry.What.TheVariants.{Sync}
use Rattle.bus_msg.specs.declared.entry.Entry.{Entry}
use Rattle.bus_msg.specs.declared.placed.Placed.{Placed}
use Rattle.bus_msg.specs.Places.{same_pid, unended_in}
use Rattle.bus_msg.specs.PlacedAfter.{what}
use Rattle.cert_sched.specs.Schedule.{done, placement, run_upto}
use Rattle.cert_sched.specs.Record.{has_state}
use Rattle.cert_sched.specs.Steps.{page_count, start_steps}
use Rattle.cert_sched.specs.Legal.{IsLegalBy, Stands}
use Rattle.cert_sched.proofs.BirthLaws.{kernel_taken}
use Rattle.cert_sched.proofs.RunItems.{forkless_keep, run_forkless}
use Rattle.checkpoint_laws.specs.remaining.Load.{log_births, log_load}
use Rattle.checkpoint_laws.specs.remaining.Left.{is_unsent, left_of_syncs}
use Rattle.checkpoint_laws.proofs.remaining.OneStep.{IsBounded, one_step-bounded, take_step-bounded, take_step-less}
use Rattle.checkpoint_laws.proofs.remaining.OneEntry.{births_kernel, bounded_before, left_then, load_kernel, there, unended_apart}

module _ (system : System) (log : List Entry) (e : Entry) (stands : Stands system log e) (p : Pid) (small : SmallState) (read : List ℕ) (g : ℕ) (is : what e ≡ Sync p small read (Some g)) where
  -- with the starts and the pages before it one less is left in sum
  pub taken_less : is_system system ≡ true → IsLegalBy Stands system log → list_any (λ (q : Placed). same_pid q.pid p) (unended_in (placement system log)) ≡ true
      → sum_by (λ (q : Placed). left_then system log e stands q.pid) (unended_in (placement system log)) + log_births system (log ++ e ∷ []) + 2 * log_load system (log ++ e ∷ []) + 1 ≤ left_of_syncs system log + 2 * log_load system log
  taken_less valid legal among =
      let a = there system log e stands in
      by_run (apply_all (run_upto a.old p small.steps) a.old) refl (sym (kernel_taken system log e p small read g a.old is a.before) ∙ a.after)
    where
      by_run : (o : Option Kernel) → apply_all (run_upto (there system log e stands).old p small.steps) (there system log e stands).old ≡ o → option_and_then (take_step p) o ≡ Some (there system log e stands).new
          → sum_by (λ (q : Placed). left_then system log e stands q.pid) (unended_in (placement system log)) + log_births system (log ++ e ∷ []) + 2 * log_load system (log ++ e ∷ []) + 1 ≤ left_of_syncs system log + 2 * log_load system log
      by_run None ran takes = cc
      by_run (Some to) ran takes =
          let a = there system log e stands in
          let qs = unended_in (placement system log) in
          let limit = left_of_syncs system log + 2 * log_load system log in
          let start = start_steps system log in
          let uncut : Pid → Bool = λ p. not (has_state system log p) in
          let unsent = is_unsent system log in
          let pages = page_count system log in
          let kept = forkless_keep (IsBounded start uncut unsent pages qs limit) (one_step-bounded start uncut unsent pages qs limit (unended_apart system log valid legal)) (take_step-bounded start uncut unsent pages qs limit)
          (run_upto a.old p small.steps) a.old to (run_forkless p (small.steps - done a.old p)) (bounded_before system log e stands) ran in
          let less = take_step-less start uncut unsent pages qs limit p to a.new kept among takes in
          omega (arith, less, births_kernel system (log ++ e ∷ []) a.new a.after, load_kernel system (log ++ e ∷ []) a.new a.after)
