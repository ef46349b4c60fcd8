-- A birth leaves less: it uses up one of the births that were allowed, which pays for the synchronisations and the pages of the child, and two steps.
use Rattle.std.proofs.Common.{◌≡◌, ℕ, ◌+◌, ◌*◌, ◌-◌, ◌≤◌, sym, ◌∙◌, ap, subst, arith, List, [], ◌∷◌, ◌++◌, Bool, true, false, not, Some}
use Rattle.std.specs.Prelude.{option_and_then, sum_by}
use Rattle.std.specs.Option.{option_map_or}
use Rattle.std.proofs.lemmas.Nat.{mul-le}
use Rattle.t32_base.specs.declared.process.Pid.{Pid}
use Rattle.sys_text.specs.declared.system.System.{System}
use Rattle.sys_text.specs.Valid.{is_system}
use Rattle.proc_state.specs.State.{ProcState}
use Rattle.sys_calls.specs.Fork.{fork_child}
use Rattle.sys_calls.proofs.ForkLaws.{forks_can}
use Rattle.plain_kernel.specs.declared.item.Item.{Item}
use Rattle.plain_kernel.specs.Kernel.{process_at}
use Rattle.plain_kernel.specs.Apply.{apply_all}
use Rattle.plain_kernel.proofs.Forking.{ForkMade, fork_made, fork-child}
use Rattle.bus_msg.specs.declared.entry.What.TheVariants.{Birth}
use Rattle.bus_msg.specs.declared.entry.Entry.{Entry}
use Rattle.bus_msg.specs.declared.placed.Placed.{Placed}
use Rattle.bus_msg.specs.Places.{Places, placed_at, same_pid, unended_in}
use Rattle.bus_msg.specs.PlacedAfter.{placed_after, what}
use Rattle.cert_sched.specs.Schedule.{done, items_of, placement, process_after, run_upto}
use Rattle.cert_sched.specs.Told.{cluster_lost}
use Rattle.cert_sched.specs.Deeds.{is_birth_of, is_cut}
use Rattle.cert_sched.specs.Record.{has_state}
use Rattle.cert_sched.specs.Steps.{page_count, start_steps}
use Rattle.cert_sched.specs.Legal.{IsLegalBy, Stands}
use Rattle.cert_sched.proofs.LoadLaws.{load_birth}
use Rattle.cert_sched.proofs.LogLaws.{placement-snoc}
use Rattle.cert_sched.proofs.RunAndFork.{RunAndFork, run_and_fork}
use Rattle.cert_sched.proofs.RunItems.{forkless_keep, run_forkless}
use Rattle.cert_sched.proofs.StepLaws.{Applied}
use Rattle.log_laws.proofs.pages.BornSums.{born_sum, child_not_unended, others_most}
use Rattle.log_laws.proofs.pages.OneEntry.{turned}
use Rattle.checkpoint_laws.proofs.posts.Beside.{start_stays}
use Rattle.checkpoint_laws.specs.remaining.Load.{left_of_child, log_births, log_load}
use Rattle.checkpoint_laws.specs.remaining.Left.{is_unsent, left_of_process, left_of_syncs, may_sync, may_take, most_of, most_steps}
use Rattle.checkpoint_laws.proofs.remaining.Forked.{child_few}
use Rattle.checkpoint_laws.proofs.remaining.Pairs.{pairs-within}
use Rattle.checkpoint_laws.proofs.remaining.OneStep.{IsBounded, at_most_one, fork-bounded, one_step-bounded, take_step-bounded}
use Rattle.checkpoint_laws.proofs.remaining.OneEntry.{births_kernel, bounded_before, left_then, load_kernel, stays_most, there, unended_apart}

module _ (system : System) (log : List Entry) (e : Entry) (parent : Pid) (at : ℕ) (child : Pid) (end : ℕ) (valid : is_system system ≡ true) (legal : IsLegalBy Stands system log) (stands : Stands system log e) (is : what e ≡ Birth parent at child end) where
  a : Applied system log e
  a = there system log e stands

  run : List Item
  run = run_upto (there system log e stands).old parent (at - 1)

  parts : RunAndFork run parent child (there system log e stands).old (there system log e stands).new
  unfolding run
  parts = let k = (there system log e stands).old in run_and_fork run parent child k (there system log e stands).new (ap (λ w. apply_all (items_of k w) k) (sym is) ∙ (there system log e stands).made)

  fork : ForkMade parent child parts.to (there system log e stands).new
  fork = fork_made parent child parts.to (there system log e stands).new parts.forks

  -- ---- the steps

  -- fewer are left
  pub birth_load : log_load system (log ++ e ∷ []) + 1 ≤ log_load system log
  birth_load =
      let less = load_birth system log e parent at child end (there system log e stands) is in
      omega (arith, less, load_kernel system log (there system log e stands).old (there system log e stands).before, load_kernel system (log ++ e ∷ []) (there system log e stands).new (there system log e stands).after)

  -- ---- those that had not ended

  -- less is left of them, by what the child may send and by one more
  those_less : sum_by (λ (q : Placed). left_then system log e stands q.pid) (unended_in (placement system log)) + log_births system (log ++ e ∷ []) + 2 * log_load system (log ++ e ∷ []) + left_of_child (fork.was).small + 1
      ≤ left_of_syncs system log + 2 * log_load system log
  unfolding run fork
  those_less =
      let k = (there system log e stands).old in
      let new = (there system log e stands).new in
      let qs = unended_in (placement system log) in
      let limit = left_of_syncs system log + 2 * log_load system log in
      let start = start_steps system log in
      let uncut : Pid → Bool = λ p. not (has_state system log p) in
      let apart = unended_apart system log valid legal in
      let ran = forkless_keep (IsBounded start uncut (is_unsent system log) (page_count system log) qs limit) (one_step-bounded start uncut (is_unsent system log) (page_count system log) qs limit apart) (take_step-bounded start uncut (is_unsent system log) (page_count system log) qs limit) run k parts.to
      (run_forkless parent (at - 1 - done k parent)) (bounded_before system log e stands) parts.ran in
      let less = fork-bounded start uncut (is_unsent system log) (page_count system log) parent child parts.to new fork qs limit apart (child_not_unended system log e parent at child end valid legal stands is) ran parts.forks in
      omega (arith, less, births_kernel system (log ++ e ∷ []) new (there system log e stands).after, load_kernel system (log ++ e ∷ []) new (there system log e stands).after)

  -- each of them is left no more than with its start before the birth
  others : (q : Placed) → same_pid q.pid child ≡ false → left_of_process system (log ++ e ∷ []) q.pid ≤ left_then system log e stands q.pid
  others q apart =
      let no_birth : is_birth_of q.pid (what e) ≡ false = ap (is_birth_of q.pid) is ∙ turned child.0 (q.pid).0 ∙ apart in
      stays_most system log e stands (ap cluster_lost is) q.pid no_birth (start_stays system log e q.pid (ap (is_cut q.pid) is) no_birth)

  -- ---- the child

  child_there : process_after system (log ++ e ∷ []) child ≡ Some (fork_child fork.was child)
  child_there = ap (option_and_then (λ k. process_at k child)) (there system log e stands).after ∙ fork-child parent child parts.to (there system log e stands).new fork

  -- it may send no more than the birth pays
  child_most : left_of_process system (log ++ e ∷ []) child ≤ left_of_child (fork.was).small
  child_most =
      let unsent = is_unsent system (log ++ e ∷ []) child in
      let pages : page_count system (log ++ e ∷ []) child ≡ ((fork.was).small).pages = ap (λ o. option_map_or (λ (s : ProcState). (s.small).pages) o 0) child_there in
      let most : most_steps system (log ++ e ∷ []) child ≡ most_of (fork_child fork.was child) = ap (λ o. option_map_or most_of o 0) child_there in
      let few = child_few fork.was child (forks_can fork.was fork.forks) in
      let pairs = pairs-within unsent (page_count system (log ++ e ∷ []) child) (most_steps system (log ++ e ∷ []) child) in
      let within = mul-le (page_count system (log ++ e ∷ []) child) (most_steps system (log ++ e ∷ []) child + 1) ((fork.was).small).pages (((fork.was).small).left + 34) (omega (arith, pages)) (omega (arith, most, few)) in
      omega (arith, at_most_one (may_sync system (log ++ e ∷ []) child), at_most_one (may_take system (log ++ e ∷ []) child), pairs, within)

  -- ---- in sum

  pub birth_syncs : left_of_syncs system (log ++ e ∷ []) + 2 * log_load system (log ++ e ∷ []) + 1 ≤ left_of_syncs system log + 2 * log_load system log
  birth_syncs =
      let after : Pid → ℕ = left_of_process system (log ++ e ∷ []) in
      let born = born_sum after (placement system log) child (placed_at (placement system log) parent) in
      let most = others_most (λ (q : Placed). after q.pid) (λ (q : Placed). left_then system log e stands q.pid) child others (unended_in (placement system log)) (child_not_unended system log e parent at child end valid legal stands is) in
      let less = those_less in
      let own = child_most in
      subst (λ (places : Places). sum_by (λ (q : Placed). after q.pid) (unended_in places) + log_births system (log ++ e ∷ []) + 2 * log_load system (log ++ e ∷ []) + 1 ≤ left_of_syncs system log + 2 * log_load system log)
      (sym (placement-snoc system log e ∙ ap (placed_after (placement system log)) is)) (omega (arith, born, most, less, own))
