-- What a fork that was made leaves of a kernel.
use Rattle.std.proofs.Common.{◌≡◌, ◌+◌, refl, sym, ap, ◌∙◌, Option, Some, None, is_some, true≢false}
use Rattle.std.specs.Prelude.{◌≢◌, option_and_then, option_map}
use Rattle.std.specs.Option.{option_map_or}
use Rattle.std.proofs.lemmas.Option.{same_Some}
use Rattle.t32_base.specs.declared.process.Pid.{Pid}
use Rattle.proc_state.specs.State.{ProcState}
use Rattle.sys_calls.specs.Calls.{Next, Silent, Blocked, Forks, Emits, Over}
use Rattle.sys_calls.specs.Next.{next_step}
use Rattle.sys_calls.specs.Fork.{fork_child, fork_parent}
use Rattle.plain_kernel.specs.Kernel.{Kernel, process_at, with_process}
use Rattle.plain_kernel.specs.Apply.{after_fork, fork_step}
use Rattle.plain_kernel.proofs.Laws.{process_at-same}
use Rattle.plain_kernel.proofs.Others.{process_at-other, small_at, steps_at}

-- the process was there and its next step is a fork, the child was not there, and both were put
pub record ForkMade (p c : Pid) (k j : Kernel) : Type 0 where
  pub was : ProcState
  pub there : process_at k p ≡ Some was
  pub forks : next_step was ≡ Forks
  pub absent : process_at k c ≡ None
  pub after : with_process (with_process k p (fork_parent was c)) c (fork_child was c) ≡ j

pub fork_made : (p c : Pid) (k j : Kernel) → fork_step p c k ≡ Some j → ForkMade p c k j
unfolding fork_step
fork_made p c k j made = by_process (process_at k p) refl made
  where
    by_child : (s : ProcState) (o : Option ProcState) → process_at k p ≡ Some s → next_step s ≡ Forks → process_at k c ≡ o → after_fork k p c s Forks o ≡ Some j → ForkMade p c k j
    by_child s None there is absent e = record { was = s; there = there; forks = is; absent = absent; after = same_Some _ j e }
    by_child s (Some t) there is absent e = cc

    by_next : (s : ProcState) (next : Next) → process_at k p ≡ Some s → next_step s ≡ next → after_fork k p c s next (process_at k c) ≡ Some j → ForkMade p c k j
    by_next s (Silent t) there is e = cc
    by_next s Blocked there is e = cc
    by_next s Forks there is e = by_child s (process_at k c) there is refl e
    by_next s (Emits what t) there is e = cc
    by_next s Over there is e = cc

    by_process : (o : Option ProcState) → process_at k p ≡ o → option_and_then (λ s. after_fork k p c s (next_step s) (process_at k c)) o ≡ Some j → ForkMade p c k j
    by_process None there e = cc
    by_process (Some s) there e = by_next s (next_step s) there refl e

-- so a process that is there, whose next step is a fork, forks where the child is not there
pub fork_makes : (p c : Pid) (k : Kernel) (s : ProcState) → process_at k p ≡ Some s → next_step s ≡ Forks → process_at k c ≡ None → fork_step p c k ≡ Some (with_process (with_process k p (fork_parent s c)) c (fork_child s c))
unfolding fork_step
fork_makes p c k s there is absent =
    ap (option_and_then (λ s. after_fork k p c s (next_step s) (process_at k c))) there ∙ ap (λ next. after_fork k p c s next (process_at k c)) is ∙ ap (after_fork k p c s Forks) absent

module _ (p c : Pid) (k j : Kernel) (f : ForkMade p c k j) where
  -- the child has another pid
  pub fork-apart : p.0 ≢ c.0
  fork-apart same =
      let is : p ≡ c = λ i. record { 0 = same i } in
      true≢false (ap is_some (sym f.there ∙ ap (process_at k) is ∙ f.absent))

  pub fork-child : process_at j c ≡ Some (fork_child f.was c)
  fork-child = ap (λ i. process_at i c) (sym f.after) ∙ process_at-same (with_process k p (fork_parent f.was c)) c (fork_child f.was c)

  pub fork-parent : process_at j p ≡ Some (fork_parent f.was c)
  fork-parent =
      ap (λ i. process_at i p) (sym f.after)
      ∙ process_at-other (with_process k p (fork_parent f.was c)) c (fork_child f.was c) p fork-apart
      ∙ process_at-same k p (fork_parent f.was c)

  -- every other process is as it was
  pub fork-other : (q : Pid) → q.0 ≢ p.0 → q.0 ≢ c.0 → process_at j q ≡ process_at k q
  fork-other q apart far =
      ap (λ i. process_at i q) (sym f.after)
      ∙ process_at-other (with_process k p (fork_parent f.was c)) c (fork_child f.was c) q far
      ∙ process_at-other k p (fork_parent f.was c) q apart

  -- and so is what each terminal was sent
  pub fork-ttys : j.ttys ≡ k.ttys
  fork-ttys = ap (λ (i : Kernel). i.ttys) (sym f.after)

  pub fork-small : (q : Pid) → q.0 ≢ p.0 → q.0 ≢ c.0 → small_at j q ≡ small_at k q
  fork-small q apart far = ap (option_map (λ (s : ProcState). s.small)) (fork-other q apart far)

  -- the parent has one step more, the child has made none, and every other as many
  pub fork-steps_parent : steps_at j p ≡ steps_at k p + 1
  fork-steps_parent =
      ap (λ o. option_map_or (λ (s : ProcState). (s.small).steps) o 0) fork-parent ∙ ap (λ n. n + 1) (sym (ap (λ o. option_map_or (λ (s : ProcState). (s.small).steps) o 0) f.there))

  pub fork-steps_child : steps_at j c ≡ 0
  fork-steps_child = ap (λ o. option_map_or (λ (s : ProcState). (s.small).steps) o 0) fork-child

  pub fork-steps_other : (q : Pid) → q.0 ≢ p.0 → q.0 ≢ c.0 → steps_at j q ≡ steps_at k q
  fork-steps_other q apart far = ap (λ o. option_map_or (λ (s : ProcState). (s.small).steps) o 0) (fork-other q apart far)
