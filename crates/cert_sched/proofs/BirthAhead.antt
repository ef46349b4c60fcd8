-- A birth leaves where each other process is ahead of the log, and the counts of its parent and its child.
use Rattle.std.proofs.Common.{◌≡◌, ℕ, ◌-◌, ◌<◌, sym, ◌∙◌, ap, subst, arith, List, [], ◌∷◌, ◌++◌, true, false, is_some}
use Rattle.std.specs.Prelude.{max, option_and_then}
use Rattle.std.specs.Option.{option_map_or}
use Rattle.t32_base.specs.declared.process.Pid.{Pid}
use Rattle.sys_text.specs.declared.system.System.{System}
use Rattle.proc_state.specs.State.{ProcState}
use Rattle.plain_kernel.specs.Kernel.{process_at}
use Rattle.sys_calls.specs.Next.{silently, last_emission}
use Rattle.sys_calls.specs.Fork.{before_fork}
use Rattle.bus_msg.specs.declared.entry.What.TheVariants.{Birth}
use Rattle.bus_msg.specs.declared.entry.Entry.{Entry}
use Rattle.bus_msg.specs.Places.{same_pid}
use Rattle.bus_msg.specs.PlacedAfter.{what}
use Rattle.cert_sched.specs.Schedule.{plain_after, process_after, done_after}
use Rattle.cert_sched.specs.Scripted.{is_done}
use Rattle.cert_sched.specs.CertAfter.{count_in}
use Rattle.cert_sched.specs.Steps.{before_fork_at, emission_at, silent_upto}
use Rattle.cert_sched.proofs.MadeLaws.{BirthMade, apart_from}
use Rattle.cert_sched.proofs.StepLaws.{IsLater, applied, done_after-here, done_after-other, done_kernel}

module _ (system : System) (log : List Entry) (e : Entry) (parent : Pid) (at : ℕ) (child : Pid) (end : ℕ) (is : what e ≡ Birth parent at child end) (applies : is_some (plain_after system (log ++ e ∷ [])) ≡ true) where
  -- the parent has made its steps up to the fork
  pub parent_done : done_after system log parent < at → done_after system (log ++ e ∷ []) parent ≡ at
  parent_done later =
      let raised : done_after system (log ++ e ∷ []) parent ≡ max at (done_after system log parent) = done_after-here system log e parent at (ap is_done is) (subst (IsLater (done_after system log)) (sym is) later) applies (ap count_in is) in
      omega (arith, raised, later)

  -- and every other process, also the child, as many as before
  pub beside_done : (q : Pid) → same_pid parent q ≡ false → done_after system (log ++ e ∷ []) q ≡ done_after system log q
  beside_done q apart = done_after-other system log e parent q at (ap is_done is) applies (ap count_in is) (apart_from parent q apart)

  -- the child has made none
  pub child_done : BirthMade system log e parent child → done_after system (log ++ e ∷ []) child ≡ 0
  child_done b =
      let a = applied system log e applies in
      done_kernel system (log ++ e ∷ []) a.new child a.after
      ∙ ap (λ o. option_map_or (λ (s : ProcState). (s.small).steps) o 0) (sym (ap (option_and_then (λ k. process_at k child)) a.after) ∙ b.child_is)

  -- another process is ahead of the log as it was
  module _ (b : BirthMade system log e parent child) (q : Pid) (other : same_pid parent q ≡ false) (unborn : same_pid child q ≡ false) where
    pub silent_upto-birth : (n : ℕ) → silent_upto system (log ++ e ∷ []) q n ≡ silent_upto system log q n
    unfolding silent_upto
    silent_upto-birth n = ap (λ d. option_and_then (silently (n - d)) (process_after system (log ++ e ∷ []) q)) (beside_done q other) ∙ ap (option_and_then (silently (n - done_after system log q))) (b.others q other unborn)

    pub emission_at-birth : (n : ℕ) → emission_at system (log ++ e ∷ []) q n ≡ emission_at system log q n
    unfolding emission_at
    emission_at-birth n =
        ap (λ d. option_and_then (last_emission (n - d)) (process_after system (log ++ e ∷ []) q)) (beside_done q other) ∙ ap (option_and_then (last_emission (n - done_after system log q))) (b.others q other unborn)

    pub before_fork_at-birth : (n : ℕ) → before_fork_at system (log ++ e ∷ []) q n ≡ before_fork_at system log q n
    unfolding before_fork_at
    before_fork_at-birth n =
        ap (λ d. option_and_then (before_fork (n - 1 - d)) (process_after system (log ++ e ∷ []) q)) (beside_done q other) ∙ ap (option_and_then (before_fork (n - 1 - done_after system log q))) (b.others q other unborn)
