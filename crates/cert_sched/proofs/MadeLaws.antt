-- What a birth and a take make of each process, where a kernel makes them.
use Rattle.std.proofs.Common.{◌≡◌, ℕ, sym, ◌∙◌, List, [], ◌∷◌, ◌++◌, false, eq-eqb, Some, true≢false, true}
use Rattle.std.specs.Prelude.{◌≢◌}
use Rattle.t32_base.specs.declared.process.Pid.{Pid}
use Rattle.sys_text.specs.declared.system.System.{System}
use Rattle.proc_state.specs.State.{ProcState, has_ended, can_take}
use Rattle.sys_calls.specs.Next.{silently}
use Rattle.sys_calls.specs.Fork.{before_fork, fork_parent, fork_child}
use Rattle.sys_calls.specs.Take.{taken}
use Rattle.bus_msg.specs.declared.entry.Entry.{Entry}
use Rattle.bus_msg.specs.Places.{same_pid}
use Rattle.cert_sched.specs.Schedule.{process_after}

pub apart_from : (p q : Pid) → same_pid p q ≡ false → q.0 ≢ p.0
apart_from p q is same = true≢false (sym (eq-eqb p.0 q.0 (sym same)) ∙ is)

-- the kernel makes a birth: silent steps lead the parent to its fork; it and the child are as the fork leaves them, and every other process is as it was
pub record BirthMade (system : System) (log : List Entry) (e : Entry) (parent child : Pid) : Type 0 where
  pub was : ProcState
  pub there : process_after system log parent ≡ Some was
  pub made : ℕ
  pub before : ProcState
  pub forks : before_fork made was ≡ Some before
  pub parent_is : process_after system (log ++ e ∷ []) parent ≡ Some (fork_parent before child)
  pub child_is : process_after system (log ++ e ∷ []) child ≡ Some (fork_child before child)
  pub apart : same_pid child parent ≡ false
  pub others : (p : Pid) → same_pid parent p ≡ false → same_pid child p ≡ false → process_after system (log ++ e ∷ []) p ≡ process_after system log p

-- the kernel makes a take: silent steps lead the process to it, it has not ended, and the signal is taken; every other process is as it was
pub record TakeMade (system : System) (log : List Entry) (e : Entry) (q : Pid) : Type 0 where
  pub was : ProcState
  pub there : process_after system log q ≡ Some was
  pub made : ℕ
  pub before : ProcState
  pub silent : silently made was ≡ Some before
  pub can : can_take before ≡ true
  pub open_still : has_ended (before.small).status ≡ false
  pub after : process_after system (log ++ e ∷ []) q ≡ Some (taken before)
  pub others : (p : Pid) → same_pid q p ≡ false → process_after system (log ++ e ∷ []) p ≡ process_after system log p
