-- A take that was made: the process is there and can take, and no other changed.
use Rattle.std.proofs.Common.{◌≡◌, refl, sym, ◌∙◌, ap, Bool, true, false, cond, Option, Some, None, option_and_then}
use Rattle.std.proofs.lemmas.Option.{same_Some}
use Rattle.t32_base.specs.declared.process.Pid.{Pid}
use Rattle.proc_state.specs.State.{ProcState, can_take}
use Rattle.sys_calls.specs.Take.{taken}
use Rattle.plain_kernel.specs.Kernel.{Kernel, process_at, with_process}
use Rattle.plain_kernel.specs.Apply.{take_step}

pub record TakesAt (p : Pid) (k j : Kernel) : Type 0 where
  pub was : ProcState
  pub there : process_at k p ≡ Some was
  pub can : can_take was ≡ true
  pub after : j ≡ with_process k p (taken was)

pub take_made : (p : Pid) (k j : Kernel) → take_step p k ≡ Some j → TakesAt p k j
unfolding take_step
take_made p k j made = by_process (process_at k p) refl made
  where
    by_test : (s : ProcState) (b : Bool) → process_at k p ≡ Some s → can_take s ≡ b → cond b (Some (with_process k p (taken s))) None ≡ Some j → TakesAt p k j
    by_test s true there can e = record { was = s; there = there; can = can; after = sym (same_Some (with_process k p (taken s)) j e) }
    by_test s false there can e = cc

    by_process : (o : Option ProcState) → process_at k p ≡ o → option_and_then (λ s. cond (can_take s) (Some (with_process k p (taken s))) None) o ≡ Some j → TakesAt p k j
    by_process None there e = cc
    by_process (Some s) there e = by_test s (can_take s) there refl e

-- where the process is there and can take, the take is made
pub takes : (p : Pid) (k : Kernel) (s : ProcState) → process_at k p ≡ Some s → can_take s ≡ true → take_step p k ≡ Some (with_process k p (taken s))
unfolding take_step
takes p k s there can = ap (option_and_then (λ s. cond (can_take s) (Some (with_process k p (taken s))) None)) there ∙ ap (λ b. cond b (Some (with_process k p (taken s))) None) can
