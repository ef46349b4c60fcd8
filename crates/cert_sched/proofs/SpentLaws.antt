-- After any log no process has made more steps than it had left at boot, or a child at its birth, which is far from the greatest number.
use Rattle.std.proofs.Common.{◌≡◌, ℕ, ◌+◌, ◌-◌, ◌<◌, ◌≤◌, ◌^◌, ap, subst, arith, List, true, Some}
use Rattle.std.specs.Prelude.{option_map}
use Rattle.std.proofs.lemmas.List.Sums.{count_by-le-length}
use Rattle.t32_base.specs.declared.process.Pid.{Pid}
use Rattle.t32_base.specs.Small.{is_unshut}
use Rattle.sys_text.specs.declared.system.System.{System}
use Rattle.sys_text.specs.Valid.{is_system}
use Rattle.proc_state.specs.State.{ProcState}
use Rattle.sys_calls.specs.Small.{weight}
use Rattle.sys_calls.specs.Fork.{fork_child}
use Rattle.sys_calls.proofs.Bearing.{Bears, next_bears}
use Rattle.sys_calls.proofs.Counting.{silent_counts, emits_counts}
use Rattle.sys_calls.proofs.ForkLaws.{forks_can}
use Rattle.sys_calls.proofs.Weighing.{Leaves, emits_leaves, next_leaves}
use Rattle.plain_kernel.specs.Kernel.{boot}
use Rattle.plain_kernel.proofs.AtBoot.{Each}
use Rattle.plain_kernel.proofs.Spending.{boot_weight-few, boot-within}
use Rattle.bus_msg.specs.declared.entry.Entry.{Entry}
use Rattle.cert_sched.specs.Schedule.{process_after}
use Rattle.cert_sched.proofs.ForkWeight.{fork_weighs}
use Rattle.cert_sched.proofs.EachLaws.{StaysSo, each_so}
use Rattle.sys_calls.proofs.TakeLaws.{taken_strikes}

-- the steps made and those left, at most, are no more than so many
abbrev IsWithin : ℕ → ProcState → Type 0
IsWithin most s = (s.small).steps + weight s.small ≤ most

within_stays : (most : ℕ) → StaysSo (IsWithin most)
within_stays most = record {
  silent = λ s t is within.
      let less : weight t.small + 1 ≤ weight s.small = subst (Leaves s) is (next_leaves s) in
      let one = silent_counts s t is in
      omega (arith, within, less, one.steps);
  sends = λ s t e is within. let one = emits_counts s t e is in omega (arith, within, emits_leaves s t e is, one.steps);
  forks = λ s child is within. let less = fork_weighs s child (forks_can s is) in omega (arith, within, less);
  takes = λ s can within. let t = taken_strikes s can in omega (arith, within, t.steps, t.weight_is);
  arrives = λ s letter within. within;
}

-- ---- children too

-- no more instructions are left than a root's steps at boot, at most, and with the steps made, the end letters and the changes of status there are at most 34 more
record IsFew (s : ProcState) : Type 0 where
  pub left : (s.small).left ≤ 100034
  pub within : (s.small).steps + weight s.small ≤ 100068

few_stays : StaysSo IsFew
few_stays = record {
  silent = λ s t is few.
      let kept = subst (Bears s) is (next_bears s) in
      record { left = omega (arith, few.left, kept.1); within = (within_stays 100068).silent s t is few.within };
  sends = λ s t e is few.
      let kept = subst (Bears s) is (next_bears s) in
      record { left = omega (arith, few.left, kept.1); within = (within_stays 100068).sends s t e is few.within };
  takes = λ s can few. record { left = omega (arith, few.left, (taken_strikes s can).left); within = (within_stays 100068).takes s can few.within };
  forks = λ s child is few. record { left = omega (arith, few.left); within = (within_stays 100068).forks s child is few.within };
  arrives = λ s letter few. record { left = few.left; within = few.within };
}

-- a child has one instruction fewer than its parent, 32 ends and two changes of status
child_few : (s : ProcState) (c : Pid) → IsFew s → IsFew (fork_child s c)
child_few s c few =
    let ends = count_by-le-length is_unshut ((fork_child s c).small).ends in
    record { left = omega (arith, few.left); within = omega (arith, few.left, ends) }

boot_few : (system : System) → is_system system ≡ true → Each (λ p s. IsFew s) (boot system)
boot_few system valid p s there =
    let within = boot-within system p s.small (ap (option_map (λ (s : ProcState). s.small)) there) in
    let few = boot_weight-few system p valid in
    record { left = omega (arith, within, few); within = omega (arith, within, few) }

-- in the kernel after any log each process has made and has left, at most, so many steps together
pub process_after-few : (system : System) (log : List Entry) (p : Pid) (s : ProcState) → is_system system ≡ true → process_after system log p ≡ Some s → (s.small).steps + weight s.small ≤ 100068
process_after-few system log p s valid there = (each_so (λ p s. IsFew s) (λ p. few_stays) (λ p c s is few. child_few s c few) system log p s (boot_few system valid) there).within

-- and its steps are far below the greatest 32-bit number
pub few_steps_after : (system : System) (log : List Entry) (p : Pid) (s : ProcState) → is_system system ≡ true → process_after system log p ≡ Some s → (s.small).steps < 2 ^ 32 - 1
few_steps_after system log p s valid there = let few = process_after-few system log p s valid there in omega (arith, few)
