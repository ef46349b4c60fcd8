-- To the parent itself a fork leaves one step less at least.
use Rattle.std.proofs.Common.{◌+◌, ◌≤◌, arith}
use Rattle.t32_base.specs.declared.process.Pid.{Pid}
use Rattle.proc_state.specs.State.{ProcState}
use Rattle.proc_state.proofs.Linking.{linked_unshut}
use Rattle.sys_calls.specs.Small.{weight}
use Rattle.sys_calls.specs.Fork.{CanFork, fork_parent}

pub fork_weighs : (s : ProcState) (child : Pid) → CanFork s → weight (fork_parent s child).small + 1 ≤ weight s.small
fork_weighs s child can =
    let same = linked_unshut (s.small).ends child 1 in
    omega (arith, same, can.some)
