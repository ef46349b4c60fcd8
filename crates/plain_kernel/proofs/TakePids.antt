-- The pids of a kernel stay where a signal is taken, and each process has the one under which it stands.
use Rattle.std.proofs.Common.{◌≡◌, refl, sym, ap, subst, ◌∙◌, List, Some}
use Rattle.std.specs.Prelude.{option_map}
use Rattle.t32_base.specs.declared.process.Pid.{Pid}
use Rattle.proc_state.specs.State.{ProcState}
use Rattle.sys_calls.specs.Take.{taken}
use Rattle.sys_calls.proofs.TakeLaws.{taken_strikes}
use Rattle.plain_kernel.specs.Kernel.{Kernel}
use Rattle.plain_kernel.specs.Apply.{take_step}
use Rattle.plain_kernel.proofs.Pids.{HasOwnPids, HasPids, IsRising, pids_in, put_own, put_process}
use Rattle.plain_kernel.proofs.Taking.{take_made}

pub take_step-pids : (pids : List Pid) (p : Pid) (k j : Kernel) → HasPids pids k → take_step p k ≡ Some j → HasPids pids j
take_step-pids pids p k j has made =
    let t = take_made p k j made in
    subst (HasPids pids) (sym t.after) (put_process pids k p t.was (taken t.was) has t.there)

pub take_step-rising : (p : Pid) (k j : Kernel) → IsRising k → take_step p k ≡ Some j → IsRising j
take_step-rising p k j rising made = (take_step-pids (pids_in k) p k j (record { rising = rising; are = refl }) made).rising

pub take_step-own : (p : Pid) (k j : Kernel) → HasOwnPids k → take_step p k ≡ Some j → HasOwnPids j
take_step-own p k j own made =
    let t = take_made p k j made in
    let was : ((t.was).small).pid ≡ p = own p (t.was).small (ap (option_map (λ (s : ProcState). s.small)) t.there) in
    subst HasOwnPids (sym t.after) (put_own k p (taken t.was) ((taken_strikes t.was t.can).pid ∙ was) own)
