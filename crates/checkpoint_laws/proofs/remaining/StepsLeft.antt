use Rattle.std.proofs.Common.{◌≡◌, ℕ, ◌+◌, ◌≤◌, refl, ap, arith, List, [], ◌∷◌, ◌++◌, Some}
use Rattle.std.specs.Option.{option_map_or}
use Rattle.t32_base.specs.declared.process.Pid.{Pid}
use Rattle.sys_text.specs.declared.system.System.{System}
use Rattle.proc_state.specs.State.{ProcState}
use Rattle.sys_calls.specs.declared.steps.Emission.{Emission}
use Rattle.plain_kernel.specs.Kernel.{Kernel, boot, with_process, emitted}
use Rattle.plain_kernel.specs.Apply.{one_step}
use Rattle.plain_kernel.proofs.Pids.{IsRising, one_step-pids, pids_in}
use Rattle.bus_msg.specs.declared.entry.Entry.{Entry}
use Rattle.bus_msg.specs.PlacedAfter.{what}
use Rattle.cert_sched.specs.Schedule.{plain_after}
use Rattle.cert_sched.specs.Steps.{emission_at}
use Rattle.cert_sched.proofs.LoadLaws.{load_after, load_sent}
use Rattle.cert_sched.proofs.StepLaws.{Tells, plain_after-sent, sent_from}
use Rattle.checkpoint_laws.specs.remaining.Load.{kernel_load, log_load}

-- processes rise still after a step
pub rising_still : (p : Pid) (k j : Kernel) → IsRising k → one_step p k ≡ Some j → IsRising j
rising_still p k j rising made = (one_step-pids (pids_in k) p k j (record { rising = rising; are = refl }) made).rising

-- the kernel after any log has no more left than that at boot
pub after_log : (system : System) (log : List Entry) (k : Kernel) → plain_after system log ≡ Some k → kernel_load k ≤ kernel_load (boot system)
after_log = load_after

-- an entry that tells of what a process sent leaves fewer
pub sent_leaves : (system : System) (log : List Entry) (entry : Entry) (p : Pid) (at : ℕ) (e : Emission) (t : ProcState) → emission_at system log p at ≡ Some (e, t) → Tells p at e (what entry)
    → log_load system (log ++ entry ∷ []) + 1 ≤ log_load system log
sent_leaves system log entry p at e t is tells =
    let s = sent_from system log p at e t is in
    let then = plain_after-sent system log entry p at e t s.kernel s.before is tells in
    let less = load_sent system log entry p at e t s.kernel (emitted (with_process s.kernel p t) e) s.before then is tells in
    let after : log_load system (log ++ entry ∷ []) ≡ kernel_load (emitted (with_process s.kernel p t) e) = ap (λ o. option_map_or kernel_load o 0) then in
    let before : log_load system log ≡ kernel_load s.kernel = ap (λ o. option_map_or kernel_load o 0) s.before in
    omega (arith, after, before, less)
