-- A fork of a process that is not due keeps the limits, and the child is within them where it begins.
use Rattle.std.proofs.Common.{◌≡◌, ℕ, ◌+◌, ◌-◌, sym, ◌∙◌, ap, arith, List, length, true, false, ◌&&◌, leb, Option}
use Rattle.std.specs.Prelude.{option_map}
use Rattle.std.specs.Option.{option_map_or}
use Rattle.t32_base.specs.declared.process.Pid.{Pid}
use Rattle.sys_text.specs.declared.system.System.{System}
use Rattle.sys_text.specs.Valid.{is_system}
use Rattle.proc_state.specs.declared.process.Process.{Process}
use Rattle.proc_state.specs.State.{ProcState, SameRest, state_of}
use Rattle.sys_calls.specs.Calls.{Forks}
use Rattle.sys_calls.specs.Fork.{fork_parent}
use Rattle.sys_calls.specs.Next.{next_step}
use Rattle.sync_point.specs.Due.{is_due_by}
use Rattle.bus_msg.specs.declared.entry.What.TheVariants.{Birth}
use Rattle.bus_msg.specs.declared.entry.Entry.{Entry}
use Rattle.roll_forward.specs.Advancing.{IsNewborn}
use Rattle.cert_sched.specs.Rules.{keeps_limits}
use Rattle.checkpoint_laws.specs.posts.Running.{RunsMarked}
use Rattle.checkpoint_laws.proofs.posts.BirthStands.{forks_at}
use Rattle.checkpoint_laws.specs.limits.Within.{KeepsLimits, is_within_by}
use Rattle.checkpoint_laws.proofs.limits.OwnCounts.{own_limits, own_reads}
use Rattle.checkpoint_laws.proofs.limits.StepLimits.{one_more, start_undue, undue_within}

-- ---- the parent

-- the fork counts as a step, and reads nothing
pub fork_within : (old new : Process) (child : Pid) (reads steps : ℕ) → state_of new ≡ fork_parent (state_of old) child → SameRest old new → is_due_by old reads steps ≡ false → is_within_by new reads steps ≡ true
fork_within old new child reads steps forked rest undue =
    let count = ap (λ (s : ProcState). (s.small).steps) forked in
    (λ j. leb ((new.small).steps - rest.since j) steps && leb (length (rest.read j)) reads)
    ∙ one_more reads steps (length old.read) (length old.read) (old.small).steps (new.small).steps old.since undue (omega (arith, count)) (omega arith)

-- so the birth that tells of it keeps the limits of the log
pub birth_keeps : (system : System) (log : List Entry) (p child : Pid) (end : ℕ) (process : Process) → RunsMarked system log p process → is_due_by process system.syncreads system.syncsteps ≡ false → next_step (state_of process) ≡ Forks
    → KeepsLimits system log (Birth p ((process.small).steps + 1) child end)
birth_keeps system log p child end process runs undue forks =
    ap (λ (o : Option ProcState). option_map_or (keeps_limits system log p) (option_map (λ s. fork_parent s child) o) false) (forks_at system log p (state_of process) runs.reached forks)
    ∙ (λ j. leb ((process.small).steps + 1 - sym (runs.marked).since_start j) system.syncsteps && leb (own_reads system log p process runs j) system.syncreads)
    ∙ one_more system.syncreads system.syncsteps (length process.read) (length process.read) (process.small).steps ((process.small).steps + 1) process.since undue (omega arith) (omega arith)

-- ---- the child

-- as it was born it is not due
pub newborn_undue : (system : System) (s : ProcState) (pages : ℕ) (child : Pid) (c : Process) → is_system system ≡ true → IsNewborn s pages child c → is_due_by c system.syncreads system.syncsteps ≡ false
newborn_undue system s pages child c valid newborn = start_undue system c valid newborn.read (newborn.since ∙ sym (ap (λ (t : ProcState). (t.small).steps) newborn.state))

-- and is within the limits of the log, where it runs with its marks
pub newborn_limits : (system : System) (log : List Entry) (s : ProcState) (pages : ℕ) (child : Pid) (c : Process) → RunsMarked system log child c → IsNewborn s pages child c → keeps_limits system log child (state_of c) ≡ true
newborn_limits system log s pages child c runs newborn =
    own_limits system log child c runs ∙ undue_within c system.syncreads system.syncsteps (newborn_undue system s pages child c runs.valid newborn)
