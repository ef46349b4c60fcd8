-- A process as its home runs it, with its marks.
use Rattle.std.specs.Prelude.{◌≡◌, ◌*◌, true, false, List, length, Some}
use Rattle.t32_base.specs.declared.process.Pid.{Pid}
use Rattle.sys_text.specs.declared.system.System.{System}
use Rattle.sys_text.specs.Valid.{is_system}
use Rattle.proc_state.specs.declared.process.Process.{Process}
use Rattle.proc_state.specs.State.{state_of, has_ended}
use Rattle.bus_msg.specs.declared.entry.Entry.{Entry}
use Rattle.cert_sched.specs.Steps.{silent_upto}
use Rattle.cert_sched.specs.Legal.{IsLegalBy, Stands}
use Rattle.checkpoint_laws.specs.posts.Marked.{IsMarked}

-- In a log of a system in which each entry stands, silent steps lead to the process as it is, so that no letter is on its way to it; it has
-- not ended, its memory has a mark for each page, and the marks are those that the log says.
pub record RunsMarked (system : System) (log : List Entry) (p : Pid) (process : Process) : Type 0 where
  pub valid : is_system system ≡ true
  pub legal : IsLegalBy Stands system log
  pub reached : silent_upto system log p (process.small).steps ≡ Some (state_of process)
  pub runs : has_ended (process.small).status ≡ false
  pub sized : length (process.ram).bytes ≡ 256 * length (process.ram).dirty
  pub marked : IsMarked system log p process
