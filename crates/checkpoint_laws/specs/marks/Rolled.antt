-- A process that its home rolls forward, with its marks.
use Rattle.std.specs.Prelude.{◌≡◌, true, List, length}
use Rattle.t32_base.specs.declared.process.Pid.{Pid}
use Rattle.sys_text.specs.declared.system.System.{System}
use Rattle.sys_text.specs.Valid.{is_system}
use Rattle.proc_state.specs.declared.process.Process.{Process}
use Rattle.bus_msg.specs.declared.entry.Entry.{Entry}
use Rattle.cert_sched.specs.Deeds.{arrived_count}
use Rattle.cert_sched.specs.Steps.{saved_of}
use Rattle.cert_sched.specs.Legal.{IsLegalBy, Stands}
use Rattle.cert_sched.specs.Simulation.{IsUnended}
use Rattle.log_laws.specs.letters.ReadsFrom.{ReadsFrom}
use Rattle.checkpoint_laws.specs.posts.Marked.{IsMarked}

-- In a log of a system in which each entry stands and the process has not ended, it has read its saved letters from the fronts of its ends; as many letters
-- as the log has for it have arrived; each of its pages has a mark, and the marks are those that the log says.
pub record RollsMarked (system : System) (log : List Entry) (p : Pid) (process : Process) : Type 0 where
  pub valid : is_system system ≡ true
  pub legal : IsLegalBy Stands system log
  pub unended : IsUnended system log p
  pub reads : ReadsFrom (saved_of system log p) (process.mail).letters
  pub next : (process.mail).next ≡ arrived_count log p
  pub pages : (process.small).pages ≡ length (process.ram).dirty
  pub marked : IsMarked system log p process
