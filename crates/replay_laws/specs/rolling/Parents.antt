-- The parent of a process that was born.
use Rattle.std.specs.Prelude.{◌≡◌, true, List}
use Rattle.t32_base.specs.declared.process.Pid.{Pid}
use Rattle.bus_msg.specs.declared.entry.Entry.{Entry}
use Rattle.cert_sched.specs.Simulation.{bears}

-- the log tells of its birth
pub record HasParent (log : List Entry) (p : Pid) : Type 0 where
  pub parent : Pid
  pub born : bears log parent p ≡ true
