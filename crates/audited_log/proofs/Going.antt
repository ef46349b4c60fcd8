-- Processes that go on by an entry.
use Rattle.std.proofs.Common.{◌≡◌, ◌<◌, ◌-◌, ◌^◌, true}
use Rattle.t32_base.specs.declared.process.Pid.{Pid}
use Rattle.proc_state.specs.State.{state_of}
use Rattle.bus_msg.specs.declared.entry.Entry.{Entry}
use Rattle.bus_msg.specs.PlacedAfter.{what}
use Rattle.audited_process.specs.declared.audited.Audited.{Audited}
use Rattle.audited_process.specs.Concerns.{goes_on}
use Rattle.audited_process.proofs.Room.{has_room}
use Rattle.audited_log.specs.Walk.{CanBeTaken}

-- its letters can be counted
pub room : (e : Entry) (p : Pid) (a : Audited) → goes_on p (what e) ≡ true → CanBeTaken e p a → ((state_of a.process).next < 2 ^ 64 - 1) × ((a.begun).saved < 2 ^ 64 - 1)
room e p a goes can = has_room can.system can.log e p a can.valid can.legal can.may (can.led).unended goes can.room ((can.led).led goes)
