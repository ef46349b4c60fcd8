-- Where a process started, and which letters it has read since.
use Rattle.std.specs.Prelude.{ℕ, ◌≡◌, true, false, List, [], ◌∷◌, ◌++◌, Some}
use Rattle.t32_base.specs.declared.process.Pid.{Pid}
use Rattle.sys_text.specs.declared.system.System.{System}
use Rattle.sys_text.specs.Valid.{is_system}
use Rattle.proc_state.specs.State.{ProcState}
use Rattle.bus_msg.specs.declared.entry.What.TheVariants.{Birth}
use Rattle.bus_msg.specs.declared.entry.Entry.{Entry}
use Rattle.bus_msg.specs.PlacedAfter.{what}
use Rattle.cert_sched.specs.Deeds.{is_cut, start_of, starts}
use Rattle.cert_sched.specs.Record.{has_state}
use Rattle.cert_sched.specs.Schedule.{process_after}
use Rattle.cert_sched.specs.Legal.{IsLegalBy, Stands}
use Rattle.log_cuts.specs.declared.start.Start.{Start}
use Rattle.log_cuts.specs.Numbers.{numbers_from, numbers_of, without}

-- the numbers of its letters, and how many have come
abbrev pub StartsAt : ProcState → Start → Type 0
StartsAt s start = (start.waiting ≡ numbers_of s.mail) × (start.came ≡ s.next)

-- What is kept is what a log says: whether the record of the process has a state, and where it started the numbers of its letters and how many had come.
pub record KeepsStart (p : Pid) (start : Start) (system : System) (log : List Entry) : Type 0 where
  pub stated : start.stated ≡ has_state system log p
  pub at : (s : ProcState) → start_of system log p ≡ Some s → StartsAt s start

-- This is kept of a process that stands so: with a state, of a root at boot and of a process after a cut of it; and without one, of a child that is born.
pub record BeginsAt (s : ProcState) (start : Start) : Type 0 where
  pub boot : (system : System) (p : Pid) → is_system system ≡ true → start.stated ≡ true → process_after system [] p ≡ Some s → KeepsStart p start system []
  pub cut : (system : System) (log : List Entry) (e : Entry) (p : Pid) → start.stated ≡ true → is_cut p (what e) ≡ true → process_after system (log ++ e ∷ []) p ≡ Some s → KeepsStart p start system (log ++ e ∷ [])
  pub born : (system : System) (log : List Entry) (e : Entry) (parent : Pid) (at : ℕ) (child : Pid) (end : ℕ) → is_system system ≡ true → IsLegalBy Stands system log → Stands system log e → what e ≡ Birth parent at child end
      → start.stated ≡ false → process_after system (log ++ e ∷ []) child ≡ Some s → KeepsStart child start system (log ++ e ∷ [])

-- an entry from which the process does not start leaves it
abbrev pub LeavesStart : Type 0
LeavesStart = (system : System) (log : List Entry) (e : Entry) (p : Pid) (start : Start) → starts p e ≡ false → KeepsStart p start system log → KeepsStart p start system (log ++ e ∷ [])

-- ---- the letters that it has read

-- the numbers of those that it has read where it stands so: of all that waited where it started and came since, but those that wait
abbrev pub read_numbers : Start → ProcState → List ℕ
read_numbers start s = without (start.waiting ++ numbers_from start.came s.next) (numbers_of s.mail)
