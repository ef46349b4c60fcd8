-- An entry, next in a log, and what it does to the waits for pages.
use Rattle.std.specs.Prelude.{ℕ, Bool, true, false, List}
use Rattle.t32_base.specs.declared.process.Pid.{Pid}
use Rattle.sys_text.specs.declared.system.System.{System}
use Rattle.bus_msg.specs.declared.entry.What.{What}
use Rattle.bus_msg.specs.declared.entry.What.TheVariants.{Exit, Fetch, PageIs, Crash}
use Rattle.bus_msg.specs.declared.entry.Entry.{Entry}
use Rattle.cert_sched.specs.Schedule.{placement}
use Rattle.cert_sched.specs.Told.{Told, moves}
use Rattle.cert_sched.specs.Moved.{ends_wait}

-- the entry with what stands before it, where it is the next in the log
abbrev pub next_told : System → List Entry → Entry → Told
next_told system log e = record { log = log; places = placement system log; entry = e }

-- it is a crash that moves the process
abbrev pub moves_next : System → List Entry → Entry → Pid → Bool
moves_next system log e p = moves p (next_told system log e)

-- it ends the wait for page i of the process: it is that page, the exit of the process, or a crash that moves it
abbrev pub ends_wait_next : System → List Entry → Entry → Pid → ℕ → Bool
ends_wait_next system log e p i = ends_wait p i (next_told system log e)

-- the kinds that no wait for a page begins or ends with
abbrev pub leaves_waits : What → Bool
leaves_waits (Exit pid at end) = false
leaves_waits (Fetch pid index) = false
leaves_waits (PageIs pid index bytes) = false
leaves_waits (Crash k cause) = false
leaves_waits _ = true
