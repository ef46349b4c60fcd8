-- Whether a fetch of a page waits.
use Rattle.std.specs.Prelude.{ℕ, Bool, ◌&&◌, ◌==◌, List}
use Rattle.std.specs.List.{list_any}
use Rattle.t32_base.specs.declared.process.Pid.{Pid}
use Rattle.sys_text.specs.declared.system.System.{System}
use Rattle.bus_msg.specs.declared.entry.Entry.{Entry}
use Rattle.bus_msg.specs.Places.{same_pid}
use Rattle.cert_sched.specs.Moved.{waiting_fetches}

-- the fetch is one of page i of the process
abbrev pub is_wait_for : Pid → ℕ → Pid × ℕ → Bool
is_wait_for p i f = same_pid f.0 p && f.1 == i

-- a fetch of page i of the process waits
abbrev pub is_waited : System → List Entry → Pid → ℕ → Bool
is_waited system log p i = list_any (is_wait_for p i) (waiting_fetches system log)
