-- Which pages of a process were sent.
use Rattle.std.specs.Prelude.{ℕ, ◌≡◌, Bool, false, ◌&&◌, nat_lt, List}
use Rattle.t32_base.specs.declared.process.Pid.{Pid}
use Rattle.sys_text.specs.declared.system.System.{System}
use Rattle.bus_msg.specs.declared.entry.What.{What}
use Rattle.bus_msg.specs.declared.entry.What.TheVariants.{Page}
use Rattle.bus_msg.specs.declared.entry.Entry.{Entry}
use Rattle.bus_msg.specs.Places.{same_pid}
use Rattle.cert_sched.specs.Moved.{any_since_moved}

-- a page of the process, as it was at a later step count
abbrev pub is_later_page : Pid → ℕ → What → Bool
is_later_page p steps (Page pid at index bytes) = same_pid pid p && nat_lt steps at
is_later_page p steps _ = false

-- since a crash moved the process, none of its pages was sent as it was at a later step count
abbrev pub SentUpto : System → List Entry → Pid → ℕ → Type 0
SentUpto system log p steps = any_since_moved system log p (is_later_page p steps) ≡ false
