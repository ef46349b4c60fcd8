-- What stands in a log since a crash moved a process, and the fetches that wait.
use Rattle.std.specs.Prelude.{ℕ, Bool, false, ◌&&◌, ◌||◌, ◌==◌, if◌then◌else◌, List, [], ◌∷◌, Option, Some, None}
use Rattle.std.specs.List.{list_any}
use Rattle.std.specs.Option.{option_map_or}
use Rattle.t32_base.specs.declared.process.Pid.{Pid}
use Rattle.t32_base.specs.declared.letter.BackRec.{BackRec}
use Rattle.sys_text.specs.declared.system.System.{System}
use Rattle.bus_msg.specs.declared.entry.What.{What}
use Rattle.bus_msg.specs.declared.entry.What.TheVariants.{Page, Fetch, PageIs, Rebackup}
use Rattle.bus_msg.specs.declared.entry.Entry.{Entry}
use Rattle.bus_msg.specs.Places.{same_pid}
use Rattle.bus_msg.specs.PlacedAfter.{what}
use Rattle.cert_sched.specs.Parts.{after_last, last_that}
use Rattle.cert_sched.specs.Told.{Told, told, moves}
use Rattle.cert_sched.specs.Record.{has_state}
use Rattle.cert_sched.specs.Account.{is_exit_of}

-- the entries after the last crash that moved the process; all where none did
abbrev pub since_moved : System → List Entry → Pid → List Told
since_moved system log p = after_last (moves p) (told system log)

-- a crash moved the process
abbrev pub was_moved : System → List Entry → Pid → Bool
was_moved system log p = list_any (moves p) (told system log)

-- the last crash that moved the process found a state in its record
abbrev pub moved_with_state : System → List Entry → Pid → Bool
moved_with_state system log p = option_map_or (λ (t : Told). has_state system t.log p) (last_that (moves p) (told system log)) false

-- an entry since then passes a test
abbrev pub any_since_moved : System → List Entry → Pid → (What → Bool) → Bool
any_since_moved system log p test = list_any (λ (t : Told). test (what t.entry)) (since_moved system log p)

abbrev pub is_fetch : Pid → ℕ → What → Bool
is_fetch p i (Fetch pid index) = same_pid pid p && index == i
is_fetch p i _ = false

abbrev pub is_page_is : Pid → ℕ → What → Bool
is_page_is p i (PageIs pid index bytes) = same_pid pid p && index == i
is_page_is p i _ = false

-- the page i of the process, as it was at a step count
abbrev pub is_page_at : Pid → ℕ → ℕ → What → Bool
is_page_at p i steps (Page pid at index bytes) = same_pid pid p && index == i && at == steps
is_page_at p i steps _ = false

-- a new backup for the process
abbrev pub names : Pid → What → Bool
names p (Rebackup to fresh recs) = list_any (λ (r : BackRec). same_pid r.pid p) recs
names p _ = false

-- ---- fetches that wait

-- the wait for page i of the process ends: the page comes, the process ends, or a crash moves it
abbrev pub ends_wait : Pid → ℕ → Told → Bool
ends_wait p i t = is_page_is p i (what t.entry) || is_exit_of p (what t.entry) || moves p t

abbrev pub fetched : What → Option (Pid × ℕ)
fetched (Fetch pid index) = Some (pid, index)
fetched _ = None

abbrev pub add_wait : Option (Pid × ℕ) → List Told → List (Pid × ℕ) → List (Pid × ℕ)
add_wait None rest waits = waits
add_wait (Some f) rest waits = if list_any (ends_wait f.0 f.1) rest then waits else f ∷ waits

abbrev pub waiting_in : List Told → List (Pid × ℕ)
waiting_in [] = []
waiting_in (t ∷ rest) = add_wait (fetched (what t.entry)) rest (waiting_in rest)

-- the fetches whose wait no later entry ends, the earliest first
abbrev pub waiting_fetches : System → List Entry → List (Pid × ℕ)
waiting_fetches system log = waiting_in (told system log)
