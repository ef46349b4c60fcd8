-- What is kept of the pages that processes asked for, and which log it is of.
use Rattle.std.specs.Prelude.{ℕ, ◌≡◌, ◌<◌, true, List, [], ◌∷◌, ◌++◌}
use Rattle.t32_base.specs.declared.process.Pid.{Pid}
use Rattle.sys_text.specs.declared.system.System.{System}
use Rattle.sys_text.specs.Valid.{is_system}
use Rattle.bus_msg.specs.declared.entry.Entry.{Entry}
use Rattle.bus_msg.specs.Places.{Places}
use Rattle.cert_sched.specs.Legal.{Stands}
use Rattle.cert_sched.specs.Moved.{any_since_moved, is_fetch, is_page_is, moved_with_state}
use Rattle.cert_sched.specs.Record.{has_state}
use Rattle.cert_sched.specs.Schedule.{placement}
use Rattle.log_fetches.specs.declared.kept.Kept.{Kept}
use Rattle.log_fetches.specs.Pages.{has_page}
use Rattle.log_fetches.specs.Kept.{kept_in}

-- What is kept of a process is what a log says: whether its record has a state, and whether the last loss that moved it found one; and
-- which pages were asked for since, and which of the first 256 have come.
pub record IsKeptOf (system : System) (log : List Entry) (p : Pid) (k : Kept) : Type 0 where
  pub stated : k.stated ≡ has_state system log p
  pub moved : k.moved ≡ moved_with_state system log p
  pub asked : (i : ℕ) → has_page k.asked i ≡ any_since_moved system log p (is_fetch p i)
  pub come : (i : ℕ) → i < 256 → has_page k.come i ≡ any_since_moved system log p (is_page_is p i)

-- so it is of each process
abbrev pub IsFetchesOf : System → List Entry → List (ℕ × Kept) → Type 0
IsFetchesOf system log kept = (p : Pid) → IsKeptOf system log p (kept_in kept p)

-- what is kept is that of a log with this placement, and then of the log with an entry that stands next in it
abbrev pub KeepsFetches : Places → List (ℕ × Kept) → List (ℕ × Kept) → Entry → Type 0
KeepsFetches places old new e = (system : System) (log : List Entry) → is_system system ≡ true → placement system log ≡ places →
    Stands system log e → IsFetchesOf system log old → IsFetchesOf system (log ++ e ∷ []) new
