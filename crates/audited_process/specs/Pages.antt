-- Which pages a process sent since a loss moved it, entry by entry.
use Rattle.std.specs.Prelude.{ℕ, ◌≡◌, Bool, true, List, [], ◌∷◌, ◌++◌}
use Rattle.t32_base.specs.declared.process.Pid.{Pid}
use Rattle.sys_text.specs.declared.system.System.{System}
use Rattle.sys_text.specs.Valid.{is_system}
use Rattle.bus_msg.specs.declared.entry.Entry.{Entry}
use Rattle.cert_sched.specs.Legal.{Stands}
use Rattle.log_laws.specs.pages.Next.{moves_next}
use Rattle.log_cuts.specs.SentPages.{IsSentOf}

-- those of a log, and then of the log with an entry that moves the process, or does not
abbrev pub TakesPages : Pid → Bool → List (ℕ × List ℕ) → List (ℕ × List ℕ) → Entry → Type 0
TakesPages p moved old new e = (system : System) (log : List Entry) → is_system system ≡ true → Stands system log e
    → moves_next system log e p ≡ moved
    → IsSentOf system log p old → IsSentOf system (log ++ e ∷ []) p new
