-- Which pages of a process were sent, and as they were at which step counts.
use Rattle.std.specs.Prelude.{ℕ, ◌≡◌, ◌==◌, Bool, true, false, List, [], ◌∷◌, ◌++◌}
use Rattle.std.specs.BTreeMap.{is_at}
use Rattle.std.specs.Map.{lookup}
use Rattle.std.specs.Option.{unwrap_or}
use Rattle.std.specs.Ordering.{nat_cmp}
use Rattle.t32_base.specs.declared.process.Pid.{Pid}
use Rattle.sys_text.specs.declared.system.System.{System}
use Rattle.sys_text.specs.Valid.{is_system}
use Rattle.bus_msg.specs.declared.entry.What.TheVariants.{Birth, Page}
use Rattle.bus_msg.specs.declared.entry.Entry.{Entry}
use Rattle.bus_msg.specs.PlacedAfter.{what}
use Rattle.cert_sched.specs.Moved.{any_since_moved, is_page_at}
use Rattle.cert_sched.specs.Legal.{IsLegalBy, Stands}
use Rattle.log_laws.specs.pages.Next.{moves_next}
use Rattle.log_fetches.specs.Kept.{no_pages}
use Rattle.log_fetches.specs.Pages.{has_page}
use Rattle.checkpoint_laws.specs.marks.Beside.{is_some_page}

-- the pages that were sent as they were at a step count
abbrev pub sent_at : List (ℕ × List ℕ) → ℕ → List ℕ
sent_at sent at = unwrap_or (lookup (is_at (nat_cmp at)) sent) no_pages

-- page i was sent as it was at a step count
abbrev pub was_sent : List (ℕ × List ℕ) → ℕ → ℕ → Bool
was_sent sent i at = has_page (sent_at sent at) i

-- they are those that a log has of the process since a loss moved it
abbrev pub IsSentOf : System → List Entry → Pid → List (ℕ × List ℕ) → Type 0
IsSentOf system log p sent = (i at : ℕ) → was_sent sent i at ≡ any_since_moved system log p (is_page_at p i at)

-- these are sent at one step count now, and at every other as before
pub record PutsAt (old new : List (ℕ × List ℕ)) (at : ℕ) (pages : List ℕ) : Type 0 where
  pub this : sent_at new at ≡ pages
  pub others : (a : ℕ) → (at == a) ≡ false → sent_at new a ≡ sent_at old a

-- so they are of a log, and then of the log with such a page of the process
abbrev pub PutsPage : List (ℕ × List ℕ) → List (ℕ × List ℕ) → ℕ → ℕ → Type 0
PutsPage old new index at = (system : System) (log : List Entry) (e : Entry) (p : Pid) (bytes : List ℕ) → is_system system ≡ true → Stands system log e → what e ≡ Page p at index bytes
    → IsSentOf system log p old → IsSentOf system (log ++ e ∷ []) p new

-- So they are of each process at boot, of a child that is born, and of a process that a loss moves.
pub record NoneSent (sent : List (ℕ × List ℕ)) : Type 0 where
  pub boot : (system : System) (p : Pid) → IsSentOf system [] p sent
  pub born : (system : System) (log : List Entry) (e : Entry) (parent : Pid) (at : ℕ) (child : Pid) (end : ℕ) → is_system system ≡ true → IsLegalBy Stands system log → Stands system log e → what e ≡ Birth parent at child end
      → IsSentOf system (log ++ e ∷ []) child sent
  pub moved : (system : System) (log : List Entry) (e : Entry) (p : Pid) → moves_next system log e p ≡ true → IsSentOf system (log ++ e ∷ []) p sent

-- an entry that is no page of the process, and no loss that moves it, leaves them
abbrev pub LeavesSent : Type 0
LeavesSent = (system : System) (log : List Entry) (e : Entry) (p : Pid) (sent : List (ℕ × List ℕ)) → is_some_page p (what e) ≡ false → moves_next system log e p ≡ false
    → IsSentOf system log p sent → IsSentOf system (log ++ e ∷ []) p sent
