-- What a process did since a loss moved it, entry by entry.
use Rattle.std.specs.Prelude.{ℕ, ◌≡◌, Bool, true, false, not, ◌&&◌, ◌||◌, if◌then◌else◌, List, [], ◌∷◌, ◌++◌, map}
use Rattle.std.specs.List.{list_any}
use Rattle.std.specs.Option.{option_map_or}
use Rattle.t32_base.specs.declared.process.Pid.{Pid}
use Rattle.t32_base.specs.declared.process.ClusterNo.{ClusterNo}
use Rattle.sys_text.specs.declared.system.System.{System}
use Rattle.sys_text.specs.Valid.{is_system}
use Rattle.bus_msg.specs.declared.entry.What.{What}
use Rattle.bus_msg.specs.declared.entry.Entry.{Entry}
use Rattle.bus_msg.specs.declared.placed.Placed.{Placed}
use Rattle.bus_msg.specs.Places.{Places, cluster_no, lives_in, same_cluster, unended_at}
use Rattle.bus_msg.specs.PlacedAfter.{what}
use Rattle.cert_sched.specs.Schedule.{placement}
use Rattle.cert_sched.specs.Told.{Told}
use Rattle.cert_sched.specs.Deeds.{is_birth_of}
use Rattle.cert_sched.specs.Moved.{any_since_moved, names, since_moved}
use Rattle.cert_sched.specs.Rules.{has_awaited_backup, is_alone, is_full, is_moved_fullback}
use Rattle.cert_sched.specs.Legal.{IsLegalBy, Stands, MayStand}
use Rattle.cert_sched.specs.Simulation.{IsUnended}
use Rattle.log_laws.specs.pages.Next.{moves_next}
use Rattle.log_cuts.specs.SentPages.{IsSentOf}
use Rattle.log_renewals.specs.Moved.{moved_only}
use Rattle.audited_process.specs.declared.since_moved.SinceMoved.{SinceMoved}
use Rattle.audited_process.specs.Concerns.{goes_on}

-- ---- what is kept

-- a fullback that a loss moved, which got no new backup since, and beside whose home another cluster lived before each entry since
abbrev pub waited : System → List Entry → Pid → Bool
waited system log p =
    is_moved_fullback system log p
    && not (any_since_moved system log p (names p) || list_any (is_alone p) (map (λ (t : Told). t.places) (since_moved system log p)))

-- What is kept is what a log says: which pages the process sent since a loss moved it, whether it has only been moved, and whether it
-- waited before the last placement.
pub record IsSinceMovedOf (system : System) (log : List Entry) (p : Pid) (m : SinceMoved) : Type 0 where
  pub sent : IsSentOf system log p m.sent
  pub only : m.only ≡ moved_only system log p
  pub waits : m.waits ≡ waited system log p

-- ---- what an entry makes of it

abbrev pub is_fullback : Places → Pid → Bool
is_fullback places p = option_map_or (λ (q : Placed). is_full q.mode) (unended_at places p) false

-- the cluster with a number is the home, or does not live
abbrev pub is_home_or_lost : Places → ClusterNo → ℕ → Bool
is_home_or_lost places home n = same_cluster (cluster_no n) home || not (lives_in places (cluster_no n))

-- a fullback that is moved waits; another goes on, unless the entry names it or no cluster beside its home lived before
abbrev pub waits_on : Bool → Pid → Bool → Places → What → Bool
waits_on waits p moved before w = if moved then is_fullback before p else waits && not (names p w) && not (is_alone p before)

-- whether a process has only been moved, and then after an entry that moves it, or does not
abbrev pub KeepsOnly : Pid → Bool → Bool → Bool → Entry → Type 0
KeepsOnly p moved old new e = (system : System) (log : List Entry) → moves_next system log e p ≡ moved → old ≡ moved_only system log p
    → new ≡ moved_only system (log ++ e ∷ []) p

-- what was kept of a process that has not ended, and then of the log with an entry that ends neither it nor the run
abbrev pub TakesEntry : Pid → Places → SinceMoved → SinceMoved → Entry → Type 0
TakesEntry p before old new e = (system : System) (log : List Entry) → is_system system ≡ true → IsLegalBy MayStand system log
    → MayStand system log e → placement system log ≡ before
    → IsUnended system log p → goes_on p (what e) ≡ true → IsSinceMovedOf system log p old → IsSinceMovedOf system (log ++ e ∷ []) p new

-- So it is of each process at boot, and of a child that is born.
pub record BeginsUnmoved (m : SinceMoved) : Type 0 where
  pub boot : (system : System) (p : Pid) → IsSinceMovedOf system [] p m
  pub born : (system : System) (log : List Entry) (e : Entry) (p : Pid) → is_system system ≡ true → IsLegalBy Stands system log
      → Stands system log e → is_birth_of p (what e) ≡ true
      → IsSinceMovedOf system (log ++ e ∷ []) p m

-- it says of each log with this placement whether the process waits for its new backup
abbrev pub SaysWait : Pid → Places → SinceMoved → Bool → Type 0
SaysWait p places m waits = (system : System) (log : List Entry) → placement system log ≡ places → IsSinceMovedOf system log p m
    → waits ≡ not (has_awaited_backup system log p)
