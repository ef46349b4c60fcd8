-- The rules of a legal log that are the same for several kinds of entries.
use Rattle.std.specs.Prelude.{◌≡◌, Bool, true, false, not, ◌&&◌, ◌||◌, nat_le, List, [], ◌∷◌, ◌++◌, map, length, Option, Some, None, is_none, option_map, option_and_then}
use Rattle.std.specs.List.{list_any, list_all, range_with_len}
use Rattle.std.specs.Option.{option_map_or}
use Rattle.t32_base.specs.declared.process.Pid.{Pid}
use Rattle.t32_base.specs.declared.process.ClusterNo.{ClusterNo}
use Rattle.t32_base.specs.declared.process.Mode.{Mode}
use Rattle.t32_base.specs.declared.process.Mode.TheVariants.{Quarter, Half, Full}
use Rattle.sys_text.specs.declared.system.System.{System}
use Rattle.proc_state.specs.State.{ProcState}
use Rattle.bus_msg.specs.declared.entry.What.{What}
use Rattle.bus_msg.specs.declared.entry.What.TheVariants.{Mail, Birth, Exit, Page, Sync, Fetch, PageIs, Crash, Return, Rebackup, Done, Stop}
use Rattle.bus_msg.specs.declared.entry.By.{By}
use Rattle.bus_msg.specs.declared.entry.By.TheVariants.{Cluster, Bus}
use Rattle.bus_msg.specs.declared.entry.Entry.{Entry}
use Rattle.bus_msg.specs.declared.placed.Placed.{Placed}
use Rattle.bus_msg.specs.Places.{Places, same_cluster, lives_in, unended_at, servers_in, is_covered, all_clusters}
use Rattle.bus_msg.specs.PlacedAfter.{what}
use Rattle.bus_msg.specs.NewBackup.{next_backup}
use Rattle.bus_msg.specs.Route.{route}
use Rattle.cert_sched.specs.Parts.{last_of, first_of}
use Rattle.cert_sched.specs.Schedule.{placement}
use Rattle.cert_sched.specs.Told.{Told, told}
use Rattle.cert_sched.specs.Moved.{since_moved, was_moved, moved_with_state, any_since_moved, is_page_is, is_page_at, names}
use Rattle.cert_sched.specs.Steps.{process_of, after_items, steps_since, reads_since, page_count}

-- ---- place and destinations

abbrev pub ends_run : Places → What → Bool
ends_run places (Done rests) = true
ends_run places Stop = true
ends_run places (Crash k cause) = not (is_covered places k)
ends_run places _ = false

-- the log is over: Done, Stop or a crash that is not covered stands last
unfoldable pub is_over : System → List Entry → Bool
is_over system log = option_map_or (λ (t : Told). ends_run t.places (what t.entry)) (last_of (told system log)) false

-- the log is not over, and the entry has the next place and the destinations of what it says
abbrev pub IsPlaced : System → List Entry → Entry → Type 0
IsPlaced system log e = (e.place ≡ length log) × (e.dests ≡ route (placement system log) (what e)) × (is_over system log ≡ false)

-- ---- who sends it

abbrev pub is_by : By → Option ClusterNo → Bool
is_by (Cluster k) (Some j) = same_cluster k j
is_by (Cluster k) None = false
is_by Bus o = false

abbrev pub is_bus : By → Bool
is_bus Bus = true
is_bus (Cluster k) = false

abbrev pub is_living : Places → By → Bool
is_living places (Cluster k) = lives_in places k
is_living places Bus = false

abbrev pub home_at : Places → Pid → Option ClusterNo
home_at places p = option_map (λ (q : Placed). q.home) (unended_at places p)

-- the home of the process, which has not ended; and that cluster lives
abbrev pub is_by_home : Places → By → Option Pid → Bool
is_by_home places by p = is_living places by && is_by by (option_and_then (home_at places) p)

-- a page comes from the first page server, what a process does from its home, and the rest from the bus
abbrev pub is_by_right : Places → By → What → Bool
is_by_right places by (PageIs pid index bytes) = is_by by (first_of (servers_in places))
is_by_right places by (Mail at letter) = is_by_home places by (Some letter.from)
is_by_right places by (Birth parent at child end) = is_by_home places by (Some parent)
is_by_right places by (Exit pid at end) = is_by_home places by (Some pid)
is_by_right places by (Page pid at index bytes) = is_by_home places by (Some pid)
is_by_right places by (Sync pid small read took) = is_by_home places by (Some pid)
is_by_right places by (Fetch pid index) = is_by_home places by (Some pid)
is_by_right places by (Rebackup to fresh recs) = is_by_home places by (process_of (Rebackup to fresh recs))
is_by_right places by (Crash k cause) = is_bus by
is_by_right places by (Return k) = is_bus by
is_by_right places by (Done rests) = is_bus by
is_by_right places by Stop = is_bus by

-- ---- what concerns some kinds alone

-- a test of the process of an entry, where the entry is of such a kind
abbrev pub holds_of : Bool → Option Pid → (Pid → Bool) → Bool
holds_of false o test = true
holds_of true None test = false
holds_of true (Some p) test = test p

-- the limits between two cuts
abbrev pub is_limited : What → Bool
is_limited (Mail at letter) = true
is_limited (Birth parent at child end) = true
is_limited (Exit pid at end) = true
is_limited (Sync pid small read took) = true
is_limited (Rebackup to fresh recs) = fresh
is_limited _ = false

-- what tells of steps of a process and leaves no page, or closes the log: letters, exits, the end and a stop
abbrev pub tells_or_closes : What → Bool
tells_or_closes (Mail at letter) = true
tells_or_closes (Exit pid at end) = true
tells_or_closes (Done rests) = true
tells_or_closes Stop = true
tells_or_closes _ = false

-- the wait of a fullback for its new backup
abbrev pub awaits_backup : What → Bool
awaits_backup (Mail at letter) = true
awaits_backup (Birth parent at child end) = true
awaits_backup (Exit pid at end) = true
awaits_backup (Page pid at index bytes) = true
awaits_backup (Sync pid small read took) = true
awaits_backup _ = false

-- the wait of a process that was moved for its pages
abbrev pub awaits_pages : What → Bool
awaits_pages (Mail at letter) = true
awaits_pages (Birth parent at child end) = true
awaits_pages (Exit pid at end) = true
awaits_pages (Page pid at index bytes) = true
awaits_pages (Sync pid small read took) = true
awaits_pages (Rebackup to fresh recs) = fresh
awaits_pages _ = false

-- ---- limits

-- since it started it has made no more steps and read no more letters than the system says
abbrev pub keeps_limits : System → List Entry → Pid → ProcState → Bool
keeps_limits system log p s = nat_le (steps_since system log p s) system.syncsteps && nat_le (reads_since system log p s) system.syncreads

abbrev pub is_within_limits : System → List Entry → What → Pid → Bool
is_within_limits system log w p = option_map_or (keeps_limits system log p) (after_items system log w) false

-- ---- fullbacks

abbrev pub is_full : Mode → Bool
is_full Quarter = false
is_full Half = false
is_full Full = true

-- a fullback that a crash moved
abbrev pub is_moved_fullback : System → List Entry → Pid → Bool
is_moved_fullback system log p = option_map_or (λ (q : Placed). is_full q.mode) (unended_at (placement system log) p) false && was_moved system log p

-- no cluster but the home of the process lives
abbrev pub is_alone : Pid → Places → Bool
is_alone p places = option_map_or (λ (q : Placed). list_all (λ k. same_cluster k q.home || not (lives_in places k)) (all_clusters places)) (unended_at places p) false

-- the placements since the last crash that moved the process, the present one last
abbrev pub places_since_moved : System → List Entry → Pid → List Places
places_since_moved system log p = map (λ (t : Told). t.places) (since_moved system log p) ++ placement system log ∷ []

-- it is no fullback that a crash moved, or got its new backup since, or there was no cluster for one
abbrev pub has_awaited_backup : System → List Entry → Pid → Bool
has_awaited_backup system log p =
    not (is_moved_fullback system log p)
    || any_since_moved system log p (names p)
    || list_any (is_alone p) (places_since_moved system log p)

-- no process is owed a backup
abbrev pub owes_no_backup : Places → Bool
owes_no_backup places = list_all (λ q. is_none (next_backup places q)) places.placed

-- The rule of new backups: a fullback that a crash moved waits for its new backup, and at the end none is owed.
abbrev pub keeps_backups : System → List Entry → What → Bool
keeps_backups system log (Done rests) = owes_no_backup (placement system log)
keeps_backups system log w = holds_of (awaits_backup w) (process_of w) (has_awaited_backup system log)

-- ---- pages

-- a process that was moved with a state has got each of its pages since
abbrev pub has_its_pages : System → List Entry → Pid → Bool
has_its_pages system log p =
    not (moved_with_state system log p) || list_all (λ i. any_since_moved system log p (is_page_is p i)) (range_with_len 0 (page_count system log p))

-- no page is sent twice at one step count
abbrev pub is_new_page : System → List Entry → What → Bool
is_new_page system log (Page pid at index bytes) = not (any_since_moved system log pid (is_page_at pid index at))
is_new_page system log _ = true
