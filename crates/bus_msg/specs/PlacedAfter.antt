-- The placement after an entry, and after a log.
use Rattle.std.specs.Prelude.{ℕ, ◌+◌, Bool, true, false, ◌||◌, if◌then◌else◌, List, [], ◌∷◌, ◌++◌, map, fold, slice_get, slice_set, Option, Some, None}
use Rattle.std.specs.List.{list_any}
use Rattle.t32_base.specs.declared.process.Pid.{Pid}
use Rattle.t32_base.specs.declared.process.ClusterNo.{ClusterNo}
use Rattle.t32_base.specs.declared.letter.BackRec.{BackRec}
use Rattle.bus_msg.specs.declared.entry.What.{What}
use Rattle.bus_msg.specs.declared.entry.What.TheVariants.{Mail, Birth, Exit, Page, Sync, Fetch, PageIs, Crash, Return, Rebackup, Done, Stop}
use Rattle.bus_msg.specs.declared.entry.Entry.{Entry}
use Rattle.bus_msg.specs.declared.placed.Placed.{Placed}
use Rattle.bus_msg.specs.Places.{ClusterPlace, Places, same_pid, same_cluster, is_cluster, placed_at}

-- a cluster changed, and each process changed by a function
abbrev pub changed_at : ℕ → (ClusterPlace → ClusterPlace) → Option ClusterPlace → List ClusterPlace → List ClusterPlace
changed_at k f None clusters = clusters
changed_at k f (Some c) clusters = slice_set clusters k (f c)

abbrev pub with_cluster : Places → ClusterNo → (ClusterPlace → ClusterPlace) → Places
with_cluster places k f = record places { clusters = changed_at k.0 f (slice_get places.clusters k.0) places.clusters }

abbrev pub with_each : Places → (Placed → Placed) → Places
with_each places f = record places { placed = map f places.placed }

-- ---- births

-- a child is placed with its parent's home, backup, mode and lost cluster
abbrev pub child_of : Placed → Pid → Placed
child_of parent child = record parent { pid = child; ended = false; synced = false }

abbrev pub raised_serial : ClusterPlace → ClusterPlace
raised_serial c = record c { next_serial = c.next_serial + 1 }

abbrev pub with_birth : Places → Pid → Option Placed → Places
with_birth places child None = places
with_birth places child (Some parent) =
    let counted = with_cluster places parent.home raised_serial in
    record counted { placed = counted.placed ++ child_of parent child ∷ [] }

-- ---- losses and returns

-- a process whose home is lost moves to its backup, and then has none; one without a backup stays
abbrev pub moved_to : Placed → ClusterNo → Option ClusterNo → Placed
moved_to q k None = q
moved_to q k (Some b) = record q { home = b; backup = None; lost = Some k }

-- one whose backup is lost has none; one that has ended is not changed
abbrev pub after_loss : ClusterNo → Placed → Placed
after_loss k q =
    if q.ended then q
    else if same_cluster q.home k then moved_to q k q.backup
    else if is_cluster q.backup k then record q { backup = None; lost = Some k }
    else q

abbrev pub lost_cluster : ClusterPlace → ClusterPlace
lost_cluster c = record c { lives = false; was_lost = true }

abbrev pub returned_cluster : ClusterPlace → ClusterPlace
returned_cluster c = record c { lives = true }

-- ---- ends, synchronisations and new backups

abbrev pub after_exit : Pid → Placed → Placed
after_exit p q = if same_pid q.pid p then record q { ended = true } else q

abbrev pub after_sync : Pid → Placed → Placed
after_sync p q = if same_pid q.pid p then record q { synced = true } else q

abbrev pub is_named : List BackRec → Placed → Bool
is_named recs q = list_any (λ (r : BackRec). same_pid r.pid q.pid) recs

-- a process that has run and gets a new backup has synchronised by that
abbrev pub after_rebackup : ClusterNo → Bool → List BackRec → Placed → Placed
after_rebackup to fresh recs q = if is_named recs q then record q { backup = Some to; synced = q.synced || fresh } else q

-- ---- the whole

-- the placement after an entry that says this
abbrev pub placed_after : Places → What → Places
placed_after places (Mail at letter) = places
placed_after places (Birth parent at child end) = with_birth places child (placed_at places parent)
placed_after places (Exit pid at end) = with_each places (after_exit pid)
placed_after places (Page pid at index bytes) = places
placed_after places (Sync pid small read took) = with_each places (after_sync pid)
placed_after places (Fetch pid index) = places
placed_after places (PageIs pid index bytes) = places
placed_after places (Crash k cause) = with_each (with_cluster places k lost_cluster) (after_loss k)
placed_after places (Return k) = with_cluster places k returned_cluster
placed_after places (Rebackup to fresh recs) = with_each places (after_rebackup to fresh recs)
placed_after places (Done rests) = places
placed_after places Stop = places

-- what an entry says
abbrev pub what : Entry → What
what e = (e.post).what

-- the placement after a log
abbrev pub placement_after : Places → List Entry → Places
placement_after start log = fold (λ places (e : Entry). placed_after places (what e)) start log
