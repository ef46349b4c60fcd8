-- The placement: which clusters live, and where each process has its home and its backup.
use Rattle.std.specs.Prelude.{ℕ, ◌+◌, Bool, true, false, not, ◌&&◌, ◌||◌, ◌==◌, List, [], ◌∷◌, map, filter, find, count_by, slice_get, length, Option, Some, None, is_some}
use Rattle.std.specs.List.{list_any, list_all, range_with_len}
use Rattle.std.specs.Option.{option_map_or}
use Rattle.t32_base.specs.declared.process.Pid.{Pid}
use Rattle.t32_base.specs.declared.process.ClusterNo.{ClusterNo}
use Rattle.bus_msg.specs.declared.placed.Placed.{Placed}

-- a cluster lives or is lost; it was lost once, or never was; and the serial that its next forked child gets
pub record ClusterPlace : Type 0 where
  pub lives : Bool
  pub was_lost : Bool
  pub next_serial : ℕ

-- the clusters by their numbers, the pair that serves pages, and the processes in the order of their births, roots first
pub record Places : Type 0 where
  pub clusters : List ClusterPlace
  pub pager : ClusterNo × ClusterNo
  pub placed : List Placed

-- at boot a cluster lives, and its next serial is above those of its roots
abbrev pub boot_cluster : List Placed → ℕ → ClusterPlace
boot_cluster roots k = record { lives = true; was_lost = false; next_serial = 1 + count_by (λ (q : Placed). (q.home).0 == k) roots }

-- the placement of the roots, at boot
abbrev pub boot_places : ℕ → ClusterNo × ClusterNo → List Placed → Places
boot_places clusters pager roots = record { clusters = map (boot_cluster roots) (range_with_len 0 clusters); pager = pager; placed = roots }

-- ---- equal numbers

abbrev pub same_pid : Pid → Pid → Bool
same_pid p q = p.0 == q.0

abbrev pub same_cluster : ClusterNo → ClusterNo → Bool
same_cluster j k = j.0 == k.0

abbrev pub is_cluster : Option ClusterNo → ClusterNo → Bool
is_cluster None k = false
is_cluster (Some j) k = same_cluster j k

-- ---- the clusters

abbrev pub lives_in : Places → ClusterNo → Bool
lives_in places k = option_map_or (λ (c : ClusterPlace). c.lives) (slice_get places.clusters k.0) false

abbrev pub is_lost_in : Places → ClusterNo → Bool
is_lost_in places k = option_map_or (λ (c : ClusterPlace). not c.lives) (slice_get places.clusters k.0) false

abbrev pub next_serial_in : Places → ClusterNo → ℕ
next_serial_in places k = option_map_or (λ (c : ClusterPlace). c.next_serial) (slice_get places.clusters k.0) 0

abbrev pub never_lost : Places → ClusterNo → Bool
never_lost places k = option_map_or (λ (c : ClusterPlace). not c.was_lost) (slice_get places.clusters k.0) false

-- the page servers, in the order of the pair: those that were never lost
abbrev pub servers_in : Places → List ClusterNo
servers_in places = filter (never_lost places) ((places.pager).0 ∷ (places.pager).1 ∷ [])

abbrev pub cluster_no : ℕ → ClusterNo
cluster_no n = record { 0 = n }

abbrev pub all_clusters : Places → List ClusterNo
all_clusters places = map cluster_no (range_with_len 0 (length places.clusters))

-- ---- the processes

abbrev pub placed_at : Places → Pid → Option Placed
placed_at places p = find (λ (q : Placed). same_pid q.pid p) places.placed

-- where a process is placed that has not ended
abbrev pub unended_at : Places → Pid → Option Placed
unended_at places p = find (λ (q : Placed). same_pid q.pid p && not q.ended) places.placed

abbrev pub unended_in : Places → List Placed
unended_in places = filter (λ (q : Placed). not q.ended) places.placed

-- a process at home in k that has not ended
abbrev pub is_at_home : ClusterNo → Placed → Bool
is_at_home k q = same_cluster q.home k && not q.ended

-- ---- the loss of a cluster

-- a process that a crash of k moves: it is at home there, and has a backup
abbrev pub is_moved_by : ClusterNo → Placed → Bool
is_moved_by k q = is_at_home k q && is_some q.backup

-- every process at home in k has a backup that lives, and a page server is left after the crash of k
abbrev pub is_covered : Places → ClusterNo → Bool
is_covered places k =
    list_all (λ (q : Placed). not (is_at_home k q) || option_map_or (lives_in places) q.backup false) places.placed
    && list_any (λ s. not (same_cluster s k)) (servers_in places)
