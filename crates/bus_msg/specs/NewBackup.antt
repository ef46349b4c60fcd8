-- Which cluster a process without a backup gets as its new one (Borg et al., ACM TOCS 7(1), 1989: quarterbacks, halfbacks and fullbacks; when each gets its backup is this project's own choice).
use Rattle.std.specs.Prelude.{not, ◌&&◌, ◌||◌, if◌then◌else◌, find, Option, Some, None, is_some}
use Rattle.std.specs.Option.{option_map_or}
use Rattle.t32_base.specs.declared.process.Pid.{Pid}
use Rattle.t32_base.specs.declared.process.ClusterNo.{ClusterNo}
use Rattle.t32_base.specs.declared.process.Mode.{Mode}
use Rattle.t32_base.specs.declared.process.Mode.TheVariants.{Quarter, Half, Full}
use Rattle.bus_msg.specs.declared.placed.Placed.{Placed}
use Rattle.bus_msg.specs.Places.{Places, same_cluster, lives_in, all_clusters, unended_at}

-- the lowest living cluster other than the home
abbrev pub lowest_other : Places → ClusterNo → Option ClusterNo
lowest_other places home = find (λ k. lives_in places k && not (same_cluster k home)) (all_clusters places)

-- the cluster that the process lost, where it lives again
abbrev pub lost_alive : Places → Option ClusterNo → Option ClusterNo
lost_alive places None = None
lost_alive places (Some k) = if lives_in places k then Some k else None

-- a quarterback gets none, a halfback its lost cluster once that lives, a fullback any other
abbrev pub backup_by_mode : Places → Placed → Mode → Option ClusterNo
backup_by_mode places q Quarter = None
backup_by_mode places q Half = lost_alive places q.lost
backup_by_mode places q Full = lowest_other places q.home

-- the cluster that a process gets now: it has not ended, and has no backup
abbrev pub next_backup : Places → Placed → Option ClusterNo
next_backup places q = if q.ended || is_some q.backup then None else backup_by_mode places q q.mode

abbrev pub next_backup_at : Places → Pid → Option ClusterNo
next_backup_at places p = option_map_or (next_backup places) (unended_at places p) None
