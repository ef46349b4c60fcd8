-- The processes that wait for their new backup, as a cluster keeps them.
use Rattle.std.specs.Prelude.{ℕ, ◌≡◌, Bool, false, not, ◌&&◌, List, map, filter, fold, is_some}
use Rattle.std.specs.BTreeSet.{insert_key}
use Rattle.std.specs.List.{list_any}
use Rattle.std.specs.Option.{option_map_or}
use Rattle.std.specs.Ordering.{nat_cmp}
use Rattle.t32_base.specs.declared.process.Pid.{Pid}
use Rattle.t32_base.specs.declared.process.ClusterNo.{ClusterNo}
use Rattle.sys_text.specs.declared.system.System.{System}
use Rattle.bus_msg.specs.declared.entry.What.{What}
use Rattle.bus_msg.specs.declared.entry.What.TheVariants.{Exit, Crash, Rebackup}
use Rattle.bus_msg.specs.declared.entry.Entry.{Entry}
use Rattle.bus_msg.specs.declared.placed.Placed.{Placed}
use Rattle.bus_msg.specs.Places.{Places, same_cluster, unended_at}
use Rattle.bus_msg.specs.PlacedAfter.{placed_after}
use Rattle.bus_msg.specs.NewBackup.{next_backup_at}
use Rattle.crash_notice.specs.Splitting.{is_moved_here}
use Rattle.plain_kernel.specs.Maps.{at_key, pid_of}
use Rattle.cert_sched.specs.Schedule.{placement}
use Rattle.cert_sched.specs.Rules.{has_awaited_backup, is_full}
use Rattle.cluster_core.specs.View.{ClusterView}

-- ---- what the log says

-- a process that has not ended is at home in the cluster, and waits for its new backup
abbrev pub is_owed : System → List Entry → ClusterNo → Pid → Bool
is_owed system log k p = option_map_or (λ (q : Placed). same_cluster q.home k) (unended_at (placement system log) p) false && not (has_awaited_backup system log p)

-- these are the pids of all those
abbrev pub AreOwed : System → List Entry → ClusterNo → List ℕ → Type 0
AreOwed system log k owed = (p : Pid) → list_any (at_key p.0) owed ≡ is_owed system log k p

-- it keeps them
abbrev pub HoldsOwed : System → List Entry → ClusterView → Type 0
HoldsOwed system log c = AreOwed system log c.number c.owed

-- ---- what an entry makes of them

-- the loss of a cluster moves the process here, and it is a fullback
abbrev pub begins_wait : ClusterNo → ClusterNo → Placed → Bool
begins_wait lost here q = is_moved_here lost here q && is_full q.mode

-- the pids of those
abbrev pub pids_waiting : ClusterNo → ClusterNo → List Placed → List ℕ
pids_waiting lost here qs = map (λ (q : Placed). (q.pid).0) (filter (begins_wait lost here) qs)

-- more pids, each at its place in the rising order
abbrev pub with_pids : List ℕ → List ℕ → List ℕ
with_pids owed pids = fold (insert_key nat_cmp) owed pids

-- at a loss those wait too, by the places before it
abbrev pub waited : ClusterNo → Places → What → List ℕ → List ℕ
waited here before (Crash lost cause) owed = with_pids owed (pids_waiting lost here before.placed)
waited here before w owed = owed

-- those of them that are to get a backup, by the places
abbrev pub to_back : Places → List ℕ → List ℕ
to_back places owed = filter (λ n. is_some (next_backup_at places (pid_of n))) owed

-- At a loss, an exit and a new backup those wait no longer that are not to get one, by the places after it.
abbrev pub settled : Places → What → List ℕ → List ℕ
settled after (Crash lost cause) owed = to_back after owed
settled after (Exit pid at end) owed = to_back after owed
settled after (Rebackup to fresh recs) owed = to_back after owed
settled after w owed = owed

-- the whole
abbrev pub owed_after : ClusterNo → Places → What → List ℕ → List ℕ
owed_after here before w owed = settled (placed_after before w) w (waited here before w owed)
