-- The processes of a cluster that can move no more, and how far they have run.
use Rattle.std.specs.Prelude.{ℕ, ◌≡◌, Bool, true, false, not, ◌&&◌, ◌||◌, List, map, filter, is_none}
use Rattle.std.specs.List.{list_all}
use Rattle.std.specs.Option.{option_map_or}
use Rattle.t32_base.specs.declared.process.Pid.{Pid}
use Rattle.t32_base.specs.declared.process.ClusterNo.{ClusterNo}
use Rattle.sys_text.specs.declared.system.System.{System}
use Rattle.proc_state.specs.State.{ProcState, can_take}
use Rattle.sys_calls.specs.Next.{next_step, has_step}
use Rattle.bus_msg.specs.declared.entry.Entry.{Entry}
use Rattle.bus_msg.specs.declared.placed.Placed.{Placed}
use Rattle.bus_msg.specs.Places.{is_at_home}
use Rattle.bus_msg.specs.NewBackup.{next_backup}
use Rattle.cert_sched.specs.Parts.{rising}
use Rattle.cert_sched.specs.Schedule.{placement}
use Rattle.cert_sched.specs.Steps.{silent_upto}
use Rattle.cert_sched.specs.Kinds.{is_silent_rest}

-- the processes at home in a cluster that have not ended
abbrev pub placed_at_home : System → List Entry → ClusterNo → List Placed
placed_at_home system log k = filter (is_at_home k) (placement system log).placed

abbrev pub home_pids : System → List Entry → ClusterNo → List ℕ
home_pids system log k = map (λ (q : Placed). (q.pid).0) (placed_at_home system log k)

-- it has neither a step nor a take
abbrev pub is_idle : ProcState → Bool
is_idle s = not (has_step (next_step s) || can_take s)

-- silent steps lead the process to this count, and there it is idle
abbrev pub is_idle_at : System → List Entry → Pid × ℕ → Bool
is_idle_at system log r = is_silent_rest system log r && option_map_or is_idle (silent_upto system log r.0 r.1) false

-- none of them is owed a backup
abbrev pub owes_no_backup_at : System → List Entry → ClusterNo → Bool
owes_no_backup_at system log k = list_all (λ q. is_none (next_backup (placement system log) q)) (placed_at_home system log k)

-- Each process at home in the cluster that has not ended, once and rising, with a count at which it is idle; and none of them is owed a backup.
pub record IsRestOf (system : System) (log : List Entry) (k : ClusterNo) (rests : List (Pid × ℕ)) : Type 0 where
  pub named : map (λ (r : Pid × ℕ). (r.0).0) rests ≡ rising (home_pids system log k)
  pub idle : list_all (is_idle_at system log) rests ≡ true
  pub backed : owes_no_backup_at system log k ≡ true
