-- What the processes of a cluster owe beside their steps: a synchronisation where they are due, and the new backup that some are to get.
use Rattle.std.specs.Prelude.{ℕ, Bool, ◌&&◌, ◌||◌, if◌then◌else◌, List, Option, None, is_some}
use Rattle.std.specs.Map.{lookup}
use Rattle.t32_base.specs.declared.process.Pid.{Pid}
use Rattle.t32_base.specs.declared.process.ClusterNo.{ClusterNo}
use Rattle.plain_kernel.specs.Maps.{at_key}
use Rattle.quanta.specs.declared.limits.Limits.{Limits}
use Rattle.residents.specs.Held.{Held, can_act, is_running, runs_at}

-- the limits by which they synchronise, and the pids of those that are to get a new backup once they run, each with its cluster
pub record DutyView : Type 0 where
  pub limits : Limits
  pub owing : List (ℕ × ClusterNo)

-- the cluster that a process is to get as its new backup
abbrev pub backup_owed : DutyView → Pid → Option ClusterNo
backup_owed duty p = lookup (at_key p.0) duty.owing

-- one that runs is to get one
abbrev pub is_owed : DutyView → Pid × Held → Bool
is_owed duty e = is_some (backup_owed duty e.0) && is_running e.1

-- the same of the process with a pid: the cluster that it is to get now
abbrev pub owed_at : DutyView → List (Pid × Held) → Pid → Option ClusterNo
owed_at duty here p = if runs_at here p then backup_owed duty p else None

-- a process that is here can have a turn by itself: it is to get a new backup, or can move
abbrev pub is_able : DutyView → Pid × Held → Bool
is_able duty e = is_owed duty e || can_act duty.limits e.1
