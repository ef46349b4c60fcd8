-- Which processes are to get a new backup by where they are placed.
use Rattle.std.specs.Prelude.{ℕ, List, filter_map, option_map}
use Rattle.t32_base.specs.declared.process.Pid.{Pid}
use Rattle.t32_base.specs.declared.process.ClusterNo.{ClusterNo}
use Rattle.bus_msg.specs.Places.{Places}
use Rattle.bus_msg.specs.NewBackup.{next_backup_at}
use Rattle.plain_kernel.specs.Maps.{pid_of}
use Rattle.quanta.specs.declared.limits.Limits.{Limits}
use Rattle.residents.specs.Duty.{DutyView}
use Rattle.residents.specs.Held.{Held}
use Rattle.residents.specs.Residents.{pids_in}

-- of these pids those that get a new backup by where they are placed, each with its cluster
abbrev pub owing_in : Places → List ℕ → List (ℕ × ClusterNo)
owing_in places pids = filter_map (λ n. option_map (λ k. (n, k)) (next_backup_at places (pid_of n))) pids

-- these limits, and who gets a new backup of those that are here
abbrev pub duty_in : Limits → Places → List (Pid × Held) → DutyView
duty_in limits places here = record { limits = limits; owing = owing_in places (pids_in here) }
