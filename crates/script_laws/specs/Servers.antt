-- A page server that is left.
use Rattle.std.specs.Prelude.{◌≡◌, ◌<◌, true, List, Some}
use Rattle.t32_base.specs.declared.process.ClusterNo.{ClusterNo}
use Rattle.sys_text.specs.declared.system.System.{System}
use Rattle.bus_msg.specs.declared.entry.Entry.{Entry}
use Rattle.bus_msg.specs.Places.{lives_in, servers_in}
use Rattle.cert_sched.specs.Parts.{first_of}
use Rattle.cert_sched.specs.Schedule.{placement}

-- There is a first page server after the log: it is a cluster of the system, and lives.
pub record HasServer (system : System) (log : List Entry) : Type 0 where
  pub server : ClusterNo
  pub first : first_of (servers_in (placement system log)) ≡ Some server
  pub within : server.0 < system.clusters
  pub lives : lives_in (placement system log) server ≡ true
