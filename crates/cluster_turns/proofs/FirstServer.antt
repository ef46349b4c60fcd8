-- While a log goes on a page server is left: the first of them is a cluster of the system, and is not off.
use Rattle.std.proofs.Common.{◌≡◌, ℕ, ◌<◌, refl, ◌∙◌, ap, List, true, false, eq-eqb, None, Some}
use Rattle.t32_base.specs.declared.process.ClusterNo.{ClusterNo}
use Rattle.sys_text.specs.declared.system.System.{System}
use Rattle.sys_text.specs.Valid.{is_system}
use Rattle.bus_msg.specs.declared.entry.By.TheVariants.{Cluster}
use Rattle.bus_msg.specs.declared.entry.Entry.{Entry}
use Rattle.bus_msg.specs.Places.{cluster_no, servers_in}
use Rattle.cert_sched.specs.Parts.{first_of}
use Rattle.cert_sched.specs.Schedule.{placement}
use Rattle.cert_sched.specs.Rules.{is_by, is_over}
use Rattle.cert_sched.specs.Legal.{IsLegalBy, MayStand}
use Rattle.cert_sched.proofs.ServerLaws.{first_server, servers_live}
use Rattle.bus_order.specs.Script.{off_at}
use Rattle.script_laws.proofs.OffLosses.{all_stand}
use Rattle.script_laws.proofs.OffSince.{lives_on}
use Rattle.script_laws.proofs.ServersLeft.{server_left}

-- it is not off
pub first_lives : (system : System) (log : List Entry) (k : ClusterNo) → IsLegalBy MayStand system log → first_of (servers_in (placement system log)) ≡ Some k → off_at log k ≡ None
first_lives system log k legal first =
    let stands = all_stand system log legal in
    lives_on system log k stands (servers_live system log k (first_server (placement system log) k (ap (is_by (Cluster k)) first ∙ eq-eqb k.0 k.0 refl)))

-- the first of the servers that are left
pub record FirstServer (system : System) (log : List Entry) : Type 0 where
  pub number : ℕ
  pub first : first_of (servers_in (placement system log)) ≡ Some (cluster_no number)
  pub within : number < system.clusters
  pub lives : off_at log (cluster_no number) ≡ None

-- where a log goes on there is one
pub first_there : (system : System) (log : List Entry) → is_system system ≡ true → IsLegalBy MayStand system log → is_over system log ≡ false → FirstServer system log
first_there system log valid legal goes =
    let left = server_left system log valid (all_stand system log legal) goes in
    record { number = (left.server).0; first = left.first; within = left.within; lives = first_lives system log left.server legal left.first }
