-- An entry that comes between the posts of a batch.
use Rattle.std.specs.Prelude.{◌≡◌, true, false, List, [], ◌∷◌, ◌++◌, Some}
use Rattle.t32_base.specs.declared.process.Pid.{Pid}
use Rattle.t32_base.specs.declared.process.ClusterNo.{ClusterNo}
use Rattle.sys_text.specs.declared.system.System.{System}
use Rattle.sys_text.specs.Valid.{is_system}
use Rattle.bus_msg.specs.declared.entry.By.TheVariants.{Cluster}
use Rattle.bus_msg.specs.declared.entry.Entry.{Entry}
use Rattle.bus_msg.specs.PlacedAfter.{what}
use Rattle.cert_sched.specs.Schedule.{placement}
use Rattle.cert_sched.specs.Deeds.{deeds_in}
use Rattle.cert_sched.specs.Rules.{is_by_home, is_over}
use Rattle.cert_sched.specs.Legal.{IsLegalBy, Stands}
use Rattle.checkpoint_laws.specs.marks.Beside.{LeavesMarks}

-- In a log of a system in which each entry stands it stands next. It leaves the marks of the process and tells nothing that it did; the log goes on after it, and the
-- process is still at its home k, which lives.
pub record ComesBetween (system : System) (log : List Entry) (e : Entry) (k : ClusterNo) (p : Pid) : Type 0 where
  pub valid : is_system system ≡ true
  pub legal : IsLegalBy Stands system log
  pub stands : Stands system log e
  pub leaves : LeavesMarks system log e p
  pub no_deeds : deeds_in p (what e) ≡ []
  pub goes_on : is_over system (log ++ e ∷ []) ≡ false
  pub home : is_by_home (placement system (log ++ e ∷ [])) (Cluster k) (Some p) ≡ true
