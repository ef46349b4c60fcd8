-- The pids that a cluster keeps of the processes that wait for their new backup go on with the log.
use Rattle.std.proofs.Common.{◌≡◌, ℕ, refl, subst, sym, List, [], ◌∷◌, ◌++◌, true, false}
use Rattle.t32_base.specs.declared.process.ClusterNo.{ClusterNo}
use Rattle.sys_text.specs.declared.system.System.{System}
use Rattle.sys_text.specs.Valid.{is_system}
use Rattle.bus_msg.specs.declared.entry.Entry.{Entry}
use Rattle.bus_msg.specs.Places.{Places}
use Rattle.bus_msg.specs.PlacedAfter.{what}
use Rattle.bus_msg.specs.declared.entry.What.{What}
use Rattle.cert_sched.specs.Legal.{MayStand}
use Rattle.cert_sched.specs.Rules.{tells_or_closes}
use Rattle.cert_sched.specs.Losses.{is_crash_of}
use Rattle.cert_sched.specs.Schedule.{placement}
use Rattle.log_laws.proofs.records.Standing.{all_stand}
use Rattle.cluster_core.specs.Follows.{IsOpen}
use Rattle.cluster_core.specs.Owed.{AreOwed, owed_after}
use Rattle.cluster_core.proofs.absorbing.ByKind.{by_kind}
use Rattle.cluster_core.proofs.awaiting.Waiting.{owed_follow}

pub owed_next : (system : System) (log : List Entry) (e : Entry) (k : ClusterNo) (before : Places) (owed : List ℕ) → is_system system ≡ true → IsOpen MayStand system (log ++ e ∷ [])
    → before ≡ placement system log → is_crash_of k (what e) ≡ false → AreOwed system log k owed → AreOwed system (log ++ e ∷ []) k (owed_after k before (what e) owed)
owed_next system log e k before owed valid next there spared are =
    subst (λ places. AreOwed system (log ++ e ∷ []) k (owed_after k places (what e) owed)) (sym there) (owed_follow system log e k valid (all_stand system (log ++ e ∷ []) next.0) owed spared are)

-- what tells or closes loses no cluster
pub told_spares : (k : ClusterNo) (w : What) → tells_or_closes w ≡ true → is_crash_of k w ≡ false
told_spares k = by_kind (λ w. is_crash_of k w ≡ false) (λ at letter. refl) (λ pid at end. refl) (λ rests. refl) refl
