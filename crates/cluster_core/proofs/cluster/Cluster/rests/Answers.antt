use Rattle.std.proofs.Common.{◌≡◌, subst, true}
use Rattle.std.specs.Prelude.{IfOk, Some, None, if◌then◌else◌}
use Rattle.cluster_core.specs.View.{ClusterView, duty_of}
use Rattle.residents.specs.Duty.{DutyView}
use Rattle.residents.specs.Residents.{are_rising, are_settled, pids_in}
use Rattle.residents.specs.Told.{rests_in}
use Rattle.cluster_core.proofs.working.Resting.{told_rests}
use Rattle.cluster_core.proofs.cluster.Cluster.rests.Goals as goal
use Rattle.sys_text.specs.Valid.{is_system}

pub returns-clause-rests : goal.returns-clause-rests
returns-clause-rests g c =
    let by = subst (λ (d : DutyView). IfOk c.rests.result (λ rests. rests ≡ (if are_settled d c.self.inside.here.here then Some (rests_in c.self.inside.here.here) else None))) c.self.invariant.duty_are c.rests.ensures.rests in
    subst (λ (v : ClusterView). IfOk c.rests.result (λ rests. rests ≡ (if are_settled (duty_of v) v.here then Some (rests_in v.here) else None))) c.self.view_is by

pub returns-clause-idle : goal.returns-clause-idle
returns-clause-idle g c =
    let ordered = subst (λ (v : ClusterView). are_rising (pids_in v.here) ≡ true) c.self.view_is c.rests.ensures.ordered in
    told_rests c.args.self.now c.rests.result (subst (λ (v : ClusterView). is_system v.system ≡ true) c.self.view_is c.self.invariant.valid) ordered (returns-clause-rests g c)
