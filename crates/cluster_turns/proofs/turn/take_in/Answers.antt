use Rattle.std.proofs.Common.{◌∙◌, subst, inl, inr}
use Rattle.t32_base.specs.declared.process.ClusterNo.{ClusterNo}
use Rattle.cluster_turns.specs.Turns.{LosesOwn}
use Rattle.cluster_turns.proofs.Staying.{same_lost, stays_longer}
use Rattle.cluster_turns.proofs.Growing.{grown_none}
use Rattle.cluster_turns.proofs.turn.take_in.Goals as goal

pub returns-then-branch-clause-ended : goal.returns-then-branch-clause-ended
returns-then-branch-clause-ended g c alone (inl over) = c.in_ok-lose.ensures.kept alone (inl over)
returns-then-branch-clause-ended g c alone (inr lost) = c.in_ok-lose.ensures.kept alone (inr (same_lost (g.P.Port.bus c.args.port.now).log c.args.cluster.now c.take_unnamed.new.cluster c.in_ok-take_unnamed.ensures.same.number c.in_ok-take_unnamed.ensures.life ∙ lost))

pub returns-then-branch-clause-own : goal.returns-then-branch-clause-own
returns-then-branch-clause-own g c stops alone own lives =
    let loses = c.in_ok-lose.ensures.own alone own (same_lost (g.P.Port.bus c.args.port.now).log c.args.cluster.now c.take_unnamed.new.cluster c.in_ok-take_unnamed.ensures.same.number c.in_ok-take_unnamed.ensures.life ∙ lives) in
    subst (λ (k : ClusterNo). LosesOwn k c.take_unnamed.new.cluster.cursor (g.P.Port.bus c.args.port.now) (g.P.Port.bus c.lose.new.self)) c.in_ok-take_unnamed.ensures.same.number loses

pub returns-then-branch-clause-life : goal.returns-then-branch-clause-life
returns-then-branch-clause-life g c =
    let grown = c.lose.ensures.grows in
    stays_longer c.args.cluster.now.number (g.P.Port.bus c.args.port.now).log (g.P.Port.bus c.lose.new.self).log grown.more c.args.cluster.now.cursor c.take_unnamed.new.cluster.cursor grown.log c.in_ok-take_unnamed.ensures.life

pub returns-then-branch-clause-lost : goal.returns-then-branch-clause-lost
returns-then-branch-clause-lost g c = same_lost (g.P.Port.bus c.args.port.now).log c.args.cluster.now c.take_unnamed.new.cluster c.in_ok-take_unnamed.ensures.same.number c.in_ok-take_unnamed.ensures.life

pub returns-clause-lost : goal.returns-clause-lost
returns-clause-lost g c = same_lost (g.P.Port.bus c.args.port.now).log c.args.cluster.now c.take_unnamed.new.cluster c.in_ok-take_unnamed.ensures.same.number c.in_ok-take_unnamed.ensures.life

pub returns-clause-grows : goal.returns-clause-grows
returns-clause-grows g c = grown_none (g.P.Port.bus c.args.port.now)
