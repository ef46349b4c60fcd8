use Rattle.std.proofs.Common.{◌≡◌, subst, sym, ap, ◌∙◌, true}
use Rattle.cluster_core.specs.View.{ClusterView, next_count, tried_once}
use Rattle.cluster_core.specs.Calls.{GoesOn}
use Rattle.cluster_core.proofs.working.Working.{goes_on_tried}
use Rattle.cluster_core.proofs.cluster.Cluster.tried.Goals as goal

pub returns-clause-follows : goal.returns-clause-follows
returns-clause-follows g c =
    let old : ClusterView = c.args.self.now in
    let whole : c.count_step.new.self ≡ tried_once old = c.count_step.ensures ∙ ap (λ (v : ClusterView). record v { tried = true; steps = next_count v.steps }) c.self.view_is in
    subst (GoesOn old) (sym whole) (goes_on_tried old)
