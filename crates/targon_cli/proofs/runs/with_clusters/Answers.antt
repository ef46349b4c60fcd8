use Rattle.std.proofs.Common.{◌≡◌, ◌∙◌, sym, false}
use Rattle.targon_cli.specs.Reply.{has_clusters_of}
use Rattle.targon_cli.proofs.runs.with_clusters.Goals as goal

pub returns-in_ok-no_cluster-clause-why : goal.returns-in_ok-no_cluster-clause-why
returns-in_ok-no_cluster-clause-why c = λ lines.
    let lacks : has_clusters_of c.args.script.now c.args.system ≡ false = sym c.allowed.ensures ∙ c.if-allowed.false in
    rw lacks (c.in_ok-no_cluster.ensures.makes.0, c.in_ok-no_cluster.ensures.why)
