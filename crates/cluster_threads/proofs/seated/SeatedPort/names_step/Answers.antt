use Rattle.std.proofs.Common.{◌∙◌, ap}
use Rattle.std.specs.Prelude.{◌==◌}
use Rattle.std.specs.List.{list_any}
use Rattle.bus_lock.specs.Seats.{seen}
use Rattle.cert_sched.specs.Losses.{has_step_left}
use Rattle.cluster_threads.proofs.seated.SeatedPort.names_step.Goals as goal

pub returns : goal.returns
returns g c =
    let p = c.args.self.now in
    let v = c.args.cluster.now in
    c.is_among.ensures ∙ (λ i. list_any (λ s. s == c.steps.ensures i) (c.deref.ensures.value i)) ∙ c.requires.shows.1 v.steps ∙ ap (λ k. has_step_left p.script.now (seen p.seat) k v.steps) c.requires.sits.2
