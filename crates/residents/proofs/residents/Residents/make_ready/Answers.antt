use Rattle.std.proofs.Common.{◌∙◌, ap}
use Rattle.std.specs.List.{list_any}
use Rattle.plain_kernel.specs.Maps.{at_key}
use Rattle.residents.specs.Residents.{ResidentsView}
use Rattle.residents.proofs.Kept.{puts_more, ready_put}
use Rattle.residents.proofs.residents.Residents.make_ready.Goals as goal

pub invariant_of-self-2 : goal.invariant_of-self-2
invariant_of-self-2 c = (ready_put c.self.inside.duty c.self.inside.residents c.self.inside.keys.entries c.args.pid c.self.inside.ready.keys c.insert.new.self.keys c.self.inside.asking.keys c.in_ok-insert.ensures.updates.0 c.self.invariant.0, c.self.invariant.1)

pub returns-clause-others : goal.returns-clause-others
returns-clause-others c = λ n listed. puts_more c.args.pid c.self.inside.ready.keys c.insert.new.self.keys c.in_ok-insert.ensures.updates.0 n (ap (λ (v : ResidentsView). list_any (at_key n) v.ready) c.self.view_is ∙ listed)
