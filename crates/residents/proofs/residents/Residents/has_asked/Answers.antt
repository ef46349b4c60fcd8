use Rattle.std.proofs.Common.{◌+◌, ◌∙◌, ap, sym, cond, length}
use Rattle.std.specs.List.{list_any}
use Rattle.plain_kernel.specs.Maps.{at_key, pid_of}
use Rattle.residents.specs.Residents.{ResidentsView, lacks_none_at}
use Rattle.residents.proofs.Kept.{kept_asked}
use Rattle.residents.proofs.residents.Residents.has_asked.Goals as goal

pub invariant_of-self : goal.invariant_of-self
invariant_of-self c = (
  kept_asked c.self.inside.duty c.self.inside.residents c.args.pid c.self.inside.keys.entries c.self.inside.ready.keys c.self.inside.asking.keys c.remove.new.self.keys
      (ap (λ (v : ResidentsView). lacks_none_at (pid_of c.args.pid) v.here) c.self.view_is ∙ c.requires.lacks) (λ q other. c.remove.ensures.updates.2 q other) c.self.invariant.0,
  c.self.invariant.1,
)

pub returns-clause-fewer : goal.returns-clause-fewer
returns-clause-fewer c =
    let there = c.remove.ensures.test ∙ ap (λ (v : ResidentsView). list_any (at_key c.args.pid) v.asking) c.self.view_is ∙ c.requires.there in
    ap (λ b. length c.remove.new.self.keys + cond b 1 0) (sym there) ∙ c.remove.ensures.len ∙ ap (λ (v : ResidentsView). length v.asking) c.self.view_is
