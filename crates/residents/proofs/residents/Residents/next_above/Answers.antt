use Rattle.std.proofs.Common.{◌∙◌, ◌&&◌, ap, find, sym}
use Rattle.std.specs.Prelude.{nat_lt}
use Rattle.residents.specs.ChildrenFirst.{is_free}
use Rattle.residents.specs.Residents.{ResidentsView, are_rising}
use Rattle.residents.proofs.Kept.{above_in, in_order}
use Rattle.residents.proofs.residents.Residents.next_above.Goals as goal

pub loop-pid-init : goal.loop-pid-init
loop-pid-init c =
    ap (find (is_free c.args.self.now.duty c.args.family.now c.args.self.now.here)) c.into_iter-pid-iterator.ensures.into_iter_gives
    ∙ above_in (is_free c.args.self.now.duty c.args.family.now c.args.self.now.here) c.self.inside.ready.keys c.range-pid-items.result c.self.inside.last (c.range-pid-items.ensures.between tt)
    ∙ ap (λ (v : ResidentsView). find (λ n. nat_lt v.last n && is_free c.args.self.now.duty c.args.family.now c.args.self.now.here n) v.ready) c.self.view_is

pub returns-then-not-is_hindered-clause-ordered : goal.returns-then-not-is_hindered-clause-ordered
returns-then-not-is_hindered-clause-ordered c = ap (λ (v : ResidentsView). are_rising v.ready) (sym c.self.view_is) ∙ in_order c.self.inside.ready.keys c.range-pid-items.ensures.ordered

pub returns-clause-ordered : goal.returns-clause-ordered
returns-clause-ordered c = ap (λ (v : ResidentsView). are_rising v.ready) (sym c.self.view_is) ∙ in_order c.self.inside.ready.keys c.range-pid-items.ensures.ordered
