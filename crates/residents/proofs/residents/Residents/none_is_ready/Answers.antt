use Rattle.std.proofs.Common.{rules, ◌≡◌, ◌∙◌, ap, sym, length}
use Rattle.residents.specs.Residents.{ResidentsView, none_has_turn}
use Rattle.residents.proofs.Choosing.{none_next}
use Rattle.residents.proofs.Free.{none_where_empty}
use Rattle.residents.proofs.residents.Residents.none_is_ready.Goals as goal

pub returns : goal.returns
returns c empty family =
    let none : length c.self.inside.ready.keys ≡ 0 = search (rules, c.is_empty.ensures, empty) in
    ap (λ (v : ResidentsView). none_has_turn v.duty family v.here) (sym c.self.view_is)
    ∙ none_next c.self.inside.duty family c.self.inside.residents c.self.inside.keys.entries c.self.inside.ready.keys c.self.inside.asking.keys c.self.inside.last c.self.invariant.0 (none_where_empty _ c.self.inside.ready.keys c.self.inside.last none)
