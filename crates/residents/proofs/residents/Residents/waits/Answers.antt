use Rattle.std.proofs.Common.{◌∙◌, ap, sym}
use Rattle.residents.specs.Residents.{ResidentsView}
use Rattle.residents.specs.Slots.{stands_in}
use Rattle.residents.specs.Asking.{any_waits}
use Rattle.residents.proofs.Told.{none_waits}
use Rattle.residents.proofs.residents.Residents.waits.Goals as goal

pub returns-then-is_some : goal.returns-then-is_some
returns-then-is_some c =
    sym (none_waits c.self.inside.duty (stands_in c.self.inside.residents c.self.inside.keys.entries) c.self.inside.told c.self.invariant.1 (sym c.is_some.ensures ∙ c.if-is_some.true))
    ∙ ap (λ (v : ResidentsView). any_waits v.here) c.self.view_is
