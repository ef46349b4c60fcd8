use Rattle.std.proofs.Common.{◌≡◌, subst, true}
use Rattle.residents.specs.Residents.{ResidentsView, are_rising, pids_in}
use Rattle.residents.proofs.Kept.{rising_here}
use Rattle.residents.proofs.residents.Residents.owed.Goals as goal

pub returns-in_err-to-clause-ordered : goal.returns-in_err-to-clause-ordered
returns-in_err-to-clause-ordered c = subst (λ (v : ResidentsView). are_rising (pids_in v.here) ≡ true) c.self.view_is (rising_here c.self.inside.duty c.self.inside.residents c.self.inside.keys.entries c.self.inside.ready.keys c.self.inside.asking.keys c.self.invariant.0)
