use Rattle.std.proofs.Common.{◌≡◌, subst, true}
use Rattle.residents.specs.Residents.{ResidentsView, are_rising, pids_in}
use Rattle.residents.proofs.Kept.{rising_here}
use Rattle.residents.proofs.residents.Residents.rests.Goals as goal

pub returns-in_err-copy-in-Some-clause-ordered : goal.returns-in_err-copy-in-Some-clause-ordered
returns-in_err-copy-in-Some-clause-ordered c = subst (λ (v : ResidentsView). are_rising (pids_in v.here) ≡ true) c.self.view_is (rising_here c.self.inside.duty c.self.inside.residents c.self.inside.keys.entries c.self.inside.ready.keys c.self.inside.asking.keys c.self.invariant.0)

pub returns-in_ok-copy-in-Some-clause-ordered : goal.returns-in_ok-copy-in-Some-clause-ordered
returns-in_ok-copy-in-Some-clause-ordered c = subst (λ (v : ResidentsView). are_rising (pids_in v.here) ≡ true) c.self.view_is (rising_here c.self.inside.duty c.self.inside.residents c.self.inside.keys.entries c.self.inside.ready.keys c.self.inside.asking.keys c.self.invariant.0)

pub returns-in-None-clause-ordered : goal.returns-in-None-clause-ordered
returns-in-None-clause-ordered c = subst (λ (v : ResidentsView). are_rising (pids_in v.here) ≡ true) c.self.view_is (rising_here c.self.inside.duty c.self.inside.residents c.self.inside.keys.entries c.self.inside.ready.keys c.self.inside.asking.keys c.self.invariant.0)
