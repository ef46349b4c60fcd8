use Rattle.std.proofs.Common.{◌≡◌, length}
use Rattle.residents.proofs.residents.Residents.ask.Given as goal

-- the processes stand as they stood, none was chosen, and each round one asks no more
abbrev pub invariant-processes : goal.invariant-processes
invariant-processes l = (l.self.here ≡ l.fn.self.here) × (l.self.last ≡ l.fn.self.last) × (l.self.duty ≡ l.fn.self.duty)

abbrev pub decreases-processes : goal.decreases-processes
decreases-processes l = length l.self.asking
