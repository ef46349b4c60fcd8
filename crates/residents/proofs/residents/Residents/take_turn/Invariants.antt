use Rattle.std.proofs.Common.{◌≡◌, length}
use Rattle.residents.proofs.residents.Residents.take_turn.Given as goal

-- the processes stand as they stood, none was chosen, and each round one is ready no more
abbrev pub invariant-choices : goal.invariant-choices
invariant-choices l = (l.self.here ≡ l.fn.self.here) × (l.self.last ≡ l.fn.self.last) × (l.self.duty ≡ l.fn.self.duty)

abbrev pub decreases-choices : goal.decreases-choices
decreases-choices l = length l.self.ready
