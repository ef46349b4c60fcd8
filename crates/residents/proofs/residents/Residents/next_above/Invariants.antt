use Rattle.std.proofs.Common.{◌≡◌, ◌&&◌, find}
use Rattle.std.specs.Prelude.{nat_lt}
use Rattle.residents.specs.ChildrenFirst.{is_free}
use Rattle.residents.proofs.residents.Residents.next_above.Given as goal

-- the first of those that are still to come is the first of all above the one that was chosen last
abbrev pub invariant-loop-pid : goal.invariant-loop-pid
invariant-loop-pid l = find (is_free l.self.duty l.family l.self.here) l.pid-iterator ≡ find (λ n. nat_lt l.self.last n && is_free l.self.duty l.family l.self.here n) l.self.ready
