use Rattle.std.proofs.Common.{◌≡◌, find}
use Rattle.residents.specs.ChildrenFirst.{is_free}
use Rattle.residents.proofs.residents.Residents.lowest_free.Given as goal

-- the first of those that are still to come is the first of all
abbrev pub invariant-loop-pid : goal.invariant-loop-pid
invariant-loop-pid l = find (is_free l.self.duty l.family l.self.here) l.pid-iterator ≡ find (is_free l.self.duty l.family l.self.here) l.self.ready
