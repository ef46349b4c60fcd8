use Rattle.std.proofs.Common.{◌≡◌}
use Rattle.residents.proofs.Owed.{AreReady}
use Rattle.residents.proofs.residents.Residents.owe.Given as goal

-- each of those that are to get a new backup is ready or still to come, and nothing else has changed
abbrev pub invariant-loop-pid : goal.invariant-loop-pid
invariant-loop-pid l = record {
  ready : AreReady (l.fn.owing).entries l.pid-iterator l.self.ready;
  here : l.self.here ≡ l.fn.self.here;
  last : l.self.last ≡ l.fn.self.last;
  duty : l.self.duty ≡ l.fn.self.duty;
}
