use Rattle.std.proofs.Common.{◌≡◌, ◌-◌, ◌≤◌, true}
use Rattle.std.specs.List.{list_any}
use Rattle.plain_kernel.specs.Maps.{at_key, pid_of}
use Rattle.residents.specs.ForkingAgain.{CanForkAgainAt, RollsAgain}
use Rattle.residents.proofs.residents.Residents.roll.Given as goal

-- so many steps were made again, and the process can make its further forks
abbrev pub invariant-parts : goal.invariant-parts
invariant-parts l = record {
  again : RollsAgain (pid_of l.pid) l.made l.fn.self.here l.self.here;
  few : l.made ≤ 64;
  forks : CanForkAgainAt l.self.here (pid_of l.pid);
  ready : list_any (at_key l.pid) l.self.ready ≡ true;
  same : l.made ≡ 0 → l.self.ready ≡ l.fn.self.ready;
  last : l.self.last ≡ l.fn.self.last;
  limits : l.self.duty ≡ l.fn.self.duty;
}

abbrev pub decreases-parts : goal.decreases-parts
decreases-parts l = 64 - l.made
