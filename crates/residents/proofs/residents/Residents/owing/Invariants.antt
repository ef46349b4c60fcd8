use Rattle.std.proofs.Common.{◌≡◌, ◌++◌}
use Rattle.residents.specs.Owing.{owing_in}
use Rattle.residents.specs.Residents.{pids_in}
use Rattle.residents.proofs.residents.Residents.owing.Given as goal

-- what was found, and what those that are left get, is what all get
abbrev pub invariant-loop-pid : goal.invariant-loop-pid
invariant-loop-pid l = l.owing.entries ++ owing_in l.places l.pid-iterator ≡ owing_in l.places (pids_in l.self.here)
