use Rattle.std.proofs.Common.{◌≡◌, ◌++◌}
use Rattle.std.specs.Map.{keys_of}
use Rattle.audited_log.proofs.processes.numbers_of.Given as goal

-- those that are taken, and those that are left
abbrev pub invariant-loop-pid : goal.invariant-loop-pid
invariant-loop-pid l = l.numbers.items ++ l.pid-iterator ≡ keys_of l.processes.entries
