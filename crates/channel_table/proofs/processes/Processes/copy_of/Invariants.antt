use Rattle.std.proofs.Common.{◌≡◌, take}
use Rattle.channel_table.proofs.processes.Processes.copy_of.Given as goal

abbrev pub invariant-loop-one : goal.invariant-loop-one
invariant-loop-one l = l.processes ≡ take l.one-index l.placed
