use Rattle.std.proofs.Common.{take}
use Rattle.withheld.specs.Walks.{HasWalked}
use Rattle.withheld.proofs.withheld.Given as goal

abbrev pub invariant-loop-entry : goal.invariant-loop-entry
invariant-loop-entry l = HasWalked l.system (take l.entry-index l.log) l.walk
