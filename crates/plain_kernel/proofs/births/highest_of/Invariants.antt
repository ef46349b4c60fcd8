use Rattle.std.proofs.Common.{◌≡◌, fold}
use Rattle.std.specs.BTreeMap.{keys}
use Rattle.plain_kernel.specs.Maps.{higher_key}
use Rattle.plain_kernel.proofs.births.highest_of.Given as goal

abbrev pub invariant-loop-other : goal.invariant-loop-other
invariant-loop-other l = fold (higher_key l.pid) l.highest l.other-iterator ≡ fold (higher_key l.pid) l.pid (keys l.processes)
