use Rattle.std.proofs.Common.{◌≡◌, take}
use Rattle.plain_kernel.specs.Maps.{booted_ttys}
use Rattle.plain_kernel.proofs.booting.ttys_of.Given as goal

abbrev pub invariant-loop-root : goal.invariant-loop-root
invariant-loop-root l = l.ttys.entries ≡ booted_ttys (take l.root-index l.roots)
