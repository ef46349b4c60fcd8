use Rattle.std.proofs.Common.{◌≡◌, take, Some}
use Rattle.plain_kernel.specs.Kernel.{boot}
use Rattle.plain_kernel.specs.Apply.{apply_all}
use Rattle.plain_kernel.proofs.plain.run.Given as goal

abbrev pub invariant-loop-index : goal.invariant-loop-index
invariant-loop-index l = apply_all (take l.index l.items) (boot l.system) ≡ Some l.plain
