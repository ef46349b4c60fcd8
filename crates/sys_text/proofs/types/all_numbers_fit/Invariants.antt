use Rattle.std.proofs.Common.{◌≡◌, true, take}
use Rattle.sys_text.specs.Types.{have_numbers}
use Rattle.sys_text.proofs.types.all_numbers_fit.Given as goal

abbrev pub invariant-loop-root : goal.invariant-loop-root
invariant-loop-root l = have_numbers (take l.root-index l.roots) ≡ true
