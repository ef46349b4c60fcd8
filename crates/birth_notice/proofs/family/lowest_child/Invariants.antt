use Rattle.std.proofs.Common.{◌≡◌, take}
use Rattle.birth_notice.specs.Family.{children_of, lowest}
use Rattle.birth_notice.proofs.family.lowest_child.Given as goal

abbrev pub invariant-loop-birth : goal.invariant-loop-birth
invariant-loop-birth l = l.lowest ≡ lowest (children_of (take l.birth-index l.births) l.parent)
