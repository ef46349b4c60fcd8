use Rattle.std.proofs.Common.{◌≡◌, ◌*◌, ◌≤◌, take}
use Rattle.sys_text.specs.Valid.{births_of}
use Rattle.sys_text.proofs.valid.births.Given as goal

abbrev pub invariant-loop-root : goal.invariant-loop-root
invariant-loop-root l = (l.total ≡ births_of (take l.root-index l.roots)) × (l.total ≤ 256 * l.root-index)
