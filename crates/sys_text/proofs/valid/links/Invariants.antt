use Rattle.std.proofs.Common.{◌≡◌, ◌≤◌, take}
use Rattle.sys_text.specs.Valid.{links}
use Rattle.sys_text.proofs.valid.links.Given as goal

abbrev pub invariant-loop-chan : goal.invariant-loop-chan
invariant-loop-chan l = (l.count ≡ links (take l.chan-index l.chans) l.root) × (l.count ≤ l.chan-index)
