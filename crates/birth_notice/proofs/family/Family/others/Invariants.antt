use Rattle.std.proofs.Common.{◌≡◌, take}
use Rattle.birth_notice.specs.Joined.{others_of}
use Rattle.birth_notice.proofs.family.Family.others.Given as goal

-- the others among the births before the index
abbrev pub invariant-loop-birth : goal.invariant-loop-birth
invariant-loop-birth l = (l.others).keys ≡ others_of (take l.birth-index l.birth-items) l.pid
