use Rattle.std.proofs.Common.{◌≡◌, ◌∷◌, take}
use Rattle.log_renewals.proofs.standing.named.Given as goal

-- the process and those before the index
abbrev pub invariant-loop-other : goal.invariant-loop-other
invariant-loop-other l = l.named.items ≡ ((l.fn).pid).0 ∷ take l.other-index l.others
