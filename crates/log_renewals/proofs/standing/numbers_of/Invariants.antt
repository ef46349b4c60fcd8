use Rattle.std.proofs.Common.{◌≡◌, ◌∷◌, ◌++◌}
use Rattle.log_renewals.proofs.standing.numbers_of.Given as goal

-- those so far, and those that are left, are all
abbrev pub invariant-loop-other : goal.invariant-loop-other
invariant-loop-other l = l.numbers.items ++ l.other-iterator ≡ ((l.fn).pid).0 ∷ (l.others).keys
