-- Two records are in order where the first has a state.
use Rattle.std.proofs.Common.{◌≡◌, true, [], ◌∷◌}
use Rattle.std.specs.Prelude.{is_some}
use Rattle.std.specs.List.Sorted.{IsStrictlySortedBy}
use Rattle.t32_base.specs.declared.letter.BackRec.{BackRec}
use Rattle.backup_mode.specs.Renewal.{AreInOrder}

pub two : (first child : BackRec) → is_some first.state ≡ true → AreInOrder (first ∷ child ∷ [])
unfolding IsStrictlySortedBy
two first child stated = (stated, (tt, tt))
