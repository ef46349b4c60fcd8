use Rattle.std.proofs.Common.{◌≡◌}
use Rattle.std.specs.Option.{unwrap_or}
use Rattle.birth_notice.specs.Family.{first_unsynced}
use Rattle.birth_notice.proofs.WalkLaws.{left}
use Rattle.birth_notice.proofs.family.first_from.Given as goal

abbrev pub invariant-loop-below : goal.invariant-loop-below
invariant-loop-below l = unwrap_or (first_unsynced l.births l.first) l.first ≡ unwrap_or (first_unsynced l.births l.fn.child) l.fn.child

abbrev pub decreases-loop-below : goal.decreases-loop-below
decreases-loop-below l = left l.births l.first
