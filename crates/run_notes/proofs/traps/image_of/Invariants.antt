use Rattle.std.proofs.Common.{◌≡◌, length}
use Rattle.run_notes.specs.Traps.{image_at, image_of}
use Rattle.run_notes.proofs.traps.image_of.Given as goal

abbrev pub invariant-roots : goal.invariant-roots
invariant-roots l = image_at l.rest l.pid l.left ≡ image_of l.roots l.pid

abbrev pub decreases-roots : goal.decreases-roots
decreases-roots l = length l.rest
