use Rattle.std.proofs.Common.{◌≤◌, length}
use Rattle.backup_queue.specs.Fronts.{Drops}
use Rattle.backup_queue.proofs.fronts.drop_on.Given as goal

abbrev pub invariant-loop-place : goal.invariant-loop-place
invariant-loop-place l = record {
  within : l.from ≤ length l.read;
  drops : Drops l.read l.fn.saved l.saved;
}

abbrev pub decreases-loop-place : goal.decreases-loop-place
decreases-loop-place l = length (l.saved).letters
