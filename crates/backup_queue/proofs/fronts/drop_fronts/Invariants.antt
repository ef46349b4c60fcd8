use Rattle.std.proofs.Common.{ℕ, ◌<◌}
use Rattle.backup_queue.specs.Fronts.{Drops, NoneReadOn}
use Rattle.backup_queue.proofs.fronts.drop_fronts.Given as goal

abbrev pub invariant-loop-end : goal.invariant-loop-end
invariant-loop-end l = record {
  drops : Drops l.read l.fn.saved l.saved;
  none : (end : ℕ) → end < l.end → NoneReadOn l.read end (l.saved).letters;
}
