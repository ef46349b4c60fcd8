use Rattle.std.proofs.Common.{◌≡◌, ◌≤◌, ◌-◌, take, drop, false}
use Rattle.cluster_core.specs.Known.{IsKnown}
use Rattle.script_laws.specs.Off.{has_returned_in}
use Rattle.cluster_run.proofs.beginning.known_at_return.Given as goal

-- what is known is that of the log up to the place, and no entry before that brings the cluster back
abbrev pub invariant-loop-place : goal.invariant-loop-place
invariant-loop-place l = record {
  low : (l.cluster).cursor ≤ l.place;
  known : IsKnown (l.bus).system (take l.place (l.bus).log) (l.known).places (l.known).family;
  none : has_returned_in (take (l.place - (l.cluster).cursor) (drop (l.cluster).cursor (l.bus).log)) (l.cluster).number ≡ false;
}
