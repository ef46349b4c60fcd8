use Rattle.cluster_run.specs.Left.{IsUpto}
use Rattle.cluster_run.specs.Past.{InSameLives}
use Rattle.cluster_run.proofs.leaving.take_all_in.Given as goal

abbrev pub invariant-loop-number : goal.invariant-loop-number
invariant-loop-number l = record {
  upto : IsUpto l.bus l.number l.clusters;
  lives : InSameLives l.bus.log l.initial.clusters l.clusters;
}
