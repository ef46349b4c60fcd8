use Rattle.std.proofs.Common.{◌≡◌, ◌≤◌, ◌⊎◌, length}
use Rattle.cluster_turns.specs.Along.{AllAlong, IsOwned}
use Rattle.cluster_run.specs.Past.{AllPast}
use Rattle.cluster_run.specs.Stopped.{AreStopped}
use Rattle.cluster_turns.specs.Progress.{GetsOn, IsAtMost, IsOver, remaining}
use Rattle.cluster_run.proofs.rounds.give_turns.Given as goal

abbrev pub invariant-loop-number : goal.invariant-loop-number
invariant-loop-number l = record {
  owned : IsOwned l.bus;
  along : AllAlong l.bus l.clusters;
  stopped : AreStopped l.bus l.clusters l.stopped;
  past : AllPast l.bus l.past.items l.clusters;
  within : l.upto ≤ length l.clusters;
  system : l.bus.system ≡ l.fn.bus.system;
  script : l.bus.script ≡ l.fn.bus.script;
  over : IsOver l.fn.bus → IsOver l.bus;
  lasts : IsOver l.bus ⊎ IsAtMost (remaining l.fn.bus l.initial.clusters) (remaining l.bus l.clusters);
  gets_on : GetsOn l.fn.bus l.bus (remaining l.fn.bus l.initial.clusters) (remaining l.bus l.clusters) l.from l.number;
}
