use Rattle.std.proofs.Common.{◌≡◌, ◌+◌, ◌<◌, ◌^◌, length, cond}
use Rattle.cert_sched.specs.Rules.{is_over}
use Rattle.cluster_turns.specs.Along.{AllAlong, IsOwned}
use Rattle.cluster_run.specs.Past.{AllPast}
use Rattle.cluster_run.specs.Stopped.{AreStopped}
use Rattle.cluster_run.proofs.Within.{left_to_do}
use Rattle.cluster_run.proofs.rounds.run_rounds.Given as goal

abbrev pub invariant-rounds : goal.invariant-rounds
invariant-rounds l = record {
  owned : IsOwned l.bus;
  along : AllAlong l.bus l.clusters;
  stopped : AreStopped l.bus l.clusters l.stopped;
  past : AllPast l.bus l.past.items l.clusters;
  some : 0 < length l.clusters;
  seed : l.seed < 2 ^ 31;
  system : l.bus.system ≡ l.fn.bus.system;
  script : l.bus.script ≡ l.fn.bus.script;
}

abbrev pub decreases-rounds : goal.decreases-rounds
decreases-rounds l = cond (is_over l.bus.system l.bus.log) 0 (left_to_do l.bus l.clusters + 1)
