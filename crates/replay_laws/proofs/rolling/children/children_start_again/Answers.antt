use Rattle.sys_calls.specs.Fork.{fork_child}
use Rattle.roll_forward.specs.Rolling.{with_saved}
use Rattle.cert_sched.specs.Legal.{Stands}
use Rattle.replay_laws.proofs.rolling.ByRule.{itself, standing_always, standing_from_kept}
use Rattle.replay_laws.proofs.rolling.ForkedAgain.{child_starts}
use Rattle.replay_laws.proofs.rolling.children.children_start_again.Goals as goal

pub returns-clause-start : goal.returns-clause-start
returns-clause-start c system log parent s counts child births valid legal unended stateless rolls forks = child_starts Stands itself system log parent valid legal unended s counts child births stateless rolls forks

pub returns-clause-rolls : goal.returns-clause-rolls
returns-clause-rolls c system log parent s counts child births kept valid legal unended stateless rolls forks open_still is =
    standing_from_kept system log child (fork_child s child) kept valid legal open_still (child_starts Stands itself system log parent valid legal unended s counts child births stateless rolls forks) is

pub returns-clause-can : goal.returns-clause-can
returns-clause-can c system log parent s counts child births kept valid legal unended stateless rolls forks open_still is =
    standing_always system log child (with_saved (fork_child s child) kept.saved kept.next) kept.counts kept.births valid legal open_still
    (standing_from_kept system log child (fork_child s child) kept valid legal open_still (child_starts Stands itself system log parent valid legal unended s counts child births stateless rolls forks) is).rolls
