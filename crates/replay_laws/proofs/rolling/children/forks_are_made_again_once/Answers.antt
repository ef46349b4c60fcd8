use Rattle.cert_sched.specs.Legal.{Stands}
use Rattle.replay_laws.proofs.rolling.ByRule.{itself}
use Rattle.replay_laws.proofs.rolling.ForkedAgain.{forked_once_only, unsynced_left}
use Rattle.replay_laws.proofs.rolling.children.forks_are_made_again_once.Goals as goal

pub returns-clause-left : goal.returns-clause-left
returns-clause-left c system log parent s counts child births valid legal born unsynced rolls = unsynced_left Stands itself system log parent valid legal s counts child births born unsynced rolls

pub returns-clause-once : goal.returns-clause-once
returns-clause-once c system log parent s counts child births valid legal unended rolls = forked_once_only Stands itself system log parent valid legal unended s counts child births rolls
