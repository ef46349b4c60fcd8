use Rattle.cert_sched.specs.Legal.{MayFollow, MayStand}
use Rattle.log_laws.proofs.records.Standing.{legal_stands}
use Rattle.log_laws.proofs.records.one_entry.legal_logs_stand.Goals as goal

pub returns-clause-legal : goal.returns-clause-legal
returns-clause-legal c = legal_stands MayFollow (λ system log e may. may.stands)

pub returns-clause-standing : goal.returns-clause-standing
returns-clause-standing c = legal_stands MayStand (λ system log e may. may.stands)
