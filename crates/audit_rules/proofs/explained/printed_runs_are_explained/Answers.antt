use Rattle.cert_sched.specs.Legal.{MayFollow}
use Rattle.audit_rules.proofs.Printed.{printed_explained}
use Rattle.audit_rules.proofs.explained.printed_runs_are_explained.Goals as goal

pub returns : goal.returns
returns c = printed_explained MayFollow
