use Rattle.audited_log.proofs.Walking.{of_start}
use Rattle.audited_log.proofs.state.AuditedLog.start.Goals as goal

pub returns-clause-some : goal.returns-clause-some
returns-clause-some c = of_start c.args.system.now (record { common = c.in_ok-start.field-0; processes = c.in_ok-start-2.field-0 }) c.requires.valid (record {
  common = c.in_ok-start.ensures;
  processes = λ runs. c.in_ok-start-2.ensures;
})
