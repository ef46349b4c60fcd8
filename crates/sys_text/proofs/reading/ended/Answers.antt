use Rattle.std.proofs.Common.{sym, ◌∙◌}
use Rattle.sys_text.specs.declared.refusal.Rule.TheVariants.{Ended}
use Rattle.sys_text.proofs.Stepping.{ended_early}
use Rattle.sys_text.proofs.reading.ended.Goals as goal

pub returns-else-may_end : goal.returns-else-may_end
returns-else-may_end c = (Ended, ended_early c.args.state.stage c.args.state.system c.args.lines c.last_line.result (sym c.may_end.ensures ∙ c.if-may_end.false) c.last_line.ensures, c.number.ensures)
