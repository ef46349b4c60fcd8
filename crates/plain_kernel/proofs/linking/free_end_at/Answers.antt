use Rattle.std.proofs.Common.{sym, ◌∙◌}
use Rattle.plain_kernel.proofs.Channels.{free_there, free_nowhere}
use Rattle.plain_kernel.proofs.linking.free_end_at.Goals as goal

pub returns-in_err-get : goal.returns-in_err-get
returns-in_err-get c = c.from_residual.ensures ∙ free_nowhere c.args.pid c.args.starts.now.entries (sym c.in_err-get.ensures.value)

pub returns : goal.returns
returns c = c.free_end.ensures ∙ free_there c.args.pid c.args.starts.now.entries c.in_ok-get.field-0.now (sym c.in_ok-get.ensures.value)
