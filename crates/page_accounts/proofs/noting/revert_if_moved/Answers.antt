use Rattle.std.proofs.Common.{sym, ◌∙◌}
use Rattle.page_accounts.proofs.Reverting.{reverts_not}
use Rattle.page_accounts.proofs.noting.revert_if_moved.Goals as goal

pub returns-else-is_moved : goal.returns-else-is_moved
returns-else-is_moved g c = reverts_not c.args.placed.now c.args.k c.args.pager.now (sym c.is_moved.ensures ∙ c.if-is_moved.false)
