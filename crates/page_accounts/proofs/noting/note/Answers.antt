use Rattle.page_accounts.proofs.Followed.{ok_keeps}
use Rattle.page_accounts.proofs.noting.note.Goals as goal

pub returns-clause-keeps : goal.returns-clause-keeps
returns-clause-keeps g c = ok_keeps c.take_in.result c.args.before.now c.args.entry.now c.args.pager.now c.take_in.new.pager c.take_in.ensures.makes
