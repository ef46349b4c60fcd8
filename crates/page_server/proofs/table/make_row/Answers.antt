use Rattle.std.proofs.Common.{◌∙◌}
use Rattle.page_server.proofs.Putting.{same_marked, grown_marked}
use Rattle.page_server.proofs.table.make_row.Goals as goal

pub mark-requires-clause-marked : goal.mark-requires-clause-marked
mark-requires-clause-marked c = grown_marked c.args.rows.now.items c.deref.result.now c.args.changed.now.items c.args.i (c.deref.ensures.value ∙ c.in_ok-grow.ensures.ok) c.requires.marked

pub returns-in_err-grow-clause-marked : goal.returns-in_err-grow-clause-marked
returns-in_err-grow-clause-marked c = same_marked c.args.rows.now.items c.grow.new.rows.items c.args.changed.now.items c.in_err-grow.ensures.err c.requires.marked
