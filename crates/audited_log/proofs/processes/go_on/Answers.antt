use Rattle.std.proofs.Common.{sym, ◌∙◌}
use Rattle.audited_log.proofs.Concerned.{goes_as_it_is}
use Rattle.audited_log.proofs.Going.{room}
use Rattle.audited_log.proofs.processes.go_on.Goals as goal

pub take-requires-clause-letters : goal.take-requires-clause-letters
take-requires-clause-letters c =
    let goes = sym c.goes_on.ensures ∙ c.if-not-goes_on.false in
    (room c.args.entry.now c.args.pid c.args.audited.now goes (c.requires goes)).0

pub take-requires-clause-saved : goal.take-requires-clause-saved
take-requires-clause-saved c =
    let goes = sym c.goes_on.ensures ∙ c.if-not-goes_on.false in
    (room c.args.entry.now c.args.pid c.args.audited.now goes (c.requires goes)).1

pub returns-then-is_left : goal.returns-then-is_left
returns-then-is_left c = goes_as_it_is c.args.before.now c.args.pid c.args.audited.now c.args.entry.now (sym c.is_left.ensures ∙ c.if-is_left.true) c.requires
