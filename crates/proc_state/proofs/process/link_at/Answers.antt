use Rattle.std.proofs.Common.{sym, ap, ◌∙◌, Some}
use Rattle.proc_state.proofs.Linking.{linked_as_many}
use Rattle.proc_state.proofs.process.link_at.Goals as goal

pub returns-clause-unshut : goal.returns-clause-unshut
returns-clause-unshut c = linked_as_many c.args.ends.now c.from.result c.args.peer c.args.far (c.requires ∙ ap Some (sym c.from.ensures))
