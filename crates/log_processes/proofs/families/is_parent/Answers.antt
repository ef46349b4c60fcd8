use Rattle.std.proofs.Common.{◌∙◌, ap, is_some}
use Rattle.log_processes.proofs.Children.{says_parent}
use Rattle.log_processes.proofs.families.is_parent.Goals as goal

pub returns : goal.returns
returns c = λ system log are. c.is_some.ensures ∙ ap is_some c.first_unsynced.ensures.first ∙ says_parent c.args.family.now c.args.pid system log are
