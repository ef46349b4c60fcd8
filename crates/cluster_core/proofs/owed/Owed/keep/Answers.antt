use Rattle.std.proofs.Common.{rules, ◌∙◌, ap, is_some}
use Rattle.std.proofs.lemmas.Fn.{filter_same}
use Rattle.bus_msg.specs.NewBackup.{next_backup_at}
use Rattle.plain_kernel.specs.Maps.{pid_of}
use Rattle.cluster_core.specs.Owed.{to_back}
use Rattle.cluster_core.proofs.owed.Owed.keep.Goals as goal

pub returns : goal.returns
returns c = filter_same _ (λ n. is_some (next_backup_at c.args.after.now (pid_of n))) _ (λ x b f' k. search rules) _ _ c.retain.ensures.filtered ∙ ap (to_back c.args.after.now) c.self.view_is
