-- What `retain` keeps is what its closure answers true for, as `is_unread` does.
use Rattle.std.proofs.Common.{rules}
use Rattle.std.proofs.lemmas.Fn.{filter_same}
use Rattle.backup_queue.specs.Queue.{is_unread}
use Rattle.backup_queue.proofs.drop_read.Goals as goal

pub returns : goal.returns
returns c =
    let kept = filter_same _ (is_unread c.args.read.now) _ (λ x b f' k. search rules) _ _ c.retain.ensures.filtered in
    cc
