use Rattle.std.proofs.Common.{◌∙◌, ap}
use Rattle.std.specs.List.{list_all, range_with_len}
use Rattle.audited_log.specs.Backups.{is_owed_none}
use Rattle.audited_log.proofs.Owed.{owed_none}
use Rattle.audited_log.proofs.backups.owes_none.Goals as goal

pub returns : goal.returns
returns c =
    c.first_are_owed_none.ensures ∙ ap (λ n. list_all (is_owed_none c.args.places.now) (range_with_len 0 n)) c.len.ensures.number
    ∙ owed_none c.args.places.now c.len.ensures.different
