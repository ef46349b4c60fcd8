use Rattle.std.proofs.Common.{inl, refl}
use Rattle.targon_cli.specs.Reply.{Applied, Refused}
use Rattle.targon_cli.specs.Explained.{AllApplied, OneRefused}
use Rattle.targon_cli.proofs.reply.follow.Goals as goal

pub returns-in_ok-report-in-Ok-clause-makes : goal.returns-in_ok-report-in-Ok-clause-makes
returns-in_ok-report-in-Ok-clause-makes c = Applied c.in-Ok.plain c.in-Ok.ensures refl c.in_ok-report-in-Ok.ensures

pub returns-in_ok-report-in-Ok-clause-why : goal.returns-in_ok-report-in-Ok-clause-why
returns-in_ok-report-in-Ok-clause-why c = AllApplied c.in-Ok.plain c.in-Ok.ensures refl refl

pub returns-in_ok-refused_item-in-Err-BadItem-clause-makes : goal.returns-in_ok-refused_item-in-Err-BadItem-clause-makes
returns-in_ok-refused_item-in-Err-BadItem-clause-makes c =
    let bad = rw c.in-Err-BadItem.field-0-is at c.in-Err-BadItem.ensures in
    let told = c.in_ok-refused_item-in-Err-BadItem.ensures.makes in
    Refused c.in-Err-BadItem.index bad told.0 told.1

pub returns-in_ok-refused_item-in-Err-BadItem-clause-why : goal.returns-in_ok-refused_item-in-Err-BadItem-clause-why
returns-in_ok-refused_item-in-Err-BadItem-clause-why c =
    let bad = rw c.in-Err-BadItem.field-0-is at c.in-Err-BadItem.ensures in
    let told = c.in_ok-refused_item-in-Err-BadItem.ensures.why in
    OneRefused c.in-Err-BadItem.index bad told.0 told.1

pub returns-in_ok-report-in-Ok-clause-notes : goal.returns-in_ok-report-in-Ok-clause-notes
returns-in_ok-report-in-Ok-clause-notes c = inl (c.in-Ok.plain, c.in-Ok.ensures, c.trap_notes.ensures)
