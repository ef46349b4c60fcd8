use Rattle.std.proofs.Common.{◌∙◌, subst, List}
use Rattle.plain_kernel.specs.declared.item.Item.{Item}
use Rattle.plain_kernel.specs.Answers.{BadAt}
use Rattle.cert_sched.proofs.Applied.{no_bad_item}
use Rattle.cert_sched.proofs.MayLaws.{legal_may_stand}
use Rattle.report_text.proofs.whole.replayed_report.Goals as goal

pub unreachable-requires : goal.unreachable-requires
unreachable-requires c =
    let index = c.in-Err-BadItem.field-0-0 in
    let bad : BadAt c.args.system.now c.as_slice.result.now index = rw c.in-Err-BadItem.field-0-is at c.in-Err-BadItem.ensures in
    no_bad_item c.args.system.now c.args.run.now.log index (legal_may_stand c.args.system.now c.args.run.now.log c.requires.legal) (subst (λ (items : List Item). BadAt c.args.system.now items index) (c.as_slice.ensures ∙ c.requires.items) bad)
