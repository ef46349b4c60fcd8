use Rattle.std.proofs.Common.{◌∙◌, sym, ap, Some}
use Rattle.t32_base.specs.declared.process.Pid.{Pid}
use Rattle.birth_notice.specs.Family.{lower}
use Rattle.birth_notice.proofs.LowestLaws.{lowest-more, lowest-no_more}
use Rattle.birth_notice.proofs.family.lowest_child.Goals as goal
use Rattle.birth_notice.proofs.family.lowest_child.Goals.{then-birth-parent, else-birth-parent}

pub loop-birth-preserved : goal.loop-birth-preserved
loop-birth-preserved c =
    let births = c.args.births.now in
    let i = c.loop-birth.birth-index in
    let d : Pid × Pid = (record { 0 = 0 }, record { 0 = 0 }) in
    elim c.if-birth-parent.branch [
      | then-birth-parent w ↦
          w.lowest-is ∙ ap Some (w.lower.ensures ∙ ap (lower _) c.loop-birth.invariant)
          ∙ sym (lowest-more births i d c.args.parent c.loop-birth-test.true w.if-birth-parent.true)
      | else-birth-parent w ↦ w.lowest-is ∙ c.loop-birth.invariant ∙ sym (lowest-no_more births i d c.args.parent c.loop-birth-test.true w.if-birth-parent.false)
    ]
