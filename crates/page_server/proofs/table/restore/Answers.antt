use Rattle.std.proofs.Common.{◌∙◌}
use Rattle.page_server.specs.Slots.{restored, change_at}
use Rattle.page_server.proofs.Marks.{one_more_mark, all_marks, restored-levels}
use Rattle.page_server.proofs.table.restore.Goals as goal

pub loop-i-preserved : goal.loop-i-preserved
loop-i-preserved c =
    let more = one_more_mark restored c.args.rows.now.items c.args.changed.now c.loop-i.i-index c.loop-i-test.true in
    c.restore_row.ensures ∙ (λ j. change_at restored (c.loop-i.invariant j) (c.from.ensures j)) ∙ more

pub returns : goal.returns
returns c = c.loop-i.invariant ∙ all_marks restored restored-levels c.args.rows.now.items c.args.changed.now c.loop-i.i-index c.loop-i-test.false c.requires
