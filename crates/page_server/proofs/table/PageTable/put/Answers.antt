use Rattle.std.proofs.Common.{◌∙◌, ap, get_or}
use Rattle.page_server.specs.Slots.{absent, grown, put_in}
use Rattle.page_server.proofs.Putting.{put_marked, put_few, put_table, put_slots}
use Rattle.page_server.proofs.table.PageTable.put.Goals as goal

pub invariant_of-self-in-Ok : goal.invariant_of-self-in-Ok
invariant_of-self-in-Ok g c =
    let table = c.make_row.new.rows.items in
    let held = put_in (get_or table c.args.i absent) in (
      put_marked table c.put_in_row.new.rows.items c.make_row.new.changed.items c.args.i held c.put_in_row.result c.put_in_row.ensures.ok c.put_in_row.ensures.err c.in-Ok.ensures.noted c.make_row.ensures.marked,
      put_few table c.put_in_row.new.rows.items c.args.i held c.put_in_row.result c.put_in_row.ensures.ok c.put_in_row.ensures.err c.make_row.ensures.number,
    )

pub returns-in-Ok-clause-table : goal.returns-in-Ok-clause-table
returns-in-Ok-clause-table g c =
    put_table c.args.self.now c.make_row.new.rows.items c.put_in_row.new.rows.items c.args.i c.put_in_row.result (c.in-Ok.ensures.ok ∙ ap (λ t. grown t c.args.i) c.self.view_is) c.put_in_row.ensures.ok c.put_in_row.ensures.err

pub returns-in-Ok-clause-slots : goal.returns-in-Ok-clause-slots
returns-in-Ok-clause-slots g c =
    put_slots (g.D.PageDisk.slots c.args.disk.now) (g.D.PageDisk.slots c.put_in_row.new.disk) c.args.self.now c.make_row.new.rows.items c.args.place c.args.i c.args.page.now c.put_in_row.result (c.in-Ok.ensures.ok ∙ ap (λ t. grown t c.args.i) c.self.view_is) c.put_in_row.ensures.slots
