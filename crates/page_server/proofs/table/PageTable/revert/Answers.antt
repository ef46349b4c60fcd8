use Rattle.page_server.specs.Slots.{restored}
use Rattle.page_server.proofs.Marks.{needs_no_mark, as_many, restored-levels}
use Rattle.page_server.proofs.table.PageTable.revert.Goals as goal

pub invariant_of-self : goal.invariant_of-self
invariant_of-self c = (
  needs_no_mark restored restored-levels c.self.inside.rows.items c.restore.new.rows.items c.clear.new.self.items c.restore.ensures,
  as_many restored c.self.inside.rows.items c.restore.new.rows.items 256 c.restore.ensures c.self.invariant.1,
)
