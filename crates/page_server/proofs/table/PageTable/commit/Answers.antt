use Rattle.page_server.specs.Slots.{settled}
use Rattle.page_server.proofs.Marks.{needs_no_mark, as_many, settled-levels}
use Rattle.page_server.proofs.table.PageTable.commit.Goals as goal

pub invariant_of-self : goal.invariant_of-self
invariant_of-self c = (
  needs_no_mark settled settled-levels c.self.inside.rows.items c.settle.new.rows.items c.clear.new.self.items c.settle.ensures,
  as_many settled c.self.inside.rows.items c.settle.new.rows.items 256 c.settle.ensures c.self.invariant.1,
)
