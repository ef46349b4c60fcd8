use Rattle.std.proofs.Common.{refl, sym, ◌∙◌, arith}
use Rattle.text_parts.proofs.Tables.{found, passed, not_found}
use Rattle.text_parts.proofs.table.lookup.Goals as goal

pub loop-row-init : goal.loop-row-init
loop-row-init g c = record { same = refl }

pub returns-then-are_same : goal.returns-then-are_same
returns-then-are_same g c = found c.args.table.now c.args.name.now c.loop-row.row-index c.row-item.result c.loop-row-test.true c.row-item.is (sym c.are_same.ensures ∙ c.if-are_same.true) c.loop-row.invariant

pub loop-row-preserved : goal.loop-row-preserved
loop-row-preserved g c = passed c.args.table.now c.args.name.now c.loop-row.row-index c.row-item.result c.loop-row-test.true c.row-item.is (sym c.are_same.ensures ∙ c.if-are_same.false) c.loop-row.invariant

pub returns : goal.returns
returns g c = not_found c.args.table.now c.args.name.now c.loop-row.row-index (omega arith) c.loop-row.invariant
