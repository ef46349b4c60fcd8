use Rattle.std.proofs.Common.{◌≡◌, suc, ◌+◌, ◌-◌, sym, arith}
use Rattle.log_section.proofs.Walks.{count_more}
use Rattle.log_section.proofs.lines.behind_count.Goals as goal

pub loop-preserved : goal.loop-preserved
loop-preserved c =
    let left : c.args.count - c.loop.counter ≡ suc (c.args.count - (c.loop.counter + 1)) = omega (arith, c.loop-test.true) in
    count_more _ _ _ c.loop.rest.now c.in-Some.after.now _ left (sym c.in-Some.ensures) c.loop.invariant
