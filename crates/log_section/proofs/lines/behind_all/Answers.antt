use Rattle.std.proofs.Common.{◌≡◌, suc, ◌+◌, ◌-◌, length, sym, arith}
use Rattle.log_section.proofs.Walks.{most_more}
use Rattle.log_section.proofs.lines.behind_all.Goals as goal

pub loop-preserved : goal.loop-preserved
loop-preserved c =
    let left : length c.args.text.now - c.loop.counter ≡ suc (length c.args.text.now - (c.loop.counter + 1)) = omega (arith, c.loop-test.true) in
    most_more _ _ _ c.loop.rest.now c.in-Some.after.now _ left (sym c.in-Some.ensures) c.loop.invariant
