use Rattle.std.proofs.Common.{◌≡◌, suc, ◌+◌, ◌-◌, ap, drop, Some, ◌∙◌, arith}
use Rattle.log_section.specs.Form.{first_told}
use Rattle.log_section.proofs.Walks.{told_first, log_more}
use Rattle.log_section.proofs.log.told_lines.Goals as goal

pub loop-preserved : goal.loop-preserved
loop-preserved c =
    let left : c.args.count - c.loop.counter ≡ suc (c.args.count - (c.loop.counter + 1)) = omega (arith, c.loop-test.true) in
    let first : first_told c.loop.rest.now ≡ Some c.in-Some.told = told_first _ _ c.loop.rest.now c.in-Some.told _ c.cut_far.ensures.before c.cut_far.ensures.from c.in_ok-told.ensures c.in-Some.is in
    log_more c.loop.found c.push.new.self _ _ c.loop.rest.now c.behind_first-rest.result.now c.in-Some.told _ left first
    (c.behind_first-rest.ensures ∙ ap (drop 1) c.cut_far.ensures.from) c.in_ok-push.ensures.ok c.loop.invariant
