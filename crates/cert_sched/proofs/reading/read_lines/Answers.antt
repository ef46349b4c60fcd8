use Rattle.std.proofs.Common.{◌≡◌, suc, ◌+◌, ◌-◌, Err, ap, sym, ◌∙◌, arith}
use Rattle.cert_sched.specs.Lines.{kept_lines}
use Rattle.cert_sched.specs.Reading.{reading_from}
use Rattle.cert_sched.proofs.Counting.{reads_more, reads_bad}
use Rattle.cert_sched.proofs.reading.read_lines.Goals as goal

pub returns-in_default : goal.returns-in_default
returns-in_default c =
    let left : c.args.count - c.loop-index.index ≡ suc (c.args.count - (c.loop-index.index + 1)) = omega (arith, c.loop-index-test.true) in
    reads_bad (reading_from 0 c.args.count (kept_lines c.args.text.now)) c.loop-index.items c.loop-index.index _ _ (kept_lines c.loop-index.rest.now) left c.in_default.ensures c.loop-index.invariant ∙ ap Err (sym c.from.ensures)

pub loop-index-preserved : goal.loop-index-preserved
loop-index-preserved c =
    let left : c.args.count - c.loop-index.index ≡ suc (c.args.count - (c.loop-index.index + 1)) = omega (arith, c.loop-index-test.true) in
    reads_more (reading_from 0 c.args.count (kept_lines c.args.text.now)) c.loop-index.items c.push.new.self c.loop-index.index _ _ (kept_lines c.loop-index.rest.now) c.in-Some.item (kept_lines c.in-Some.after.now) left c.in-Some.ensures c.in_ok-push.ensures.ok c.loop-index.invariant
