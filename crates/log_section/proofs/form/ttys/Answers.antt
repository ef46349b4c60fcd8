use Rattle.std.proofs.Common.{◌≡◌, suc, ◌+◌, ◌-◌, length, sym, arith}
use Rattle.log_section.specs.Form.{behind_tty, behind_ttys}
use Rattle.log_section.proofs.Walks.{most_bad, most_more}
use Rattle.log_section.proofs.form.ttys.Goals as goal

pub returns-in-None : goal.returns-in-None
returns-in-None c = sym (most_bad behind_tty (length c.args.text.now - c.loop.counter) c.loop.rest.now (behind_ttys c.args.text.now) (sym c.in-None.ensures) c.loop.invariant)

pub loop-preserved : goal.loop-preserved
loop-preserved c =
    let left : length c.args.text.now - c.loop.counter ≡ suc (length c.args.text.now - (c.loop.counter + 1)) = omega (arith, c.loop-test.true) in
    most_more behind_tty _ _ c.loop.rest.now c.in-Some.after.now (behind_ttys c.args.text.now) left (sym c.in-Some.ensures) c.loop.invariant
