use Rattle.std.proofs.Common.{◌<◌, ◌∙◌, length, arith, sym}
use Rattle.backup_mode.proofs.LowestLaws.{one_passed}
use Rattle.backup_mode.proofs.next.lowest_other.Goals as goal

pub loop-number-preserved : goal.loop-number-preserved
loop-number-preserved c =
    let places = c.args.places.now in
    let within : c.loop-number.number < length places.clusters = omega (arith, c.loop-number-test.true, c.clusters-number-end.ensures.number) in
    c.loop-number.invariant ∙ one_passed places c.args.home c.loop-number.number within (sym c.if-lives_beside.ensures)
