use Rattle.std.proofs.Common.{◌≡◌, sym, Some}
use Rattle.std.specs.Prelude.{position}
use Rattle.std.proofs.lemmas.Option.{slice_get-get_or}
use Rattle.cert_sched.specs.Looked.{is_reached}
use Rattle.bus_order.proofs.WordsLaws.{is_first, not_first, first_within}
use Rattle.bus_order.proofs.script.first_reached.Goals as goal

pub returns-in_err-number-clause-none : goal.returns-in_err-number-clause-none
returns-in_err-number-clause-none c = rw c.from_residual.ensures (not_first (is_reached c.args.length) c.args.words.now (sym c.in_err-number.ensures))

pub returns-clause-some : goal.returns-clause-some
returns-clause-some c =
    let there : position (is_reached c.args.length) c.args.words.now ≡ Some c.in_ok-number.number = sym c.in_ok-number.ensures in
    is_first (is_reached c.args.length) c.args.words.now c.in_ok-number.number _ there (slice_get-get_or c.args.words.now c.in_ok-number.number _ (first_within (is_reached c.args.length) c.args.words.now c.in_ok-number.number there))
