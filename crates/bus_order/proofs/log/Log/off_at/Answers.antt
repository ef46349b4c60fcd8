use Rattle.std.proofs.Common.{◌≡◌, refl, sym, ◌∙◌, ap, arith, cond, Some}
use Rattle.std.specs.Prelude.{slice_get}
use Rattle.std.specs.Option.{option_copied}
use Rattle.std.proofs.lemmas.List.{take_all}
use Rattle.bus_msg.specs.PlacedAfter.{what}
use Rattle.bus_order.specs.Script.{off_at, place_of_loss, turns}
use Rattle.bus_order.proofs.OffLaws.{off_taken, got}
use Rattle.bus_order.proofs.log.Log.off_at.Goals.{in-Some, in_default}
use Rattle.bus_order.proofs.log.Log.off_at.Goals as goal

pub loop-place-init : goal.loop-place-init
loop-place-init c = refl

pub loop-place-preserved : goal.loop-place-preserved
loop-place-preserved c =
    let log = c.args.self.now in
    let n = c.loop-place.place in
    let k = c.args.k in
    elim c.match-get.branch [
      | in-Some w ↦
          let there : slice_get log n ≡ Some w.in-Some.entry.now = sym c.get.ensures ∙ ap option_copied w.in-Some.is in
          w.off-is ∙ w.off_after-off.ensures ∙ ap (cond (turns k (what w.in-Some.entry.now)) (place_of_loss k (Some w.in-Some.entry.now))) c.loop-place.invariant ∙ sym (off_taken log n w.in-Some.entry.now k there)
      | in_default w ↦ absurd (got log n c.get.result c.get.ensures (omega (arith, c.loop-place-test.true, c.len-place-end.ensures)) w.in_default.not-Some)
    ]

pub returns : goal.returns
returns c = c.loop-place.invariant ∙ ap (λ l. off_at l c.args.k) (take_all c.loop-place.place c.args.self.now (omega (arith, c.loop-place-test.false, c.len-place-end.ensures)))
