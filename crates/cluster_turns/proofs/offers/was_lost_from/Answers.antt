use Rattle.std.proofs.Common.{refl, sym, ◌∙◌, arith}
use Rattle.cluster_turns.proofs.LostLives.{lost_behind, lost_here, none_behind}
use Rattle.cluster_turns.proofs.offers.was_lost_from.Goals as goal

pub loop-place-init : goal.loop-place-init
loop-place-init c = refl

pub loop-place-preserved : goal.loop-place-preserved
loop-place-preserved c =
    lost_behind c.args.bus.now.log c.args.number c.loop-place.place (omega (arith, c.loop-place-test.true, c.length-place-end.ensures.length)) (sym c.is_lost_at.ensures ∙ c.if-is_lost_at.false) ∙ c.loop-place.invariant

pub returns-then-is_lost_at-clause-lost : goal.returns-then-is_lost_at-clause-lost
returns-then-is_lost_at-clause-lost c = sym (sym c.loop-place.invariant ∙ lost_here c.args.bus.now.log c.args.number c.loop-place.place (sym c.is_lost_at.ensures ∙ c.if-is_lost_at.true))

pub returns-clause-lost : goal.returns-clause-lost
returns-clause-lost c = sym (sym c.loop-place.invariant ∙ none_behind c.args.bus.now.log c.args.number c.loop-place.place (omega (arith, c.loop-place-test.false, c.length-place-end.ensures.length)))
