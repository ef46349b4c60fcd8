use Rattle.std.proofs.Common.{arith, subst}
use Rattle.std.specs.Prelude.{Err}
use Rattle.bus_order.specs.declared.refused.Refused.{Refused}
use Rattle.cluster_turns.specs.Offers.{OfferAnswers}
use Rattle.cluster_turns.proofs.offers.offer_to.Goals as goal

pub behind_or_off-requires : goal.behind_or_off-requires
behind_or_off-requires c =
    let v = c.args.cluster.now in
    let answers = subst (λ (r : Refused). OfferAnswers v.number v.cursor c.args.post.now (Err r) c.args.bus.now c.transmit_for.new.bus) c.in-Err-Behind.field-0-is c.in-Err-Behind.ensures.answers in
    omega (arith, answers.1)
