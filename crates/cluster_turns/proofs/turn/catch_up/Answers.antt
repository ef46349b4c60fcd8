use Rattle.std.proofs.Common.{◌≡◌, subst, drop, Bool, true, false}
use Rattle.cert_sched.specs.Losses.{was_lost_in}
use Rattle.bus_order.specs.View.{BusView}
use Rattle.cluster_turns.specs.Turns.{GoesOwn, LosesOwn}
use Rattle.cluster_turns.proofs.Offering.{along_longer, alone_later, later_grows}
use Rattle.cluster_turns.proofs.Growing.{grown_then, longer_grown}
use Rattle.cluster_turns.proofs.Owning.{where_each, where_ok}
use Rattle.cluster_turns.specs.Offers.{HasGrown}
use Rattle.cluster_turns.proofs.turn.catch_up.Goals as goal

pub take_in-requires-clause-shown : goal.take_in-requires-clause-shown
take_in-requires-clause-shown g c =
    let b = g.P.Port.bus c.args.port.now in
    let after = g.P.Port.bus c.look.new.self in
    let looked = c.in_ok-look.ensures in
    record {
      shows = looked.shows;
      from_there = looked.from;
      sound = looked.sound;
      along = along_longer b after c.args.cluster.now c.requires.shown.along (later_grows g.P.Port.alone c.args.cluster.now.number b after looked.later);
    }

pub returns-clause-own : goal.returns-clause-own
returns-clause-own g c =
    let a = g.P.Port.alone in
    let b = g.P.Port.bus c.args.port.now in
    let mid = g.P.Port.bus c.look.new.self in
    let after = g.P.Port.bus c.take_in.new.port in
    let k = c.args.cluster.now.number in
    let at = c.args.cluster.now.cursor in
    let upto = c.take_in.new.cluster.cursor in
    let Own : BusView → Bool → Type 0 = λ x lost. lost ≡ true → a ≡ true → GoesOwn x → was_lost_in (drop at x.log) k ≡ false → LosesOwn k upto x after in
    where_each c.take_in.result (Own mid) (Own b)
    (λ lost holds is alone. subst (λ (x : BusView). GoesOwn x → was_lost_in (drop at x.log) k ≡ false → LosesOwn k upto x after) (alone_later a k b mid alone c.in_ok-look.ensures.later) (holds is alone))
    c.take_in.ensures.own

pub returns-clause-grows : goal.returns-clause-grows
returns-clause-grows g c =
    let b = g.P.Port.bus c.args.port.now in
    let mid = g.P.Port.bus c.look.new.self in
    let after = g.P.Port.bus c.take_in.new.port in
    let k = c.args.cluster.now.number in
    let one = longer_grown k b mid (later_grows g.P.Port.alone k b mid c.in_ok-look.ensures.later) in
    where_ok c.take_in.result (HasGrown mid after) (HasGrown b after) (λ two. grown_then b mid after one two) c.take_in.ensures.grows
