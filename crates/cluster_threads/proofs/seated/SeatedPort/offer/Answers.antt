use Rattle.std.proofs.Common.{◌≡◌, ◌≤◌, ◌∙◌, sym, ap, subst, arith, List}
use Rattle.bus_msg.specs.declared.entry.Entry.{Entry}
use Rattle.bus_order.specs.Log.{open_length}
use Rattle.std.specs.Arc.{arc_value}
use Rattle.bus_lock.specs.Seats.{seat_origin, seen}
use Rattle.bus_order.specs.declared.shared.Origin.{Origin}
use Rattle.bus_order.specs.View.{BusView}
use Rattle.t32_base.specs.declared.process.ClusterNo.{ClusterNo}
use Rattle.cluster_turns.proofs.Answering.{same_from}
use Rattle.cluster_turns.proofs.StepLosses.{before_along}
use Rattle.cluster_threads.specs.Seated.{bus_of, made_of, origin_of}
use Rattle.cluster_threads.specs.Steps.{AreStepsLeft}
use Rattle.cluster_threads.proofs.StepsLeft.{TellsNoLoss, offered_tells, steps_longer}
use Rattle.cluster_threads.proofs.Seats.{news_seen, visit_grown}
use Rattle.cluster_turns.specs.Offers.{Adds, OfferIs}
use Rattle.cluster_turns.proofs.TakingIn.{along_within, still_within}
use Rattle.cluster_threads.proofs.seated.SeatedPort.offer.Goals as goal

pub news_of-news-requires : goal.news_of-news-requires
news_of-news-requires g c =
    let v = c.args.cluster.now in
    let low = along_within c.take_for-bus.result.value v c.take_for-bus.ensures.sound c.take_for-bus.ensures.along in
    let adds = subst (λ (b : BusView). Adds v.number b c.offer_to-offered.new.bus) c.deref_mut.ensures.value c.offer_to-offered.ensures.adds in
    let still = still_within v.number v.cursor c.take_for-bus.result.value c.offer_to-offered.new.bus adds low in
    subst (λ (b : BusView). c.cursor-2.result ≤ open_length b.log) (sym c.deref-4.ensures) (omega (arith, still, c.cursor-2.ensures))

pub returns-clause-grows : goal.returns-clause-grows
returns-clause-grows g c =
    let p = c.args.self.now in
    let v = c.args.cluster.now in
    let b : BusView = c.take_for-bus.result.value in
    let after : BusView = c.offer_to-offered.new.bus in
    let from : Origin = made_of (arc_value p.system.now) p.script.now in
    let adds = subst (λ (x : BusView). Adds v.number x after) c.deref_mut.ensures.value c.offer_to-offered.ensures.adds in
    visit_grown v.number from (seen p.seat) b after (seen c.give.new.seat) c.take_for-bus.ensures.longer adds c.give.ensures.whole

pub returns-clause-shows : goal.returns-clause-shows
returns-clause-shows g c =
    let p = c.args.self.now in
    let v = c.args.cluster.now in
    let b : BusView = c.take_for-bus.result.value in
    let after : BusView = c.offer_to-offered.new.bus in
    let from : Origin = made_of (arc_value p.system.now) p.script.now in
    let was : List Entry = seen p.seat in
    let log : List Entry = seen c.give.new.seat in
    let came : origin_of b ≡ from = same_from (origin_of b) from (seat_origin p.seat) c.take_for-bus.ensures.origin c.requires.sits.1 in
    let adds = subst (λ (x : BusView). Adds v.number x after) c.deref_mut.ensures.value c.offer_to-offered.ensures.adds in
    let grown = visit_grown v.number from was b after log c.take_for-bus.ensures.longer adds c.give.ensures.whole in
    let done = subst (λ (x : BusView). OfferIs v.number v.cursor c.args.post.now c.in_ok-offered.offered x after) c.deref_mut.ensures.value c.in_ok-offered.ensures.offered in
    let none = (before_along (bus_of from was) v c.requires.sound c.requires.along).kept in
    let here = subst (λ (l : List Entry). TellsNoLoss v.number l v.cursor) (sym c.give.ensures.whole) (offered_tells b after v c.take_for-bus.ensures.along c.offer_to-offered.ensures.sound c.args.post.now c.in_ok-offered.offered c.requires.head c.requires.tried done) in
    let steps : AreStepsLeft p.script.now log v.number p.steps.items =
    steps_longer p.script.now was log grown.more v.number v.cursor p.steps.items grown.log c.requires.along.beside.within none here (subst (λ (k : ClusterNo). AreStepsLeft p.script.now was k p.steps.items) c.requires.sits.2 c.requires.shows.1) in
    let number : c.in_ok-self.field-0.number ≡ v.number = c.in_ok-self.ensures.number ∙ c.number-2.ensures in (
      news_seen (arc_value p.system.now) log c.deref-4.result.now after c.in_ok-self.field-0 c.deref-4.ensures (adds.system ∙ ap (λ (o : Origin). o.system) came) c.give.ensures.whole c.in_ok-self.ensures.news,
      subst (λ (k : ClusterNo). AreStepsLeft p.script.now log k p.steps.items) (sym number) steps,
    )
