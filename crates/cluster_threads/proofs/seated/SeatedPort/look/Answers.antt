use Rattle.std.proofs.Common.{◌≡◌, ◌≤◌, ◌∙◌, sym, ap, subst, arith, List}
use Rattle.bus_msg.specs.declared.entry.Entry.{Entry}
use Rattle.cluster_turns.proofs.StepLosses.{before_along}
use Rattle.t32_base.specs.declared.process.ClusterNo.{ClusterNo}
use Rattle.bus_order.specs.declared.shared.Origin.{Origin}
use Rattle.cluster_turns.proofs.Answering.{same_from}
use Rattle.cluster_threads.proofs.Seats.{news_seen}
use Rattle.cluster_threads.specs.Seated.{Shows, bus_of, made_of, origin_of}
use Rattle.cluster_threads.specs.Steps.{AreStepsLeft}
use Rattle.cluster_threads.proofs.StepsLeft.{TellsNoLoss, steps_longer}
use Rattle.std.specs.Arc.{arc_value}
use Rattle.cluster_turns.specs.Offers.{GrowsFor}
use Rattle.bus_order.specs.Log.{open_length}
use Rattle.bus_order.specs.View.{BusView}
use Rattle.cluster_turns.proofs.Offering.{adds_none, grows_none}
use Rattle.cluster_turns.proofs.TakingIn.{along_within}
use Rattle.cluster_threads.proofs.seated.SeatedPort.look.Goals as goal
use Rattle.cluster_threads.proofs.seated.SeatedPort.look.Goals.{then-not-is_due-via-then-not-is_due, then-not-is_due-via-else-not-is_due+then-not-has_grown}
use Rattle.bus_lock.specs.Seats.{seat_origin, seen}

pub news_of-news-requires : goal.news_of-news-requires
news_of-news-requires g c =
    let low = along_within c.take_for-bus.result.value c.args.cluster.now c.take_for-bus.ensures.sound c.take_for-bus.ensures.along in
    subst (λ (b : BusView). c.cursor.result ≤ open_length b.log) (sym c.deref.ensures) (omega (arith, low, c.cursor.ensures))

-- the bus that is put back is the one that was taken
pub give-requires-clause-added : goal.give-requires-clause-added
give-requires-clause-added g c =
    let b : BusView = c.take_for-bus.result.value in
    let number = c.number-2.ensures in
    (b, rw number c.take_for-bus.ensures.inside, rw number (adds_none c.args.cluster.now.number b))

-- where the port does not look, nothing has come: its turns alone have changed, and what its seat was told of the length
pub returns-then-not-is_due-clause-later : goal.returns-then-not-is_due-clause-later
returns-then-not-is_due-clause-later g c =
    let k = c.args.cluster.now.number in
    let before = seen c.args.self.now.seat in
    elim c.then-not-is_due.branch [
      | then-not-is_due-via-then-not-is_due w ↦
          (λ i. arc_value (w.self-is i).system.now, λ i. (w.self-is i).script.now, subst (GrowsFor k before) (sym (λ i. seen (w.self-is i).seat)) (grows_none k before))
      | then-not-is_due-via-else-not-is_due+then-not-has_grown w ↦ (
        λ i. arc_value (w.self-is i).system.now,
        λ i. (w.self-is i).script.now,
        subst (GrowsFor k before) (sym ((λ i. seen (w.self-is i).seat) ∙ (λ i. (w.has_grown.ensures.same i).seen))) (grows_none k before),
      )
    ]

-- where nothing has come it shows what it showed
pub returns-then-not-is_due-clause-shows : goal.returns-then-not-is_due-clause-shows
returns-then-not-is_due-clause-shows g c = elim c.then-not-is_due.branch [
  | then-not-is_due-via-then-not-is_due w ↦ subst (λ s. Shows (made_of (arc_value s.system.now) s.script.now) (seen s.seat) s.news s.steps.items) (sym w.self-is) c.requires.shows
  | then-not-is_due-via-else-not-is_due+then-not-has_grown w ↦
      (let p = c.args.self.now in
      subst (λ s. Shows (made_of (arc_value s.system.now) s.script.now) (seen s.seat) s.news s.steps.items) (sym w.self-is)
      (subst (λ (l : List Entry). Shows (made_of (arc_value p.system.now) p.script.now) l p.news p.steps.items) (sym (λ i. (w.has_grown.ensures.same i).seen)) c.requires.shows))
]

pub returns-clause-shows : goal.returns-clause-shows
returns-clause-shows g c =
    let p = c.args.self.now in
    let v = c.args.cluster.now in
    let b : BusView = c.take_for-bus.result.value in
    let from : Origin = made_of (arc_value p.system.now) p.script.now in
    let was : List Entry = seen p.seat in
    let log : List Entry = seen c.give.new.seat in
    let came : origin_of b ≡ from = same_from (origin_of b) from (seat_origin p.seat) (sym (λ i. (c.has_grown.ensures.same i).origin) ∙ c.take_for-bus.ensures.origin) c.requires.sits.1 in
    let longer = subst (λ (l : List Entry). GrowsFor v.number l b.log) (λ i. (c.has_grown.ensures.same i).seen) c.take_for-bus.ensures.longer in
    let none = (before_along (bus_of from was) v c.requires.sound c.requires.along).kept in
    let still = (before_along b v c.take_for-bus.ensures.sound c.take_for-bus.ensures.along).kept in
    let here = subst (λ (l : List Entry). TellsNoLoss v.number l v.cursor) (sym c.give.ensures.whole) still in
    let steps : AreStepsLeft p.script.now log v.number p.steps.items =
    steps_longer p.script.now was log longer.more v.number v.cursor p.steps.items (c.give.ensures.whole ∙ longer.longer) c.requires.along.beside.within none here (subst (λ (k : ClusterNo). AreStepsLeft p.script.now was k p.steps.items) c.requires.sits.2 c.requires.shows.1) in
    let number : c.in_ok-self.field-0.number ≡ v.number = c.in_ok-self.ensures.number ∙ c.number.ensures in (
      news_seen (arc_value p.system.now) log c.deref.result.now b c.in_ok-self.field-0 c.deref.ensures (ap (λ (o : Origin). o.system) came) c.give.ensures.whole c.in_ok-self.ensures.news,
      subst (λ (k : ClusterNo). AreStepsLeft p.script.now log k p.steps.items) (sym number) steps,
    )
