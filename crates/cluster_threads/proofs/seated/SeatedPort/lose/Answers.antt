use Rattle.std.proofs.Common.{◌≡◌, ◌∙◌, ap, sym, subst, take, true, true≢false}
use Rattle.std.proofs.lemmas.List.{take-append-le}
use Rattle.std.specs.Arc.{arc_value}
use Rattle.bus_lock.specs.Seats.{seat_origin, seen}
use Rattle.bus_order.specs.declared.shared.Origin.{Origin}
use Rattle.bus_order.specs.View.{BusView}
use Rattle.cluster_turns.specs.Along.{IsNamed, IsStopped, is_left}
use Rattle.cluster_turns.specs.Gone.{IsBeforeStep, own_cause}
use Rattle.cluster_turns.specs.Offers.{Adds}
use Rattle.cluster_threads.specs.Seated.{bus_of, made_of, origin_of}
use Rattle.cluster_turns.proofs.Answering.{same_from}
use Rattle.cluster_turns.proofs.Owning.{where_ok}
use Rattle.cluster_turns.proofs.OwnLosses.{left_kept}
use Rattle.cluster_threads.proofs.Seats.{stopped_seen, visit_grown}
use Rattle.cluster_turns.proofs.StepLosses.{before_longer}
use Rattle.cluster_threads.proofs.seated.SeatedPort.lose.Goals as goal

pub lose_at-lost-requires-clause-before : goal.lose_at-lost-requires-clause-before
lose_at-lost-requires-clause-before g c =
    let p = c.args.self.now in
    let v = c.args.cluster.now in
    let b : BusView = c.take_sound-bus.result.value in
    let from : Origin = made_of (arc_value p.system.now) p.script.now in
    let came : origin_of b ≡ from = same_from (origin_of b) from (seat_origin p.seat) c.take_sound-bus.ensures.origin c.requires.sits.1 in
    let longer = c.take_sound-bus.ensures.longer in
    subst (λ (x : BusView). IsBeforeStep x v) (sym c.deref_mut.ensures.value)
    (before_longer (bus_of from (seen p.seat)) b v longer.more (c.take_sound-bus.ensures.sound).legal (ap (λ (o : Origin). o.system) came) (ap (λ (o : Origin). o.script) came) longer.longer longer.others c.requires.before)

-- the others told no loss of its own, so the words that its seat knew to be left are left
pub lose_at-lost-requires-clause-named : goal.lose_at-lost-requires-clause-named
lose_at-lost-requires-clause-named g c =
    let p = c.args.self.now in
    let v = c.args.cluster.now in
    let b : BusView = c.take_sound-bus.result.value in
    let from : Origin = made_of (arc_value p.system.now) p.script.now in
    let came : origin_of b ≡ from = same_from (origin_of b) from (seat_origin p.seat) c.take_sound-bus.ensures.origin c.requires.sits.1 in
    let longer = c.take_sound-bus.ensures.longer in
    let was = c.requires.before in
    let before : IsBeforeStep b v =
    before_longer (bus_of from (seen p.seat)) b v longer.more (c.take_sound-bus.ensures.sound).legal (ap (λ (o : Origin). o.system) came) (ap (λ (o : Origin). o.script) came) longer.longer longer.others was in
    let front : take v.cursor b.log ≡ take v.cursor (seen p.seat) = ap (take v.cursor) longer.longer ∙ take-append-le v.cursor (seen p.seat) longer.more was.within in
    let left : is_left b.script b.log v.number (own_cause v) ≡ true =
    ap (λ (o : Origin). is_left o.script b.log v.number (own_cause v)) came ∙ left_kept from.script (seen p.seat) b.log v.number v.cursor (own_cause v) front was.kept before.kept ∙ c.requires.named.named in
    subst (λ (x : BusView). IsNamed x v) (sym c.deref_mut.ensures.value) (record { named = left; fits = c.requires.named.fits })

pub returns-clause-own : goal.returns-clause-own
returns-clause-own g c = where_ok c.lose_at-lost.result _ _ (λ own alone. absurd (true≢false (sym alone))) c.lose_at-lost.ensures.own

pub returns-clause-stopped : goal.returns-clause-stopped
returns-clause-stopped g c =
    let p = c.args.self.now in
    let v = c.args.cluster.now in
    let b : BusView = c.take_sound-bus.result.value in
    let after : BusView = c.lose_at-lost.new.bus in
    let from : Origin = made_of (arc_value p.system.now) p.script.now in
    let came : origin_of b ≡ from = same_from (origin_of b) from (seat_origin p.seat) c.take_sound-bus.ensures.origin c.requires.sits.1 in
    let adds = subst (λ (x : BusView). Adds v.number x after) c.deref_mut.ensures.value c.lose_at-lost.ensures.adds in
    let same : origin_of after ≡ from = (λ i. record { system = adds.system i; script = adds.script i }) ∙ came in
    where_ok c.lose_at-lost.result (IsStopped after v) (IsStopped (bus_of from (seen c.give.new.seat)) v) (λ stopped. stopped_seen after from (seen c.give.new.seat) v stopped same c.give.ensures.whole) c.lose_at-lost.ensures.stopped

pub returns-clause-grows : goal.returns-clause-grows
returns-clause-grows g c =
    let p = c.args.self.now in
    let v = c.args.cluster.now in
    let b : BusView = c.take_sound-bus.result.value in
    let after : BusView = c.lose_at-lost.new.bus in
    let from : Origin = made_of (arc_value p.system.now) p.script.now in
    let adds = subst (λ (x : BusView). Adds v.number x after) c.deref_mut.ensures.value c.lose_at-lost.ensures.adds in
    visit_grown v.number from (seen p.seat) b after (seen c.give.new.seat) c.take_sound-bus.ensures.longer adds c.give.ensures.whole
