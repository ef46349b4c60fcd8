use Rattle.std.proofs.Common.{◌≡◌, ◌∙◌, ◌≤◌, sym, ap, arith, refl, length, take, Some, slice_get}
use Rattle.std.specs.Option.{option_copied}
use Rattle.bus_msg.specs.PlacedAfter.{what}
use Rattle.bus_msg.specs.declared.entry.Entry.{Entry}
use Rattle.bus_order.specs.View.{BusView}
use Rattle.cert_sched.specs.Schedule.{placement}
use Rattle.log_laws.specs.births.Unsynced.{unsynced_births}
use Rattle.cluster_core.specs.Known.{IsKnown}
use Rattle.script_laws.specs.Off.{comes_back}
use Rattle.t32_base.specs.declared.process.ClusterNo.{ClusterNo}
use Rattle.cluster_run.proofs.NextLife.{knows_next, no_place, none_next, none_yet}
use Rattle.cluster_run.proofs.Returning.{can_know, returned_behind, stopped_known}
use Rattle.cluster_run.proofs.beginning.known_at_return.Goals as goal

pub loop-place-init : goal.loop-place-init
loop-place-init c =
    let b : BusView = c.args.bus.now in
    let v = c.args.cluster.now in
    let known : IsKnown b.system (take v.cursor b.log) v.places v.family = stopped_known b v c.requires.stopped in
    record {
      low = omega (arith, c.cursor-place.ensures);
      known = record {
        places_are = c.in_ok-known.ensures.places ∙ known.places_are ∙ ap (λ n. placement b.system (take n b.log)) (sym c.cursor-place.ensures);
        family_is = c.in_ok-known.ensures.family ∙ known.family_is ∙ ap (λ n. unsynced_births b.system (take n b.log)) (sym c.cursor-place.ensures);
      };
      none = none_yet b.log v.number v.cursor c.cursor-place.result c.cursor-place.ensures;
    }

pub unreachable-requires : goal.unreachable-requires
unreachable-requires c = no_place c.args.bus.now.log c.loop-place.place (omega (arith, c.loop-place-test.true, c.length-place-end.ensures.length)) (sym c.entry.ensures ∙ ap option_copied c.in_default.is)

pub take-requires : goal.take-requires
take-requires c =
    let b : BusView = c.args.bus.now in
    let at : slice_get b.log c.loop-place.place ≡ Some c.in-Some.entry.now = sym c.entry.ensures ∙ ap option_copied c.in-Some.is in
    can_know b c.requires.sound c.requires.goes_on c.loop-place.place c.in-Some.entry.now c.loop-place.known.places c.loop-place.known.family at c.loop-place.invariant.known

pub returns-then-brings_back : goal.returns-then-brings_back
returns-then-brings_back c =
    let b : BusView = c.args.bus.now in
    let v = c.args.cluster.now in
    let e : Entry = c.in-Some.entry.now in
    let at : slice_get b.log c.loop-place.place ≡ Some e = sym c.entry.ensures ∙ ap option_copied c.in-Some.is in
    record {
      knows = record {
        at = c.loop-place.place;
        return = record {
          entry = e;
          later = c.loop-place.invariant.low;
          there = at;
          back = ap (λ (k : ClusterNo). comes_back k (what e)) (sym c.number.ensures) ∙ sym c.brings_back.ensures ∙ c.if-brings_back.true;
          first = c.loop-place.invariant.none;
        };
        place = refl;
        known = knows_next b c.requires.sound c.requires.goes_on c.loop-place.place e c.loop-place.known.places c.take.new.self.places c.loop-place.known.family c.take.new.self.family at c.loop-place.invariant.known c.in_ok-take.ensures;
      };
    }

pub loop-place-preserved : goal.loop-place-preserved
loop-place-preserved c =
    let b : BusView = c.args.bus.now in
    let v = c.args.cluster.now in
    let e : Entry = c.in-Some.entry.now in
    let at : slice_get b.log c.loop-place.place ≡ Some e = sym c.entry.ensures ∙ ap option_copied c.in-Some.is in
    let low = c.loop-place.invariant.low in
    record {
      low = omega (arith, low);
      known = knows_next b c.requires.sound c.requires.goes_on c.loop-place.place e c.loop-place.known.places c.take.new.self.places c.loop-place.known.family c.take.new.self.family at c.loop-place.invariant.known c.in_ok-take.ensures;
      none = none_next b.log v.number v.cursor c.loop-place.place e low at c.loop-place.invariant.none (ap (λ (k : ClusterNo). comes_back k (what e)) (sym c.number.ensures) ∙ sym c.brings_back.ensures ∙ c.if-brings_back.false);
    }

pub unreachable-requires-2 : goal.unreachable-requires-2
unreachable-requires-2 c =
    let b : BusView = c.args.bus.now in
    let v = c.args.cluster.now in
    let far : length b.log ≤ c.loop-place.place = omega (arith, c.loop-place-test.false, c.length-place-end.ensures.length) in
    returned_behind b c.requires.sound c.requires.goes_on v c.requires.lives c.requires.stopped c.requires.lost c.loop-place.place far c.loop-place.invariant.none
