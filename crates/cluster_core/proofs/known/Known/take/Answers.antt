use Rattle.std.proofs.Common.{◌∙◌, sym, ap, subst}
use Rattle.bus_msg.specs.PlacedAfter.{what, placed_after}
use Rattle.channel_table.specs.Changes.{CanBeAbsorbed}
use Rattle.cert_sched.specs.Legal.{MayStand}
use Rattle.cert_sched.proofs.LogLaws.{IsLegal-last, placement-snoc}
use Rattle.cert_sched.proofs.NextChildren.{may_be_absorbed}
use Rattle.cluster_core.proofs.births.FamilyNext.{can_join, family_next}
use Rattle.cluster_core.proofs.known.Known.take.Goals as goal

pub join-requires : goal.join-requires
join-requires c =
    let r = c.requires in
    can_join r.system r.log c.args.entry.now c.args.self.now.family r.valid r.open_log r.open_next (r.known).family_is

pub absorb-requires : goal.absorb-requires
absorb-requires c =
    let r = c.requires in
    let e = c.args.entry.now in
    subst (λ places. CanBeAbsorbed places (what e)) (sym (r.known).places_are) (may_be_absorbed r.system r.log e r.valid (r.open_log).0 (IsLegal-last MayStand r.system r.log e (r.open_next).0).stands)

pub returns : goal.returns
returns c system log valid now next known =
    let e = c.args.entry.now in
    record {
      places_are = c.in_ok-absorb.ensures.ok ∙ ap (λ places. placed_after places (what e)) known.places_are ∙ sym (placement-snoc system log e);
      family_is = c.in_ok-join.ensures.ok ∙ family_next system log e c.args.self.now.family valid now next known.family_is;
    }
