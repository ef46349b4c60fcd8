use Rattle.std.proofs.Common.{sym, subst, ◌∙◌}
use Rattle.bus_msg.specs.PlacedAfter.{what}
use Rattle.residents.specs.Owing.{duty_in}
use Rattle.backup_records.specs.Records.{records_after}
use Rattle.cluster_core.specs.Recovered.{CanWait, moved_by, with_all_waiting}
use Rattle.cluster_core.proofs.absorbing.Owing.{owing_stays}
use Rattle.cluster_core.proofs.taking_in.take_heard.Goals as goal

pub take_over-requires : goal.take_over-requires
take_over-requires c =
    let w = what c.args.entry.now in
    subst (λ recs. CanWait (moved_by c.args.places.now c.args.number w recs) c.tell.new.here.here) (sym c.in_ok-note.ensures.ok)
    (subst (λ hs. CanWait (moved_by c.args.places.now c.args.number w (records_after c.args.number w c.args.records.now)) hs) (sym c.in_ok-tell.ensures.ok) c.requires.wait)

pub owe_anew-requires : goal.owe_anew-requires
owe_anew-requires c stays =
    let w = what c.args.entry.now in
    let same = c.take_over.ensures.duty ∙ c.tell.ensures.duty in
    let here = c.in_ok-take_over.ensures.here ∙ (λ i. with_all_waiting (moved_by c.args.places.now c.args.number w (c.in_ok-note.ensures.ok i)) (c.in_ok-tell.ensures.ok i)) in
    same ∙ c.requires.duty ∙ owing_stays c.args.here.now.duty.limits c.args.places.now c.args.number w (records_after c.args.number w c.args.records.now) c.args.here.now.here stays
    ∙ (λ i. duty_in ((sym same i).limits) (sym c.in_ok-absorb.ensures.ok i) (sym here i))
