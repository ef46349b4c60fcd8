use Rattle.cluster_turns.proofs.Offering.{told_along, was_told}
use Rattle.cluster_turns.proofs.Owning.{told_own}
use Rattle.cluster_turns.proofs.turn.tell.Goals as goal

pub returns-clause-told : goal.returns-clause-told
returns-clause-told g c =
    let v = c.in_ok-tell.ensures.told in
    (v.left, v.is_left, was_told c.args.cluster.now c.in_ok-mark.mark _ v.found v.left c.in_ok-mark.ensures v.done)

pub returns-clause-own : goal.returns-clause-own
returns-clause-own g c alone own seen =
    let v = c.in_ok-tell.ensures.told in
    told_own g.P.Port.alone alone (g.P.Port.bus c.args.port.now) (g.P.Port.bus c.tell.new.self) c.args.cluster.now c.in_ok-mark.mark _ own c.in_ok-tell.ensures.sound c.requires.shown.along seen c.requires.answered (c.tell.ensures.adds alone) v

pub returns-clause-shown : goal.returns-clause-shown
returns-clause-shown g c =
    let told = c.in_ok-tell.ensures in
    record {
      shows = told.shows;
      from_there = told.from;
      sound = told.sound;
      along = told_along g.P.Port.alone (g.P.Port.bus c.args.port.now) (g.P.Port.bus c.tell.new.self) c.args.cluster.now c.in_ok-mark.mark _ c.requires.shown.along told.told;
    }
