use Rattle.bus_order.specs.View.{BusView}
use Rattle.cluster_turns.proofs.CutOff.{cut_lost}
use Rattle.cluster_turns.proofs.Staying.{same_lost}
use Rattle.cluster_run.proofs.AtTheEnd.{cut_stopped}
use Rattle.cluster_run.proofs.NextLife.{taken_stopped}
use Rattle.cluster_run.proofs.beginning.take_until_lost.Goals as goal

pub returns-then-has_stopped-clause-stopped : goal.returns-then-has_stopped-clause-stopped
returns-then-has_stopped-clause-stopped c =
    let b : BusView = c.args.bus.now in
    let v = c.args.cluster.now in
    cut_stopped b v c.requires.sound (cut_lost v.number b.system b.log v.cursor c.requires.lost) c.requires.member

pub returns-clause-stopped : goal.returns-clause-stopped
returns-clause-stopped c =
    let b : BusView = c.args.bus.now in
    let taken = c.in_ok-take_unnamed.ensures in
    taken_stopped b c.args.cluster.now c.take_unnamed.new.cluster _ c.requires.sound c.requires.lost (same_lost b.log c.args.cluster.now c.take_unnamed.new.cluster taken.same.number taken.life) taken.taken taken.before
