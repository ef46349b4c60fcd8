use Rattle.std.proofs.Common.{subst, Vec, Global, Option, IfSome}
use Rattle.std.specs.Arc.{arc_value}
use Rattle.bus_lock.specs.Seats.{seen}
use Rattle.cluster_threads.specs.declared.followed.Followed.{Followed}
use Rattle.cluster_threads.specs.Seated.{made_of}
use Rattle.cluster_threads.specs.Threads.{AllEnded}
use Rattle.cluster_threads.proofs.Seats.{join_done, one_more_seat}
use Rattle.cluster_threads.proofs.running.join_last.Goals as goal

pub returns-in-Some-clause-seat : goal.returns-in-Some-clause-seat
returns-in-Some-clause-seat c =
    one_more_seat c.args.lock.now (made_of (arc_value c.args.system.now) c.args.script.now) c.args.count c.args.others.0 c.args.last.0 c.join.new.seat c.args.last.1 c.requires.seat c.requires.last c.join.ensures.of c.join.ensures.joined

pub returns-in-Some-clause-ended : goal.returns-in-Some-clause-ended
returns-in-Some-clause-ended c =
    let before = seen c.args.others.0 in
    let P : Option (Vec Followed Global) → Type 0 = λ o. IfSome o (λ fs. AllEnded (made_of (arc_value c.args.system.now) c.args.script.now) c.args.count before fs.items) in
    join_done (made_of (arc_value c.args.system.now) c.args.script.now) (λ (v : Vec Followed Global). v.items) c.with_last.result c.args.count before (seen c.join.new.seat) (seen c.args.last.0) c.in-Some.clusters.items c.args.last.1 c.with_last.ensures
    (subst P c.in-Some.is c.requires.ended) c.join.ensures.joined.first c.requires.last.ended c.join.ensures.joined.second

pub returns-in-None-clause-seat : goal.returns-in-None-clause-seat
returns-in-None-clause-seat c =
    one_more_seat c.args.lock.now (made_of (arc_value c.args.system.now) c.args.script.now) c.args.count c.args.others.0 c.args.last.0 c.join.new.seat c.args.last.1 c.requires.seat c.requires.last c.join.ensures.of c.join.ensures.joined
