use Rattle.std.proofs.Common.{rules, ◌≡◌, ◌∙◌, sym, subst, length, vec_len}
use Rattle.std.specs.Arc.{arc_value}
use Rattle.sys_text.specs.declared.system.System.{System}
use Rattle.cluster_threads.specs.Seated.{made_of}
use Rattle.cluster_threads.specs.Threads.{IsReady}
use Rattle.cluster_threads.proofs.Seats.{at_start, last_cluster, last_seat, left_seats}
use Rattle.cluster_threads.proofs.running.take_last.Goals as goal

pub returns-clause-fresh : goal.returns-clause-fresh
returns-clause-fresh c = left_seats c.args.lock.now (made_of (arc_value c.args.system.now) c.args.script.now) _ _ _ _ c.pop.ensures.items c.unwrap-seat.ensures c.requires.fresh

pub returns-clause-ready : goal.returns-clause-ready
returns-clause-ready c = (last_cluster (made_of (arc_value c.args.system.now) c.args.script.now) _ _ _ _ c.pop-2.ensures.items c.unwrap-cluster.ensures c.requires.ready).1

pub returns-clause-starts : goal.returns-clause-starts
returns-clause-starts c =
    let system : System = arc_value c.args.system.now in
    let last = (last_cluster (made_of system c.args.script.now) _ _ _ _ c.pop-2.ensures.items c.unwrap-cluster.ensures c.requires.ready).0 in
    let each : vec_len c.pop-2.new.self ≡ vec_len c.pop.new.self = search rules in
    let same : length c.pop-2.new.self.items ≡ length c.pop.new.self.items = sym c.pop-2.new.self.ok.0 ∙ each ∙ c.pop.new.self.ok.0 in
    at_start c.args.lock.now (made_of system c.args.script.now) _ c.unwrap-seat.result c.unwrap-cluster.result (last_seat c.args.lock.now (made_of system c.args.script.now) _ _ _ _ c.pop.ensures.items c.unwrap-seat.ensures c.requires.fresh) (subst (λ n. IsReady (made_of system c.args.script.now) n c.unwrap-cluster.result) same last)

pub returns-clause-number : goal.returns-clause-number
returns-clause-number c =
    let last = (last_cluster (made_of (arc_value c.args.system.now) c.args.script.now) _ _ _ _ c.pop-2.ensures.items c.unwrap-cluster.ensures c.requires.ready).0 in
    let each : vec_len c.pop-2.new.self ≡ vec_len c.pop.new.self = search rules in
    (last.started).number_is ∙ sym c.pop-2.new.self.ok.0 ∙ each
