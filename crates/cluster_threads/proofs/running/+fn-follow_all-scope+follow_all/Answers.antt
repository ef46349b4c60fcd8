use Rattle.std.proofs.Common.{rules, ◌≡◌, sym, subst, arith, vec_len}
use Rattle.std.specs.Arc.{arc_value}
use Rattle.cluster_threads.specs.Seated.{made_of}
use Rattle.cluster_threads.specs.Threads.{HoldsFirst}
use Rattle.cluster_threads.proofs.running.+fn-follow_all-scope+follow_all.Goals as goal

pub returns-then-is_empty-clause-seat : goal.returns-then-is_empty-clause-seat
returns-then-is_empty-clause-seat g n c =
    let none : vec_len c.take_last-seat.new.seats ≡ 0 = search rules in
    let one : vec_len c.args.seats ≡ 1 = omega (arith, c.take_last-seat.ensures.count, none) in
    subst (λ m. HoldsFirst c.args.lock.now (made_of (arc_value c.args.system.now) c.args.script.now) m c.first_of.result.0) (sym one) c.first_of.ensures.seat
