use Rattle.std.proofs.Common.{refl}
use Rattle.std.proofs.lemmas.Result.{IfOk-weaker}
use Rattle.cluster_core.specs.Work.{RunsNext, WorksHere}
use Rattle.cluster_core.proofs.working.WorkedOn.{works_next}
use Rattle.cluster_core.proofs.work.work_here.Goals as goal

pub returns-clause-ok : goal.returns-clause-ok
returns-clause-ok c =
    let k = c.args.number in
    let places = c.args.places.now in
    let family = c.args.family.now in
    let old = c.args.here.now in
    let new = c.run_next.new.here in
    let queue = c.run_next.new.queue.items in
    let none = c.ask.ensures.none c.in_default.is in
    IfOk-weaker c.run_next.result (λ worked. RunsNext k places family c.ask.new.self worked new queue) (λ worked. WorksHere k places family old worked new queue)
    (λ worked runs server unowed.
    works_next k family c.ask.new.self old new c.ask.ensures.duty none.1 c.ask.ensures.last places server server worked queue (record { unowed = unowed; none = none.0; kept = refl }) runs)
    c.run_next.ensures.ok
