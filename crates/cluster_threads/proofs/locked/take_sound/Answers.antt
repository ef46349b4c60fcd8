use Rattle.std.proofs.Common.{◌≡◌, ◌∙◌, ap}
use Rattle.sys_text.specs.Valid.{is_system}
use Rattle.bus_lock.specs.Seats.{seat_origin}
use Rattle.bus_order.specs.declared.shared.Origin.{Origin}
use Rattle.bus_order.specs.View.{BusView}
use Rattle.cluster_threads.specs.Seated.{made_of, origin_of}
use Rattle.cluster_turns.proofs.Answering.{same_from}
use Rattle.cluster_turns.proofs.Worded.{sound_of}
use Rattle.cluster_threads.proofs.locked.take_sound.Goals as goal

pub returns-clause-sound : goal.returns-clause-sound
returns-clause-sound g c =
    let b : BusView = c.take.result.value in
    let v = c.args.cluster.now in
    let from = c.requires.from in
    let origin : origin_of b ≡ made_of v.system from.script = same_from (origin_of b) (made_of v.system from.script) (seat_origin c.args.seat.now) c.take.ensures.origin from.from in
    let system : b.system ≡ v.system = ap (λ (o : Origin). o.system) origin in
    sound_of b (ap is_system system ∙ c.requires.valid) c.take.ensures.lawful

pub returns-clause-system : goal.returns-clause-system
returns-clause-system g c =
    let b : BusView = c.take.result.value in
    let v = c.args.cluster.now in
    let from = c.requires.from in
    ap (λ (o : Origin). o.system) (same_from (origin_of b) (made_of v.system from.script) (seat_origin c.args.seat.now) c.take.ensures.origin from.from)
