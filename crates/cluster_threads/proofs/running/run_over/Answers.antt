use Rattle.std.proofs.Common.{rules, ◌≡◌, ◌∙◌, sym, ap, subst, arith, Vec, Global, List, Option, None, Some, IfSome, vec_len}
use Rattle.std.specs.Arc.{arc_value}
use mathlib.Core.List.{IsPrefix}
use Rattle.sys_text.specs.declared.system.System.{System}
use Rattle.sys_text.specs.Valid.{is_system}
use Rattle.bus_order.specs.declared.shared.Origin.{Origin}
use Rattle.bus_order.specs.View.{BusView, IsLawful}
use Rattle.bus_lock.specs.Lists.{Holds}
use Rattle.bus_lock.specs.Seats.{seat_count, seen}
use Rattle.bus_lock.proofs.Lists.{in_numbers}
use Rattle.cluster_turns.proofs.Answering.{same_from}
use Rattle.cluster_turns.proofs.Worded.{sound_of}
use Rattle.cluster_threads.specs.declared.followed.Followed.{Followed}
use Rattle.cluster_threads.specs.Seated.{made_of, origin_of}
use Rattle.cluster_threads.specs.Threads.{AllEnded, AreBeside, clusters_of, past_of}
use Rattle.cluster_threads.proofs.Parting.{all_beside}
use Rattle.cluster_threads.proofs.Seats.{all_ready}
use Rattle.cluster_threads.proofs.running.run_over.Goals as goal

pub follow_all-seat-requires-clause-ready : goal.follow_all-seat-requires-clause-ready
follow_all-seat-requires-clause-ready g c κs within n v at = all_ready (made_of (arc_value c.args.system.now) c.args.script.now) c.args.clusters.items c.requires.valid c.requires.started n v at

pub close-requires-clause-all : goal.close-requires-clause-all
close-requires-clause-all g c = λ number less.
    let count : seat_count c.in_ok-lock.lock ≡ vec_len c.into_vec.result = search rules in
    subst (Holds number) (sym c.follow_all-seat.ensures.seat.all) (in_numbers number 0 (vec_len c.into_vec.result) (omega arith) (omega (arith, less, count)))

-- what is so of the clusters where there are some
where_some : {Z : Type 0} (items : Z → List Followed) (All Left : List Followed → Type 0) (o : Option Z) → ((fs : List Followed) → All fs → Left fs) → IfSome o (λ z. All (items z)) → IfSome o (λ z. Left (items z))
where_some items All Left None leaves all = tt
where_some items All Left (Some z) leaves all = leaves (items z) all

pub leave_all-requires-clause-sound : goal.leave_all-requires-clause-sound
leave_all-requires-clause-sound g c =
    let system : System = arc_value c.args.system.now in
    let b : BusView = c.into_inner-bus.result in
    let closed : b ≡ c.close.result = c.into_inner-bus.ensures ∙ c.into_box.ensures.same in
    let origin : origin_of c.close.result ≡ made_of system c.args.script.now = same_from (origin_of c.close.result) (made_of system c.args.script.now) _ c.close.ensures.value.origin c.follow_all-seat.ensures.seat.origin in
    let same : b.system ≡ system = ap (λ (v : BusView). v.system) closed ∙ ap (λ (o : Origin). o.system) origin in
    let lawful : IsLawful b = subst IsLawful (sym c.into_inner-bus.ensures) c.into_box.ensures.lawful in
    sound_of b (ap is_system same ∙ c.requires.valid) lawful

pub leave_all-requires-clause-beside : goal.leave_all-requires-clause-beside
leave_all-requires-clause-beside g c =
    let system : System = arc_value c.args.system.now in
    let b : BusView = c.into_inner-bus.result in
    let log = seen c.follow_all-seat.result.0 in
    let closed : b ≡ c.close.result = c.into_inner-bus.ensures ∙ c.into_box.ensures.same in
    let origin : origin_of c.close.result ≡ made_of system c.args.script.now = same_from (origin_of c.close.result) (made_of system c.args.script.now) _ c.close.ensures.value.origin c.follow_all-seat.ensures.seat.origin in
    let same : b.system ≡ system = ap (λ (v : BusView). v.system) closed ∙ ap (λ (o : Origin). o.system) origin in
    let begins : IsPrefix log b.log = subst (λ (v : BusView). IsPrefix log v.log) (sym closed) c.close.ensures.value.begins in
    let clusters : vec_len c.into_vec.result ≡ system.clusters = search rules in
    let from : Origin = made_of system c.args.script.now in
    let lawful : IsLawful b = subst IsLawful (sym c.into_inner-bus.ensures) c.into_box.ensures.lawful in
    let sound = sound_of b (ap is_system same ∙ c.requires.valid) lawful in
    let came : origin_of b ≡ from = ap origin_of closed ∙ origin in
    let count = clusters ∙ ap (λ (s : System). s.clusters) (sym same) in
    where_some (λ (v : Vec Followed Global). v.items) (AllEnded from (vec_len c.into_vec.result) log) (λ fs. AreBeside b (clusters_of fs) (past_of fs)) c.follow_all-seat.result.1
    (λ fs all. all_beside b from (vec_len c.into_vec.result) log fs sound came count begins all) c.follow_all-seat.ensures.ended
