use Rattle.std.proofs.Common.{◌≡◌, ◌∙◌, refl, sym, ap, subst, arith, get_or, is_some, true≢false}
use Rattle.std.proofs.lemmas.Bool.{or_parts}
use Rattle.std.proofs.lemmas.Option.{slice_get-get_or}
use Rattle.t32_base.proofs.Facts.{none_is}
use Rattle.t32_base.specs.declared.process.ClusterNo.{ClusterNo}
use Rattle.cert_sched.specs.Rules.{is_over}
use Rattle.bus_order.specs.Script.{off_at}
use Rattle.bus_order.specs.View.{BusView}
use Rattle.cluster_turns.specs.Along.{IsMember}
use Rattle.cluster_turns.specs.Progress.{remaining}
use Rattle.cluster_turns.proofs.Progressing.{done_given, turn_gets_on, turn_lasts}
use Rattle.cluster_run.proofs.Together.{all_after, one_member, past_after, stopped_after}
use Rattle.cluster_run.proofs.rounds.give_turn.Goals as goal

pub is_out-requires-clause-has : goal.is_out-requires-clause-has
is_out-requires-clause-has c =
    let first = one_member c.args.bus.now c.args.clusters.now c.args.number c.index-clusters-number.result c.requires.along c.requires.has in
    let number : c.number.result.0 ≡ c.args.number = ap (λ (k : ClusterNo). k.0) c.number.ensures ∙ first.number in
    omega (arith, number, c.requires.has, c.requires.along.each)

-- ---- its turn

pub turn_of-requires-clause-goes_on : goal.turn_of-requires-clause-goes_on
turn_of-requires-clause-goes_on c =
    let b : BusView = c.args.bus.now in
    (or_parts (is_over b.system b.log) (is_some (off_at b.log c.number.result)) (sym c.is_out.ensures ∙ c.if-is_out.false)).0

pub turn_of-requires-clause-lives : goal.turn_of-requires-clause-lives
turn_of-requires-clause-lives c =
    let b : BusView = c.args.bus.now in
    let first = one_member b c.args.clusters.now c.args.number c.index-clusters-number.result c.requires.along c.requires.has in
    let member = one_member b c.args.clusters.now c.args.number c.index-clusters-number-2.result c.requires.along c.requires.has in
    let v = get_or c.args.clusters.now c.args.number c.index-clusters-number-2.result in
    let parts = or_parts (is_over b.system b.log) (is_some (off_at b.log c.number.result)) (sym c.is_out.ensures ∙ c.if-is_out.false) in
    let same : v.number ≡ c.number.result = λ i. record { 0 = (member.number ∙ sym first.number ∙ sym (ap (λ (k : ClusterNo). k.0) c.number.ensures)) i } in
    none_is (off_at b.log v.number) (ap (λ k. is_some (off_at b.log k)) same ∙ parts.1)

pub turn_of-requires-clause-has : goal.turn_of-requires-clause-has
turn_of-requires-clause-has c =
    let member = one_member c.args.bus.now c.args.clusters.now c.args.number c.index-clusters-number-2.result c.requires.along c.requires.has in
    let number = member.number in
    omega (arith, number, c.requires.has, c.requires.along.each)

pub turn_of-requires-clause-member : goal.turn_of-requires-clause-member
turn_of-requires-clause-member c =
    let b : BusView = c.args.bus.now in
    let member = one_member b c.args.clusters.now c.args.number c.index-clusters-number-2.result c.requires.along c.requires.has in
    record { number = refl; along = member.along; empty = member.empty }

pub turn_of-requires-clause-moving : goal.turn_of-requires-clause-moving
turn_of-requires-clause-moving c =
    let cs = c.args.clusters.now in
    let ts = c.args.stopped.now in
    c.requires.stopped.moving c.args.number _ _ (slice_get-get_or cs c.args.number c.index-clusters-number-2.result c.requires.has) (slice_get-get_or ts c.args.number _ (omega (arith, c.requires.has, c.requires.stopped.each)))

pub turn_of-requires-clause-past : goal.turn_of-requires-clause-past
turn_of-requires-clause-past c =
    let cs = c.args.clusters.now in
    record { each = c.requires.past.each; distinct = c.requires.past.distinct; its = c.requires.past.its c.args.number _ (slice_get-get_or cs c.args.number c.index-clusters-number-2.result c.requires.has) }

-- ---- what it makes

pub returns-clause-owned : goal.returns-clause-owned
returns-clause-owned c = c.in_ok-turn_of.ensures.turns.owned

pub returns-clause-system : goal.returns-clause-system
returns-clause-system c = c.in_ok-turn_of.ensures.turns.adds.system

pub returns-clause-script : goal.returns-clause-script
returns-clause-script c = c.in_ok-turn_of.ensures.turns.adds.script

pub returns-clause-along : goal.returns-clause-along
returns-clause-along c =
    let b : BusView = c.args.bus.now in
    let after : BusView = c.turn_of.new.bus in
    let d = c.index-clusters-number-2.result in
    let parts = or_parts (is_over b.system b.log) (is_some (off_at b.log c.number.result)) (sym c.is_out.ensures ∙ c.if-is_out.false) in
    let turns = c.in_ok-turn_of.ensures.turns in
    let member = one_member b c.args.clusters.now c.args.number d c.requires.along c.requires.has in
    all_after b after c.args.clusters.now c.args.number d c.turn_of.new.cluster c.requires.along c.requires.has parts.0 c.requires.owned.sound turns.owned.sound turns.adds
    (subst (λ n. IsMember after n c.turn_of.new.cluster) member.number c.in_ok-turn_of.ensures.member)

pub returns-clause-stopped : goal.returns-clause-stopped
returns-clause-stopped c =
    let b : BusView = c.args.bus.now in
    let after : BusView = c.turn_of.new.bus in
    let d = c.index-clusters-number-2.result in
    let parts = or_parts (is_over b.system b.log) (is_some (off_at b.log c.number.result)) (sym c.is_out.ensures ∙ c.if-is_out.false) in
    let turns = c.in_ok-turn_of.ensures.turns in
    stopped_after b after c.args.clusters.now c.args.number d c.turn_of.new.cluster c.requires.along c.requires.has parts.0 c.requires.owned.sound turns.owned.sound turns.adds c.args.stopped.now c.turn_of.new.has_stopped c.requires.stopped c.in_ok-turn_of.ensures.moving

pub returns-clause-past : goal.returns-clause-past
returns-clause-past c =
    let b : BusView = c.args.bus.now in
    let after : BusView = c.turn_of.new.bus in
    let d = c.index-clusters-number-2.result in
    let parts = or_parts (is_over b.system b.log) (is_some (off_at b.log c.number.result)) (sym c.is_out.ensures ∙ c.if-is_out.false) in
    let turns = c.in_ok-turn_of.ensures.turns in
    past_after b after c.args.clusters.now c.args.number d c.turn_of.new.cluster c.requires.along c.requires.has parts.0 c.requires.owned.sound turns.owned.sound turns.adds c.args.past.now.items c.turn_of.new.past.items c.requires.past c.in_ok-turn_of.ensures.past c.in_ok-turn_of.ensures.others

pub returns-clause-over : goal.returns-clause-over
returns-clause-over c over =
    let b : BusView = c.args.bus.now in
    let parts = or_parts (is_over b.system b.log) (is_some (off_at b.log c.number.result)) (sym c.is_out.ensures ∙ c.if-is_out.false) in
    absurd (true≢false (sym over ∙ parts.0))

pub returns-clause-lasts : goal.returns-clause-lasts
returns-clause-lasts c =
    let b : BusView = c.args.bus.now in
    let d = c.index-clusters-number-2.result in
    let member = one_member b c.args.clusters.now c.args.number d c.requires.along c.requires.has in
    turn_lasts b c.turn_of.new.bus c.args.clusters.now c.args.number d c.turn_of.new.cluster c.requires.has member.number c.in_ok-turn_of.ensures.turns

pub returns-clause-gets_on : goal.returns-clause-gets_on
returns-clause-gets_on c =
    let b : BusView = c.args.bus.now in
    let d = c.index-clusters-number-2.result in
    let member = one_member b c.args.clusters.now c.args.number d c.requires.along c.requires.has in
    turn_gets_on b c.turn_of.new.bus c.args.clusters.now c.args.number d c.turn_of.new.cluster c.requires.has member.number c.in_ok-turn_of.ensures.turns

-- ---- none is given

pub returns-then-is_out-clause-gets_on : goal.returns-then-is_out-clause-gets_on
returns-then-is_out-clause-gets_on c =
    let member = one_member c.args.bus.now c.args.clusters.now c.args.number c.index-clusters-number.result c.requires.along c.requires.has in
    let number : c.number.result.0 ≡ c.args.number = ap (λ (k : ClusterNo). k.0) c.number.ensures ∙ member.number in
    done_given c.args.bus.now (remaining c.args.bus.now c.args.clusters.now) c.args.number c.number.result c.requires.owned.sound.legal number (sym c.is_out.ensures ∙ c.if-is_out.true)
