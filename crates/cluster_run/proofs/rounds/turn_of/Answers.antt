use Rattle.std.proofs.Common.{◌≡◌, ◌∙◌, refl, subst}
use Rattle.t32_base.specs.declared.process.ClusterNo.{ClusterNo}
use Rattle.cluster_core.specs.View.{ClusterView}
use Rattle.bus_order.specs.View.{BusView}
use Rattle.cluster_turns.proofs.CutOff.{open_not_ended, whole_living}
use Rattle.cluster_turns.specs.Along.{IsMember}
use Rattle.cluster_turns.specs.Turns.{TurnsOwn}
use Rattle.cluster_turns.proofs.Owning.{turn_then, where_ok}
use Rattle.cluster_run.specs.AtOnce.{GoesOnAtOnce}
use Rattle.cluster_run.specs.Past.{IsStillPast}
use Rattle.cluster_run.proofs.AtOnce.{turns_at_once}
use Rattle.cluster_run.proofs.AtTheEnd.{member_on, stands_there, still_due}
use Rattle.cluster_run.proofs.LivesTurned.{begun_due, begun_empty, begun_most, past_turned}
use Rattle.cluster_run.proofs.NextLife.{begun_member}
use Rattle.cluster_run.proofs.Together.{member_within}
use Rattle.cluster_run.proofs.rounds.turn_of.Goals as goal

pub take_turn-requires-clause-due : goal.take_turn-requires-clause-due
take_turn-requires-clause-due c =
    let b : BusView = c.args.bus.now in
    let v : ClusterView = c.begin_lives.new.cluster in
    let begins = c.in_ok-begin_lives.ensures.begins in
    let whole = whole_living v.number b.system b.log v.cursor begins.alive (open_not_ended b.system b.log c.requires.goes_on) in
    begun_due b v c.requires.owned.sound (still_due b v whole (begun_member b c.args.cluster.now v begins.began c.requires.member.along))

pub take_turn-requires-clause-empty : goal.take_turn-requires-clause-empty
take_turn-requires-clause-empty c =
    let begins = c.in_ok-begin_lives.ensures.begins in
    begun_empty c.args.bus.now c.args.cluster.now c.begin_lives.new.cluster begins.began begins.alive (c.requires.member.empty c.requires.goes_on)

pub begin_lives-requires-clause-has : goal.begin_lives-requires-clause-has
begin_lives-requires-clause-has c = c.requires.has

pub returns-then-not-returns-clause-past : goal.returns-then-not-returns-clause-past
returns-then-not-returns-clause-past c =
    let b : BusView = c.args.bus.now in
    let after : BusView = c.take_turn.new.port in
    let v : ClusterView = c.begin_lives.new.cluster in
    let new : ClusterView = c.take_turn.new.cluster in
    let begins = c.in_ok-begin_lives.ensures.begins in
    let own = c.in_ok-turn.ensures.own refl (c.requires.owned, c.requires.goes_on) begins.alive in
    let member = begun_member b c.args.cluster.now v begins.began c.requires.member.along in
    let there = stands_there _ _ _ after new c.in_ok-turn.ensures.stands in
    past_turned b after c.begin_lives.new.past.items v new own.owned.sound c.in_ok-turn.ensures.grows c.in_ok-turn.ensures.same.number (member_within b v c.requires.owned.sound member) (member_within after new own.owned.sound there) (member_on b v member)
    c.in_ok-turn.ensures.life (begins.past c.requires.past)

pub returns-then-not-returns-clause-turns : goal.returns-then-not-returns-clause-turns
returns-then-not-returns-clause-turns c =
    let b : BusView = c.args.bus.now in
    let after : BusView = c.take_turn.new.port in
    let v : ClusterView = c.begin_lives.new.cluster in
    let begins = c.in_ok-begin_lives.ensures.begins in
    turn_then b after c.args.cluster.now v c.take_turn.new.cluster (begins.same).number (begun_most b c.args.cluster.now v begins.began) (c.in_ok-turn.ensures.own refl (c.requires.owned, c.requires.goes_on) begins.alive)

-- ---- what it did at once after that

pub go_on_at_once-requires-clause-past : goal.go_on_at_once-requires-clause-past
go_on_at_once-requires-clause-past c =
    let b : BusView = c.args.bus.now in
    let after : BusView = c.take_turn.new.port in
    let v : ClusterView = c.begin_lives.new.cluster in
    let new : ClusterView = c.take_turn.new.cluster in
    let begins = c.in_ok-begin_lives.ensures.begins in
    let own = c.in_ok-turn.ensures.own refl (c.requires.owned, c.requires.goes_on) begins.alive in
    let member = begun_member b c.args.cluster.now v begins.began c.requires.member.along in
    let there = stands_there _ _ _ after new c.in_ok-turn.ensures.stands in
    past_turned b after c.begin_lives.new.past.items v new own.owned.sound c.in_ok-turn.ensures.grows c.in_ok-turn.ensures.same.number (member_within b v c.requires.owned.sound member) (member_within after new own.owned.sound there) (member_on b v member)
    c.in_ok-turn.ensures.life (begins.past c.requires.past)

pub returns-clause-same : goal.returns-clause-same
returns-clause-same c =
    let first : ClusterView = c.take_turn.new.cluster in
    let new : ClusterView = c.go_on_at_once.new.cluster in
    let number = c.in_ok-turn.ensures.same.number ∙ (c.in_ok-begin_lives.ensures.begins.same).number in
    where_ok c.go_on_at_once.result (new.number ≡ first.number) (new.number ≡ c.args.cluster.now.number) (λ same. same ∙ number) c.go_on_at_once.ensures.same

pub returns-clause-member : goal.returns-clause-member
returns-clause-member c =
    let first : ClusterView = c.take_turn.new.cluster in
    let new : ClusterView = c.go_on_at_once.new.cluster in
    let after : BusView = c.go_on_at_once.new.bus in
    let number = c.in_ok-turn.ensures.same.number ∙ (c.in_ok-begin_lives.ensures.begins.same).number in
    where_ok c.go_on_at_once.result (IsMember after (first.number).0 new) (IsMember after (c.args.cluster.now.number).0 new) (λ member. subst (λ (k : ClusterNo). IsMember after k.0 new) number member) c.go_on_at_once.ensures.member

pub returns-clause-others : goal.returns-clause-others
returns-clause-others c =
    let first : ClusterView = c.take_turn.new.cluster in
    let number = c.in_ok-turn.ensures.same.number ∙ (c.in_ok-begin_lives.ensures.begins.same).number in
    let mid = c.begin_lives.new.past.items in
    let last = c.go_on_at_once.new.past.items in
    where_ok c.go_on_at_once.result (IsStillPast first.number mid last) (IsStillPast c.args.cluster.now.number c.args.past.now.items last)
    (λ others j from other. subst (λ (k : ClusterNo). IsStillPast k mid last) number others j from other ∙ c.in_ok-begin_lives.ensures.begins.others j from other) c.go_on_at_once.ensures.others

pub returns-clause-turns : goal.returns-clause-turns
returns-clause-turns c =
    let b : BusView = c.args.bus.now in
    let mid : BusView = c.take_turn.new.port in
    let after : BusView = c.go_on_at_once.new.bus in
    let v : ClusterView = c.begin_lives.new.cluster in
    let first : ClusterView = c.take_turn.new.cluster in
    let new : ClusterView = c.go_on_at_once.new.cluster in
    let begins = c.in_ok-begin_lives.ensures.begins in
    let number = c.in_ok-turn.ensures.same.number ∙ (begins.same).number in
    let turns = turn_then b mid c.args.cluster.now v first (begins.same).number (begun_most b c.args.cluster.now v begins.began) (c.in_ok-turn.ensures.own refl (c.requires.owned, c.requires.goes_on) begins.alive) in
    where_ok c.go_on_at_once.result (GoesOnAtOnce mid after first new) (TurnsOwn b after c.args.cluster.now new) (turns_at_once b mid after c.args.cluster.now first new number turns) c.go_on_at_once.ensures.goes_on
