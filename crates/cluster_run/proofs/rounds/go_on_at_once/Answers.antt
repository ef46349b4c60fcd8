use Rattle.std.proofs.Common.{◌≡◌, ◌∙◌, refl, sym, ap, drop, arith, inl, inr, true, is_some}
use Rattle.std.proofs.lemmas.Bool.{or_parts}
use Rattle.t32_base.proofs.Facts.{none_is}
use Rattle.cert_sched.specs.Losses.{was_lost_in}
use Rattle.cluster_core.specs.View.{ClusterView}
use Rattle.bus_order.specs.Script.{off_at}
use Rattle.bus_order.specs.View.{BusView}
use Rattle.cluster_turns.specs.Turns.{GoesOwn}
use Rattle.cluster_run.proofs.AtTheEnd.{member_on}
use Rattle.cluster_run.proofs.AtOnce.{BackAtOnce, back_there, began_later, further}
use Rattle.cluster_run.proofs.LivesTurned.{past_turned}
use Rattle.cluster_run.proofs.Together.{member_within}
use Rattle.cluster_run.proofs.rounds.go_on_at_once.Goals as goal

pub begin_lives-requires-clause-goes_on : goal.begin_lives-requires-clause-goes_on
begin_lives-requires-clause-goes_on c = (or_parts _ _ (sym c.is_out.ensures ∙ c.if-is_out.false)).0

pub begin_lives-requires-clause-lives : goal.begin_lives-requires-clause-lives
begin_lives-requires-clause-lives c =
    none_is (off_at c.args.bus.now.log c.args.cluster.now.number)
    (ap (λ k. is_some (off_at c.args.bus.now.log k)) (sym c.number.ensures) ∙ (or_parts _ _ (sym c.is_out.ensures ∙ c.if-is_out.false)).1)

pub begin_lives-requires-clause-member : goal.begin_lives-requires-clause-member
begin_lives-requires-clause-member c = c.requires.member.along

pub catch_up-requires-clause-shown : goal.catch_up-requires-clause-shown
catch_up-requires-clause-shown c =
    let b : BusView = c.args.bus.now in
    let v0 : ClusterView = c.args.cluster.now in
    let v : ClusterView = c.begin_lives.new.cluster in
    let begins = c.in_ok-begin_lives.ensures.begins in
    let lost : was_lost_in (drop v0.cursor b.log) v0.number ≡ true = (λ i. was_lost_in (drop (sym c.cursor.ensures i) b.log) (sym c.number-2.ensures i)) ∙ sym c.was_lost_from.ensures.lost ∙ c.if-not-was_lost_from.false in
    record { shows = tt; from_there = omega arith; sound = c.requires.owned.sound; along = (began_later b v0 v begins.began lost begins.alive).0 }

pub returns-clause-goes_on : goal.returns-clause-goes_on
returns-clause-goes_on c =
    let b : BusView = c.args.bus.now in
    let after : BusView = c.catch_up.new.port in
    let v0 : ClusterView = c.args.cluster.now in
    let v : ClusterView = c.begin_lives.new.cluster in
    let new : ClusterView = c.catch_up.new.cluster in
    let begins = c.in_ok-begin_lives.ensures.begins in
    let goes : GoesOwn b = (c.requires.owned, (or_parts _ _ (sym c.is_out.ensures ∙ c.if-is_out.false)).0) in
    let lost : was_lost_in (drop v0.cursor b.log) v0.number ≡ true = (λ i. was_lost_in (drop (sym c.cursor.ensures i) b.log) (sym c.number-2.ensures i)) ∙ sym c.was_lost_from.ensures.lost ∙ c.if-not-was_lost_from.false in
    let caught = c.in_ok-has_stopped.ensures in
    inr (further b after v0 v new c.in_ok-has_stopped.field-0 (record {
      goes = goes;
      same = begins.same;
      later = began_later b v0 v begins.began lost begins.alive;
      alive = begins.alive;
      number = caught.same.number;
      takes = caught.taken;
      stops = caught.stopped;
      kept = λ is. caught.kept is refl;
      loses = λ is. caught.own is refl goes begins.alive;
    }))

pub returns-clause-past : goal.returns-clause-past
returns-clause-past c =
    let b : BusView = c.args.bus.now in
    let after : BusView = c.catch_up.new.port in
    let v0 : ClusterView = c.args.cluster.now in
    let v : ClusterView = c.begin_lives.new.cluster in
    let new : ClusterView = c.catch_up.new.cluster in
    let begins = c.in_ok-begin_lives.ensures.begins in
    let goes : GoesOwn b = (c.requires.owned, (or_parts _ _ (sym c.is_out.ensures ∙ c.if-is_out.false)).0) in
    let lost : was_lost_in (drop v0.cursor b.log) v0.number ≡ true = (λ i. was_lost_in (drop (sym c.cursor.ensures i) b.log) (sym c.number-2.ensures i)) ∙ sym c.was_lost_from.ensures.lost ∙ c.if-not-was_lost_from.false in
    let caught = c.in_ok-has_stopped.ensures in
    let later = began_later b v0 v begins.began lost begins.alive in
    let back : BackAtOnce b after v0 v new c.in_ok-has_stopped.field-0 = record {
      goes = goes;
      same = begins.same;
      later = later;
      alive = begins.alive;
      number = caught.same.number;
      takes = caught.taken;
      stops = caught.stopped;
      kept = λ is. caught.kept is refl;
      loses = λ is. caught.own is refl goes begins.alive;
    } in
    let sound = ((further b after v0 v new c.in_ok-has_stopped.field-0 back).turns).owned.sound in
    past_turned b after c.begin_lives.new.past.items v new sound caught.grows caught.same.number (member_within b v c.requires.owned.sound (inl later.0)) (member_within after new sound (back_there b after v0 v new c.in_ok-has_stopped.field-0 back))
    (member_on b v (inl later.0)) caught.life (begins.past c.requires.past)
