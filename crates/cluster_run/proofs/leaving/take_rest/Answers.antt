use Rattle.std.proofs.Common.{◌≡◌, ◌≤◌, ◌∙◌, ap, sym, subst, arith, refl, is_some, length, drop, false, true, inr}
use Rattle.t32_base.proofs.Facts.{none_is}
use Rattle.t32_base.specs.declared.process.ClusterNo.{ClusterNo}
use Rattle.cert_sched.specs.Losses.{was_lost_in}
use Rattle.cluster_core.specs.View.{ClusterView}
use Rattle.bus_order.specs.Script.{off_at}
use Rattle.bus_order.specs.View.{BusView}
use Rattle.cluster_turns.proofs.CutOff.{cut_lost, finished_not_ended, whole_living}
use Rattle.cluster_turns.specs.Lives.{begin_of_life}
use Rattle.cluster_run.proofs.Begins.{begin_after}
use Rattle.cluster_turns.proofs.Staying.{same_lost}
use Rattle.cluster_run.proofs.AtTheEnd.{cut_stopped, member_on, off_lost, rest_caught, still_along}
use Rattle.cluster_run.proofs.Together.{member_within}
use Rattle.cluster_run.proofs.leaving.take_rest.Goals as goal

-- ---- it is off at the end

pub returns-then-is_some-clause-caught : goal.returns-then-is_some-clause-caught
returns-then-is_some-clause-caught c =
    let b : BusView = c.args.bus.now in
    let v = c.args.cluster.now in
    let off : is_some (off_at b.log v.number) ≡ true = ap (λ k. is_some (off_at b.log k)) (sym c.number.ensures) ∙ ap is_some (sym c.off_at.ensures.off) ∙ sym c.is_some.ensures ∙ c.if-is_some.true in
    let lost = off_lost b.log v.number v.cursor (member_on b v c.requires.along) off in
    inr (cut_stopped b v c.requires.sound (cut_lost v.number b.system b.log v.cursor lost) c.requires.along)

pub returns-then-is_some-clause-lost : goal.returns-then-is_some-clause-lost
returns-then-is_some-clause-lost c whole =
    let b : BusView = c.args.bus.now in
    let v = c.args.cluster.now in
    let off : is_some (off_at b.log v.number) ≡ true = ap (λ k. is_some (off_at b.log k)) (sym c.number.ensures) ∙ ap is_some (sym c.off_at.ensures.off) ∙ sym c.is_some.ensures ∙ c.if-is_some.true in
    off_lost b.log v.number v.cursor (member_on b v c.requires.along) off ∙ sym off

-- ---- it lives

pub was_lost_from-requires : goal.was_lost_from-requires
was_lost_from-requires c =
    let b : BusView = c.args.bus.now in
    subst (λ n. n ≤ length b.log) (sym c.cursor.ensures) (member_within b c.args.cluster.now c.requires.sound c.requires.along)

pub take_unnamed-requires-clause-shown : goal.take_unnamed-requires-clause-shown
take_unnamed-requires-clause-shown c =
    let b : BusView = c.args.bus.now in
    let v = c.args.cluster.now in
    let lives : was_lost_in (drop v.cursor b.log) v.number ≡ false = sym (λ i. was_lost_in (drop (c.cursor.ensures i) b.log) (c.number-2.ensures i)) ∙ sym c.was_lost_from.ensures.lost ∙ c.if-was_lost_from.false in
    record {
      shows = tt;
      from_there = omega arith;
      sound = c.requires.sound;
      along = still_along b v (whole_living v.number b.system b.log v.cursor lives (finished_not_ended b.system b.log c.requires.finished)) (none_is (v.failed) (ap is_some (sym c.failed.ensures) ∙ sym c.is_some-2.ensures ∙ c.if-is_some-2.false)) c.requires.along;
    }

pub returns-clause-caught : goal.returns-clause-caught
returns-clause-caught c =
    let b : BusView = c.args.bus.now in
    let v = c.args.cluster.now in
    let lives : was_lost_in (drop v.cursor b.log) v.number ≡ false = sym (λ i. was_lost_in (drop (c.cursor.ensures i) b.log) (c.number-2.ensures i)) ∙ sym c.was_lost_from.ensures.lost ∙ c.if-was_lost_from.false in
    rest_caught b v c.take_unnamed.new.cluster lives (c.in_ok-take_unnamed.ensures.taken c.if-branch.false) (c.in_ok-take_unnamed.ensures.caught c.if-branch.false)

pub returns-clause-lost : goal.returns-clause-lost
returns-clause-lost c whole =
    let b : BusView = c.args.bus.now in
    let v = c.args.cluster.now in
    let lives : was_lost_in (drop v.cursor b.log) v.number ≡ false = sym (λ i. was_lost_in (drop (c.cursor.ensures i) b.log) (c.number-2.ensures i)) ∙ sym c.was_lost_from.ensures.lost ∙ c.if-was_lost_from.false in
    let on : is_some (off_at b.log v.number) ≡ false = ap (λ k. is_some (off_at b.log k)) (sym c.number.ensures) ∙ ap is_some (sym c.off_at.ensures.off) ∙ sym c.is_some.ensures ∙ c.if-is_some.false in
    same_lost b.log v c.take_unnamed.new.cluster c.in_ok-take_unnamed.ensures.same.number c.in_ok-take_unnamed.ensures.life ∙ lives ∙ sym (ap (λ (k : ClusterNo). is_some (off_at b.log k)) c.in_ok-take_unnamed.ensures.same.number ∙ on)

-- ---- it is in the same life

pub returns-then-is_some-clause-life : goal.returns-then-is_some-clause-life
returns-then-is_some-clause-life c = (refl, refl)

pub returns-clause-life : goal.returns-clause-life
returns-clause-life c =
    let b : BusView = c.args.bus.now in
    let v = c.args.cluster.now in
    let new : ClusterView = c.take_unnamed.new.cluster in
    let taken = c.in_ok-take_unnamed.ensures.taken c.if-branch.false in
    let number = c.in_ok-take_unnamed.ensures.same.number in
    (number, ap (λ (k : ClusterNo). begin_of_life b.log k new.cursor) number ∙ begin_after b.system b.log v.number c.requires.sound.legal v.cursor new.cursor taken.stays ((taken.along).beside).within (member_on b v c.requires.along))
