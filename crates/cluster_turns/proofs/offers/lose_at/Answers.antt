use Rattle.std.proofs.Common.{◌≡◌, ◌≤◌, ◌∙◌, length, sym, subst, drop, true, false, true≢false, inl, inr}
use Rattle.bus_order.specs.View.{BusView, Loses}
use Rattle.cert_sched.specs.Losses.{was_lost_in}
use Rattle.cluster_turns.specs.Gone.{own_cause}
use Rattle.cluster_turns.proofs.Owning.{loses_own}
use Rattle.cluster_turns.proofs.CutOff.{cut_ended, ended_over}
use Rattle.cluster_turns.proofs.Quiet.{before_quiet}
use Rattle.cluster_turns.proofs.StepLosses.{cut_gone, lost_answer, lost_gone, lost_there}
use Rattle.cluster_turns.proofs.offers.lose_at.Goals as goal

-- ---- its loss stands in the log

pub was_lost_from-requires : goal.was_lost_from-requires
was_lost_from-requires c = subst (λ n. n ≤ length (c.args.bus.now).log) (sym c.cursor.ensures) c.requires.before.within

pub returns-then-was_lost_from-clause-stopped : goal.returns-then-was_lost_from-clause-stopped
returns-then-was_lost_from-clause-stopped c =
    let b : BusView = c.args.bus.now in
    let v = c.args.cluster.now in
    let lost : was_lost_in (drop v.cursor b.log) v.number ≡ true = sym (λ i. was_lost_in (drop (c.cursor.ensures i) b.log) (c.number.ensures i)) ∙ sym c.was_lost_from.ensures.lost ∙ c.if-was_lost_from.true in
    record { sound = c.requires.sound; gone = lost_gone b v c.requires.before lost; quiet = before_quiet b v c.requires.before }

pub returns-then-was_lost_from-clause-own : goal.returns-then-was_lost_from-clause-own
returns-then-was_lost_from-clause-own c own lives =
    let b : BusView = c.args.bus.now in
    let v = c.args.cluster.now in
    let lost : was_lost_in (drop v.cursor b.log) v.number ≡ true = sym (λ i. was_lost_in (drop (c.cursor.ensures i) b.log) (c.number.ensures i)) ∙ sym c.was_lost_from.ensures.lost ∙ c.if-was_lost_from.true in
    absurd (true≢false (sym lost ∙ lives))

-- ---- the run has ended by a loss

pub returns-then-ends_lost-clause-stopped : goal.returns-then-ends_lost-clause-stopped
returns-then-ends_lost-clause-stopped c =
    let b : BusView = c.args.bus.now in
    let v = c.args.cluster.now in
    let ended = sym c.ends_lost.ensures ∙ c.if-ends_lost.true in
    record { sound = c.requires.sound; gone = cut_gone b v c.requires.before (cut_ended v.number b.system b.log v.cursor ended); quiet = before_quiet b v c.requires.before }

pub returns-then-ends_lost-clause-own : goal.returns-then-ends_lost-clause-own
returns-then-ends_lost-clause-own c own lives =
    let b : BusView = c.args.bus.now in
    let ended = sym c.ends_lost.ensures ∙ c.if-ends_lost.true in
    absurd (true≢false (sym (ended_over b.system b.log ended).0 ∙ own.1))

-- ---- it is lost now

pub returns-in-Ok-clause-stopped : goal.returns-in-Ok-clause-stopped
returns-in-Ok-clause-stopped c =
    let b : BusView = c.args.bus.now in
    let v = c.args.cluster.now in
    let loses = subst (λ r. Loses b v.number (own_cause v) r c.lost_for.new.bus) c.in-Ok.is c.lost_for.ensures.loses in
    let lives : was_lost_in (drop v.cursor b.log) v.number ≡ false = sym (λ i. was_lost_in (drop (c.cursor.ensures i) b.log) (c.number.ensures i)) ∙ sym c.was_lost_from.ensures.lost ∙ c.if-was_lost_from.false in
    lost_answer b c.lost_for.new.bus v c.in-Ok.field-0 c.lost_for.ensures.sound c.requires.before lives loses

pub returns-in-Ok-clause-own : goal.returns-in-Ok-clause-own
returns-in-Ok-clause-own c own lives =
    let b : BusView = c.args.bus.now in
    let v = c.args.cluster.now in
    let loses = subst (λ r. Loses b v.number (own_cause v) r c.lost_for.new.bus) c.in-Ok.is c.lost_for.ensures.loses in
    loses_own b c.lost_for.new.bus v.number v c.in-Ok.field-0 own c.lost_for.ensures.sound (lost_there b c.lost_for.new.bus v c.in-Ok.field-0 c.requires.before.within loses) c.lost_for.ensures.unused loses

pub returns-in-Ok-clause-kept : goal.returns-in-Ok-clause-kept
returns-in-Ok-clause-kept c (inl over) =
    let b : BusView = c.args.bus.now in
    let v = c.args.cluster.now in
    let loses = subst (λ r. Loses b v.number (own_cause v) r c.lost_for.new.bus) c.in-Ok.is c.lost_for.ensures.loses in
    absurd (true≢false (sym over ∙ loses.0))
returns-in-Ok-clause-kept c (inr lost) =
    let b : BusView = c.args.bus.now in
    let v = c.args.cluster.now in
    let lives : was_lost_in (drop v.cursor b.log) v.number ≡ false = sym (λ i. was_lost_in (drop (c.cursor.ensures i) b.log) (c.number.ensures i)) ∙ sym c.was_lost_from.ensures.lost ∙ c.if-was_lost_from.false in
    absurd (true≢false (sym lost ∙ lives))

-- ---- nothing was changed

pub returns-then-was_lost_from-clause-lawful : goal.returns-then-was_lost_from-clause-lawful
returns-then-was_lost_from-clause-lawful c = c.was_lost_from.ensures.lawful

pub returns-then-ends_lost-clause-lawful : goal.returns-then-ends_lost-clause-lawful
returns-then-ends_lost-clause-lawful c = c.was_lost_from.ensures.lawful

pub lost_for-requires-clause-lawful : goal.lost_for-requires-clause-lawful
lost_for-requires-clause-lawful c = c.was_lost_from.ensures.lawful
