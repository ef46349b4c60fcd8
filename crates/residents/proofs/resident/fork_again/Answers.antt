use Rattle.std.proofs.Common.{◌≡◌, ◌∙◌, refl, ap, subst, sym, Bool, Option, Some}
use Rattle.proc_state.specs.declared.process.Process.{Process}
use Rattle.roll_forward.specs.Advancing.{Advances}
use Rattle.roll_forward.specs.Rolling.{RollingState}
use Rattle.residents.specs.declared.resident.Standing.{Standing}
use Rattle.residents.specs.declared.resident.Standing.TheVariants.{Runs as IsRunning, Rolls as IsRolling}
use Rattle.residents.specs.ForkingAgain.{born_by, HasForkedAgain, StandsAtForkAgain}
use Rattle.residents.specs.Resident.{StandsSo, held_standing}
use Rattle.residents.proofs.ForkStanding.{forked_rolls, forked_runs, stands_forked}
use Rattle.residents.proofs.Standing.{left_if}
use Rattle.residents.proofs.resident.fork_again.Goals as goal
use Rattle.residents.proofs.resident.fork_again.Goals.{then-caught_up, else-caught_up}

-- what it made of one that rolls forward, by how that stands afterwards
told : (made : Bool) (was now old new : Option Standing) (born child : Option Process) → was ≡ old → now ≡ new → born ≡ child → HasForkedAgain made (held_standing old) child (held_standing new) → HasForkedAgain made (held_standing was) born (held_standing now)
told made was now old new born child was_is now_is born_is f = subst (λ b. HasForkedAgain made (held_standing was) b (held_standing now)) (sym born_is) (subst (λ o. HasForkedAgain made (held_standing was) child (held_standing o)) (sym now_is) (subst (λ o. HasForkedAgain made (held_standing o) child (held_standing new)) (sym was_is) f))

pub returns-clause-stands : goal.returns-clause-stands
returns-clause-stands c =
    let old : RollingState = c.in-Some-Rolls.rolling in
    let new : RollingState = c.advance.new.self in
    let e = c.in_ok-advance-in-Some-Rolls.ensures in
    let r = c.in_ok-advance-in-Some-Rolls.field-0 in
    let whole : c.args.standing.now ≡ Some (IsRolling old) = c.in-Some-Rolls.is ∙ ap Some c.in-Some-Rolls.field-0-is in
    let adv : Advances r old new = record { step = e.step; taken = e.taken; marks = e.marks; clean = e.clean; counted = e.counted; counts = e.counts; births = e.births; ahead = e.ahead; recorded = e.recorded } in
    let at : StandsAtForkAgain (held_standing (Some (IsRolling old))) = subst (λ o. StandsAtForkAgain (held_standing o)) whole c.requires.forks in
    elim c.if-caught_up.branch [
      | then-caught_up w ↦ subst StandsSo (sym (w.standing-is ∙ w.run_on.ensures)) tt
      | else-caught_up w ↦ subst StandsSo (sym w.standing-is) (stands_forked c.args.made old new r (subst StandsSo whole c.requires.stands) at adv e.child (left_if new.ahead w.if-caught_up.ensures.1))
    ]

pub returns-clause-ok : goal.returns-clause-ok
returns-clause-ok c =
    let old : RollingState = c.in-Some-Rolls.rolling in
    let new : RollingState = c.advance.new.self in
    let e = c.in_ok-advance-in-Some-Rolls.ensures in
    let r = c.in_ok-advance-in-Some-Rolls.field-0 in
    let whole : c.args.standing.now ≡ Some (IsRolling old) = c.in-Some-Rolls.is ∙ ap Some c.in-Some-Rolls.field-0-is in
    let adv : Advances r old new = record { step = e.step; taken = e.taken; marks = e.marks; clean = e.clean; counted = e.counted; counts = e.counts; births = e.births; ahead = e.ahead; recorded = e.recorded } in
    let at : StandsAtForkAgain (held_standing (Some (IsRolling old))) = subst (λ o. StandsAtForkAgain (held_standing o)) whole c.requires.forks in
    let stands : StandsSo (Some (IsRolling old)) = subst StandsSo whole c.requires.stands in
    elim c.if-caught_up.branch [
      | then-caught_up w ↦ told c.args.made c.args.standing.now c.if-caught_up.standing (Some (IsRolling old)) (Some (IsRunning new.process)) c.born_of-born.result (born_by r) whole (w.standing-is ∙ w.run_on.ensures) c.born_of-born.ensures (forked_runs c.args.made old new r stands at adv e.child (w.if-caught_up.ensures.0 refl))
      | else-caught_up w ↦ told c.args.made c.args.standing.now c.if-caught_up.standing (Some (IsRolling old)) (Some (IsRolling new)) c.born_of-born.result (born_by r) whole w.standing-is c.born_of-born.ensures (forked_rolls c.args.made old new r stands at adv e.child (left_if new.ahead w.if-caught_up.ensures.1))
    ]
