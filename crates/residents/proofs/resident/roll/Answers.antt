use Rattle.std.proofs.Common.{◌≡◌, ◌∙◌, refl, ap, subst, sym, Option, Some}
use Rattle.roll_forward.specs.Rolling.{RollingState}
use Rattle.residents.specs.declared.resident.Standing.{Standing}
use Rattle.residents.specs.declared.resident.Standing.TheVariants.{Runs as IsRunning, Rolls as IsRolling}
use Rattle.residents.specs.ForkingAgain.{HasRolled}
use Rattle.residents.specs.Resident.{StandsSo, held_standing}
use Rattle.residents.proofs.Standing.{Rolled, caught_up, left_if, stands_still, still_rolls}
use Rattle.residents.proofs.resident.roll.Goals as goal

pub returns-else-caught_up-clause-stands : goal.returns-else-caught_up-clause-stands
returns-else-caught_up-clause-stands c =
    let old : RollingState = c.in-Some-Rolls.rolling in
    let run = c.in_ok-made-in-Some-Rolls.ensures in
    let whole : c.args.standing.now ≡ Some (IsRolling old) = c.in-Some-Rolls.is ∙ ap Some c.in-Some-Rolls.field-0-is in
    let rolled : Rolled c.args.most c.in_ok-made-in-Some-Rolls.made old c.run.new.self = record { few = run.most; forks = run.some; rolled = run.rolled; ahead = run.ahead; since = run.since } in
    stands_still c.args.most old c.run.new.self c.requires.most (subst StandsSo whole c.requires.stands) c.in_ok-made-in-Some-Rolls.made rolled (left_if c.run.new.self.ahead c.if-caught_up.ensures.1)

pub returns-else-caught_up-clause-ok : goal.returns-else-caught_up-clause-ok
returns-else-caught_up-clause-ok c =
    let old : RollingState = c.in-Some-Rolls.rolling in
    let run = c.in_ok-made-in-Some-Rolls.ensures in
    let whole : c.args.standing.now ≡ Some (IsRolling old) = c.in-Some-Rolls.is ∙ ap Some c.in-Some-Rolls.field-0-is in
    let rolled : Rolled c.args.most c.in_ok-made-in-Some-Rolls.made old c.run.new.self = record { few = run.most; forks = run.some; rolled = run.rolled; ahead = run.ahead; since = run.since } in
    subst (λ (o : Option Standing). HasRolled c.args.most c.in_ok-made-in-Some-Rolls.made (held_standing o) (held_standing (Some (IsRolling c.run.new.self)))) (sym whole)
    (still_rolls c.args.most old c.run.new.self c.requires.most (subst StandsSo whole c.requires.stands) c.in_ok-made-in-Some-Rolls.made rolled (left_if c.run.new.self.ahead c.if-caught_up.ensures.1))

pub returns-then-caught_up-clause-ok : goal.returns-then-caught_up-clause-ok
returns-then-caught_up-clause-ok c =
    let old : RollingState = c.in-Some-Rolls.rolling in
    let run = c.in_ok-made-in-Some-Rolls.ensures in
    let whole : c.args.standing.now ≡ Some (IsRolling old) = c.in-Some-Rolls.is ∙ ap Some c.in-Some-Rolls.field-0-is in
    let rolled : Rolled c.args.most c.in_ok-made-in-Some-Rolls.made old c.run.new.self = record { few = run.most; forks = run.some; rolled = run.rolled; ahead = run.ahead; since = run.since } in
    subst (λ (o : Option Standing). HasRolled c.args.most c.in_ok-made-in-Some-Rolls.made (held_standing c.args.standing.now) (held_standing o)) (sym c.run_on.ensures)
    (subst (λ (o : Option Standing). HasRolled c.args.most c.in_ok-made-in-Some-Rolls.made (held_standing o) (held_standing (Some (IsRunning c.run.new.self.process)))) (sym whole)
    (caught_up c.args.most old c.run.new.self c.requires.most (subst StandsSo whole c.requires.stands) c.in_ok-made-in-Some-Rolls.made rolled (c.if-caught_up.ensures.0 refl)))
