use Rattle.std.proofs.Common.{◌≡◌, ◌∙◌, ap, subst, Some}
use Rattle.roll_forward.specs.Rolling.{RollingState}
use Rattle.residents.specs.declared.resident.Standing.TheVariants.{Rolls as IsRolling}
use Rattle.residents.specs.Resident.{StandsSo}
use Rattle.residents.proofs.Standing.{delivered_stands}
use Rattle.residents.proofs.resident.receive.Goals as goal

pub returns-in-Some-Rolls-clause-stands : goal.returns-in-Some-Rolls-clause-stands
returns-in-Some-Rolls-clause-stands c =
    let old : RollingState = c.in-Some-Rolls.rolling in
    let whole : c.args.standing.now ≡ Some (IsRolling old) = c.in-Some-Rolls.is ∙ ap Some c.in-Some-Rolls.field-0-is in
    let told = c.deliver-in-Some-Rolls.ensures in
    delivered_stands old c.deliver-in-Some-Rolls.new.self c.args.letter c.deliver-in-Some-Rolls.result (subst StandsSo whole c.requires.stands) told.ok told.left told.err
