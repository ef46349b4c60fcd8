use Rattle.std.proofs.Common.{◌≡◌, ◌∙◌, ap, subst, sym, Some}
use Rattle.residents.specs.declared.resident.Standing.TheVariants.{Waits as IsWaiting}
use Rattle.residents.specs.Resident.{CanGoOnFrom}
use Rattle.residents.proofs.Standing.{goes_on_runs_out}
use Rattle.residents.proofs.resident.go_on.Goals as goal

pub standing_of-requires : goal.standing_of-requires
standing_of-requires c =
    let was : c.args.standing.now ≡ Some (IsWaiting c.in-Some-Waits.waiting) = sym c.take.ensures.value ∙ c.in-Some-Waits.is ∙ ap Some c.in-Some-Waits.field-0-is in
    goes_on_runs_out c.in-Some-Waits.waiting c.into_rolling.result (subst CanGoOnFrom was c.requires.can).1 c.into_rolling.ensures
