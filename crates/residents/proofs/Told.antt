use Rattle.std.proofs.Common.{◌≡◌, ℕ, true, false, not, ◌||◌, List, [], ◌∷◌, refl, Option, Some, None, is_some}
use Rattle.std.proofs.lemmas.Bool.{false≢true}
use Rattle.t32_base.specs.declared.process.Pid.{Pid}
use Rattle.residents.specs.Duty.{DutyView}
use Rattle.residents.specs.Residents.{are_settled, is_settled, is_stuck}
use Rattle.residents.specs.Told.{IsTold}
use Rattle.residents.specs.Held.{Held, is_waiting}
use Rattle.residents.specs.Asking.{any_waits}
use Rattle.residents.proofs.Slots.{both_true, not_true}

-- none of those that are settled waits for a page
settled_waits : (duty : DutyView) (here : List (Pid × Held)) → are_settled duty here ≡ true → any_waits here ≡ false
settled_waits duty [] settled = refl
settled_waits duty (e ∷ here) settled =
    let parts = both_true (is_settled duty e) (are_settled duty here) settled in
    let first = both_true (is_stuck duty e) (not (is_waiting e.1)) parts.0 in
    λ i. not_true (is_waiting e.1) first.1 i || settled_waits duty here parts.1 i

-- so none waits where something is kept
pub none_waits : (duty : DutyView) (here : List (Pid × Held)) (told : Option (List (Pid × ℕ))) → IsTold duty here told → is_some told ≡ true → any_waits here ≡ false
none_waits duty here None kept some = absurd (false≢true some)
none_waits duty here (Some rests) kept some = settled_waits duty here kept.0
