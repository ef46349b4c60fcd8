-- What the processes of a cluster told where none could move, as long as it is kept.
use Rattle.std.specs.Prelude.{ℕ, ◌≡◌, true, List, Option, Some, None, ⊤, map}
use Rattle.t32_base.specs.declared.process.Pid.{Pid}
use Rattle.residents.specs.Duty.{DutyView}
use Rattle.residents.specs.Residents.{are_settled}
use Rattle.residents.specs.Held.{Held, steps_of_held}

-- ---- working

abbrev pub rests_in : List (Pid × Held) → List (Pid × ℕ)
rests_in here = map (λ (e : Pid × Held). (e.0, steps_of_held e.1)) here

-- it is what they have to tell now: none can move or waits for a page, and these are their steps
abbrev pub IsTold : DutyView → List (Pid × Held) → Option (List (Pid × ℕ)) → Type 0
IsTold duty here None = ⊤
IsTold duty here (Some rests) = (are_settled duty here ≡ true) × (rests ≡ rests_in here)
