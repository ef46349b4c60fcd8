-- Where the silent steps of a process end.
use Rattle.std.specs.Prelude.{ℕ, ◌≡◌, ◌<◌, ◌≤◌, ◌+◌, Bool, true, false, not, ◌||◌, ◌&&◌, Option, Some, None}
use Rattle.proc_state.specs.declared.process.Process.{Process}
use Rattle.proc_state.specs.State.{ProcState, can_take, state_of}
use Rattle.sys_calls.specs.declared.steps.Step.{Step}
use Rattle.sys_calls.specs.declared.steps.Step.TheVariants.{Silent, Blocked, Forks, Emit, Over}
use Rattle.sys_calls.specs.Next.{has_step, next_step, silently}
use Rattle.sys_calls.specs.Small.{weight}

-- it has neither a step nor a take
abbrev pub rests : ProcState → Bool
rests s = not (has_step (next_step s) || can_take s)

-- silent steps lead to where it rests
pub record RestsAt (old new : ProcState) : Type 0 where
  pub steps : ℕ
  pub silent : silently steps old ≡ Some new
  pub resting : rests new ≡ true

-- it rests after no number of silent steps
abbrev pub NeverRests : ProcState → Type 0
NeverRests old = (n : ℕ) (s : ProcState) → silently n old ≡ Some s → rests s ≡ false

-- silent steps lead to a place where it rests; or to none
abbrev pub Settles : Process → Bool → Process → Type 0
Settles old true new = RestsAt (state_of old) (state_of new)
Settles old false new = NeverRests (state_of old)

-- some silent steps were made
pub record MovesOn (old new : Process) : Type 0 where
  pub steps : ℕ
  pub silent : silently steps (state_of old) ≡ Some (state_of new)
  pub lighter : weight new.small + steps ≤ weight old.small
  pub some : 0 < steps

-- some silent steps were made; or it settles
abbrev pub Continues : Process → Option Bool → Process → Type 0
Continues old None new = MovesOn old new
Continues old (Some resting) new = Settles old resting new

-- no step was made, since there is none
abbrev pub is_stuck : Step → Bool
is_stuck Silent = false
is_stuck Blocked = true
is_stuck Forks = false
is_stuck (Emit e) = false
is_stuck Over = true

-- it rests after this step: it has none, and can take no signal
abbrev pub rests_after : Step → ProcState → Bool
rests_after made s = is_stuck made && not (can_take s)
