-- What so many steps of a process came to.
use Rattle.std.specs.Prelude.{ℕ, ◌≡◌, ◌<◌, ◌-◌, Bool, true, false, Option, Some, None}
use Rattle.proc_state.specs.declared.process.Process.{Process}
use Rattle.proc_state.specs.State.{state_of}
use Rattle.sys_calls.specs.declared.steps.Emission.{Emission}
use Rattle.sys_calls.specs.declared.steps.Step.{Step}
use Rattle.sys_calls.specs.declared.steps.Step.TheVariants.{Silent, Blocked, Forks, Emit, Over}
use Rattle.sys_calls.specs.Next.{silently, silently_marked, last_emission}
use Rattle.sys_calls.specs.Fork.{before_fork}
use Rattle.sys_calls.specs.Steps.{marked}

-- so many silent steps were made; or it cannot make so many
abbrev pub MakesSilently : ℕ → Process → Bool → Process → Type 0
MakesSilently n old true new = silently_marked n (marked old) ≡ Some (marked new)
MakesSilently n old false new = silently n (state_of old) ≡ None

-- some of them were made, and fewer are left; or it cannot make so many
abbrev pub GoesOn : ℕ → Process → Option ℕ → Process → Type 0
GoesOn n old (Some left) new = (left < n) × (silently_marked (n - left) (marked old) ≡ Some (marked new))
GoesOn n old None new = silently n (state_of old) ≡ None

-- what a step sent
abbrev pub sent_in : Step → Option Emission
sent_in Silent = None
sent_in Blocked = None
sent_in Forks = None
sent_in (Emit e) = Some e
sent_in Over = None

-- the last of so many steps sends this, and those before are silent; or there are no such steps
abbrev pub Sends : ℕ → Process → Option Emission → Process → Type 0
Sends n old (Some e) new = last_emission n (state_of old) ≡ Some (e, state_of new)
Sends n old None new = last_emission n (state_of old) ≡ None

-- after so many silent steps it forks next; or there are no such steps
abbrev pub ComesToFork : ℕ → Process → Bool → Process → Type 0
ComesToFork n old true new = before_fork n (state_of old) ≡ Some (state_of new)
ComesToFork n old false new = before_fork n (state_of old) ≡ None
