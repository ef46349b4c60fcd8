-- What the call `step` answers, by the next step of its process.
use Rattle.std.specs.Prelude.{◌≡◌, ℕ, ◌+◌, ◌≤◌, List, [], ◌∷◌, ◌++◌, Bool, true, false, Option, Some, None, Result, Ok, Err}
use Rattle.t32_base.specs.declared.letter.Arrived.{Arrived}
use Rattle.t32_base.specs.Small.{SmallState}
use Rattle.t32_base.specs.declared.streams.NoMemory.{NoMemory}
use Rattle.proc_state.specs.declared.process.Process.{Process}
use Rattle.proc_state.specs.Mail.{without_first}
use Rattle.proc_state.specs.State.{ProcState, can_take, state_of}
use Rattle.sys_calls.specs.declared.steps.Step.{Step}
use Rattle.sys_calls.specs.declared.steps.Step.TheVariants.{Silent as WasSilent, Blocked as WasBlocked, Forks as WouldFork, Emit, Over as WasOver}
use Rattle.sys_calls.specs.Small.{weight}
use Rattle.sys_calls.specs.declared.reading.Wanted.{Wanted}
use Rattle.sys_calls.specs.Calls.{Next, Silent, Blocked, Forks, Emits, Over, first_wanted, is_wanted}
use Rattle.sys_calls.specs.Next.{Marked, next_step, silently}

-- a process that a kernel runs, with the marks of its pages
abbrev pub marked : Process → Marked
marked p = record { state = state_of p; marks = (p.ram).dirty }

-- the step that was made is the next one; where none is made, nothing is changed
abbrev pub Makes : Next → Result Step NoMemory → ProcState → ProcState → Type 0
Makes next (Ok WasSilent) old new = next ≡ Silent new
Makes next (Ok WasBlocked) old new = (next ≡ Blocked) × (new ≡ old)
Makes next (Ok WouldFork) old new = (next ≡ Forks) × (new ≡ old)
Makes next (Ok (Emit e)) old new = next ≡ Emits e new
Makes next (Ok WasOver) old new = (next ≡ Over) × (new ≡ old)
Makes next (Err e) old new = new ≡ old

-- the number of a letter that is read is put last
abbrev pub read_after : List ℕ → Option Arrived → List ℕ
read_after read None = read
read_after read (Some a) = read ++ a.number ∷ []

-- the number of the letter that was taken is put last among those read, and the point of last synchronisation stays
pub record Took (taken : Option Arrived) (old new : Process) : Type 0 where
  pub read : new.read ≡ read_after old.read taken
  pub since : new.since ≡ old.since

-- the letters read and the point of last synchronisation stay
abbrev pub SameCount : Process → Process → Type 0
SameCount old new = Took None old new

-- the letter that a step takes: none where memory is refused
abbrev pub taken_by : Result Step NoMemory → Option Arrived → Option Arrived
taken_by (Ok step) taken = taken
taken_by (Err e) taken = None

-- the first letter that a read wants is taken out of the mailbox, and its number put last among those read; where there is none, or memory is refused, nothing is changed
abbrev pub TakesLetter : Wanted → Result (Option Arrived) NoMemory → Process → Process → Type 0
TakesLetter wanted (Ok (Some a)) old new =
    (first_wanted (state_of old) wanted ≡ Some a)
    × (new ≡ record old { mail = record (old.mail) { letters = without_first (is_wanted (old.small).ends wanted) (old.mail).letters }; read = old.read ++ a.number ∷ [] })
TakesLetter wanted (Ok None) old new = (first_wanted (state_of old) wanted ≡ None) × (new ≡ old)
TakesLetter wanted (Err e) old new = new ≡ old

-- the step that a read makes, by whether there was a letter
abbrev pub step_of_read : Result Bool NoMemory → Result Step NoMemory
step_of_read (Ok true) = Ok WasSilent
step_of_read (Ok false) = Ok WasBlocked
step_of_read (Err e) = Err e

-- the marks after the call are those of the step that was made
abbrev pub Marks : Result Step NoMemory → List Bool → List Bool → List Bool → Type 0
Marks (Ok step) marks old new = new ≡ marks
Marks (Err e) marks old new = new ≡ old

-- a step that was made is counted, and fewer are left
abbrev pub Shorter : Result Step NoMemory → SmallState → SmallState → Type 0
Shorter (Ok WasSilent) old new = (weight new + 1 ≤ weight old) × (new.steps ≡ old.steps + 1)
Shorter (Ok (Emit e)) old new = (weight new + 1 ≤ weight old) × (new.steps ≡ old.steps + 1)
Shorter (Ok WasBlocked) old new = Unit {0}
Shorter (Ok WouldFork) old new = Unit {0}
Shorter (Ok WasOver) old new = Unit {0}
Shorter (Err e) old new = Unit {0}

-- what a step touches: one that sends something the state alone, and one that is not made nothing at all
abbrev pub Touches : Result Step NoMemory → Process → Process → Type 0
Touches (Ok WasSilent) old new = Unit {0}
Touches (Ok (Emit e)) old new = new ≡ record old { small = new.small }
Touches (Ok WasBlocked) old new = new ≡ old
Touches (Ok WouldFork) old new = new ≡ old
Touches (Ok WasOver) old new = new ≡ old
Touches (Err e) old new = new ≡ old

abbrev pub is_silent : Step → Bool
is_silent WasSilent = true
is_silent WasBlocked = false
is_silent WouldFork = false
is_silent (Emit e) = false
is_silent WasOver = false

-- a step was made that sent nothing
abbrev pub was_silent : Result Step NoMemory → Bool
was_silent (Ok step) = is_silent step
was_silent (Err e) = false

-- where no signal can be taken before n silent steps, none can be after any of them
abbrev pub StaysUntaken : ℕ → ProcState → Type 0
StaysUntaken n s = can_take s ≡ false → (m : ℕ) (q : ProcState) → m ≤ n → silently m s ≡ Some q → can_take q ≡ false

-- silent steps, between which no signal can be taken, and then what the call `step` answers
pub record RunsOn (step : Step) (old new : Process) : Type 0 where
  pub steps : ℕ
  pub before : Process
  pub silent : silently steps (state_of old) ≡ Some (state_of before)
  pub untaken : StaysUntaken steps (state_of old)
  pub lighter : weight before.small + steps ≤ weight old.small
  pub makes : Makes (next_step (state_of before)) (Ok step) (state_of before) (state_of new)
  pub shorter : Shorter (Ok step) before.small new.small
  pub touches : Touches (Ok step) before new
