-- A process that rolls forward makes a fork again: its child begins again where it waited for that.
use Rattle.std.specs.Prelude.{ℕ, zero, suc, Bool, ◌+◌, ◌≤◌, ◌≡◌, ◌⊎◌, true, false, if◌then◌else◌, List, [], ◌∷◌, map, Option, Some, None, is_none, slice_get, ⊤}
use Rattle.std.specs.Option.{option_map_or}
use Rattle.t32_base.specs.declared.process.Pid.{Pid}
use Rattle.t32_base.specs.declared.process.Counts.{Counts}
use Rattle.t32_base.specs.declared.letter.BackRec.{BackRec}
use Rattle.proc_state.specs.declared.process.Process.{Process}
use Rattle.proc_state.specs.State.{ProcState, state_of}
use Rattle.sys_calls.specs.Calls.{Forks}
use Rattle.sys_calls.specs.Fork.{fork_child}
use Rattle.sys_calls.specs.Next.{next_step}
use Rattle.roll_forward.specs.declared.rolled.Rolled.{Rolled}
use Rattle.roll_forward.specs.declared.rolled.Rolled.TheVariants.{Silent as WasSilent, Withheld, Born}
use Rattle.roll_forward.specs.RunsOut.{RunsOn, nothing_left}
use Rattle.roll_forward.specs.Rolling.{CanRoll, with_saved}
use Rattle.bus_msg.specs.Places.{same_pid}
use Rattle.page_waits.specs.Waiting.{WaitingState}
use Rattle.residents.specs.Bearing.{forked, newborn}
use Rattle.residents.specs.Changed.{with_changed}
use Rattle.residents.specs.Quantum.{RollsTo}
use Rattle.residents.specs.Held.{Held, Runs, Rolls, Waits, held_of}

-- ---- the fork

-- with this left to withhold a process rolls forward, and with nothing it runs
abbrev pub going_held : Process → Counts → List Pid → Held
going_held p counts births = if nothing_left counts births then Runs p else Rolls p counts births

-- a process as it was born, with the letters that a record saved
abbrev pub with_mail_of : BackRec → Process → Process
with_mail_of r p = record p { mail = record { letters = r.saved; next = r.next } }

-- one that waits for its parent's fork has no state in its record
abbrev pub waits_for_fork : Held → Bool
waits_for_fork (Runs p) = false
waits_for_fork (Rolls p counts births) = false
waits_for_fork (Waits w) = is_none (w.kept).state

-- it goes on as it was born, by its record; another stays
abbrev pub begun_with : Process → Held → Held
begun_with born (Runs q) = Runs q
begun_with born (Rolls q counts births) = Rolls q counts births
begun_with born (Waits w) = if is_none (w.kept).state then going_held (with_mail_of w.kept born) (w.kept).counts (w.kept).births else Waits w

-- so does the process with a pid, if it is here
abbrev pub with_begun : Pid → Process → List (Pid × Held) → List (Pid × Held)
with_begun child born here = map (λ (e : Pid × Held). if same_pid e.0 child then (e.0, begun_with born e.1) else e) here

-- a process that rolls forward has made the fork of its next child again
abbrev pub with_fork_again : Pid → Process → Counts → Pid → List Pid → List (Pid × Held) → List (Pid × Held)
with_fork_again p process counts child births here = with_begun child (newborn process child) (with_changed p (going_held (forked process child) counts births) here)

-- it made that fork again, by one step
pub record ForksAgain (p : Pid) (old new : List (Pid × Held)) : Type 0 where
  pub process : Process
  pub counts : Counts
  pub child : Pid
  pub births : List Pid
  pub there : held_of old p ≡ Some (Rolls process counts (child ∷ births))
  pub forks : next_step (state_of process) ≡ Forks
  pub here : new ≡ with_fork_again p process counts child births old

-- ---- the steps of a quantum that are made again

-- so many steps that are no forks, one at least
pub record RollsSome (p : Pid) (n : ℕ) (old new : List (Pid × Held)) : Type 0 where
  pub was : Held
  pub now : Held
  pub some : 1 ≤ n
  pub there : held_of old p ≡ Some was
  pub rolls : RollsTo n was now
  pub here : new ≡ with_changed p now old

-- such steps, or a fork
abbrev pub RollsPart : Pid → ℕ → List (Pid × Held) → List (Pid × Held) → Type 0
RollsPart p n old new = RollsSome p n old new ⊎ ((n ≡ 1) × ForksAgain p old new)

-- Part after part, a process that rolls forward makes so many steps again: its own are withheld, and its forks let the children begin that waited for them.
pub data RollsAgain (p : Pid) : ℕ → List (Pid × Held) → List (Pid × Held) → Type 0 where
  NoPart : {old : List (Pid × Held)} → RollsAgain p 0 old old
  Part : {m : ℕ} {old mid : List (Pid × Held)} → RollsAgain p m old mid → (k : ℕ) (new : List (Pid × Held)) → RollsPart p k mid new → RollsAgain p (m + k) old new

-- ---- what it takes

-- where the child waits here for the fork of a process with this state, it can do again from there all that its record counts
abbrev pub CanBeginAgain : List (Pid × Held) → ProcState → Pid → Type 0
CanBeginAgain here s child = (w : WaitingState) → held_of here child ≡ Some (Waits w) → (w.kept).state ≡ None → CanRoll (with_saved (fork_child s child) (w.kept).saved (w.kept).next) (w.kept).counts (w.kept).births

-- the next child of a process that stands before a fork
abbrev pub AtFront : (ProcState → Pid → Type 0) → ProcState → List Pid → Type 0
AtFront Holds s [] = ⊤
AtFront Holds s (child ∷ rest) = Holds s child

-- so it holds at each fork that a process comes to within n steps, while something is left to withhold
abbrev pub AtForks : (ProcState → Pid → Type 0) → ℕ → ProcState → Counts → List Pid → Type 0
AtForks Holds zero s counts births = ⊤
AtForks Holds (suc n) s counts births =
    nothing_left counts births ≡ false → (next_step s ≡ Forks → AtFront Holds s births) × RunsOn s counts (λ t left rest. AtForks Holds n t left rest) (next_step s) births

-- a process here, where it rolls forward, can make its forks again, and their children can begin again
abbrev pub CanForkAgainAt : List (Pid × Held) → Pid → Type 0
CanForkAgainAt here p = (process : Process) (counts : Counts) (births : List Pid) → held_of here p ≡ Some (Rolls process counts births) → (n : ℕ) → AtForks (CanBeginAgain here) n (state_of process) counts births

-- so can each of them
abbrev pub CanForkAgain : List (Pid × Held) → Type 0
CanForkAgain here = (p : Pid) → CanForkAgainAt here p

-- ---- the calls

abbrev pub is_rolling : Held → Bool
is_rolling (Runs p) = false
is_rolling (Rolls p counts births) = true
is_rolling (Waits waiting) = false

-- the process with a pid is here and rolls forward
abbrev pub rolls_at : List (Pid × Held) → Pid → Bool
rolls_at here p = option_map_or is_rolling (held_of here p) false

-- the child of its next fork
abbrev pub child_again : Held → Option Pid
child_again (Rolls p counts births) = slice_get births 0
child_again h = None

-- it rolls forward, and stands before the fork of its next child
pub record StandsAtForkAgain (h : Held) : Type 0 where
  pub process : Process
  pub counts : Counts
  pub child : Pid
  pub births : List Pid
  pub is : h ≡ Rolls process counts (child ∷ births)
  pub forks : next_step (state_of process) ≡ Forks

-- the child of a step, where that was a fork and the child was made
abbrev pub born_by : Rolled → Option Process
born_by WasSilent = None
born_by (Withheld letter) = None
born_by (Born child process) = process

-- it has made that fork again, and its child is handed over where it is to be made
pub record HasForkedAgain (made : Bool) (old : Held) (born : Option Process) (new : Held) : Type 0 where
  pub stood : StandsAtForkAgain old
  pub child : born ≡ (if made then Some (newborn stood.process stood.child) else None)
  pub now : new ≡ going_held (forked stood.process stood.child) stood.counts stood.births

-- a process as it was born, to which no letter came, can begin again by the record of one that waits for its fork
abbrev pub CanBeginWith : Process → Held → Type 0
CanBeginWith born (Runs p) = ⊥
CanBeginWith born (Rolls p counts births) = ⊥
CanBeginWith born (Waits w) = ((w.kept).state ≡ None) × ((born.mail).letters ≡ []) × (born.read ≡ []) × (born.since ≡ (born.small).steps) × CanRoll (with_saved (state_of born) (w.kept).saved (w.kept).next) (w.kept).counts (w.kept).births

-- So many steps again, and no fork: none of one that does not roll forward, or stands before a fork.
abbrev pub HasRolled : ℕ → ℕ → Held → Held → Type 0
HasRolled most zero old new = (new ≡ old) × (is_rolling old ≡ true → StandsAtForkAgain old)
HasRolled most (suc n) old new = (suc n ≤ most) × RollsTo (suc n) old new

-- the same of the process with a pid
abbrev pub RollsStepsAt : ℕ → ℕ → Pid → List (Pid × Held) → List (Pid × Held) → Type 0
RollsStepsAt most zero p old new = (new ≡ old) × ((h : Held) → held_of old p ≡ Some h → is_rolling h ≡ true → StandsAtForkAgain h)
RollsStepsAt most (suc n) p old new = (suc n ≤ most) × RollsSome p (suc n) old new

-- a part of its roll-forward: none where it does not roll forward
abbrev pub RollsPartAt : ℕ → ℕ → Pid → List (Pid × Held) → List (Pid × Held) → Type 0
RollsPartAt most zero p old new = (new ≡ old) × (rolls_at old p ≡ false)
RollsPartAt most (suc n) p old new = (suc n ≤ most) × RollsPart p (suc n) old new

-- all parts of a quantum: it rolls forward still only where it made some
pub record RollsQuantum (p : Pid) (made : ℕ) (old new : List (Pid × Held)) : Type 0 where
  pub again : RollsAgain p made old new
  pub few : made ≤ 64
  pub some : rolls_at new p ≡ true → 1 ≤ made

-- the process with a pid stands before the fork of its next child, which can begin again where it waits for that
pub record CanForkAgainNow (p : Pid) (here : List (Pid × Held)) : Type 0 where
  pub held : Held
  pub there : held_of here p ≡ Some held
  pub stands : StandsAtForkAgain held
  pub begins : CanBeginAgain here (state_of stands.process) stands.child

-- the process with a pid is here, and stands before a fork again
pub record StandsThere (p : Pid) (here : List (Pid × Held)) : Type 0 where
  pub held : Held
  pub there : held_of here p ≡ Some held
  pub stands : StandsAtForkAgain held

-- it has made its half of that fork, and this is its child where it is to be made
pub record BearsAgain (made : Bool) (p : Pid) (old : List (Pid × Held)) (born : Option Process) (new : List (Pid × Held)) : Type 0 where
  pub was : Held
  pub now : Held
  pub there : held_of old p ≡ Some was
  pub forks : HasForkedAgain made was born now
  pub here : new ≡ with_changed p now old

-- the process with a pid is here and waits for its parent's fork
abbrev pub waits_for_fork_at : List (Pid × Held) → Pid → Bool
waits_for_fork_at here p = option_map_or waits_for_fork (held_of here p) false
