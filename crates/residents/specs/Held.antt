-- What is held of a process that is at home in a cluster.
use Rattle.std.specs.Prelude.{ℕ, ◌≡◌, ◌+◌, Bool, true, false, ◌||◌, if◌then◌else◌, List, [], ◌∷◌, ◌++◌, map, find, length, replicate, Option, None, option_map, ⊤}
use Rattle.std.specs.Option.{option_map_or}
use Rattle.t32_base.specs.declared.process.Pid.{Pid}
use Rattle.t32_base.specs.declared.process.Counts.{Counts}
use Rattle.t32_base.specs.declared.letter.Letter.{Letter}
use Rattle.proc_state.specs.declared.process.Process.{Process}
use Rattle.proc_state.specs.State.{state_of}
use Rattle.sys_calls.specs.Next.{next_step, has_step}
use Rattle.bus_msg.specs.Places.{same_pid}
use Rattle.quanta.specs.declared.limits.Limits.{Limits}
use Rattle.quanta.specs.Limited.{is_due, is_within}
use Rattle.backup_records.specs.Records.{with_saved}
use Rattle.roll_forward.specs.Rolling.{RollingState}
use Rattle.roll_forward.specs.RunsOut.{nothing_left}
use Rattle.page_waits.specs.Waiting.{WaitingState, is_whole, next_page, rolling_of, with_page}

-- a process at home here runs; or it rolls forward, with what is left to withhold; or it waits for its pages, beside its record, or for its parent's fork where that has no state
pub data Held : Type 0 where
  Runs : (process : Process) → Held
  Rolls : (process : Process) (counts : Counts) (births : List Pid) → Held
  Waits : (waiting : WaitingState) → Held

-- ---- questions

-- what is held of a process
abbrev pub held_of : List (Pid × Held) → Pid → Option Held
held_of here p = option_map (λ (e : Pid × Held). e.1) (find (λ (e : Pid × Held). same_pid e.0 p) here)

abbrev pub is_running : Held → Bool
is_running (Runs p) = true
is_running (Rolls p counts births) = false
is_running (Waits waiting) = false

-- the process is here and runs
abbrev pub runs_at : List (Pid × Held) → Pid → Bool
runs_at here p = option_map_or is_running (held_of here p) false

-- one that runs can move where it has a step or is due, one that rolls forward always
abbrev pub can_act : Limits → Held → Bool
can_act limits (Runs p) = has_step (next_step (state_of p)) || is_due limits p
can_act limits (Rolls p counts births) = true
can_act limits (Waits waiting) = false

-- one that runs made no more steps since its last synchronisation, and read no more letters
abbrev pub IsHeldWithin : Limits → Held → Type 0
IsHeldWithin limits (Runs p) = is_within limits p ≡ true
IsHeldWithin limits (Rolls p counts births) = ⊤
IsHeldWithin limits (Waits waiting) = ⊤

-- it waits for its pages
abbrev pub is_waiting : Held → Bool
is_waiting (Waits waiting) = true
is_waiting h = false

abbrev pub steps_of_held : Held → ℕ
steps_of_held (Runs p) = (p.small).steps
steps_of_held (Rolls p counts births) = (p.small).steps
steps_of_held (Waits waiting) = 0

-- the number that the next letter gets
abbrev pub next_number : Held → ℕ
next_number (Runs p) = (p.mail).next
next_number (Rolls p counts births) = (p.mail).next
next_number (Waits waiting) = (waiting.kept).next

-- ---- a letter arrives

-- last in the mailbox of a process, with the next number
abbrev pub arrived : Process → Letter → Process
arrived p letter = record p { mail = record { letters = (p.mail).letters ++ record { number = (p.mail).next; letter = letter } ∷ []; next = (p.mail).next + 1 } }

-- the same of what is held: a process that waits saves the letter in its record
abbrev pub arrived_held : Held → Letter → Held
arrived_held (Runs p) letter = Runs (arrived p letter)
arrived_held (Rolls p counts births) letter = Rolls (arrived p letter) counts births
arrived_held (Waits waiting) letter = Waits (record waiting { kept = with_saved letter waiting.kept })

-- ---- a page comes

-- it rolls forward, or runs where nothing is left to withhold
abbrev pub rolling_held : RollingState → Held
rolling_held r = if nothing_left r.counts r.births then Runs r.process else Rolls r.process r.counts r.births

-- once all its pages have come a process that waits goes on
abbrev pub going_on : WaitingState → Held
going_on w = if is_whole w then option_map_or rolling_held (rolling_of w) (Waits w) else Waits w

-- a page of a process comes, which is of use to one that waits
abbrev pub page_held : ℕ → List ℕ → Held → Held
page_held i bytes (Waits waiting) = going_on (with_page i bytes waiting)
page_held i bytes h = h

-- ---- a page is asked for

-- the lowest page of one that waits that was not asked for yet
abbrev pub page_lacked : Held → Option ℕ
page_lacked (Waits waiting) = next_page waiting
page_lacked h = None

-- that page is asked for
abbrev pub asked_held : Held → Held
asked_held (Waits waiting) = Waits (record waiting { asked = waiting.asked + 1 })
asked_held h = h

-- ---- its new backup was sent

-- it counts from where it stands
abbrev pub renewed : Process → Process
renewed p = record p { ram = record (p.ram) { dirty = replicate (length (p.ram).dirty) false }; read = []; since = (p.small).steps }

abbrev pub renewed_held : Held → Held
renewed_held (Runs p) = Runs (renewed p)
renewed_held (Rolls p counts births) = Rolls p counts births
renewed_held (Waits waiting) = Waits waiting

-- so does the process with a pid, if it runs here
abbrev pub with_renewed : Pid → List (Pid × Held) → List (Pid × Held)
with_renewed p here = map (λ (e : Pid × Held). if same_pid e.0 p then (e.0, renewed_held e.1) else e) here
