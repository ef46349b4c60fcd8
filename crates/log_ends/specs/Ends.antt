-- When the line of the end of a run may stand next.
use Rattle.std.specs.Prelude.{ℕ, ◌≡◌, if◌then◌else◌, List, [], ◌∷◌, ◌++◌, is_some, option_map, Option, Some, None, ⊤}
use Rattle.std.specs.Map.{lookup}
use Rattle.t32_base.specs.declared.process.Pid.{Pid}
use Rattle.sys_text.specs.declared.system.System.{System}
use Rattle.proc_state.specs.declared.process.Process.{Process}
use Rattle.proc_state.specs.State.{ProcState, state_of}
use Rattle.counted_steps.specs.Resting.{NeverRests, RestsAt}
use Rattle.plain_kernel.specs.Maps.{at_key, pid_of}
use Rattle.bus_msg.specs.declared.entry.Entry.{Entry}
use Rattle.bus_msg.specs.Places.{unended_at}
use Rattle.cert_sched.specs.Schedule.{placement, process_after}
use Rattle.cert_sched.specs.Legal.{MayStand}
use Rattle.entry_lines.specs.declared.told.ToldBy.{ToldBy}
use Rattle.entry_lines.specs.declared.told.ToldWhat.TheVariants.{Done as ToldDone}
use Rattle.log_audit.specs.Decides.{Decides}
use Rattle.log_audit.specs.Front.{FrontState, IsFrontOf}

-- ---- what is kept

-- the processes by their pids are those that have not ended, as they stand after a log, and no others
abbrev pub AreUnended : List (ℕ × Process) → System → List Entry → Type 0
AreUnended processes system log = (p : Pid) →
    option_map state_of (lookup (at_key p.0) processes) ≡ (if is_some (unended_at (placement system log) p) then process_after system log p else None)

-- so they are, and the front is that of the log
pub record KeepsUnended (front : FrontState) (processes : List (ℕ × Process)) (system : System) (log : List Entry) : Type 0 where
  pub before : IsFrontOf system log front
  pub unended : AreUnended processes system log

-- by these a line is answered right
abbrev pub AnswersDone : FrontState → ℕ → ToldBy → List (ℕ × Process) → Option Entry → Type 0
AnswersDone front place by processes result =
    Decides MayStand (KeepsUnended front processes) (record { place = place; by = by; what = ToldDone }) result

-- ---- where they rest

-- silent steps lead to where it rests, and it has made so many steps there
pub record RestsBy (s : ProcState) (count : ℕ) : Type 0 where
  pub at : ProcState
  pub reached : RestsAt s at
  pub counted : count ≡ (at.small).steps

-- this is the count; or they lead to no such place
abbrev pub RestsOr : ProcState → Option ℕ → Type 0
RestsOr s (Some count) = RestsBy s count
RestsOr s None = NeverRests s

-- each of these processes with the count at which it rests, in their order
abbrev pub EachRests : List (ℕ × Process) → List (Pid × ℕ) → Type 0
EachRests [] [] = ⊤
EachRests [] (r ∷ rs) = ⊥
EachRests (e ∷ es) [] = ⊥
EachRests (e ∷ es) (r ∷ rs) = (r.0 ≡ pid_of e.0) × RestsBy (state_of e.1) r.1 × EachRests es rs

-- one of these processes never rests
pub record OneNeverRests (processes : List (ℕ × Process)) : Type 0 where
  pub before : List (ℕ × Process)
  pub after : List (ℕ × Process)
  pub entry : ℕ × Process
  pub there : processes ≡ before ++ entry ∷ after
  pub never : NeverRests (state_of entry.1)

-- these are the counts; or one of them never rests
abbrev pub Rests : List (ℕ × Process) → Option (List (Pid × ℕ)) → Type 0
Rests processes (Some rests) = EachRests processes rests
Rests processes None = OneNeverRests processes
