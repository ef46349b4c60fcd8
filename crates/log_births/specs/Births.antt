-- Which lines of births may stand next, and what the parent and its child are then.
use Rattle.std.specs.Prelude.{ℕ, ◌≡◌, ◌==◌, ◌<◌, ◌-◌, ◌^◌, nat_lt, ◌&&◌, Bool, true, false, if◌then◌else◌, List, [], ◌∷◌, ◌++◌, length, replicate, Option, Some, None}
use Rattle.t32_base.specs.declared.process.Pid.{Pid}
use Rattle.t32_base.specs.declared.process.ClusterNo.{ClusterNo}
use Rattle.sys_text.specs.declared.system.System.{System}
use Rattle.sys_text.specs.Valid.{is_system}
use Rattle.sys_text.specs.Boot.{pid_of}
use Rattle.proc_state.specs.declared.process.Process.{Process}
use Rattle.proc_state.specs.State.{ProcState, state_of}
use Rattle.sys_calls.specs.Fork.{before_fork, fork_child, fork_parent, next_end}
use Rattle.bus_msg.specs.declared.entry.What.TheVariants.{Birth}
use Rattle.bus_msg.specs.declared.entry.Entry.{Entry}
use Rattle.bus_msg.specs.Places.{Places, next_serial_in}
use Rattle.cert_sched.specs.Legal.{MayStand}
use Rattle.cert_sched.specs.Legal.{IsLegalBy}
use Rattle.entry_lines.specs.declared.told.ToldWhat.TheVariants.{Birth as ToldBirth}
use Rattle.line_laws.specs.Meant.{pid_no}
use Rattle.log_audit.specs.Front.{FrontState}
use Rattle.log_processes.specs.declared.sender.Head.{Head}
use Rattle.log_processes.specs.declared.sender.Limits.{Limits}
use Rattle.log_processes.specs.declared.sender.Sender.{Sender}
use Rattle.log_processes.specs.Sending.{AnswersSent, KeepsProcess, KeepsSender, is_within, sent_entry}
use Rattle.log_births.specs.declared.births.Born.{Born}
use Rattle.log_births.specs.declared.births.ToldChild.{ToldChild}

-- ---- what may stand next

-- the pid of the next child of a home, where it is this number and has 32 bits
abbrev pub child_may : Places → ClusterNo → ℕ → Option Pid
child_may places home n = if (pid_of home.0 (next_serial_in places home)).0 == n && nat_lt n (2 ^ 32) then Some (pid_no n) else None

-- silent steps lead to where it forks by the step with this count; or they lead to no such place
abbrev pub ForksBy : ℕ → ProcState → Bool → ProcState → Type 0
ForksBy at s true t = ((s.small).steps < at) × (before_fork (at - 1 - (s.small).steps) s ≡ Some t)
ForksBy at s false t = (q : ProcState) → (s.small).steps < at → before_fork (at - 1 - (s.small).steps) s ≡ Some q → ⊥

-- a process before its fork may bear this child, where the end that it links is this one, and it is within its limits behind the fork
abbrev pub birth_may : Limits → Sender → ProcState → Pid → ℕ → Bool
birth_may limits kept s child end = next_end s == end && is_within limits kept (fork_parent s child)

-- it has borne it, and is the parent that the fork leaves; or it may not
abbrev pub Bears : Limits → Sender → Pid → ℕ → ProcState → Option (ℕ × Process) → ProcState → Type 0
Bears limits kept child end s (Some born) t =
    (birth_may limits kept s child end ≡ true) × (born.0 ≡ next_end s)
    × (state_of born.1 ≡ fork_child s child) × (t ≡ fork_parent s child)
Bears limits kept child end s None t = birth_may limits kept s child end ≡ false

-- the entry by which its home tells of its fork
abbrev pub birth_entry : FrontState → ClusterNo → Head → Pid → ℕ → Entry
birth_entry front home head child end = sent_entry front head home (Birth head.pid head.at child end)

-- by these a line is answered right
abbrev pub AnswersBirth : FrontState → Limits → Head → Sender → ProcState → ToldChild → Option Entry → Type 0
AnswersBirth front limits head kept s told result =
    AnswersSent front limits head kept s (ToldBirth (head.pid).0 head.at told.pid told.end) result

-- ---- what stands then

-- After the entry the parent stands so, with its counts, and the child as it is born, which has made no step and has no letter: for each legal
-- log of which what is kept of the parent is kept.
abbrev pub BearsChild : FrontState → Limits → Pid → Sender → ProcState → Born → ProcState → Type 0
BearsChild front limits p kept s born t = (system : System) (log : List Entry) → is_system system ≡ true → IsLegalBy MayStand system log
    → KeepsSender front limits p s kept system log
    → KeepsProcess p t kept.start kept.saved system (log ++ born.entry ∷ [])
    × KeepsProcess ((born.child).small).pid (state_of born.child) 0 0 system (log ++ born.entry ∷ [])

-- as it is born: it has a mark for each page of its parent, and has read nothing
pub record IsMarkedWhole (parent child : Process) : Type 0 where
  pub marks : (child.ram).dirty ≡ replicate (length (parent.ram).dirty) true
  pub read : child.read ≡ []
  pub since : child.since ≡ 0
