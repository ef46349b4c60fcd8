-- The process of an entry, and the steps that the entry tells of.
use Rattle.std.specs.Prelude.{ℕ, ◌-◌, not, ◌==◌, List, [], ◌∷◌, map, filter, length, Option, Some, None, option_map, option_and_then}
use Rattle.std.specs.List.{list_any}
use Rattle.std.specs.Option.{option_map_or}
use Rattle.t32_base.specs.declared.process.Pid.{Pid}
use Rattle.t32_base.specs.declared.letter.Arrived.{Arrived}
use Rattle.t32_base.specs.declared.letter.BackRec.{BackRec}
use Rattle.sys_text.specs.declared.system.System.{System}
use Rattle.proc_state.specs.State.{ProcState}
use Rattle.sys_calls.specs.declared.steps.Emission.{Emission}
use Rattle.sys_calls.specs.Next.{silently, last_emission}
use Rattle.sys_calls.specs.Fork.{fork_parent, before_fork}
use Rattle.bus_msg.specs.declared.entry.What.{What}
use Rattle.bus_msg.specs.declared.entry.What.TheVariants.{Mail, Birth, Exit, Page, Sync, Fetch, PageIs, Crash, Return, Rebackup, Done, Stop}
use Rattle.bus_msg.specs.declared.entry.Entry.{Entry}
use Rattle.cert_sched.specs.Schedule.{process_after, done_after, steps_in}
use Rattle.cert_sched.specs.Deeds.{start_of, saved_letters}

-- ---- the process of an entry

abbrev pub first_record : List BackRec → Option BackRec
first_record [] = None
first_record (r ∷ rs) = Some r

-- the process that an entry tells of; of a new backup the first that it names
abbrev pub process_of : What → Option Pid
process_of (Mail at letter) = Some letter.from
process_of (Birth parent at child end) = Some parent
process_of (Exit pid at end) = Some pid
process_of (Page pid at index bytes) = Some pid
process_of (Sync pid small read took) = Some pid
process_of (Fetch pid index) = Some pid
process_of (PageIs pid index bytes) = Some pid
process_of (Crash k cause) = None
process_of (Return k) = None
process_of (Rebackup to fresh recs) = option_map (λ (r : BackRec). r.pid) (first_record recs)
process_of (Done rests) = None
process_of Stop = None

-- ---- its steps since the log

-- after silent steps up to a step count
unfoldable pub silent_upto : System → List Entry → Pid → ℕ → Option ProcState
silent_upto system log p at = option_and_then (silently (at - done_after system log p)) (process_after system log p)

-- what it sends by the step with this count, where those before are silent, and the process after that
unfoldable pub emission_at : System → List Entry → Pid → ℕ → Option (Emission × ProcState)
emission_at system log p at = option_and_then (last_emission (at - done_after system log p)) (process_after system log p)

-- the process before it forks by the step with this count, where those before are silent
unfoldable pub before_fork_at : System → List Entry → Pid → ℕ → Option ProcState
before_fork_at system log p at = option_and_then (before_fork (at - 1 - done_after system log p)) (process_after system log p)

abbrev pub at_record : System → List Entry → BackRec → Option ProcState
at_record system log r = silent_upto system log r.pid (steps_in r.state)

-- the process after the steps and the fork of an entry
abbrev pub after_items : System → List Entry → What → Option ProcState
after_items system log (Mail at letter) = option_map (λ r. r.1) (emission_at system log letter.from at)
after_items system log (Exit pid at end) = option_map (λ r. r.1) (emission_at system log pid at)
after_items system log (Birth parent at child end) = option_map (λ s. fork_parent s child) (before_fork_at system log parent at)
after_items system log (Sync pid small read took) = silent_upto system log pid small.steps
after_items system log (Rebackup to fresh recs) = option_and_then (at_record system log) (first_record recs)
after_items system log _ = None

-- ---- what it did since it started

-- the numbers of the saved letters that are no longer in a mailbox
abbrev pub numbers_read : List Arrived → List Arrived → List ℕ
numbers_read saved mail = map (λ (a : Arrived). a.number) (filter (λ (a : Arrived). not (list_any (λ (b : Arrived). b.number == a.number) mail)) saved)

abbrev pub saved_of : System → List Entry → Pid → List Arrived
saved_of system log p = option_map_or (saved_letters log p) (start_of system log p) []

abbrev pub start_steps : System → List Entry → Pid → ℕ
start_steps system log p = option_map_or (λ (s : ProcState). (s.small).steps) (start_of system log p) 0

-- how many letters it has read where it is s, and how many steps it has made
abbrev pub reads_since : System → List Entry → Pid → ProcState → ℕ
reads_since system log p s = length (numbers_read (saved_of system log p) s.mail)

abbrev pub steps_since : System → List Entry → Pid → ProcState → ℕ
steps_since system log p s = (s.small).steps - start_steps system log p

abbrev pub page_count : System → List Entry → Pid → ℕ
page_count system log p = option_map_or (λ (s : ProcState). (s.small).pages) (process_after system log p) 0
