-- What is asked of a process that sends a page of itself, or synchronises.
use Rattle.std.specs.Prelude.{ℕ, ◌≡◌, Bool, true, false, not, ◌||◌, nat_le, List, Option, Some, is_some}
use Rattle.t32_base.specs.declared.process.Pid.{Pid}
use Rattle.sys_text.specs.declared.system.System.{System}
use Rattle.proc_state.specs.State.{ProcState}
use Rattle.bus_msg.specs.declared.entry.By.{By}
use Rattle.bus_msg.specs.declared.entry.Entry.{Entry}
use Rattle.cert_sched.specs.Parts.{rising}
use Rattle.cert_sched.specs.Schedule.{placement}
use Rattle.cert_sched.specs.Record.{has_state}
use Rattle.cert_sched.specs.Account.{account_after, all_pages}
use Rattle.cert_sched.specs.Steps.{silent_upto, numbers_read, saved_of, reads_since, steps_since}
use Rattle.cert_sched.specs.Rules.{is_over, is_by_home}
use Rattle.cert_sched.specs.Kinds.{ChildrenSynced, after_take, took_is}

-- The log is not over, it is sent by the home of the process, which lives, and silent steps lead from the log to the process as it is.
pub record MaySend (system : System) (log : List Entry) (by : By) (p : Pid) (s : ProcState) : Type 0 where
  pub goes_on : is_over system log ≡ false
  pub by_home : is_by_home (placement system log) by (Some p) ≡ true
  pub reached : silent_upto system log p (s.small).steps ≡ Some s

-- since its start it has read so many letters, or made so many steps, as the system asks
abbrev pub is_due_since : System → List Entry → Pid → ProcState → Bool
is_due_since system log p s = nat_le system.syncreads (reads_since system log p s) || nat_le system.syncsteps (steps_since system log p s)

-- or it takes a signal, or is a child that was never cut, which may synchronise at any time
abbrev pub is_due_at : System → List Entry → Pid → Option ℕ → ProcState → Bool
is_due_at system log p took s = is_due_since system log p s || is_some took || not (has_state system log p)

-- It can take the signal that is told, if one is; these are the letters that it has read after that, its children have synchronised, the pages that came are its memory, and
-- it is due.
pub record MaySync (system : System) (log : List Entry) (p : Pid) (s : ProcState) (read : List ℕ) (took : Option ℕ) : Type 0 where
  pub takes : took_is took s ≡ true
  pub reads : rising read ≡ numbers_read (saved_of system log p) (after_take took s).mail
  pub children : ChildrenSynced system log p
  pub account : (account_after system log p).now ≡ all_pages s.memory
  pub due : is_due_at system log p took s ≡ true
