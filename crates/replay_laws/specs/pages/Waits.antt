-- A process that waits for its pages, beside a log.
use Rattle.std.specs.Prelude.{ℕ, ◌≡◌, ◌≤◌, ◌<◌, Bool, true, false, ◌||◌, if◌then◌else◌, nat_lt, List, length, replicate, slice_get, Option, Some, None}
use Rattle.t32_base.specs.declared.process.Pid.{Pid}
use Rattle.t32_base.specs.declared.letter.BackRec.{BackRec}
use Rattle.sys_text.specs.declared.system.System.{System}
use Rattle.proc_state.specs.State.{ProcState, state_of}
use Rattle.page_waits.specs.Begun.{begun}
use Rattle.bus_msg.specs.declared.entry.Entry.{Entry}
use Rattle.roll_forward.specs.Rolling.{RollingState}
use Rattle.cert_sched.specs.Deeds.{start_of}
use Rattle.cert_sched.specs.Account.{account_after, page_in}
use Rattle.cert_sched.specs.Moved.{moved_with_state, any_since_moved, is_fetch, is_page_is}
use Rattle.cert_sched.specs.Record.{backup_record}
use Rattle.cert_sched.specs.Steps.{page_count}
use Rattle.replay_laws.specs.rolling.Behind.{RollsBehind}
use Rattle.page_waits.specs.Waiting.{WaitingState, page_count as pages_of, rolling_of}

-- what has come of a page since a crash moved the process: the page of its last cut
abbrev pub page_come : System → List Entry → Pid → ℕ → Option (List ℕ)
page_come system log p i = if any_since_moved system log p (is_page_is p i) then page_in (account_after system log p).kept i else None

-- A process waits as a log says, where some fetches are queued and not yet in the log: it has its record; the crash that moved it found a state; a page was asked for
-- where its fetch stands in the log since then or is queued; and it has come where the log has it.
pub record WaitsAs (system : System) (log : List Entry) (p : Pid) (queued : ℕ → Bool) (w : WaitingState) : Type 0 where
  pub kept : backup_record system log p ≡ Some w.kept
  pub moved : moved_with_state system log p ≡ true
  pub pages : length w.come ≡ page_count system log p
  pub some : 1 ≤ length w.come
  pub at_most : length w.come ≤ 256
  pub asked : (i : ℕ) → i < length w.come → nat_lt i w.asked ≡ (any_since_moved system log p (is_fetch p i) || queued i)
  pub come : (i : ℕ) → i < length w.come → slice_get w.come i ≡ Some (page_come system log p i)

-- no fetch is queued
abbrev pub none_queued : ℕ → Bool
none_queued i = false

-- the process of a record, of whose pages none was asked for
abbrev pub first_wait : BackRec → WaitingState
first_wait r = record { kept = r; asked = 0; come = replicate (pages_of r) None }

-- It begins again from its start and its record, and goes on from there as the log says.
pub record GoesOnAs (system : System) (log : List Entry) (p : Pid) (w : WaitingState) : Type 0 where
  pub rolling : RollingState
  pub is : rolling_of w ≡ Some rolling
  pub behind : RollsBehind system log p (state_of rolling.process) rolling.counts rolling.births
  pub start : ProcState
  pub started : start_of system log p ≡ Some start
  pub begins : rolling ≡ begun start w.kept
