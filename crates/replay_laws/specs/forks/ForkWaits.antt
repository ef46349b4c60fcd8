-- A child that waits for its parent's fork, beside a log.
use Rattle.std.specs.Prelude.{ℕ, ◌≡◌, ◌⊎◌, Bool, true, false, List, [], Some}
use Rattle.t32_base.specs.declared.process.Pid.{Pid}
use Rattle.sys_text.specs.declared.system.System.{System}
use Rattle.bus_msg.specs.declared.entry.Entry.{Entry}
use Rattle.cert_sched.specs.Moved.{any_since_moved}
use Rattle.cert_sched.specs.Record.{backup_record, has_state}
use Rattle.cert_sched.specs.Simulation.{IsUnended}
use Rattle.checkpoint_laws.specs.marks.Beside.{is_some_page}
use Rattle.page_waits.specs.Waiting.{WaitingState}
use Rattle.replay_laws.specs.pages.Waits.{WaitsAs}

-- It has its record, in which there is no state, so it has no page to ask for, and none has come: it starts where its parent makes its fork again. Since a crash moved it none of its pages was sent.
pub record WaitsForFork (system : System) (log : List Entry) (p : Pid) (w : WaitingState) : Type 0 where
  pub kept : backup_record system log p ≡ Some w.kept
  pub stateless : has_state system log p ≡ false
  pub asked : w.asked ≡ 0
  pub come : w.come ≡ []
  pub unsent : any_since_moved system log p (is_some_page p) ≡ false

-- It waits as the log says, where some fetches are queued and not yet in the log: for its pages, or for its parent's fork.
abbrev pub WaitsSo : System → List Entry → Pid → (ℕ → Bool) → WaitingState → Type 0
WaitsSo system log p queued w = WaitsAs system log p queued w ⊎ WaitsForFork system log p w

-- a process that has not ended, has a state in its record, and passes a test
pub record HasStatedOne (system : System) (log : List Entry) (test : Pid → Bool) : Type 0 where
  pub pid : Pid
  pub unended : IsUnended system log pid
  pub stated : has_state system log pid ≡ true
  pub passes : test pid ≡ true
