-- Which lines of pages that are sent may stand next.
use Rattle.std.specs.Prelude.{ℕ, ◌≡◌, ◌/◌, ◌&&◌, nat_le, nat_lt, Bool, not, List, length, Option, Some}
use Rattle.t32_base.specs.declared.process.Pid.{Pid}
use Rattle.t32_base.specs.declared.process.ClusterNo.{ClusterNo}
use Rattle.sys_text.specs.declared.system.System.{System}
use Rattle.proc_state.specs.State.{ProcState}
use Rattle.bus_msg.specs.declared.entry.What.TheVariants.{Page}
use Rattle.bus_msg.specs.declared.entry.Entry.{Entry}
use Rattle.cert_sched.specs.Schedule.{process_after}
use Rattle.cert_sched.specs.Rules.{has_its_pages}
use Rattle.cert_sched.specs.Legal.{MayStand}
use Rattle.entry_lines.specs.declared.told.ToldWhat.TheVariants.{Page as ToldPage}
use Rattle.log_audit.specs.Decides.{Decides}
use Rattle.log_audit.specs.Front.{FrontState, IsFrontOf}
use Rattle.log_processes.specs.declared.sender.Head.{Head}
use Rattle.log_processes.specs.declared.sender.Sender.{Sender}
use Rattle.log_processes.specs.Sending.{sent_entry}
use Rattle.log_cuts.specs.SentPages.{IsSentOf, was_sent}

-- The front is that of a log, and what is kept of a process and of its pages is what the log says.
pub record KeepsPages (front : FrontState) (p : Pid) (s : ProcState) (kept : Sender) (sent : List (ℕ × List ℕ)) (system : System) (log : List Entry) : Type 0 where
  pub before : IsFrontOf system log front
  pub there : process_after system log p ≡ Some s
  pub whole : kept.whole ≡ has_its_pages system log p
  pub pages : IsSentOf system log p sent

-- one of its pages, as it is at a step count that is not behind it, and at which it was not sent
abbrev pub page_may : ProcState → ℕ → ℕ → List (ℕ × List ℕ) → Bool
page_may s at i sent = nat_lt i (length s.memory / 256) && nat_le (s.small).steps at && not (was_sent sent i at)

-- by these a line is answered right
abbrev pub AnswersPage : FrontState → Head → ℕ → Sender → ProcState → List (ℕ × List ℕ) → Option Entry → Type 0
AnswersPage front head i kept s sent result =
    Decides MayStand (KeepsPages front head.pid s kept sent) (record { place = head.place; by = head.by; what = ToldPage (head.pid).0 head.at i }) result

-- the entry by which its home sends it
abbrev pub page_entry : FrontState → Head → ClusterNo → ℕ → List ℕ → Entry
page_entry front head home i bytes = sent_entry front head home (Page head.pid head.at i bytes)
