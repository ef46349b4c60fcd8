-- What is kept of a process that may send, and which of its lines may stand next.
use Rattle.std.specs.Prelude.{ℕ, ◌≡◌, ◌-◌, ◌&&◌, nat_le, Bool, if◌then◌else◌, List, length, Option, Some, None}
use Rattle.t32_base.specs.declared.process.Pid.{Pid}
use Rattle.t32_base.specs.declared.process.ClusterNo.{ClusterNo}
use Rattle.sys_text.specs.declared.system.System.{System}
use Rattle.proc_state.specs.State.{ProcState}
use Rattle.bus_msg.specs.declared.entry.By.TheVariants.{Cluster}
use Rattle.bus_msg.specs.declared.entry.What.{What}
use Rattle.bus_msg.specs.declared.entry.Entry.{Entry}
use Rattle.bus_msg.specs.PlacedAfter.{what}
use Rattle.cert_sched.specs.Schedule.{process_after}
use Rattle.cert_sched.specs.Steps.{after_items, saved_of, start_steps}
use Rattle.cert_sched.specs.Rules.{has_its_pages}
use Rattle.cert_sched.specs.Family.{has_unsynced_child}
use Rattle.cert_sched.specs.Legal.{MayStand}
use Rattle.entry_lines.specs.declared.told.ToldWhat.{ToldWhat}
use Rattle.log_audit.specs.Decides.{Decides}
use Rattle.log_audit.specs.Fetches.{home_told}
use Rattle.log_audit.specs.Front.{FrontState, IsFrontOf, entry_at, is_next}
use Rattle.log_processes.specs.declared.sender.Head.{Head}
use Rattle.log_processes.specs.declared.sender.Limits.{Limits}
use Rattle.log_processes.specs.declared.sender.Sender.{Sender}

-- ---- what is kept

-- the limits are those of a system
pub record AreLimits (limits : Limits) (system : System) : Type 0 where
  pub steps : limits.steps ≡ system.syncsteps
  pub reads : limits.reads ≡ system.syncreads

-- The process as it stands after a log, its steps where it started, and how many letters it had not read there and came since.
pub record KeepsProcess (p : Pid) (s : ProcState) (start saved : ℕ) (system : System) (log : List Entry) : Type 0 where
  pub there : process_after system log p ≡ Some s
  pub begins : start ≡ start_steps system log p
  pub letters : saved ≡ length (saved_of system log p)

-- The front is that of a log, the limits are those of the system, and what is kept of a process is what the log says of it.
pub record KeepsSender (front : FrontState) (limits : Limits) (p : Pid) (s : ProcState) (kept : Sender) (system : System) (log : List Entry) : Type 0 where
  pub before : IsFrontOf system log front
  pub limited : AreLimits limits system
  pub process : KeepsProcess p s kept.start kept.saved system log
  pub whole : kept.whole ≡ has_its_pages system log p
  pub parent : kept.parent ≡ has_unsynced_child system log p

-- ---- what may stand next

-- the home from which the process may send next, where it has its pages and the line says that this cluster sent it
abbrev pub home_may : FrontState → Head → Sender → Option ClusterNo
home_may front head kept = if is_next front head.place && kept.whole then home_told front.places head.by head.pid else None

-- since it started it has made no more steps and read no more letters
abbrev pub is_within : Limits → Sender → ProcState → Bool
is_within limits kept s = nat_le ((s.small).steps - kept.start) limits.steps && nat_le (kept.saved - length s.mail) limits.reads

-- the entry by which its home sends this
abbrev pub sent_entry : FrontState → Head → ClusterNo → What → Entry
sent_entry front head home w = entry_at front head.place (record { by = Cluster home; what = w })

-- by these a line is answered right
abbrev pub AnswersSent : FrontState → Limits → Head → Sender → ProcState → ToldWhat → Option Entry → Type 0
AnswersSent front limits head kept s w result =
    Decides MayStand (KeepsSender front limits head.pid s kept) (record { place = head.place; by = head.by; what = w }) result

-- the process stands as the steps that an entry tells of lead it, before a letter of the entry arrives
abbrev pub Leads : FrontState → Limits → Pid → Sender → ProcState → Entry → ProcState → Type 0
Leads front limits p kept s e t = (system : System) (log : List Entry) → KeepsSender front limits p s kept system log → after_items system log (what e) ≡ Some t
