-- Which lines of synchronisations may stand next.
use Rattle.std.specs.Prelude.{ℕ, ◌≡◌, ◌-◌, ◌&&◌, ◌||◌, ◌==◌, nat_le, Bool, true, false, not, List, [], ◌∷◌, ◌++◌, length, Option, Some, None, is_some}
use Rattle.t32_base.specs.declared.process.Pid.{Pid}
use Rattle.t32_base.specs.declared.process.ClusterNo.{ClusterNo}
use Rattle.sys_text.specs.declared.system.System.{System}
use Rattle.proc_state.specs.State.{ProcState}
use Rattle.bus_msg.specs.declared.entry.What.{What}
use Rattle.bus_msg.specs.declared.entry.What.TheVariants.{Sync}
use Rattle.bus_msg.specs.declared.entry.Entry.{Entry}
use Rattle.cert_sched.specs.Kinds.{after_take, took_is}
use Rattle.cert_sched.specs.Schedule.{process_after}
use Rattle.cert_sched.specs.Legal.{MayStand}
use Rattle.entry_lines.specs.declared.told.ToldWhat.TheVariants.{Sync as ToldSync}
use Rattle.page_server.specs.Account.{PagerState}
use Rattle.page_accounts.specs.Keeps.{KeepsAccounts}
use Rattle.log_audit.specs.Decides.{Decides}
use Rattle.log_audit.specs.Front.{FrontState}
use Rattle.log_processes.specs.declared.sender.Head.{Head}
use Rattle.log_processes.specs.declared.sender.Limits.{Limits}
use Rattle.log_processes.specs.declared.sender.Sender.{Sender}
use Rattle.log_processes.specs.Sending.{KeepsSender, is_within, sent_entry}
use Rattle.log_cuts.specs.declared.start.Start.{Start}
use Rattle.log_cuts.specs.Ahead.{upto}
use Rattle.log_cuts.specs.Start.{KeepsStart, read_numbers}

-- The front is that of a log, the limits are those of the system, what is kept of a process and of where it started is what the log says, and the page server has the accounts of the log.
pub record KeepsCut (front : FrontState) (limits : Limits) (p : Pid) (s : ProcState) (kept : Sender) (start : Start) (pager : PagerState) (system : System) (log : List Entry) : Type 0 where
  pub sender : KeepsSender front limits p s kept system log
  pub begun : KeepsStart p start system log
  pub accounts : KeepsAccounts system log pager

-- ---- what may stand next

-- it made enough steps, read enough letters, takes a signal, or was never cut
abbrev pub is_due : Limits → Sender → Bool → Option ℕ → ProcState → Bool
is_due limits kept stated took s =
    nat_le limits.reads (kept.saved - length s.mail) || nat_le limits.steps ((s.small).steps - kept.start) || is_some took || not stated

-- a process without a child that never synchronised, which stands at this step count, within its limits, and is due
abbrev pub cut_may : Limits → ℕ → Sender → Bool → Option ℕ → ProcState → Bool
cut_may limits at kept stated took s = not kept.parent && (s.small).steps == at && is_within limits kept s && is_due limits kept stated took s

-- silent steps lead a process to where it may be cut; or not
abbrev pub ComesToCut : Limits → ℕ → Sender → Bool → Option ℕ → ProcState → Bool → ProcState → Type 0
ComesToCut limits at kept stated took s true t = (upto at s ≡ Some t) × (cut_may limits at kept stated took t ≡ true)
ComesToCut limits at kept stated took s false t = (u : ProcState) → upto at s ≡ Some u → cut_may limits at kept stated took u ≡ false

-- it takes the signal that is told, if one is; or it cannot take that
abbrev pub Takes : Option ℕ → ProcState → Option (Option ℕ) → ProcState → Type 0
Takes told s (Some took) t = (took ≡ told) × (took_is told s ≡ true) × (after_take told s ≡ t)
Takes told s None t = took_is told s ≡ false

-- the synchronisation of a process that stands so
abbrev pub sync_of : Pid → Start → Option ℕ → ProcState → What
sync_of p start took s = Sync p s.small (read_numbers start s) took

-- it takes the signal that is told, if one is, and stands where it is cut, and this is the entry by which its home tells of it; or it cannot take that
abbrev pub Cuts : FrontState → Head → ClusterNo → Start → Option ℕ → ProcState → Option Entry → ProcState → Type 0
Cuts front head home start took s (Some e) t = (took_is took s ≡ true) × (after_take took s ≡ t) × (e ≡ sent_entry front head home (sync_of head.pid start took t))
Cuts front head home start took s None t = took_is took s ≡ false

-- by these a line is answered right
abbrev pub AnswersSync : FrontState → Limits → Head → Sender → Start → PagerState → ProcState → Option ℕ → Option Entry → Type 0
AnswersSync front limits head kept start pager s took result =
    Decides MayStand (KeepsCut front limits head.pid s kept start pager) (record { place = head.place; by = head.by; what = ToldSync (head.pid).0 head.at took }) result

-- the process stands so after the entry
abbrev pub LeadsToCut : FrontState → Limits → Pid → Sender → Start → PagerState → ProcState → Entry → ProcState → Type 0
LeadsToCut front limits p kept start pager s e t =
    (system : System) (log : List Entry) → KeepsCut front limits p s kept start pager system log → process_after system (log ++ e ∷ []) p ≡ Some t
