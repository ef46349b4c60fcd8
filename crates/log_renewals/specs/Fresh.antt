-- Which lines of new backups of processes that have run may stand next.
use Rattle.std.specs.Prelude.{ℕ, ◌≡◌, ◌==◌, ◌&&◌, Bool, true, false, not, List, [], ◌∷◌, ◌++◌, Option, Some}
use Rattle.t32_base.specs.declared.process.Pid.{Pid}
use Rattle.t32_base.specs.declared.process.ClusterNo.{ClusterNo}
use Rattle.sys_text.specs.declared.system.System.{System}
use Rattle.proc_state.specs.State.{ProcState}
use Rattle.bus_msg.specs.declared.entry.What.TheVariants.{Rebackup}
use Rattle.bus_msg.specs.declared.entry.Entry.{Entry}
use Rattle.backup_mode.specs.Posts.{renewed_record}
use Rattle.cert_sched.specs.Legal.{MayStand}
use Rattle.cert_sched.specs.Schedule.{process_after}
use Rattle.entry_lines.specs.declared.told.ToldWhat.TheVariants.{Fresh as ToldFresh}
use Rattle.page_server.specs.Account.{PagerState}
use Rattle.page_accounts.specs.Keeps.{KeepsAccounts}
use Rattle.log_audit.specs.Decides.{Decides}
use Rattle.log_audit.specs.Front.{FrontState}
use Rattle.log_processes.specs.declared.sender.Head.{Head}
use Rattle.log_processes.specs.declared.sender.Limits.{Limits}
use Rattle.log_processes.specs.declared.sender.Sender.{Sender}
use Rattle.log_processes.specs.Sending.{KeepsSender, is_within, sent_entry}
use Rattle.log_cuts.specs.Ahead.{upto}

-- What is kept of a process, beside the front and the limits, is what a log says, and the page server has the accounts of the log.
pub record KeepsFresh (front : FrontState) (limits : Limits) (p : Pid) (s : ProcState) (kept : Sender) (pager : PagerState)
    (system : System) (log : List Entry) : Type 0 where
  pub sender : KeepsSender front limits p s kept system log
  pub accounts : KeepsAccounts system log pager

-- ---- what may stand next

-- a process without a child that never synchronised, which stands at this step count, within its limits
abbrev pub renewal_may : Limits → ℕ → Sender → ProcState → Bool
renewal_may limits at kept s = not kept.parent && (s.small).steps == at && is_within limits kept s

-- silent steps lead a process to where it may get a new backup; or not
abbrev pub ComesToRenewal : Limits → ℕ → Sender → ProcState → Bool → ProcState → Type 0
ComesToRenewal limits at kept s true t = (upto at s ≡ Some t) × (renewal_may limits at kept t ≡ true)
ComesToRenewal limits at kept s false t = (u : ProcState) → upto at s ≡ Some u → renewal_may limits at kept u ≡ false

-- the entry by which its home gives a process that stands so the backup
abbrev pub fresh_entry : FrontState → Head → ClusterNo → ClusterNo → ProcState → Entry
fresh_entry front head home to s = sent_entry front head home (Rebackup to true (renewed_record head.pid s ∷ []))

-- by these a line is answered right
abbrev pub AnswersFresh : FrontState → Limits → Head → List ℕ → ℕ → Sender → PagerState → ProcState → Option Entry → Type 0
AnswersFresh front limits head others to kept pager s result =
    Decides MayStand (KeepsFresh front limits head.pid s kept pager)
    (record { place = head.place; by = head.by; what = ToldFresh ((head.pid).0 ∷ others) head.at to }) result

-- the process stands so after the entry
abbrev pub LeadsToRenewal : FrontState → Limits → Pid → Sender → PagerState → ProcState → Entry → ProcState → Type 0
LeadsToRenewal front limits p kept pager s e t =
    (system : System) (log : List Entry) → KeepsFresh front limits p s kept pager system log
    → process_after system (log ++ e ∷ []) p ≡ Some t
