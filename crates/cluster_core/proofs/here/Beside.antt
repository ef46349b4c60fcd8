-- A cluster that follows a log but for some processes that run, with at most one post in its queue. Where a process synchronises, the cluster does so beside the rest
-- of the batch.
use Rattle.std.proofs.Common.{◌≡◌, refl, List, true, Bool, Some, inl}
use Rattle.std.specs.Prelude.{⊤}
use Rattle.t32_base.specs.declared.process.Pid.{Pid}
use Rattle.sys_text.specs.declared.system.System.{System}
use Rattle.bus_msg.specs.declared.entry.Entry.{Entry}
use Rattle.cluster_core.specs.Sent.{SentMayStand}
use Rattle.bus_msg.specs.declared.entry.Post.{Post}
use Rattle.cert_sched.specs.Parts.{rising}
use Rattle.cert_sched.specs.Rests.{home_pids}
use Rattle.residents.specs.Residents.{pids_in}
use Rattle.cluster_core.specs.View.{ClusterView, held_at}
use Rattle.residents.specs.Held.{Held, Runs, Waits}
use Rattle.cluster_core.specs.Queue.{IsQueued, with_queue}
use Rattle.cluster_core.specs.Holds.{CarriesMarks, HasNotFailed, HoldsAccounts, HoldsLimits, HoldsLog, HoldsPages, HoldsQueue, HoldsRecords, HoldsSteps, IsHeldAs, MarkedIfThere, unended_process}
use Rattle.cluster_core.specs.Families.{HoldsFamily}
use Rattle.cluster_core.specs.Owed.{HoldsOwed}
use Rattle.cluster_core.specs.Standing.{HoldsBackups}
use Rattle.cluster_core.specs.ForksAgain.{HoldsForks}
use Rattle.cluster_core.specs.Follows.{Follows}

-- those of the processes that pass a test are marked as the log says
abbrev pub HoldsMarksOf : (Pid → Bool) → System → List Entry → ClusterView → Type 0
HoldsMarksOf which system log c = (p : Pid) (h : Held) → held_at c p ≡ Some h → which p ≡ true → MarkedIfThere CarriesMarks system (with_queue system log c.queue) p (unended_process h)

-- what is held of a process is what the log says; of one that runs this is asked where it passes the test
abbrev pub HeldOf : (Pid → Bool) → System → List Entry → List Post → Pid → Held → Type 0
HeldOf which system log queue p (Runs process) = which p ≡ true → IsHeldAs system log queue p (Runs process)
HeldOf which system log queue p held = IsHeldAs system log queue p held

pub any_of : (which : Pid → Bool) (system : System) (log : List Entry) (queue : List Post) (p : Pid) (h : Held) → IsHeldAs system log queue p h → HeldOf which system log queue p h
any_of which system log queue p (Runs process) held = λ passes. held
any_of which system log queue p _ held = held

pub one_of_them : (which : Pid → Bool) (system : System) (log : List Entry) (queue : List Post) (p : Pid) (h : Held) → which p ≡ true → HeldOf which system log queue p h → IsHeldAs system log queue p h
one_of_them which system log queue p (Runs process) passes held = held passes
one_of_them which system log queue p _ passes held = held

-- what follows for each that is what the log says follows for those
pub of_them : (which : Pid → Bool) (system : System) (log later : List Entry) (before after : List Post) (p : Pid) (h : Held) → (IsHeldAs system log before p h → IsHeldAs system later after p h) → HeldOf which system log before p h → HeldOf which system later after p h
of_them which system log later before after p (Runs process) follows held = λ passes. follows (held passes)
of_them which system log later before after p _ follows held = follows held

-- one that waits is held as the log says
abbrev pub WaitsAs : System → List Entry → List Post → Pid → Held → Type 0
WaitsAs system log queue p (Waits waiting) = IsHeldAs system log queue p (Waits waiting)
WaitsAs system log queue p _ = ⊤

pub told_waits : (system : System) (log : List Entry) (queue : List Post) (p : Pid) (h : Held) → IsHeldAs system log queue p h → WaitsAs system log queue p h
told_waits system log queue p (Waits waiting) held = held
told_waits system log queue p _ held = tt

pub waits_as : (which : Pid → Bool) (system : System) (log : List Entry) (queue : List Post) (p : Pid) (h : Held) → HeldOf which system log queue p h → WaitsAs system log queue p h
waits_as which system log queue p (Waits waiting) held = held
waits_as which system log queue p _ held = tt

-- each process at home here that has not ended stands here once, and those as the log and the queue say
pub record HoldsThem (which : Pid → Bool) (system : System) (log : List Entry) (c : ClusterView) : Type 0 where
  pub held : (p : Pid) (h : Held) → held_at c p ≡ Some h → HeldOf which system log c.queue p h
  pub each_once : rising (pids_in c.here) ≡ rising (home_pids system log c.number)

pub record FollowsBeside (which : Pid → Bool) (system : System) (entries : List Entry) (c : ClusterView) : Type 0 where
  pub log : HoldsLog system entries c
  pub processes : HoldsThem which system entries c
  pub queue : HoldsQueue SentMayStand system entries c
  pub queued : IsQueued c.queue
  pub steps : HoldsSteps entries c
  pub limits : HoldsLimits system c
  pub pages : HoldsPages system entries c
  pub marks : HoldsMarksOf which system entries c
  pub records : HoldsRecords system entries c
  pub family : HoldsFamily system entries c
  pub owed : HoldsOwed system entries c
  pub backups : HoldsBackups system entries c
  pub forks : HoldsForks c
  pub accounts : HoldsAccounts system entries c
  pub disk : HasNotFailed c

-- all processes
abbrev pub all_of : Pid → Bool
all_of p = true

-- where no batch is queued, that is all
pub beside_of : (system : System) (log : List Entry) (c : ClusterView) → Follows system log c → IsQueued c.queue → FollowsBeside all_of system log c
beside_of system log c f queued = record {
  log = f.log;
  processes = record { held = λ p h there. any_of all_of system log c.queue p h ((f.processes).held p h there); each_once = (f.processes).each_once };
  queue = f.queue;
  queued = queued;
  steps = f.steps;
  limits = f.limits;
  pages = f.pages;
  marks = λ p h there all. f.marks p h there;
  records = f.records;
  family = f.family;
  owed = f.owed;
  backups = f.backups;
  forks = f.forks;
  accounts = f.accounts;
  disk = f.disk;
}

pub sent_of : (system : System) (log : List Entry) (c : ClusterView) → FollowsBeside all_of system log c → Follows system log c
sent_of system log c f = record {
  log = f.log;
  processes = record { held = λ p h there. one_of_them all_of system log c.queue p h refl ((f.processes).held p h there); each_once = (f.processes).each_once };
  queue = f.queue;
  queued = inl f.queued;
  steps = f.steps;
  limits = f.limits;
  pages = f.pages;
  marks = λ p h there. f.marks p h there refl;
  records = f.records;
  family = f.family;
  owed = f.owed;
  backups = f.backups;
  forks = f.forks;
  accounts = f.accounts;
  disk = f.disk;
}
