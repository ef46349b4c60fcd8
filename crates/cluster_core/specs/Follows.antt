-- When a cluster follows a log: it holds what the log says, and nothing else.
use Rattle.std.specs.Prelude.{◌≡◌, ◌⊎◌, true, false, List, Some, option_map}
use Rattle.sys_text.specs.declared.system.System.{System}
use Rattle.bus_msg.specs.declared.entry.Entry.{Entry}
use Rattle.cert_sched.specs.Legal.{IsLegalBy}
use Rattle.cert_sched.specs.Rules.{is_over}
use Rattle.cluster_core.specs.View.{ClusterView, head_of, after_sent}
use Rattle.cert_sched.specs.Appended.{entry_of}
use Rattle.cluster_core.specs.Queue.{IsQueued}
use Rattle.cluster_core.specs.Sent.{SentMayStand}
use Rattle.cluster_core.specs.Syncing.{Synchronises}
use Rattle.cluster_core.specs.Bearing.{BearsChild}
use Rattle.cluster_core.specs.HandingOn.{HandsOver}
use Rattle.cluster_core.specs.Renewing.{Renews}
use Rattle.cluster_core.specs.Families.{HoldsFamily}
use Rattle.cluster_core.specs.Owed.{HoldsOwed}
use Rattle.cluster_core.specs.Standing.{HoldsBackups}
use Rattle.cluster_core.specs.ForksAgain.{HoldsForks}
use Rattle.cluster_core.specs.Holds.{HoldsLog, HoldsProcesses, HoldsQueue, HoldsSteps, HoldsLimits, HoldsPages, HoldsMarks, CarriesMarks, HoldsRecords, HoldsAccounts, HasNotFailed}

-- what is queued is nothing, or one post that is sent alone, or the rest of a batch, or a birth, or the new backup of a family that was moved, or the rest of what brings a process that has run its new backup
abbrev pub QueuedIn : System → List Entry → ClusterView → Type 0
QueuedIn system log c = IsQueued c.queue ⊎ Synchronises system log c ⊎ BearsChild system log c ⊎ HandsOver c ⊎ Renews system log c

-- All that a cluster holds. Each post that is queued may stand next by all rules but that of new backups; that it keeps this too follows from the lines on the
-- processes here (`heads_may_follow`).
pub record Follows (system : System) (entries : List Entry) (c : ClusterView) : Type 0 where
  pub log : HoldsLog system entries c
  pub processes : HoldsProcesses system entries c
  pub queue : HoldsQueue SentMayStand system entries c
  pub queued : QueuedIn system entries c
  pub steps : HoldsSteps entries c
  pub limits : HoldsLimits system c
  pub pages : HoldsPages system entries c
  pub marks : HoldsMarks CarriesMarks system entries c
  pub records : HoldsRecords system entries c
  pub family : HoldsFamily system entries c
  pub owed : HoldsOwed system entries c
  pub backups : HoldsBackups system entries c
  pub forks : HoldsForks c
  pub accounts : HoldsAccounts system entries c
  pub disk : HasNotFailed c

-- a log that goes on, by a rule
abbrev pub IsOpen : (System → List Entry → Entry → Type 0) → System → List Entry → Type 0
IsOpen May system log = IsLegalBy May system log × (is_over system log ≡ false)

-- The cluster is what is left of one that follows the log when its head was sent, which is the entry e: the next entry that it takes in.
pub record StandsBetween (Follow : System → List Entry → ClusterView → Type 0) (system : System) (log : List Entry) (e : Entry) (c : ClusterView) : Type 0 where
  pub before : ClusterView
  pub followed : Follow system log before
  pub head : option_map (entry_of system log) (head_of before.queue) ≡ Some e
  pub tried : before.tried ≡ true
  pub sent : c ≡ after_sent before before.queue
