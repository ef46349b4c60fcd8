-- What a cluster holds of a log of which it takes in those entries alone that go to it.
use Rattle.std.specs.Prelude.{◌++◌, ◌+◌, ◌≡◌, ◌≤◌, ◌⊎◌, ◌&&◌, ◌||◌, Bool, true, false, not, if◌then◌else◌, List, [], ◌∷◌, filter, drop, length, is_some, ⊤}
use Rattle.std.specs.List.{list_any}
use Rattle.std.specs.Option.{option_map_or}
use Rattle.t32_base.specs.declared.process.Pid.{Pid}
use Rattle.t32_base.specs.declared.process.ClusterNo.{ClusterNo}
use Rattle.sys_text.specs.declared.system.System.{System}
use Rattle.bus_msg.specs.declared.entry.Entry.{Entry}
use Rattle.bus_msg.specs.declared.entry.What.{What}
use Rattle.bus_msg.specs.declared.entry.What.TheVariants.{Birth, Sync}
use Rattle.bus_msg.specs.declared.entry.Post.{Post}
use Rattle.bus_msg.specs.PlacedAfter.{after_sync, what, with_each}
use Rattle.cluster_core.specs.Calls.{absorbed}
use Rattle.cluster_core.specs.Families.{family_after}
use Rattle.bus_msg.specs.declared.placed.Placed.{Placed}
use Rattle.bus_msg.specs.Places.{Places, is_cluster, lives_in, same_cluster, servers_in, unended_at}
use Rattle.cert_sched.specs.Losses.{capped, least_steps, was_lost_in}
use Rattle.cert_sched.specs.Record.{is_root}
use Rattle.cert_sched.specs.Schedule.{placement}
use Rattle.log_laws.specs.births.Unsynced.{unsynced_births}
use Rattle.cluster_core.specs.Absorbing.{goes_to}
use Rattle.cluster_core.specs.ForksAgain.{HoldsForks}
use Rattle.cluster_core.specs.Holds.{CarriesMarks, HasNotFailed, HoldsAccounts, HoldsLimits, HoldsMarks, HoldsPages, HoldsProcesses, HoldsQueue, HoldsRecords}
use Rattle.cluster_core.specs.Parts.{AllOwn}
use Rattle.cluster_core.specs.Owed.{HoldsOwed}
use Rattle.cluster_core.specs.Sent.{SentMayStand}
use Rattle.cluster_core.specs.Standing.{HoldsBackups}
use Rattle.cluster_core.specs.Queue.{are_plain}
use Rattle.cluster_core.specs.Follows.{QueuedIn}
use Rattle.cluster_core.specs.View.{ClusterView, after_head}

-- the entries of a log that go to a cluster
abbrev pub heard_in : ClusterNo → List Entry → List Entry
heard_in k log = filter (λ (e : Entry). goes_to e.dests k) log

-- ---- the placement

-- A cluster may not know that a process has synchronised: a root, or one whose home is another cluster and whose backup is another cluster or none.
abbrev pub may_miss : System → ClusterNo → Placed → Bool
may_miss system k q = is_root system q.pid || (not (same_cluster q.home k) && not (is_cluster q.backup k))

-- it knows where the process is placed, but for that
abbrev pub KnowsPlaced : System → ClusterNo → Placed → Placed → Type 0
KnowsPlaced system k known q = (known ≡ q) ⊎ ((may_miss system k q ≡ true) × (known ≡ record q { synced = false }))

abbrev pub KnowsEach : System → ClusterNo → List Placed → List Placed → Type 0
KnowsEach system k [] [] = ⊤
KnowsEach system k [] (q ∷ qs) = ⊥
KnowsEach system k (p ∷ ps) [] = ⊥
KnowsEach system k (p ∷ ps) (q ∷ qs) = KnowsPlaced system k p q × KnowsEach system k ps qs

-- the whole placement so
pub record KnowsPlaces (system : System) (k : ClusterNo) (known is : Places) : Type 0 where
  pub clusters : known.clusters ≡ is.clusters
  pub pager : known.pager ≡ is.pager
  pub placed : KnowsEach system k known.placed is.placed

-- ---- the children that never synchronised

-- a child is at home in the cluster, or has its backup there
abbrev pub concerns : Places → ClusterNo → Pid × Pid → Bool
concerns places k b = option_map_or (λ (q : Placed). same_cluster q.home k || is_cluster q.backup k) (unended_at places b.1) false

-- it keeps the births of those that concern it
abbrev pub HoldsFamilyHere : System → List Entry → ClusterView → Type 0
HoldsFamilyHere system log c = c.family ≡ filter (concerns (placement system log) c.number) (unsynced_births system log)

-- ---- what it has heard

-- no entry of the log that goes to it stands at its cursor or later, and it knows the placement
pub record HasHeard (system : System) (log : List Entry) (c : ClusterView) : Type 0 where
  pub within : c.cursor ≤ length log
  pub none_left : list_any (λ (e : Entry). goes_to e.dests c.number) (drop c.cursor log) ≡ false
  pub places : KnowsPlaces system c.number c.places (placement system log)

-- its kernel steps are at least one for each entry that went to it or that it sent, and one for a head that was tried
pub record CountsHeard (log : List Entry) (c : ClusterView) : Type 0 where
  pub counted : was_lost_in log c.number ≡ false
      → capped (least_steps (heard_in c.number log) log c.number + (if c.tried then 1 else 0)) ≤ c.steps

-- only one of the page servers that were never lost keeps accounts
abbrev pub ServesThere : System → List Entry → ClusterView → Type 0
ServesThere system log c = is_some c.server ≡ true → list_any (λ s. same_cluster s c.number) (servers_in (placement system log)) ≡ true

-- A cluster that lives follows a log by what goes to it alone. What it holds of processes, records, pages and marks is what the whole log says. It has no new backup queued.
pub record FollowsHeard (system : System) (entries : List Entry) (c : ClusterView) : Type 0 where
  pub lives : lives_in (placement system entries) c.number ≡ true
  pub log : HasHeard system entries c
  pub processes : HoldsProcesses system entries c
  pub queue : HoldsQueue SentMayStand system entries c
  pub queued : QueuedIn system entries c
  pub plain : are_plain c.queue ≡ true
  pub steps : CountsHeard entries c
  pub limits : HoldsLimits system c
  pub pages : HoldsPages system entries c
  pub marks : HoldsMarks CarriesMarks system entries c
  pub records : HoldsRecords system entries c
  pub family : HoldsFamilyHere system entries c
  pub owed : HoldsOwed system entries c
  pub backups : HoldsBackups system entries c
  pub forks : HoldsForks c
  pub accounts : HoldsAccounts system entries c
  pub server : ServesThere system entries c
  pub disk : HasNotFailed c
  pub own : AllOwn c.cursor c.here

-- ---- an entry that goes to it

-- what an entry makes of these births: one of a child whose parent is at home here, or has its backup here, comes last
abbrev pub family_heard : Places → ClusterNo → What → List (Pid × Pid) → List (Pid × Pid)
family_heard before k (Birth parent at child end) births =
    if concerns before k (child, parent) then births ++ (parent, child) ∷ [] else births
family_heard before k w births = family_after w births

-- the cluster with the next entry taken in that goes to it
abbrev pub with_heard : ClusterView → Entry → ClusterView
with_heard c e = record (absorbed c e) { cursor = e.place + 1; family = family_heard c.places c.number (what e) c.family }

-- ---- an entry of its own that does not go to it

-- the cluster knows of a synchronisation that it has sent
abbrev pub after_head_heard : ClusterView → What → ClusterView
after_head_heard c (Sync pid small read took) =
    record c { places = with_each c.places (after_sync pid); family = family_after (Sync pid small read took) c.family }
after_head_heard c w = after_head c w

-- the cluster whose head was sent
abbrev pub after_sent_heard : ClusterView → List Post → ClusterView
after_sent_heard c [] = c
after_sent_heard c (head ∷ rest) = record (after_head_heard c head.what) { queue = rest; tried = false }
