-- What the calls on a cluster ask and promise. What a call asks holds of some log; what it promises, of every log that the cluster follows.
use Rattle.std.specs.Prelude.{ℕ, ◌+◌, ◌≡◌, ◌≢◌, ◌⊎◌, Bool, true, false, not, List, [], ◌∷◌, ◌++◌, filter, Some, None, is_none, ⊤}
use Rattle.t32_base.specs.declared.process.Pid.{Pid}
use Rattle.t32_base.specs.declared.process.ClusterNo.{ClusterNo}
use Rattle.sys_text.specs.declared.system.System.{System}
use Rattle.proc_state.specs.declared.process.Process.{Process}
use Rattle.proc_state.specs.State.{state_of}
use Rattle.sys_calls.specs.declared.steps.Emission.{Emission}
use Rattle.bus_msg.specs.declared.entry.What.{What}
use Rattle.bus_msg.specs.declared.entry.What.TheVariants.{Mail, Birth, Exit, PageIs}
use Rattle.bus_msg.specs.declared.entry.Entry.{Entry}
use Rattle.bus_msg.specs.declared.entry.Post.{Post}
use Rattle.bus_msg.specs.Places.{same_pid, servers_in}
use Rattle.bus_msg.specs.PlacedAfter.{what, placed_after}
use Rattle.cert_sched.specs.Legal.{MayStand}
use Rattle.cert_sched.specs.Losses.{is_by_cluster, is_crash_of, is_page_entry}
use Rattle.cert_sched.specs.Moved.{waiting_fetches}
use Rattle.cert_sched.specs.Parts.{first_of}
use Rattle.cert_sched.specs.Rests.{IsRestOf}
use Rattle.cert_sched.specs.Schedule.{placement}
use Rattle.cluster_core.specs.declared.worked.Worked.{Worked}
use Rattle.cluster_core.specs.declared.worked.Worked.TheVariants.{Moved, Queued, Waits as IsWaiting, Rests}
use Rattle.backup_records.specs.Records.{records_after}
use Rattle.birth_notice.specs.Family.{first_unsynced}
use Rattle.sync_point.specs.Batch.{batch, synced}
use Rattle.quanta.specs.Limited.{is_due}
use Rattle.cluster_core.specs.View.{ClusterView, held_at, limits_of, next_count, counted_once, failed_at, with_server, duty_of}
use Rattle.residents.specs.Held.{Held, Runs, held_of}
use Rattle.cluster_core.specs.declared.hurt.Hurt.{Hurt}
use Rattle.cluster_core.specs.declared.hurt.Hurt.TheVariants.{Disk, NoMemory}
use Rattle.residents.specs.declared.quantum.Forking.{Forking}
use Rattle.residents.specs.ChildrenFirst.{child_before}
use Rattle.residents.specs.Quantum.{ComesToFork, EndsChildless, Moves, Sends, post_told}
use Rattle.cluster_core.specs.Queue.{left_queued}
use Rattle.cluster_core.specs.Serving.{FailsNext}
use Rattle.residents.specs.Residents.{are_settled}
use Rattle.bus_msg.specs.NewBackup.{next_backup_at}
use Rattle.backup_mode.specs.Renewal.{cleared, renewal}
use Rattle.residents.specs.Changed.{with_changed}
use Rattle.residents.specs.ForkingAgain.{RollsAgain}
use Rattle.cluster_core.specs.Recovered.{left_by, moved_by, with_all_waiting}
use Rattle.cluster_core.specs.Bearing.{birth_post}
use Rattle.residents.specs.Bearing.{with_born}
use Rattle.cluster_core.specs.Families.{family_after}
use Rattle.cluster_core.specs.Owed.{owed_after}
use Rattle.cluster_core.specs.Work.{AnswersNext, child_of, fetch_post, owes_answer}
use Rattle.residents.specs.Asking.{AsksNext, any_lacks}
use Rattle.standing_backups.specs.Standing.{IsNextStanding}
use Rattle.cluster_core.specs.Follows.{Follows, IsOpen, StandsBetween}
use Rattle.residents.specs.Arriving.{with_letter, with_page_come}
use Rattle.residents.specs.Told.{rests_in}

-- ---- the start

-- a cluster that has taken in no entry, sent nothing and made no kernel step; it has the placement of the roots, and no child is born yet
pub record IsFirst (system : System) (number : ClusterNo) (c : ClusterView) : Type 0 where
  pub system_is : c.system ≡ system
  pub number_is : c.number ≡ number
  pub cursor : c.cursor ≡ 0
  pub places : c.places ≡ placement system []
  pub family : c.family ≡ []
  pub queue : c.queue ≡ []
  pub tried : c.tried ≡ false
  pub steps : c.steps ≡ 0

-- ---- following

-- the cluster follows some log that goes on
pub record FollowsSome (c : ClusterView) : Type 0 where
  pub log : List Entry
  pub open_log : IsOpen MayStand c.system log
  pub follows : Follows c.system log c

-- every log that the cluster followed it follows still
abbrev pub GoesOn : ClusterView → ClusterView → Type 0
GoesOn old new = (log : List Entry) → IsOpen MayStand old.system log → Follows old.system log old → Follows old.system log new

-- the cluster follows the log, and the entry is not its own; or it has sent the entry, and follows it next
abbrev pub IsReady : List Entry → Entry → ClusterView → Type 0
IsReady log e c =
    (Follows c.system log c × (is_by_cluster c.number e ≡ false) × (is_crash_of c.number (what e) ≡ false))
    ⊎ StandsBetween Follows c.system log e c

-- the entry is the next one of some log, for which the cluster is ready
pub record ReadyFor (e : Entry) (c : ClusterView) : Type 0 where
  pub log : List Entry
  pub open_log : IsOpen MayStand c.system log
  pub open_next : IsOpen MayStand c.system (log ++ e ∷ [])
  pub ready : IsReady log e c

-- after the entry the cluster follows the log with it, whichever log it was
abbrev pub Absorbs : Entry → ClusterView → ClusterView → Type 0
Absorbs e old new =
    (log : List Entry) → IsOpen MayStand old.system log → IsOpen MayStand old.system (log ++ e ∷ []) → IsReady log e old →
    Follows old.system (log ++ e ∷ []) new

-- what an entry that was taken in makes of the processes here: a letter arrives, a process that ended is here no more, a page comes, and a parent has forked
abbrev pub here_after : What → List (Pid × Held) → List (Pid × Held)
here_after (Mail at letter) here = with_letter letter here
here_after (Exit pid at end) here = filter (λ (e : Pid × Held). not (same_pid e.0 pid)) here
here_after (PageIs pid index bytes) here = with_page_come pid index bytes here
here_after (Birth parent at child end) here = with_born parent child here
here_after w here = here

-- the cluster with one more entry of the log taken in, by one kernel step, but for its queue; at the loss of another the processes that this
-- moves here wait for their pages, and it has no record of them
abbrev pub with_entry : ClusterView → Entry → ClusterView
with_entry c e = record c {
  cursor = c.cursor + 1;
  places = placed_after c.places (what e);
  here = with_all_waiting (moved_by c.places c.number (what e) (records_after c.number (what e) c.records)) (here_after (what e) c.here);
  records = left_by c.places c.number (what e) (records_after c.number (what e) c.records);
  family = family_after (what e) c.family;
  owed = owed_after c.number c.places (what e) c.owed;
  steps = next_count c.steps;
}

-- and a queued post that falls is there no more
abbrev pub absorbed : ClusterView → Entry → ClusterView
absorbed c e = record (with_entry c e) { queue = left_queued c.places (what e) c.queue }

-- ---- working

-- nothing here can move: none can have a turn, or waits for a page
abbrev pub is_resting : ClusterView → Bool
is_resting c = are_settled (duty_of c) c.here

-- each process here with its steps
abbrev pub rests_of : ClusterView → List (Pid × ℕ)
rests_of c = rests_in c.here

-- where nothing is to be sent, these are the processes that rest here, in each log that the cluster follows
abbrev pub RestsIn : ClusterView → List (Pid × ℕ) → Type 0
RestsIn c rests = c.queue ≡ [] → (log : List Entry) → IsOpen MayStand c.system log → Follows c.system log c → IsRestOf c.system log c.number rests

-- one process made 1 to 64 steps, of which none sent anything that was not withheld, and nothing else changed but children whose forks were made again
pub record MovedOne (old new : ClusterView) : Type 0 where
  pub pid : Pid
  pub made : ℕ
  pub mid : List (Pid × Held)
  pub again : RollsAgain pid made old.here mid
  pub was : Held
  pub now : Held
  pub there : held_of mid pid ≡ Some was
  pub moves : Moves (limits_of old.system) 64 made was now
  pub rest : new ≡ record old { here = with_changed pid now mid; steps = next_count old.steps }

-- one process made 1 to 64 steps, of which the last alone sent something that was not withheld, and this is the one post to be sent; where it ended by it no child was to synchronise before it
pub record QueuesOne (old new : ClusterView) : Type 0 where
  pub pid : Pid
  pub made : ℕ
  pub mid : List (Pid × Held)
  pub again : RollsAgain pid made old.here mid
  pub was : Held
  pub now : Process
  pub emission : Emission
  pub there : held_of mid pid ≡ Some was
  pub sends : Sends (limits_of old.system) 64 made was (record { pid = pid; at = (now.small).steps; emission = emission }) (Runs now)
  pub childless : EndsChildless (is_none (first_unsynced old.family pid)) emission
  pub rest : new ≡ record old { here = with_changed pid (Runs now) mid; queue = post_told old.number pid (now.small).steps emission ∷ []; steps = next_count old.steps }

-- it is due; or it is the child that is to synchronise in the place of a process that is due or is to end
abbrev pub IsNextToSync : ClusterView → Pid → Process → Type 0
IsNextToSync c p process = (is_due (limits_of c.system) process ≡ true) ⊎ ((parent : Pid) × (child_before (duty_of c) c.family c.here parent ≡ Some p))

-- one process whose turn it is to synchronise has done so, after its children, and the posts of its batch are those to be sent
pub record QueuesBatch (old new : ClusterView) : Type 0 where
  pub pid : Pid
  pub process : Process
  pub there : held_at old pid ≡ Some (Runs process)
  pub next : IsNextToSync old pid process
  pub childless : first_unsynced old.family pid ≡ None
  pub rest : new ≡ record old { here = with_changed pid (Runs (synced process)) old.here; queue = batch process old.number; steps = next_count old.steps }

-- one process that is to get a new backup sends what brings it that, after its children: its changed pages and then the backup are those to be sent
pub record QueuesFresh (old new : ClusterView) : Type 0 where
  pub pid : Pid
  pub process : Process
  pub to : ClusterNo
  pub there : held_at old pid ≡ Some (Runs process)
  pub owed : next_backup_at old.places pid ≡ Some to
  pub childless : first_unsynced old.family pid ≡ None
  pub rest : new ≡ record old { here = with_changed pid (Runs (cleared process)) old.here; queue = renewal process to old.number; steps = next_count old.steps }

-- one process made up to 63 steps, of which none sent anything that was not withheld, and the birth of its next child is the one post to be sent
pub record QueuesBirth (old new : ClusterView) : Type 0 where
  pub pid : Pid
  pub made : ℕ
  pub mid : List (Pid × Held)
  pub again : RollsAgain pid made old.here mid
  pub was : Held
  pub forking : Forking
  pub now : Held
  pub there : held_of mid pid ≡ Some was
  pub comes : ComesToFork (limits_of old.system) 64 made was forking now
  pub rest : new ≡ record old { here = with_changed pid (Runs comes.now) mid; queue = birth_post old.number pid (state_of comes.now) (child_of old.number old.places) ∷ []; steps = next_count old.steps }

-- a fetch waits, in each log that the cluster follows
abbrev pub WaitsForPages : ClusterView → Type 0
WaitsForPages c = (log : List Entry) → IsOpen MayStand c.system log → Follows c.system log c → waiting_fetches c.system log ≢ []

-- none does where it is the first of the page servers that live, in each such log
abbrev pub OwesNoAnswer : ClusterView → Type 0
OwesNoAnswer c = (log : List Entry) → IsOpen MayStand c.system log → Follows c.system log c → first_of (servers_in (placement c.system log)) ≡ Some c.number → waiting_fetches c.system log ≡ []

-- the new backup of the first family here that waits for it is queued
pub record QueuesStanding (old new : ClusterView) : Type 0 where
  pub post : Post
  pub next : IsNextStanding old.number old.places old.family old.here old.owed (Some post)
  pub rest : new ≡ record old { queue = post ∷ []; steps = next_count old.steps }

-- the answer that it owes is queued
pub record QueuesAnswer (old new : ClusterView) : Type 0 where
  pub post : Post
  pub owed : owes_answer old.places old.number old.server ≡ true
  pub answers : AnswersNext old.number old.server new.server post
  pub rest : new ≡ record old { server = new.server; queue = post ∷ []; steps = next_count old.steps }

-- the lowest page that the lowest process here has not asked for is asked for
pub record QueuesFetch (old new : ClusterView) : Type 0 where
  pub pid : Pid
  pub index : ℕ
  pub asks : AsksNext old.here new.here pid index
  pub rest : new ≡ record old { here = new.here; queue = fetch_post old.number pid index ∷ []; steps = next_count old.steps }

-- no process here waits for its new backup, it owes no answer, and no page is to be asked for
pub record OwesNothing (c : ClusterView) : Type 0 where
  pub backed : c.owed ≡ []
  pub unowed : owes_answer c.places c.number c.server ≡ false
  pub none : any_lacks c.here ≡ false

-- What a work says that it did: a new backup that a process waits for comes first, then an answer that is owed, then a page that is to be asked for, then the step of a process.
abbrev pub WorkIs : ClusterView → Worked → ClusterView → Type 0
WorkIs old Moved new = OwesNothing old × (is_resting old ≡ false) × MovedOne old new
WorkIs old Queued new =
    QueuesStanding old new
    ⊎ ((old.owed ≡ []) × QueuesAnswer old new)
    ⊎ ((old.owed ≡ []) × (owes_answer old.places old.number old.server ≡ false) × QueuesFetch old new)
    ⊎ (OwesNothing old × (is_resting old ≡ false) × (QueuesOne old new ⊎ QueuesBatch old new ⊎ QueuesBirth old new ⊎ QueuesFresh old new))
WorkIs old IsWaiting new = OwesNothing old × (is_resting old ≡ false) × WaitsForPages old × OwesNoAnswer old × (new ≡ counted_once old)
WorkIs old Rests new = OwesNothing old × (is_resting old ≡ true) × OwesNoAnswer old × (new ≡ counted_once old)

-- a call of the disk failed in it: it is the next one, and no process is there any more
pub record FailsBy (call : ℕ) (old new : ClusterView) : Type 0 where
  pub disk : FailsNext old.server call
  pub rest : new ≡ failed_at call (with_server new.server old)

-- What a work makes of a cluster that does not do it. After want of memory nothing is said.
abbrev pub HurtIs : ClusterView → Hurt → ClusterView → Type 0
HurtIs old (Disk fault) new = FailsBy fault.call old new
HurtIs old NoMemory new = ⊤

-- What an entry makes of a cluster that does not take it in: the entry brings a page.
abbrev pub HurtBy : Entry → ClusterView → Hurt → ClusterView → Type 0
HurtBy e old (Disk fault) new = (is_page_entry (what e) ≡ true) × FailsBy fault.call old new
HurtBy e old NoMemory new = ⊤

-- before the call that failed is noted, what is kept as a page server has changed alone
abbrev pub StopsBy : Entry → ClusterView → Hurt → ClusterView → Type 0
StopsBy e old (Disk fault) new = (is_page_entry (what e) ≡ true) × FailsNext old.server fault.call × (new ≡ with_server new.server old)
StopsBy e old NoMemory new = ⊤

-- a work changes neither the system nor the number, the cursor or the placement, and is one kernel step
pub record KeepsPlace (old new : ClusterView) : Type 0 where
  pub system : new.system ≡ old.system
  pub number : new.number ≡ old.number
  pub cursor : new.cursor ≡ old.cursor
  pub places : new.places ≡ old.places
  pub steps : new.steps ≡ next_count old.steps
