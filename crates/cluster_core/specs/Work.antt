-- What a work of a cluster makes of its parts: of what is here, of what it keeps as a page server, and of the queue.
use Rattle.std.specs.Prelude.{ℕ, ◌+◌, ◌*◌, ◌≡◌, ◌⊎◌, Bool, true, false, ◌&&◌, List, [], ◌∷◌, Option, Some, is_some, option_and_then, Ok}
use Rattle.std.specs.Option.{option_map_or}
use Rattle.t32_base.specs.declared.process.Pid.{Pid}
use Rattle.t32_base.specs.declared.process.ClusterNo.{ClusterNo}
use Rattle.bus_msg.specs.declared.entry.Post.{Post}
use Rattle.bus_msg.specs.declared.entry.What.TheVariants.{Birth, Fetch, PageIs}
use Rattle.bus_msg.specs.declared.entry.By.TheVariants.{Cluster}
use Rattle.bus_msg.specs.Places.{Places, next_serial_in, same_cluster, servers_in}
use Rattle.cert_sched.specs.Parts.{first_of}
use Rattle.page_server.specs.Account.{PagerState, account, page_in}
use Rattle.page_server.specs.Disk.{Passed}
use Rattle.page_accounts.specs.Answering.{earliest}
use Rattle.page_accounts.specs.Keeps.{SamePages}
use Rattle.residents.specs.declared.quantum.Sending.{Sending}
use Rattle.residents.specs.declared.quantum.Forking.{Forking}
use Rattle.residents.specs.declared.quantum.Quantum.TheVariants.{Moved as QuantumMoved, Sent, Synced, Renewed, Stuck, Forks}
use Rattle.cluster_core.specs.declared.worked.Worked.{Worked}
use Rattle.cluster_core.specs.declared.worked.Worked.TheVariants.{Moved, Queued, Waits as IsWaiting, Rests}
use Rattle.residents.specs.Quantum.{post_told}
use Rattle.residents.specs.Residents.{ResidentsView, TurnIs}
use Rattle.residents.specs.Asking.{any_lacks, AsksNext, any_waits}
use Rattle.standing_backups.specs.Standing.{IsNextStanding}

-- ---- the answer that a page server owes

-- the cluster is the first of the page servers that were never lost
abbrev pub is_first_server : Places → ClusterNo → Bool
is_first_server places k = option_map_or (λ s. same_cluster s k) (first_of (servers_in places)) false

-- and a fetch waits
abbrev pub owes_answer : Places → ClusterNo → Option PagerState → Bool
owes_answer places k server = is_first_server places k && is_some (option_and_then earliest server)

-- the post is the answer to the earliest fetch, with the page of the committed account, by one call of the disk
pub record AnswersNext (k : ClusterNo) (old new : Option PagerState) (post : Post) : Type 0 where
  pub was : PagerState
  pub now : PagerState
  pub pid : Pid
  pub index : ℕ
  pub bytes : List ℕ
  pub old_is : old ≡ Some was
  pub new_is : new ≡ Some now
  pub waits : earliest was ≡ Some (pid, index)
  pub page : page_in (account was pid).kept index ≡ Some bytes
  pub same : SamePages was now
  pub called : Passed was.counts now.counts
  pub post_is : post ≡ record { by = Cluster k; what = PageIs pid index bytes }

-- ---- the pages that a process lacks

abbrev pub fetch_post : ClusterNo → Pid → ℕ → Post
fetch_post k pid index = record { by = Cluster k; what = Fetch pid index }

-- ---- the child of a process that stands before its fork

-- the pid of the next child that a cluster has
abbrev pub next_pid : ClusterNo → Places → ℕ
next_pid k places = k.0 + 16 * next_serial_in places k

abbrev pub child_of : ClusterNo → Places → Pid
child_of k places = record { 0 = next_pid k places }

abbrev pub birth_told : ClusterNo → Places → Forking → Post
birth_told k places forking = record { by = Cluster k; what = Birth forking.pid forking.at (child_of k places) forking.end }

-- ---- the work

-- the new backup of a family that waits for it is queued
pub record QueuesStanding (k : ClusterNo) (places : Places) (family : List (Pid × Pid)) (owed : List ℕ) (old : ResidentsView) (server : Option PagerState) (new : ResidentsView) (served : Option PagerState) (queue : List Post) : Type 0 where
  pub post : Post
  pub next : IsNextStanding k places family old.here owed (Some post)
  pub same : new ≡ old
  pub kept : served ≡ server
  pub queue_is : queue ≡ post ∷ []

-- the answer that is owed is queued
pub record QueuesAnswer (k : ClusterNo) (places : Places) (old : ResidentsView) (server : Option PagerState) (new : ResidentsView) (served : Option PagerState) (queue : List Post) : Type 0 where
  pub post : Post
  pub owed : owes_answer places k server ≡ true
  pub answers : AnswersNext k server served post
  pub same : new ≡ old
  pub queue_is : queue ≡ post ∷ []

-- nothing is owed, and a fetch is queued
pub record QueuesFetch (k : ClusterNo) (places : Places) (old : ResidentsView) (server : Option PagerState) (new : ResidentsView) (served : Option PagerState) (queue : List Post) : Type 0 where
  pub pid : Pid
  pub index : ℕ
  pub unowed : owes_answer places k server ≡ false
  pub asks : AsksNext old.here new.here pid index
  pub last : new.last ≡ old.last
  pub kept : served ≡ server
  pub queue_is : queue ≡ fetch_post k pid index ∷ []

-- nothing is owed and no page is to be asked for, and the page server stays
pub record NoPages (k : ClusterNo) (places : Places) (old : ResidentsView) (server served : Option PagerState) : Type 0 where
  pub unowed : owes_answer places k server ≡ false
  pub none : any_lacks old.here ≡ false
  pub kept : served ≡ server

-- a turn of one that is here, and what it sent or synchronises by, what brings it a new backup, or the birth of its child, is queued; where none can have a turn, whether a process waits for its pages
abbrev pub RunsNext : ClusterNo → Places → List (Pid × Pid) → ResidentsView → Worked → ResidentsView → List Post → Type 0
RunsNext k places family old Moved new queue = TurnIs k family old (Ok QuantumMoved) new × (queue ≡ [])
RunsNext k places family old Queued new queue =
    ((sending : Sending) × TurnIs k family old (Ok (Sent sending)) new × (queue ≡ post_told k sending.pid sending.at sending.emission ∷ []))
    ⊎ ((posts : List Post) × TurnIs k family old (Ok (Synced posts)) new × (queue ≡ posts))
    ⊎ ((forking : Forking) × TurnIs k family old (Ok (Forks forking)) new × (queue ≡ birth_told k places forking ∷ []))
    ⊎ ((posts : List Post) × TurnIs k family old (Ok (Renewed posts)) new × (queue ≡ posts))
RunsNext k places family old IsWaiting new queue = TurnIs k family old (Ok Stuck) new × (any_waits old.here ≡ true) × (queue ≡ [])
RunsNext k places family old Rests new queue = TurnIs k family old (Ok Stuck) new × (any_waits old.here ≡ false) × (queue ≡ [])

-- where no process waits for its new backup: an answer that is owed comes first, then a page that is to be asked for, and then the turn of one that is here; what it sent is queued
abbrev pub WorksUnowed : ClusterNo → Places → List (Pid × Pid) → ResidentsView → Option PagerState → Worked → ResidentsView → Option PagerState → List Post → Type 0
WorksUnowed k places family old server Queued new served queue =
    QueuesAnswer k places old server new served queue
    ⊎ QueuesFetch k places old server new served queue
    ⊎ (NoPages k places old server served × RunsNext k places family old Queued new queue)
WorksUnowed k places family old server Moved new served queue = NoPages k places old server served × RunsNext k places family old Moved new queue
WorksUnowed k places family old server IsWaiting new served queue = NoPages k places old server served × RunsNext k places family old IsWaiting new queue
WorksUnowed k places family old server Rests new served queue = NoPages k places old server served × RunsNext k places family old Rests new queue

-- so it is whatever the cluster keeps as a page server, where it owes no answer
abbrev pub WorksHere : ClusterNo → Places → List (Pid × Pid) → ResidentsView → Worked → ResidentsView → List Post → Type 0
WorksHere k places family old worked new queue = (server : Option PagerState) → owes_answer places k server ≡ false → WorksUnowed k places family old server worked new server queue

-- a new backup that a process waits for comes first
abbrev pub WorksOn : ClusterNo → Places → List (Pid × Pid) → List ℕ → ResidentsView → Option PagerState → Worked → ResidentsView → Option PagerState → List Post → Type 0
WorksOn k places family owed old server worked new served queue =
    ((worked ≡ Queued) × QueuesStanding k places family owed old server new served queue)
    ⊎ ((owed ≡ []) × WorksUnowed k places family old server worked new served queue)
