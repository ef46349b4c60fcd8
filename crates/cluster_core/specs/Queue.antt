-- The posts that a cluster has still to send, as the entries that they are to become.
use Rattle.std.specs.List.{list_all}
use Rattle.std.specs.Prelude.{ℕ, ◌≡◌, Bool, true, false, not, if◌then◌else◌, List, [], ◌∷◌, ◌++◌, find, Option, Some, None, option_map, ⊤}
use Rattle.std.specs.Option.{option_map_or}
use Rattle.t32_base.specs.declared.process.Pid.{Pid}
use Rattle.t32_base.specs.declared.process.ClusterNo.{ClusterNo}
use Rattle.sys_text.specs.declared.system.System.{System}
use Rattle.proc_state.specs.State.{ProcState}
use Rattle.bus_msg.specs.declared.entry.What.{What}
use Rattle.bus_msg.specs.declared.entry.What.TheVariants.{Mail, Exit, Sync, Fetch, PageIs, Rebackup}
use Rattle.bus_msg.specs.declared.entry.Post.{Post}
use Rattle.bus_msg.specs.declared.entry.Entry.{Entry}
use Rattle.bus_msg.specs.Places.{Places, is_moved_by, placed_at, same_pid}
use Rattle.cert_sched.specs.Appended.{entry_of}
use Rattle.cert_sched.specs.Steps.{process_of, silent_upto, after_items}
use Rattle.cert_sched.specs.Kinds.{after_take}
use Rattle.cert_sched.specs.Told.{cluster_lost}

abbrev pub is_rebackup : What → Bool
is_rebackup (Rebackup to fresh recs) = true
is_rebackup _ = false

-- no new backup is among the posts
abbrev pub are_plain : List Post → Bool
are_plain queue = list_all (λ (post : Post). not (is_rebackup post.what)) queue

-- the log with the posts of a queue other than a new backup
abbrev pub with_queue : System → List Entry → List Post → List Entry
with_queue system log [] = log
with_queue system log (post ∷ rest) = if is_rebackup post.what then with_queue system log rest else with_queue system (log ++ entry_of system log post ∷ []) rest

-- each post may follow, by a rule, after the log and the posts before it
abbrev pub IsQueueLegal : (System → List Entry → Entry → Type 0) → System → List Entry → List Post → Type 0
IsQueueLegal May system log [] = ⊤
IsQueueLegal May system log (post ∷ rest) = May system log (entry_of system log post) × IsQueueLegal May system (log ++ entry_of system log post ∷ []) rest

-- ---- what is queued together

-- what a cluster has to send: nothing, or one post
pub data Queued : Type 0 where
  Nothing : Queued
  One : (post : Post) → Queued

abbrev pub posts_of : Queued → List Post
posts_of Nothing = []
posts_of (One post) = post ∷ []

-- a letter, an exit, and a page that is asked for or comes are sent alone
abbrev pub is_lone : What → Bool
is_lone (Mail at letter) = true
is_lone (Exit pid at end) = true
is_lone (Fetch pid index) = true
is_lone (PageIs pid index bytes) = true
is_lone _ = false

abbrev pub AreTogether : Queued → Type 0
AreTogether Nothing = ⊤
AreTogether (One post) = is_lone post.what ≡ true

-- the posts of a queue are such as are queued together
pub record IsQueued (queue : List Post) : Type 0 where
  pub queued : Queued
  pub posts : queue ≡ posts_of queued
  pub together : AreTogether queued

-- ---- what falls

-- the loss of a cluster moves a process from where it is placed
abbrev pub is_moved_from : Places → Pid → ClusterNo → Bool
is_moved_from before p lost = option_map_or (is_moved_by lost) (placed_at before p) false

-- An entry, by the places before it, makes a queued post fall: any entry a new backup, and the loss that moves its process a page that comes.
abbrev pub falls : Places → What → What → Bool
falls before w (Rebackup to fresh recs) = true
falls before w (PageIs p index bytes) = option_map_or (is_moved_from before p) (cluster_lost w) false
falls before w _ = false

-- What an entry leaves of a queue: such a post is the last one, and goes.
abbrev pub left_queued : Places → What → List Post → List Post
left_queued before w [] = []
left_queued before w (post ∷ []) = if falls before w post.what then [] else post ∷ []
left_queued before w (post ∷ next ∷ rest) = post ∷ left_queued before w (next ∷ rest)

-- ---- a process that has moved ahead of the log

-- an entry that tells of steps or a take which its process has made; the fork of a birth is made where that is taken in
abbrev pub tells_steps : What → Bool
tells_steps (Mail at letter) = true
tells_steps (Exit pid at end) = true
tells_steps (Sync pid small read took) = true
tells_steps (Rebackup to fresh recs) = fresh
tells_steps _ = false

abbrev pub is_move_of : Pid → Post → Bool
is_move_of p post = if tells_steps post.what then option_map_or (λ q. same_pid q p) (process_of post.what) false else false

-- the post of a queue that tells of a process's steps
abbrev pub move_of : Pid → List Post → Option What
move_of p queue = option_map (λ (post : Post). post.what) (find (is_move_of p) queue)

abbrev pub taken_by : What → ProcState → ProcState
taken_by (Sync pid small read took) s = after_take took s
taken_by _ s = s

-- the process in the kernel after the log: after silent steps up to its own step count, or after the move of it that stands in the queue
abbrev pub state_by : System → List Entry → Pid → ℕ → Option What → Option ProcState
state_by system log p steps None = silent_upto system log p steps
state_by system log p steps (Some w) = option_map (taken_by w) (after_items system log w)

abbrev pub state_now : System → List Entry → List Post → Pid → ℕ → Option ProcState
state_now system log queue p steps = state_by system log p steps (move_of p queue)
