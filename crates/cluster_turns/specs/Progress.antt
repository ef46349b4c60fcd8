-- How far a run has come: what is left to do, and who rests.
use Rattle.std.specs.Prelude.{ℕ, ◌≡◌, ◌≢◌, ◌+◌, ◌-◌, ◌≤◌, ◌<◌, ◌⊎◌, true, List, [], length, Some, None, is_some}
use Rattle.std.specs.List.{sum_by}
use Rattle.bus_msg.specs.declared.entry.Entry.{Entry}
use Rattle.bus_msg.specs.Places.{cluster_no, servers_in}
use Rattle.cert_sched.specs.Moved.{waiting_fetches}
use Rattle.cert_sched.specs.Parts.{first_of}
use Rattle.cert_sched.specs.Schedule.{placement}
use Rattle.cert_sched.specs.Rules.{is_over}
use Rattle.checkpoint_laws.specs.remaining.Left.{left_to_send}
use Rattle.backup_laws.specs.Owed.{left_of_backups}
use Rattle.sys_text.specs.declared.system.System.{System}
use Rattle.cluster_core.specs.View.{ClusterView, load}
use Rattle.bus_order.specs.Script.{off_at}
use Rattle.bus_order.specs.View.{BusView, is_awaited, mark_in}

-- ---- what is left to do

-- how many entries of a log a cluster has not taken in
abbrev pub unseen : List Entry → ClusterView → ℕ
unseen log c = length log - c.cursor

-- two for each step that all processes of these clusters have left at most, and one for each that has moved since it synchronised
abbrev pub total : List ClusterView → ℕ
total cs = sum_by load cs

-- at least as many posts as clusters may still send after a log: those of processes and for their pages, and the new backups that may still be made
abbrev pub left_of_posts : System → List Entry → ℕ
left_of_posts system log = left_to_send system log + left_of_backups system log

-- What is left to do, by its parts: the words of the script that are left; the posts that clusters may still send after the log (`left_of_posts`); the entries that clusters
-- have not taken in; and what their processes may still do (`load`).
pub record Remaining : Type 0 where
  pub words : ℕ
  pub posts : ℕ
  pub entries : ℕ
  pub moves : ℕ

-- what is left to one cluster at a bus
abbrev pub remaining_of : BusView → ClusterView → Remaining
remaining_of b c = record { words = length b.left; posts = left_of_posts b.system b.log; entries = unseen b.log c; moves = load c }

-- what is left to all clusters of a bus
abbrev pub remaining : BusView → List ClusterView → Remaining
remaining b cs = record { words = length b.left; posts = left_of_posts b.system b.log; entries = sum_by (unseen b.log) cs; moves = total cs }

-- of the parts behind the words the first that changed has fallen
abbrev pub FallsBehind : Remaining → Remaining → Type 0
FallsBehind old new =
    (new.posts < old.posts)
    ⊎ ((new.posts ≡ old.posts) × (new.entries < old.entries))
    ⊎ ((new.posts ≡ old.posts) × (new.entries ≡ old.entries) × (new.moves < old.moves))

-- Less is left: the first part that changed has fallen. Those after it may have risen, as where a process that was lost goes back and asks for its pages.
abbrev pub Falls : Remaining → Remaining → Type 0
Falls old new = (new.words < old.words) ⊎ ((new.words ≡ old.words) × FallsBehind old new)

-- as much is left
abbrev pub IsAsMuch : Remaining → Remaining → Type 0
IsAsMuch old new = (new.words ≡ old.words) × (new.posts ≡ old.posts) × (new.entries ≡ old.entries) × (new.moves ≡ old.moves)

-- less is left, or as much
abbrev pub IsAtMost : Remaining → Remaining → Type 0
IsAtMost old new = Falls old new ⊎ IsAsMuch old new

-- ---- who rests

abbrev pub IsOver : BusView → Type 0
IsOver b = is_over b.system b.log ≡ true

abbrev pub HasMark : BusView → ℕ → Type 0
HasMark b n = is_some (mark_in b.marks (cluster_no n)) ≡ true

-- a cluster that lives has no mark yet
abbrev pub IsAwaiting : BusView → Type 0
IsAwaiting b = is_awaited (placement b.system b.log) b.marks ≡ true

-- a cluster is off
abbrev pub IsOff : BusView → ℕ → Type 0
IsOff b n = is_some (off_at b.log (cluster_no n)) ≡ true

-- one of these clusters lives and was marked
pub record LivesMarked (b : BusView) (from upto : ℕ) : Type 0 where
  pub number : ℕ
  pub low : from ≤ number
  pub high : number < upto
  pub lives : off_at b.log (cluster_no number) ≡ None
  pub marked : HasMark b number

-- the cluster with a number is the first of the page servers that were never lost
abbrev pub IsFirstServer : BusView → ℕ → Type 0
IsFirstServer b n = first_of (servers_in (placement b.system b.log)) ≡ Some (cluster_no n)

-- a page that was asked for has not come
abbrev pub AwaitsPage : BusView → Type 0
AwaitsPage b = waiting_fetches b.system b.log ≢ []

-- where the cluster is the first page server, each page that was asked for has come
abbrev pub HasAnswered : BusView → ℕ → Type 0
HasAnswered b n = IsFirstServer b n → waiting_fetches b.system b.log ≡ []

-- The log stayed as it was. Each cluster from one number to another was marked or is off, or a page has not come; and it has answered, where it is the first page server.
-- No mark was taken away. Where no page is awaited, a mark of a cluster is still awaited if one of these that lives was marked, or one was awaited before.
pub record Rests (b after : BusView) (from upto : ℕ) : Type 0 where
  pub system : after.system ≡ b.system
  pub log : after.log ≡ b.log
  pub marked : (n : ℕ) → from ≤ n → n < upto → HasMark after n ⊎ IsOff after n ⊎ AwaitsPage after
  pub answered : (n : ℕ) → from ≤ n → n < upto → HasAnswered after n
  pub kept : (n : ℕ) → HasMark b n → HasMark after n
  pub awaits : waiting_fetches after.system after.log ≡ [] → LivesMarked after from upto ⊎ IsAwaiting b → IsAwaiting after

-- Something was done, of what was left to do. Or the log is over. Or the clusters from one number to another rest, wait for a page, or are off.
abbrev pub GetsOn : (b after : BusView) → (left still : Remaining) → (from upto : ℕ) → Type 0
GetsOn b after left still from upto = Falls left still ⊎ IsOver after ⊎ Rests b after from upto
