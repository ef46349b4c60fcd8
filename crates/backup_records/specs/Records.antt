-- The records that a cluster keeps of the processes whose backup it has, by rising pid, and what an entry makes of them.
use Rattle.std.specs.Prelude.{ℕ, ◌≡◌, ◌+◌, ◌-◌, ◌^◌, ◌<◌, Bool, true, false, not, ◌&&◌, nat_lt, if◌then◌else◌, List, [], ◌∷◌, ◌++◌, All, map, filter, find, fold, Option, Some, None, is_some}
use Rattle.std.specs.List.{list_all}
use Rattle.t32_base.specs.declared.process.Pid.{Pid}
use Rattle.t32_base.specs.declared.process.ClusterNo.{ClusterNo}
use Rattle.t32_base.specs.declared.letter.Letter.{Letter}
use Rattle.t32_base.specs.declared.letter.To.{To}
use Rattle.t32_base.specs.declared.letter.To.TheVariants.{Proc, Tty}
use Rattle.t32_base.specs.declared.letter.BackRec.{BackRec}
use Rattle.t32_base.specs.Small.{SmallState}
use Rattle.write_count.specs.Counting.{count_for, no_counts, raised}
use Rattle.proc_state.specs.Mail.{RiseTo}
use Rattle.backup_queue.specs.Queue.{saved_with, unread}
use Rattle.backup_queue.specs.Fronts.{AreFronts, AreOnEnds}
use Rattle.bus_msg.specs.declared.entry.What.{What}
use Rattle.bus_msg.specs.declared.entry.What.TheVariants.{Mail, Birth, Exit, Page, Sync, Fetch, PageIs, Crash, Return, Rebackup, Done, Stop}
use Rattle.bus_msg.specs.Places.{same_cluster, same_pid}

-- ---- the list

-- the record of a process
abbrev pub record_in : List BackRec → Pid → Option BackRec
record_in recs p = find (λ (r : BackRec). same_pid r.pid p) recs

-- each pid is below those after it
abbrev pub are_rising : List BackRec → Bool
are_rising [] = true
are_rising (r ∷ rest) = list_all (λ (s : BackRec). nat_lt (r.pid).0 (s.pid).0) rest && are_rising rest

-- one record more, in its place by rising pid; it takes the place of one of the same process
abbrev pub with_record : BackRec → List BackRec → List BackRec
with_record r [] = r ∷ []
with_record r (s ∷ rest) = if nat_lt (r.pid).0 (s.pid).0 then r ∷ s ∷ rest else if same_pid s.pid r.pid then r ∷ rest else s ∷ with_record r rest

-- ---- a letter

-- a letter is saved last, with its arrival number
abbrev pub with_saved : Letter → BackRec → BackRec
with_saved letter r = record r { saved = saved_with r.saved letter r.next; next = r.next + 1 }

-- a letter that the process sent is counted
abbrev pub with_counted : Letter → BackRec → BackRec
with_counted letter r = record r { counts = raised r.counts letter }

-- where a letter goes is an end of the process
abbrev pub is_receiver : Pid → To → Bool
is_receiver p (Proc q end) = same_pid q p
is_receiver p (Tty t) = false

-- the record of its receiver saves a letter
abbrev pub saved_by_receiver : Letter → BackRec → BackRec
saved_by_receiver letter r = if is_receiver r.pid letter.to then with_saved letter r else r

-- and the record of its sender counts it
abbrev pub counted_by_sender : Letter → BackRec → BackRec
counted_by_sender letter r = if same_pid letter.from r.pid then with_counted letter r else r

-- ---- a birth

-- a child is born last
abbrev pub with_child : Pid → BackRec → BackRec
with_child child r = record r { births = r.births ++ child ∷ [] }

-- it is born by its parent
abbrev pub with_child_of : Pid → Pid → BackRec → BackRec
with_child_of parent child r = if same_pid parent r.pid then with_child child r else r

-- the record of a child that was born: it has no state, nothing was saved, and it has done nothing
abbrev pub record_of_child : Pid → BackRec
record_of_child child = record { pid = child; state = None; saved = []; next = 0; counts = no_counts; births = [] }

-- where the record of its parent is here, that has the child last in its births, and the child has a record of its own
abbrev pub after_birth : Pid → Pid → List BackRec → List BackRec
after_birth parent child recs = if is_some (record_in recs parent) then map (with_child_of parent child) (with_record (record_of_child child) recs) else recs

-- ---- a synchronisation

-- a record is cut: the state is the one of the synchronisation, the letters that were read go, and nothing was sent and no child born since
abbrev pub with_cut : SmallState → List ℕ → BackRec → BackRec
with_cut small read r = record r { state = Some small; saved = unread read r.saved; counts = no_counts; births = [] }

-- the record of the process that synchronised is cut
abbrev pub cut_of_synced : Pid → SmallState → List ℕ → BackRec → BackRec
cut_of_synced p small read r = if same_pid p r.pid then with_cut small read r else r

-- the process read the letters of its record from the fronts of its ends
abbrev pub CanCut : Pid → List ℕ → List BackRec → Type 0
CanCut p read recs = (r : BackRec) → record_in recs p ≡ Some r → AreFronts read r.saved × AreOnEnds read r.saved

-- ---- a new backup

-- each of these records more, in its place by rising pid
abbrev pub with_records : List BackRec → List BackRec → List BackRec
with_records more recs = fold (λ recs r. with_record r recs) recs more

-- a new backup in the cluster k brings the records that it carries there, and one elsewhere brings none
abbrev pub records_renewed : ClusterNo → ClusterNo → List BackRec → List BackRec → List BackRec
records_renewed to k more recs = if same_cluster to k then with_records more recs else recs

-- the records of these processes go
abbrev pub without_each : List BackRec → List BackRec → List BackRec
without_each gone recs = fold (λ recs (r : BackRec). filter (λ (s : BackRec). not (same_pid s.pid r.pid)) recs) recs gone

-- of none of these processes is there a record yet, and the numbers of the letters that each has saved rise to the count of those that came
pub record CanBring (more recs : List BackRec) : Type 0 where
  pub new : All (λ (r : BackRec). record_in recs r.pid ≡ None) more
  pub numbered : All (λ (r : BackRec). RiseTo 0 r.saved r.next) more

-- ---- an entry

-- what an entry makes of the record of a process that goes on
abbrev pub record_after : What → BackRec → BackRec
record_after (Mail at letter) r = counted_by_sender letter (saved_by_receiver letter r)
record_after (Birth parent at child end) r = with_child_of parent child r
record_after (Sync pid small read took) r = cut_of_synced pid small read r
record_after w r = r

-- What an entry makes of the records of the cluster with a number: a letter is saved and counted, a child is born, a synchronisation cuts the record of its
-- process, the record of a process that ended is there no more, and a new backup brings records. A loss, at which records leave, leaves them as they are here.
abbrev pub records_after : ClusterNo → What → List BackRec → List BackRec
records_after number (Mail at letter) recs = map (record_after (Mail at letter)) recs
records_after number (Exit pid at end) recs = filter (λ (r : BackRec). not (same_pid r.pid pid)) recs
records_after number (Birth parent at child end) recs = after_birth parent child recs
records_after number (Page pid at index bytes) recs = recs
records_after number (Sync pid small read took) recs = map (record_after (Sync pid small read took)) recs
records_after number (Fetch pid index) recs = recs
records_after number (PageIs pid index bytes) recs = recs
records_after number (Crash k cause) recs = recs
records_after number (Return k) recs = recs
records_after number (Rebackup to fresh more) recs = records_renewed to number more recs
records_after number (Done rests) recs = recs
records_after number Stop recs = recs

-- ---- when an entry may be noted

-- the record of the receiver of a letter may save it
abbrev pub CanSave : Letter → List BackRec → Type 0
CanSave letter recs = (p : Pid) (r : BackRec) → is_receiver p letter.to ≡ true → record_in recs p ≡ Some r → r.next < 2 ^ 64 - 1

-- the record of its sender may count it
abbrev pub CanCount : Letter → List BackRec → Type 0
CanCount letter recs = (r : BackRec) → record_in recs letter.from ≡ Some r → (letter.out < 32) × (count_for r.counts letter < 2 ^ 32 - 1)

-- Of a letter both. Of a birth: the child has no record yet. Of a synchronisation: its process read the letters of its record from the fronts of its ends.
-- Of a new backup: no process that it names has a record yet.
abbrev pub CanNote : What → List BackRec → Type 0
CanNote (Mail at letter) recs = CanSave letter recs × CanCount letter recs
CanNote (Birth parent at child end) recs = record_in recs child ≡ None
CanNote (Sync pid small read took) recs = CanCut pid read recs
CanNote (Rebackup to fresh more) recs = CanBring more recs
CanNote w recs = Unit {0}
