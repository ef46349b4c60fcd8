-- What a legal log asks of each kind of entry.
use Rattle.std.specs.Prelude.{ℕ, ◌≡◌, ◌<◌, ◌≤◌, Bool, true, false, not, ◌&&◌, ◌||◌, ◌==◌, nat_le, List, [], ◌∷◌, ◌++◌, map, Option, Some, None, is_some, option_map, ⊤}
use Rattle.std.specs.List.{list_all}
use Rattle.std.specs.Option.{option_map_or}
use Rattle.t32_base.specs.declared.process.Pid.{Pid}
use Rattle.t32_base.specs.declared.process.ClusterNo.{ClusterNo}
use Rattle.t32_base.specs.declared.letter.BackRec.{BackRec}
use Rattle.t32_base.specs.Small.{SmallState}
use Rattle.sys_text.specs.declared.system.System.{System}
use Rattle.sys_text.specs.Boot.{pid_of}
use Rattle.rv_mem.specs.Memory.{page_at}
use Rattle.proc_state.specs.Mail.{first_signal}
use Rattle.proc_state.specs.State.{ProcState, can_take}
use Rattle.sys_calls.specs.declared.steps.Emission.{Emission}
use Rattle.sys_calls.specs.declared.steps.Emission.TheVariants.{Mail as Sent, Exit as Ended}
use Rattle.sys_calls.specs.Fork.{next_end}
use Rattle.sys_calls.specs.Take.{taken}
use Rattle.plain_kernel.specs.Still.{is_still}
use Rattle.bus_msg.specs.declared.entry.What.{What}
use Rattle.bus_msg.specs.declared.entry.What.TheVariants.{Mail, Birth, Exit, Page, Sync, Fetch, PageIs, Crash, Return, Rebackup, Done, Stop}
use Rattle.bus_msg.specs.declared.entry.Entry.{Entry}
use Rattle.bus_msg.specs.declared.placed.Placed.{Placed}
use Rattle.bus_msg.specs.Places.{Places, same_pid, lives_in, is_lost_in, unended_at, unended_in, next_serial_in}
use Rattle.bus_msg.specs.PlacedAfter.{what}
use Rattle.bus_msg.specs.NewBackup.{next_backup_at}
use Rattle.cert_sched.specs.Parts.{first_of, rising}
use Rattle.cert_sched.specs.Schedule.{plain_after, done_after, placement}
use Rattle.cert_sched.specs.Record.{has_state, backup_record}
use Rattle.cert_sched.specs.Account.{account_after, all_pages, page_in}
use Rattle.cert_sched.specs.Moved.{moved_with_state, any_since_moved, is_fetch, waiting_fetches}
use Rattle.cert_sched.specs.Family.{unsynced_family, has_unsynced_child}
use Rattle.cert_sched.specs.Steps.{process_of, first_record, silent_upto, emission_at, before_fork_at, after_items, numbers_read, saved_of, reads_since, steps_since, page_count}
use Rattle.cert_sched.specs.Rules.{awaits_backup, is_moved_fullback}

-- ---- rules of several kinds

-- each living child of the process has synchronised
abbrev pub ChildrenSynced : System → List Entry → Pid → Type 0
ChildrenSynced system log p = has_unsynced_child system log p ≡ false

-- the pages that came are the memory of the process
abbrev pub AccountIs : System → List Entry → Pid → Option ProcState → Type 0
AccountIs system log p s = Some (account_after system log p).now ≡ option_map (λ (s : ProcState). all_pages s.memory) s

-- ---- letters, ends and births

-- the last step sends this, and those before it are silent
abbrev pub IsSent : System → List Entry → Pid → ℕ → Emission → Type 0
IsSent system log p at e = option_map (λ r. r.0) (emission_at system log p at) ≡ Some e

-- the pid of the next child of a home
abbrev pub next_child_at : Places → Placed → Pid
next_child_at places q = pid_of (q.home).0 (next_serial_in places q.home)

-- the steps before the fork are silent, the end is the parent's lowest that was never linked, and the child has the next serial of the home
pub record BirthHolds (system : System) (log : List Entry) (parent : Pid) (at : ℕ) (child : Pid) (end : ℕ) : Type 0 where
  pub later : done_after system log parent < at
  pub end_is : option_map next_end (before_fork_at system log parent at) ≡ Some end
  pub child_is : option_map (next_child_at (placement system log)) (unended_at (placement system log) parent) ≡ Some child

-- ---- synchronisations

abbrev pub after_take : Option ℕ → ProcState → ProcState
after_take None s = s
after_take (Some g) s = taken s

-- the signal of a take is the first that waits, and can be taken
abbrev pub took_is : Option ℕ → ProcState → Bool
took_is None s = true
took_is (Some g) s = can_take s && option_map_or (λ h. h == g) (first_signal s.mail) false

-- enough letters were read, enough steps were made, a signal is taken, or the process is a child that was never cut
abbrev pub is_due : System → List Entry → Pid → Option ℕ → ProcState → Bool
is_due system log p took s =
    nat_le system.syncreads (reads_since system log p s) || nat_le system.syncsteps (steps_since system log p s)
    || is_some took || not (has_state system log p)

abbrev pub reads_after : System → List Entry → Pid → Option ℕ → ProcState → List ℕ
reads_after system log p took s = numbers_read (saved_of system log p) (after_take took s).mail

-- The steps are silent, the state is that after the take, and the numbers are those of the saved letters that were read, in any order.
pub record SyncHolds (system : System) (log : List Entry) (p : Pid) (small : SmallState) (read : List ℕ) (took : Option ℕ) : Type 0 where
  pub state : option_map (λ s. (after_take took s).small) (silent_upto system log p small.steps) ≡ Some small
  pub took_first : option_map (took_is took) (silent_upto system log p small.steps) ≡ Some true
  pub reads : option_map (reads_after system log p took) (silent_upto system log p small.steps) ≡ Some (rising read)
  pub children : ChildrenSynced system log p
  pub account : AccountIs system log p (silent_upto system log p small.steps)
  pub due : option_map (is_due system log p took) (silent_upto system log p small.steps) ≡ Some true

-- ---- pages

-- a page of the process as it is at a step count that silent steps reach
pub record PageHolds (system : System) (log : List Entry) (p : Pid) (at index : ℕ) (bytes : List ℕ) : Type 0 where
  pub within : index < page_count system log p
  pub not_before : done_after system log p ≤ at
  pub page : option_map (λ (s : ProcState). page_at s.memory index) (silent_upto system log p at) ≡ Some bytes

-- a page of a process that was moved with a state, which was not asked for since
pub record FetchHolds (system : System) (log : List Entry) (p : Pid) (index : ℕ) : Type 0 where
  pub within : index < page_count system log p
  pub moved : moved_with_state system log p ≡ true
  pub unasked : any_since_moved system log p (is_fetch p index) ≡ false

-- the answer to the earliest fetch that waits, with the page of the last cut
pub record PageIsHolds (system : System) (log : List Entry) (p : Pid) (index : ℕ) (bytes : List ℕ) : Type 0 where
  pub asked : option_map (λ (f : Pid × ℕ). same_pid f.0 p && f.1 == index) (first_of (waiting_fetches system log)) ≡ Some true
  pub page : page_in (account_after system log p).kept index ≡ Some bytes

-- ---- new backups

-- the process has sent, forked or synchronised
abbrev pub is_done_by : Pid → What → Bool
is_done_by p w = awaits_backup w && option_map_or (same_pid p) (process_of w) false

-- for a fullback that a crash moved and that has not run since: its record and those of its family that never synchronised
pub record StandingHolds (system : System) (log : List Entry) (p : Pid) (to : ClusterNo) (recs : List BackRec) : Type 0 where
  pub backup : next_backup_at (placement system log) p ≡ Some to
  pub fullback : is_moved_fullback system log p ≡ true
  pub waits : any_since_moved system log p (is_done_by p) ≡ false
  pub stated : has_state system log p ≡ true
  pub family : rising (map (λ (r : BackRec). (r.pid).0) recs) ≡ rising (map (λ (q : Pid). q.0) (unsynced_family system log p))
  pub records : map Some recs ≡ map (λ (r : BackRec). backup_record system log r.pid) recs

-- for a process that has run: its record after this very entry
pub record FreshHolds (system : System) (log : List Entry) (e : Entry) (p : Pid) (to : ClusterNo) (recs : List BackRec) : Type 0 where
  pub backup : next_backup_at (placement system log) p ≡ Some to
  pub silent : is_some (after_items system log (what e)) ≡ true
  pub records : map Some recs ≡ backup_record system (log ++ e ∷ []) p ∷ []
  pub children : ChildrenSynced system log p
  pub account : AccountIs system log p (after_items system log (what e))

abbrev pub RebackupHolds : System → List Entry → Entry → ClusterNo → Bool → List BackRec → Option BackRec → Type 0
RebackupHolds system log e to fresh recs None = ⊥
RebackupHolds system log e to true recs (Some r) = FreshHolds system log e r.pid to recs
RebackupHolds system log e to false recs (Some r) = StandingHolds system log r.pid to recs

-- ---- the end

abbrev pub is_silent_rest : System → List Entry → Pid × ℕ → Bool
is_silent_rest system log r = nat_le (done_after system log r.0) r.1 && is_some (silent_upto system log r.0 r.1)

-- it names each process that has not ended, once and rising, with a count that silent steps reach; after these nothing can move
pub record DoneHolds (system : System) (log : List Entry) (e : Entry) (rests : List (Pid × ℕ)) : Type 0 where
  pub named : map (λ (r : Pid × ℕ). (r.0).0) rests ≡ rising (map (λ (q : Placed). (q.pid).0) (unended_in (placement system log)))
  pub silent : list_all (is_silent_rest system log) rests ≡ true
  pub still : option_map is_still (plain_after system (log ++ e ∷ [])) ≡ Some true

-- ---- the whole table

abbrev pub KindHolds : System → List Entry → Entry → What → Type 0
KindHolds system log e (Mail at letter) = IsSent system log letter.from at (Sent letter)
KindHolds system log e (Birth parent at child end) = BirthHolds system log parent at child end
KindHolds system log e (Exit pid at end) = IsSent system log pid at (Ended end) × ChildrenSynced system log pid
KindHolds system log e (Page pid at index bytes) = PageHolds system log pid at index bytes
KindHolds system log e (Sync pid small read took) = SyncHolds system log pid small read took
KindHolds system log e (Fetch pid index) = FetchHolds system log pid index
KindHolds system log e (PageIs pid index bytes) = PageIsHolds system log pid index bytes
KindHolds system log e (Crash k cause) = lives_in (placement system log) k ≡ true
KindHolds system log e (Return k) = is_lost_in (placement system log) k ≡ true
KindHolds system log e (Rebackup to fresh recs) = RebackupHolds system log e to fresh recs (first_record recs)
KindHolds system log e (Done rests) = DoneHolds system log e rests
KindHolds system log e Stop = ⊤
