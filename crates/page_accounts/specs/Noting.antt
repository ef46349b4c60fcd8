-- What an entry makes of the accounts and the fetches of a page server.
use Rattle.std.specs.Prelude.{ℕ, ◌≡◌, ◌&&◌, Bool, not, if◌then◌else◌, List, [], ◌∷◌, ◌++◌, filter, Result, Ok, IfErr}
use Rattle.std.specs.List.{list_any}
use Rattle.t32_base.specs.declared.process.Pid.{Pid}
use Rattle.t32_base.specs.declared.process.ClusterNo.{ClusterNo}
use Rattle.bus_msg.specs.declared.entry.What.{What}
use Rattle.bus_msg.specs.declared.entry.What.TheVariants.{Mail, Birth, Exit, Page, Sync, Fetch, PageIs, Crash, Return, Rebackup, Done, Stop}
use Rattle.bus_msg.specs.declared.placed.Placed.{Placed}
use Rattle.bus_msg.specs.Places.{Places, is_moved_by, same_pid}
use Rattle.cert_sched.specs.Account.{Account, no_pages, committed, reverted}
use Rattle.cert_sched.specs.Deeds.{is_first}
use Rattle.page_server.specs.declared.disk.DiskRefused.{DiskRefused}
use Rattle.page_server.specs.declared.disk.DiskRefused.TheVariants.{NoMemory}
use Rattle.page_server.specs.Disk.{Counts, CountsAfterPut}
use Rattle.page_server.specs.Account.{PagerState, account, with_page, Changes, SameAccounts, fetches_but, fetches_without}
use Rattle.page_accounts.specs.Keeps.{SamePages}

-- the accounts of those processes that pass a test changed, and the other accounts stayed
abbrev pub ChangesEach : PagerState → PagerState → (Pid → Bool) → (Account → Account) → Type 0
ChangesEach old new test change = (p : Pid) → account new p ≡ (if test p then change (account old p) else account old p)

-- a crash of k moves the process, which is one of these
abbrev pub is_moved_among : List Placed → ClusterNo → Pid → Bool
is_moved_among placed k p = list_any (λ (q : Placed). same_pid q.pid p && is_moved_by k q) placed

-- each of these processes that a crash of k moves went back to what was kept, and its fetches wait no longer
pub record Reverts (placed : List Placed) (k : ClusterNo) (old new : PagerState) : Type 0 where
  pub accounts : ChangesEach old new (is_moved_among placed k) reverted
  pub fetches : new.fetches ≡ filter (λ (f : Pid × ℕ). not (is_moved_among placed k f.0)) old.fetches
  pub counts : new.counts ≡ old.counts

-- the accounts of one process changed so, and the fetches stayed
abbrev pub ChangesOnly : PagerState → PagerState → (Pid → Bool) → (Account → Account) → Type 0
ChangesOnly old new test change = ChangesEach old new test change × (new.fetches ≡ old.fetches)

-- what an entry that says this makes of a page server, where the placement before it is this
abbrev pub Makes : Places → What → PagerState → PagerState → Type 0
Makes places (Page pid at index bytes) old new = Changes old new pid (with_page index bytes) × (new.fetches ≡ old.fetches)
Makes places (Sync pid small read took) old new = Changes old new pid committed × (new.fetches ≡ old.fetches)
Makes places (Rebackup to fresh recs) old new = ChangesOnly old new (λ p. fresh && is_first p recs) committed
Makes places (Fetch pid index) old new = SameAccounts old new × (new.fetches ≡ old.fetches ++ (pid, index) ∷ [])
Makes places (PageIs pid index bytes) old new = SameAccounts old new × (new.fetches ≡ fetches_but pid index old.fetches)
Makes places (Exit pid at end) old new = Changes old new pid (λ _. no_pages) × (new.fetches ≡ fetches_without pid old.fetches)
Makes places (Crash k cause) old new = Reverts places.placed k old new
Makes places (Mail at letter) old new = SamePages old new
Makes places (Birth parent at child end) old new = SamePages old new
Makes places (Return k) old new = SamePages old new
Makes places (Done rests) old new = SamePages old new
Makes places Stop old new = SamePages old new

-- a page that comes is one call of the disk, and no other entry is any
abbrev pub CountsAfterNote : What → Counts → Counts → Result (Unit {0}) DiskRefused → Type 0
CountsAfterNote (Page pid at index bytes) old new result = CountsAfterPut old new result
CountsAfterNote w old new result = new ≡ old

-- a page may be refused, a fetch for want of memory alone, and no other entry
abbrev pub MayBeRefused : What → Result (Unit {0}) DiskRefused → Type 0
MayBeRefused (Page pid at index bytes) result = Unit {0}
MayBeRefused (Fetch pid index) result = IfErr result (λ refused. refused ≡ NoMemory)
MayBeRefused w result = result ≡ Ok tt
