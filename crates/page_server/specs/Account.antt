-- What a page server holds: the two accounts of each process, and the fetches that wait.
use Rattle.std.specs.Prelude.{ℕ, ◌≡◌, ◌==◌, ◌&&◌, not, if◌then◌else◌, filter, List, unwrap_or, Result, Ok, Err}
use Rattle.std.specs.declared.cmp.Ordering.{Ordering}
use Rattle.std.specs.Ordering.{nat_cmp}
use Rattle.std.specs.FinMap.{find}
use Rattle.t32_base.specs.declared.process.Pid.{Pid}
pub use Rattle.t32_base.specs.Account.{Account, no_pages, page_in, with_page, committed, reverted}
use Rattle.page_server.specs.declared.disk.DiskRefused.{DiskRefused}
use Rattle.page_server.specs.Disk.{Counts}

-- the accounts of the processes that have any, the fetches that wait, the earliest first, and the counts of the disk
pub record PagerState : Type 0 where
  pub accounts : List (Pid × Account)
  pub fetches : List (Pid × ℕ)
  pub counts : Counts

abbrev pub pid_cmp : Pid → Pid → Ordering
pid_cmp p q = nat_cmp p.0 q.0

-- the accounts of a process; both are empty where nothing was put
abbrev pub account : PagerState → Pid → Account
account state p = unwrap_or (find pid_cmp p state.accounts) no_pages

-- the accounts of one process changed so, and those of the others stayed
abbrev pub Changes : PagerState → PagerState → Pid → (Account → Account) → Type 0
Changes old new pid change = (p : Pid) → account new p ≡ (if p.0 == pid.0 then change (account old p) else account old p)

abbrev pub SameAccounts : PagerState → PagerState → Type 0
SameAccounts old new = (p : Pid) → account new p ≡ account old p

-- a page was put into the uncommitted account of one process; a refused call changes no account
abbrev pub AccountsAfterPut : PagerState → PagerState → Pid → ℕ → List ℕ → Result (Unit {0}) DiskRefused → Type 0
AccountsAfterPut old new pid i page (Ok done) = Changes old new pid (with_page i page)
AccountsAfterPut old new pid i page (Err refused) = SameAccounts old new

-- the fetches of other processes
abbrev pub fetches_without : Pid → List (Pid × ℕ) → List (Pid × ℕ)
fetches_without pid fetches = filter (λ (f : Pid × ℕ). not ((f.0).0 == pid.0)) fetches

-- the fetches of other pages
abbrev pub fetches_but : Pid → ℕ → List (Pid × ℕ) → List (Pid × ℕ)
fetches_but pid i fetches = filter (λ (f : Pid × ℕ). not ((f.0).0 == pid.0 && f.1 == i)) fetches
