-- The answer that a page server owes.
use Rattle.std.specs.Prelude.{ℕ, ◌≡◌, List, slice_get, Option, Some, None, IsSome, Result, Ok, Err}
use Rattle.t32_base.specs.declared.process.Pid.{Pid}
use Rattle.sys_text.specs.declared.system.System.{System}
use Rattle.bus_msg.specs.declared.entry.Entry.{Entry}
use Rattle.cert_sched.specs.Kinds.{PageIsHolds}
use Rattle.page_server.specs.declared.disk.DiskFault.{DiskFault}
use Rattle.page_server.specs.Disk.{Counts, Passed, Failed}
use Rattle.page_server.specs.Account.{PagerState, account, page_in}
use Rattle.page_accounts.specs.declared.answering.Answer.{Answer}
use Rattle.page_accounts.specs.Keeps.{KeepsAccounts}

-- the earliest fetch that waits
abbrev pub earliest : PagerState → Option (Pid × ℕ)
earliest state = slice_get state.fetches 0

-- its page is in the committed account
abbrev pub IsKept : PagerState → Pid × ℕ → Type 0
IsKept state f = IsSome (page_in (account state f.0).kept f.1)

-- no answer where no fetch waits, and otherwise the committed page of the earliest
abbrev pub Answers : PagerState → Option (Pid × ℕ) → Result (Option Answer) DiskFault → Type 0
Answers state None result = result ≡ Ok None
Answers state (Some f) (Ok None) = ⊥
Answers state (Some f) (Ok (Some a)) = (a.pid ≡ f.0) × (a.index ≡ f.1) × (page_in (account state f.0).kept f.1 ≡ Some a.bytes)
Answers state (Some f) (Err fault) = Unit {0}

-- one call of the disk where a fetch waits, and none where none does
abbrev pub CountsAfterAnswer : Option (Pid × ℕ) → Counts → Counts → Result (Option Answer) DiskFault → Type 0
CountsAfterAnswer None old new result = new ≡ old
CountsAfterAnswer (Some f) old new (Ok answer) = Passed old new
CountsAfterAnswer (Some f) old new (Err fault) = Failed old new fault.call

-- an entry with this answer holds next in each log that the page server keeps
abbrev pub HoldsNext : PagerState → Option Answer → Type 0
HoldsNext state None = Unit {0}
HoldsNext state (Some a) = (system : System) (log : List Entry) → KeepsAccounts system log state → PageIsHolds system log a.pid a.index a.bytes
