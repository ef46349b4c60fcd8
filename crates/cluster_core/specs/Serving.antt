-- What a cluster keeps as a page server, at its start and after an entry.
use Rattle.std.specs.Prelude.{ℕ, ◌≡◌, ◌≤◌, true, List, [], ◌∷◌, ◌++◌, Option, Some, None, Ok, ⊤}
use Rattle.sys_text.specs.declared.system.System.{System}
use Rattle.bus_msg.specs.declared.entry.Entry.{Entry}
use Rattle.bus_msg.specs.Places.{Places}
use Rattle.cert_sched.specs.Losses.{capped, is_page_entry, root_pages}
use Rattle.cert_sched.specs.Schedule.{placement}
use Rattle.page_server.specs.Account.{PagerState}
use Rattle.page_server.specs.Disk.{Fails}
use Rattle.page_accounts.specs.Booting.{IsAhead}
use Rattle.page_accounts.specs.Keeps.{KeepsAccounts}
use Rattle.page_accounts.specs.Noting.{CountsAfterNote}
use Rattle.bus_msg.specs.PlacedAfter.{what}
use Rattle.page_accounts.specs.declared.answering.Answer.{Answer}
use Rattle.page_accounts.specs.Answering.{IsKept, earliest}
use Rattle.bus_msg.specs.declared.entry.Post.{Post}
use Rattle.bus_msg.specs.declared.entry.What.TheVariants.{PageIs}
use Rattle.bus_msg.specs.declared.entry.By.TheVariants.{Cluster}
use Rattle.t32_base.specs.declared.process.ClusterNo.{ClusterNo}
use Rattle.std.specs.Option.{IfSome}
use Rattle.cluster_core.specs.declared.hurt.Hurt.{Hurt}
use Rattle.cluster_core.specs.declared.hurt.Hurt.TheVariants.{Disk, NoMemory}
use Rattle.cluster_core.specs.View.{calls_in}

-- nothing, or the accounts of the empty log, for which the disk was called once at least for each page of a root
abbrev pub BeginsToServe : System → Option PagerState → Type 0
BeginsToServe system None = ⊤
BeginsToServe system (Some state) = KeepsAccounts system [] state × (capped (root_pages system) ≤ (state.counts).calls)

-- after the entry it keeps the accounts of each log with it whose accounts it kept, where the placement before it was this; a page is one call of the disk, and no other entry is any
pub record Notes (before : Places) (e : Entry) (old new : PagerState) : Type 0 where
  pub keeps : (system : System) (log : List Entry) → placement system log ≡ before → KeepsAccounts system log old → KeepsAccounts system (log ++ e ∷ []) new
  pub counts : CountsAfterNote (what e) old.counts new.counts (Ok tt)

-- where it is a page server
abbrev pub Serves : Places → Entry → Option PagerState → Option PagerState → Type 0
Serves before e None new = new ≡ None
Serves before e (Some old) None = ⊥
Serves before e (Some old) (Some new) = Notes before e old new

-- a page server has the page of the earliest fetch that waits
abbrev pub CanAnswer : Option PagerState → Type 0
CanAnswer server = IfSome server (λ (state : PagerState). IfSome (earliest state) (IsKept state))

-- the calls of its disk that fail are still to come, where it has one that tells them
abbrev pub IsAheadThere : Option PagerState → Type 0
IsAheadThere server = IfSome server (λ (state : PagerState). IsAhead state.counts)

-- there is a disk, of which the call with this number fails, where it tells which do
abbrev pub IsFailing : Option PagerState → ℕ → Type 0
IsFailing None call = ⊥
IsFailing (Some state) call = Fails (state.counts).failing call true

-- the next call of its disk, which has this number, failed
pub record FailsNext (server : Option PagerState) (call : ℕ) : Type 0 where
  pub number : call ≡ calls_in server
  pub failing : IsFailing server call

-- a call of the disk failed, or memory was refused
abbrev pub HurtsServer : Option PagerState → Hurt → Type 0
HurtsServer server (Disk fault) = FailsNext server fault.call
HurtsServer server NoMemory = ⊤

-- the same where an entry is noted: it brings a page then
abbrev pub HurtsNoting : Entry → Option PagerState → Hurt → Type 0
HurtsNoting e server (Disk fault) = (is_page_entry (what e) ≡ true) × FailsNext server fault.call
HurtsNoting e server NoMemory = ⊤

abbrev pub answer_post : ClusterNo → Answer → Post
answer_post k a = record { by = Cluster k; what = PageIs a.pid a.index a.bytes }
