-- Which lines of pages that come may stand next.
use Rattle.std.specs.Prelude.{ℕ, ◌==◌, ◌&&◌, Bool, false, List, Option, Some, None}
use Rattle.t32_base.specs.declared.process.Pid.{Pid}
use Rattle.t32_base.specs.declared.process.ClusterNo.{ClusterNo}
use Rattle.sys_text.specs.declared.system.System.{System}
use Rattle.bus_msg.specs.declared.entry.Entry.{Entry}
use Rattle.bus_msg.specs.declared.entry.By.TheVariants.{Cluster as ByServer}
use Rattle.bus_msg.specs.declared.entry.What.TheVariants.{PageIs as PageCame}
use Rattle.cert_sched.specs.Legal.{MayStand}
use Rattle.page_server.specs.Account.{PagerState}
use Rattle.page_accounts.specs.declared.answering.Answer.{Answer}
use Rattle.page_accounts.specs.Keeps.{KeepsAccounts}
use Rattle.entry_lines.specs.declared.told.ToldBy.{ToldBy}
use Rattle.entry_lines.specs.declared.told.ToldBy.TheVariants.{Cluster, Bus}
use Rattle.entry_lines.specs.declared.told.ToldWhat.TheVariants.{PageIs}
use Rattle.log_audit.specs.Decides.{Decides}
use Rattle.log_audit.specs.Front.{FrontState, IsFrontOf, entry_at, is_next}

-- the line says that this cluster sent it
abbrev pub is_sender : ToldBy → ClusterNo → Bool
is_sender (Cluster k) server = k == server.0
is_sender Bus server = false

-- the front and a page server are those of a log
pub record KeepsPages (front : FrontState) (pager : PagerState) (system : System) (log : List Entry) : Type 0 where
  pub before : IsFrontOf system log front
  pub accounts : KeepsAccounts system log pager

-- the first page server may answer the earliest fetch that waits, where it is of this page of this process
abbrev pub page_may : FrontState → ℕ → ToldBy → ℕ → ℕ → Option ClusterNo → Option (Pid × ℕ) → Bool
page_may front place by p i None waiting = false
page_may front place by p i (Some server) None = false
page_may front place by p i (Some server) (Some f) = is_next front place && is_sender by server && p == (f.0).0 && i == f.1

-- by these two a line is answered right
abbrev pub AnswersPage : FrontState → PagerState → ℕ → ToldBy → ℕ → ℕ → Option Entry → Type 0
AnswersPage front pager place by p i result =
    Decides MayStand (KeepsPages front pager) (record { place = place; by = by; what = PageIs p i }) result

-- the entry by which a page server answers
abbrev pub page_entry : FrontState → ℕ → ClusterNo → Answer → Entry
page_entry front place server a =
    entry_at front place (record { by = ByServer server; what = PageCame a.pid a.index a.bytes })
