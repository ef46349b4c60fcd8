-- Which lines of pages that are asked for may stand next.
use Rattle.std.specs.Prelude.{ℕ, ◌≡◌, nat_lt, ◌&&◌, Bool, not, if◌then◌else◌, List, Option, Some, None}
use Rattle.t32_base.specs.declared.process.Pid.{Pid}
use Rattle.t32_base.specs.declared.process.ClusterNo.{ClusterNo}
use Rattle.sys_text.specs.declared.system.System.{System}
use Rattle.bus_msg.specs.declared.entry.By.TheVariants.{Cluster as ByHome}
use Rattle.bus_msg.specs.declared.entry.What.TheVariants.{Fetch as Asks}
use Rattle.bus_msg.specs.declared.entry.Entry.{Entry}
use Rattle.bus_msg.specs.Places.{Places, lives_in}
use Rattle.cert_sched.specs.Legal.{MayStand}
use Rattle.cert_sched.specs.Moved.{any_since_moved, is_fetch, moved_with_state}
use Rattle.cert_sched.specs.Rules.{home_at, is_by}
use Rattle.cert_sched.specs.Steps.{page_count}
use Rattle.entry_lines.specs.declared.told.ToldBy.{ToldBy}
use Rattle.entry_lines.specs.declared.told.ToldBy.TheVariants.{Cluster, Bus}
use Rattle.entry_lines.specs.declared.told.ToldWhat.TheVariants.{Fetch}
use Rattle.line_laws.specs.Meant.{cluster_no}
use Rattle.log_audit.specs.declared.fetches.Asked.{Asked}
use Rattle.log_audit.specs.Decides.{Decides}
use Rattle.log_audit.specs.Front.{FrontState, IsFrontOf, entry_at, is_next}

-- the home of a process that has not ended, where it lives and the line says that it sent it
abbrev pub home_told : Places → ToldBy → Pid → Option ClusterNo
home_told places (Cluster k) p = if lives_in places (cluster_no k) && is_by (ByHome (cluster_no k)) (home_at places p) then Some (cluster_no k) else None
home_told places Bus p = None

-- the front is that of a log, and what is kept of a page of a process is what that log says
pub record KeepsAsked (front : FrontState) (p : Pid) (i : ℕ) (kept : Asked) (system : System) (log : List Entry) : Type 0 where
  pub before : IsFrontOf system log front
  pub pages : kept.pages ≡ page_count system log p
  pub moved : kept.moved ≡ moved_with_state system log p
  pub asked : kept.asked ≡ any_since_moved system log p (is_fetch p i)

-- a page of a process that was moved with a state may be asked for once
abbrev pub ask_may : FrontState → ℕ → ℕ → Asked → Bool
ask_may front place i kept = is_next front place && nat_lt i kept.pages && kept.moved && not kept.asked

-- by these a line is answered right
abbrev pub AnswersFetch : FrontState → ℕ → ToldBy → Pid → ℕ → Asked → Option Entry → Type 0
AnswersFetch front place by p i kept result =
    Decides MayStand (KeepsAsked front p i kept) (record { place = place; by = by; what = Fetch p.0 i }) result

-- the entry by which the home asks
abbrev pub fetch_entry : FrontState → ℕ → ClusterNo → Pid → ℕ → Entry
fetch_entry front place home p i = entry_at front place (record { by = ByHome home; what = Asks p i })
