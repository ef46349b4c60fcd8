-- What is kept of a log for each further entry: the placement, whether the log is over, and its length.
use Rattle.std.specs.Prelude.{ℕ, ◌≡◌, ◌==◌, ◌&&◌, Bool, true, false, not, List, [], ◌∷◌, ◌++◌, length}
use Rattle.sys_text.specs.declared.system.System.{System}
use Rattle.bus_msg.specs.declared.entry.Entry.{Entry}
use Rattle.bus_msg.specs.declared.entry.Post.{Post}
use Rattle.bus_msg.specs.Places.{Places}
use Rattle.bus_msg.specs.Route.{route}
use Rattle.cert_sched.specs.Schedule.{placement}
use Rattle.cert_sched.specs.Rules.{is_over}
use Rattle.entry_lines.specs.declared.told.ToldBy.{ToldBy}
use Rattle.entry_lines.specs.declared.told.ToldBy.TheVariants.{Cluster, Bus}

pub record FrontState : Type 0 where
  pub places : Places
  pub over : Bool
  pub length : ℕ

-- the front of a log
pub record IsFrontOf (system : System) (log : List Entry) (front : FrontState) : Type 0 where
  pub places : front.places ≡ placement system log
  pub over : front.over ≡ is_over system log
  pub length : front.length ≡ length log

-- the front of a log, and then of the log with one entry more
abbrev pub KeepsFront : FrontState → FrontState → Entry → Type 0
KeepsFront old new e = (system : System) (log : List Entry) → IsFrontOf system log old → IsFrontOf system (log ++ e ∷ []) new

-- an entry with this place may stand next
abbrev pub is_next : FrontState → ℕ → Bool
is_next front place = front.length == place && not front.over

-- the entry that a post becomes at this place
abbrev pub entry_at : FrontState → ℕ → Post → Entry
entry_at front place post = record { place = place; post = post; dests = route front.places post.what }

-- the line says that the bus sent it
abbrev pub is_bus_told : ToldBy → Bool
is_bus_told Bus = true
is_bus_told (Cluster k) = false
