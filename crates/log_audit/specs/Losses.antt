-- Which lines of losses and of stops may stand next.
use Rattle.std.specs.Prelude.{ℕ, ◌&&◌, Bool, Option}
use Rattle.t32_base.specs.declared.process.ClusterNo.{ClusterNo}
use Rattle.bus_msg.specs.declared.entry.Entry.{Entry}
use Rattle.bus_msg.specs.Places.{lives_in}
use Rattle.cert_sched.specs.Legal.{MayStand}
use Rattle.entry_lines.specs.declared.told.ToldBy.{ToldBy}
use Rattle.entry_lines.specs.declared.told.ToldWhat.{ToldWhat}
use Rattle.log_audit.specs.Decides.{Decides}
use Rattle.log_audit.specs.Front.{FrontState, IsFrontOf, is_bus_told, is_next}

-- a stop may stand next: its place is the next one, and the bus sent it
abbrev pub stop_may : FrontState → ℕ → ToldBy → Bool
stop_may front place by = is_next front place && is_bus_told by

-- so may a loss, of a cluster that lives
abbrev pub loss_may : FrontState → ℕ → ToldBy → ClusterNo → Bool
loss_may front place by k = stop_may front place by && lives_in front.places k

-- by the front alone a line is answered right
abbrev pub AnswersLine : FrontState → ℕ → ToldBy → ToldWhat → Option Entry → Type 0
AnswersLine front place by w result = Decides MayStand (λ system log. IsFrontOf system log front) (record { place = place; by = by; what = w }) result
