-- Which lines of clusters that return may stand next.
use Rattle.std.specs.Prelude.{ℕ, ◌&&◌, Bool, Option}
use Rattle.t32_base.specs.declared.process.ClusterNo.{ClusterNo}
use Rattle.bus_msg.specs.declared.entry.Entry.{Entry}
use Rattle.bus_msg.specs.Places.{is_lost_in}
use Rattle.entry_lines.specs.declared.told.ToldBy.{ToldBy}
use Rattle.entry_lines.specs.declared.told.ToldWhat.TheVariants.{Return as ToldReturn}
use Rattle.log_audit.specs.Front.{FrontState}
use Rattle.log_audit.specs.Losses.{AnswersLine, stop_may}

-- a return may stand next: its place is the next one, the bus sent it, and the cluster is lost
abbrev pub return_may : FrontState → ℕ → ToldBy → ClusterNo → Bool
return_may front place by k = stop_may front place by && is_lost_in front.places k

-- by the front alone a line is answered right
abbrev pub AnswersReturn : FrontState → ℕ → ToldBy → ℕ → Option Entry → Type 0
AnswersReturn front place by k result = AnswersLine front place by (ToldReturn k) result
