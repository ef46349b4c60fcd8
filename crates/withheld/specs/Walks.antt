-- A walk over a log that keeps the placement, the counts and what is withheld.
use Rattle.std.specs.Prelude.{◌≡◌, ◌+◌, List}
use Rattle.t32_base.specs.declared.process.Pid.{Pid}
use Rattle.sys_text.specs.declared.system.System.{System}
use Rattle.bus_msg.specs.declared.entry.What.{What}
use Rattle.bus_msg.specs.declared.entry.Entry.{Entry}
use Rattle.bus_msg.specs.PlacedAfter.{placed_after}
use Rattle.cert_sched.specs.Schedule.{placement}
use Rattle.cert_sched.specs.Counted.{counted}
use Rattle.withheld.specs.declared.walk.Walk.{Walk}
use Rattle.withheld.specs.Counts.{NotesCounts, count_of, count_since, withheld_at}

-- the walk has gone over these entries
pub record HasWalked (system : System) (log : List Entry) (walk : Walk) : Type 0 where
  pub places : walk.places ≡ placement system log
  pub counts : (p : Pid) → count_of walk.counts p ≡ count_since log p
  pub total : walk.total ≡ counted system log

-- it goes over one entry more
pub record WalksOver (w : What) (before after : Walk) : Type 0 where
  pub places : after.places ≡ placed_after before.places w
  pub counts : NotesCounts w before.counts after.counts
  pub total : after.total ≡ before.total + withheld_at (count_of before.counts) before.places w
