-- How many losses stand in a log.
use Rattle.std.specs.Prelude.{ℕ, Bool, List, count_by, is_some}
use Rattle.bus_msg.specs.declared.entry.What.{What}
use Rattle.bus_msg.specs.declared.entry.Entry.{Entry}
use Rattle.bus_msg.specs.PlacedAfter.{what}
use Rattle.cert_sched.specs.Told.{cluster_lost}

-- an entry that loses a cluster
abbrev pub is_loss : What → Bool
is_loss w = is_some (cluster_lost w)

-- how many losses stand in a log
abbrev pub crashes : List Entry → ℕ
crashes log = count_by (λ (e : Entry). is_loss (what e)) log
