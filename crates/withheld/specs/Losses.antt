-- Whether a log has a loss.
use Rattle.std.specs.Prelude.{Bool, List, is_some}
use Rattle.std.specs.List.{list_any}
use Rattle.bus_msg.specs.declared.entry.Entry.{Entry}
use Rattle.bus_msg.specs.PlacedAfter.{what}
use Rattle.cert_sched.specs.Told.{cluster_lost}

-- a cluster was lost
abbrev pub has_loss : List Entry → Bool
has_loss log = list_any (λ (e : Entry). is_some (cluster_lost (what e))) log
