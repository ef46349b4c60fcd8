-- The posts that clusters send.
use Rattle.std.specs.Prelude.{◌≡◌, Bool, true, false, List}
use Rattle.sys_text.specs.declared.system.System.{System}
use Rattle.bus_msg.specs.declared.entry.What.{What}
use Rattle.bus_msg.specs.declared.entry.What.TheVariants.{Crash, Return}
use Rattle.bus_msg.specs.declared.entry.Entry.{Entry}
use Rattle.bus_msg.specs.PlacedAfter.{what}
use Rattle.cert_sched.specs.Legal.{KeepsLimits, KeepsWaits, Stands}
use Rattle.cert_sched.specs.Rules.{is_new_page, tells_or_closes}

-- all but a loss and a return
abbrev pub is_sent : What → Bool
is_sent (Crash k cause) = false
is_sent (Return k) = false
is_sent _ = true

-- such an entry may stand next in a log, by all rules but that of new backups
pub record SentMayStand (system : System) (log : List Entry) (e : Entry) : Type 0 where
  pub stands : Stands system log e
  pub of_kind : is_sent (what e) ≡ true
  pub limits : KeepsLimits system log (what e)
  pub new_page : is_new_page system log (what e) ≡ true
  pub pages : KeepsWaits system log e

-- the same of one that tells of steps or closes the log
pub record TellingMayStand (system : System) (log : List Entry) (e : Entry) : Type 0 where
  pub stands : Stands system log e
  pub of_kind : tells_or_closes (what e) ≡ true
  pub limits : KeepsLimits system log (what e)
  pub pages : KeepsWaits system log e
