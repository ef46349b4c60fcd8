-- Who does not step by the next entry is led nowhere.
use Rattle.std.proofs.Common.{◌≡◌, List, false, Option, Some, None}
use Rattle.t32_base.specs.declared.process.Pid.{Pid}
use Rattle.sys_text.specs.declared.system.System.{System}
use Rattle.bus_msg.specs.declared.entry.Entry.{Entry}
use Rattle.bus_msg.specs.PlacedAfter.{what}
use Rattle.audited_process.specs.declared.audited.Audited.{Audited}
use Rattle.audited_process.specs.Concerns.{steps_by}
use Rattle.audited_process.proofs.LeadsOn.{leads_on}
use Rattle.audited_log.specs.Processes.{IsKept, IsKeptOf, IsLed, IsLedOf}

module _ (system : System) (log : List Entry) (e : Entry) (p : Pid) where
  pub unled_of : (a : Audited) → steps_by p (what e) ≡ false → IsKeptOf system log p a → IsLedOf e system log p a
  unled_of a none keeps = record {
    unended = keeps.unended;
    led = λ goes. leads_on.others system log e p a none keeps.audited;
    ahead = λ goes same. keeps.ahead;
  }

  pub unled_as : (o : Option Audited) → steps_by p (what e) ≡ false → IsKept system log p o → IsLed e system log p o
  unled_as None none keeps = keeps
  unled_as (Some a) none keeps = unled_of a none keeps
