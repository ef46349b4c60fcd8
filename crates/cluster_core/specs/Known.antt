-- What a cluster knows of a log beside its own processes.
use Rattle.std.specs.Prelude.{◌≡◌, true, List, [], ◌∷◌, ◌++◌}
use Rattle.t32_base.specs.declared.process.Pid.{Pid}
use Rattle.sys_text.specs.declared.system.System.{System}
use Rattle.sys_text.specs.Valid.{is_system}
use Rattle.bus_msg.specs.Places.{Places}
use Rattle.bus_msg.specs.declared.entry.Entry.{Entry}
use Rattle.cert_sched.specs.Legal.{MayStand}
use Rattle.cert_sched.specs.Schedule.{placement}
use Rattle.log_laws.specs.births.Unsynced.{unsynced_births}
use Rattle.cluster_core.specs.Follows.{IsOpen}

-- the placement, and the children that never synchronised, are those of the log
pub record IsKnown (system : System) (log : List Entry) (places : Places) (family : List (Pid × Pid)) : Type 0 where
  pub places_are : places ≡ placement system log
  pub family_is : family ≡ unsynced_births system log

-- they are those of some log of a valid system that goes on, also with this entry
pub record CanKnow (e : Entry) (places : Places) (family : List (Pid × Pid)) : Type 0 where
  pub system : System
  pub log : List Entry
  pub valid : is_system system ≡ true
  pub open_log : IsOpen MayStand system log
  pub open_next : IsOpen MayStand system (log ++ e ∷ [])
  pub known : IsKnown system log places family

-- whichever log they are of, then they are those of the log with this entry
abbrev pub KnowsNext : Entry → Places → List (Pid × Pid) → Places → List (Pid × Pid) → Type 0
KnowsNext e places family after births =
    (system : System) (log : List Entry) → is_system system ≡ true → IsOpen MayStand system log → IsOpen MayStand system (log ++ e ∷ []) → IsKnown system log places family → IsKnown system (log ++ e ∷ []) after births
