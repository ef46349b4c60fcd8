-- When a run is what its system and its script allow.
use Rattle.std.specs.Prelude.{ℕ, ◌≡◌, Bool, true, false, List, Option, Some, None}
use Rattle.t32_base.specs.declared.process.ClusterNo.{ClusterNo}
use Rattle.sys_text.specs.declared.system.System.{System}
use Rattle.bus_msg.specs.declared.entry.Entry.{Entry}
use Rattle.bus_msg.specs.Places.{is_covered}
use Rattle.bus_msg.specs.PlacedAfter.{what}
use Rattle.cert_sched.specs.declared.script.ScriptWord.{ScriptWord}
use Rattle.cert_sched.specs.Parts.{last_of}
use Rattle.cert_sched.specs.Schedule.{schedule_of}
use Rattle.cert_sched.specs.Told.{Told, told, cluster_lost}
use Rattle.cert_sched.specs.Legal.{IsLegalBy, MayFollow, MayFollow}
use Rattle.cert_sched.specs.Counted.{counted}
use Rattle.cert_sched.specs.Scripted.{IsScriptedBy, has_counted, is_finished}
use Rattle.report_text.specs.declared.run.Run.{Run}
use Rattle.report_text.specs.declared.run.Ended.{Ended}
use Rattle.report_text.specs.declared.run.Ended.TheVariants.{Finished, Lost}

-- the last entry is a crash of this cluster that was not covered, at this place
abbrev pub IsLostAt : Option Told → ClusterNo → ℕ → Type 0
IsLostAt None k at = ⊥
IsLostAt (Some t) k at = (cluster_lost (what t.entry) ≡ Some k) × (is_covered t.places k ≡ false) × ((t.entry).place ≡ at)

-- Done stands last, or a crash that was not covered
abbrev pub EndsAs : System → List Entry → Ended → Type 0
EndsAs system log Finished = is_finished log ≡ true
EndsAs system log (Lost k at) = IsLostAt (last_of (told system log)) k at

-- The log is legal, by a rule, and has the losses of the script, for clusters that have counted enough, by a test. The schedule, the count of what was withheld and the
-- end are those of the log.
pub record IsGoodBy (May : System → List Entry → Entry → Type 0) (enough : System → List Entry → List ℕ → List ℕ → ClusterNo → Bool) (system : System) (script : List ScriptWord) (r : Run) : Type 0 where
  pub legal : IsLegalBy May system r.log
  pub scripted : IsScriptedBy enough system r.log script r.steps r.disk_calls
  pub items : r.items ≡ schedule_of system r.log
  pub withheld : r.withheld ≡ counted system r.log
  pub ended : EndsAs system r.log r.ended

-- a run that is what its system and its script allow
abbrev pub IsGood : System → List ScriptWord → Run → Type 0
IsGood system script r = IsGoodBy MayFollow has_counted system script r
