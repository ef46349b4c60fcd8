-- When a printed section is explained: it is what is printed of a legal log that has ended.
use Rattle.std.specs.Prelude.{ℕ, ◌≡◌, ◌^◌, nat_lt, Bool, true, ◌&&◌, List, ◌++◌, Some}
use Rattle.std.specs.List.{list_all}
use Rattle.sys_text.specs.declared.system.System.{System}
use Rattle.plain_kernel.specs.Kernel.{Kernel}
use Rattle.bus_msg.specs.declared.entry.Cause.{Cause}
use Rattle.bus_msg.specs.declared.entry.Cause.TheVariants.{Place, Step, Disk}
use Rattle.bus_msg.specs.declared.entry.What.{What}
use Rattle.bus_msg.specs.declared.entry.What.TheVariants.{Crash}
use Rattle.bus_msg.specs.declared.entry.Entry.{Entry}
use Rattle.bus_msg.specs.PlacedAfter.{what}
use Rattle.cert_sched.specs.declared.script.ScriptWord.{ScriptWord}
use Rattle.cert_sched.specs.declared.script.ScriptWord.TheVariants.{CrashAt, CrashStep, DiskAt, ReturnAt}
use Rattle.cert_sched.specs.Counted.{counted}
use Rattle.cert_sched.specs.Legal.{IsLegalBy}
use Rattle.cert_sched.specs.Schedule.{plain_after, schedule_of}
use Rattle.report_text.specs.declared.run.Run.{Run}
use Rattle.report_text.specs.Good.{EndsAs}
use Rattle.report_text.specs.RunReport.{report_of, log_text_of}

-- ---- numbers that nothing else bounds

abbrev pub is_small : ℕ → Bool
is_small n = nat_lt n (2 ^ 64)

abbrev pub is_small_cause : Cause → Bool
is_small_cause Place = true
is_small_cause (Step n) = is_small n
is_small_cause (Disk n) = is_small n

abbrev pub has_small_cause : What → Bool
has_small_cause (Crash k cause) = is_small_cause cause
has_small_cause _ = true

-- the step or the disk call that a word of a script names
abbrev pub has_small_number : ScriptWord → Bool
has_small_number (CrashAt k place) = true
has_small_number (CrashStep k step) = is_small step
has_small_number (DiskAt k call) = is_small call
has_small_number (ReturnAt k place) = true

-- ---- the whole

-- A log explains a section. The log is legal, by a rule of entries, and has ended. A run of this log has its schedule and its count of
-- what was withheld, and ended as it did; the section is the report of this run, where the kernel stands that the schedule leads to, and
-- then the log. The steps and disk calls at which clusters are lost, and the count, are below 2^64.
pub record ExplainedBy (May : System → List Entry → Entry → Type 0) (system : System) (section : List ℕ) : Type 0 where
  pub log : List Entry
  pub run : Run
  pub kernel : Kernel
  pub legal : IsLegalBy May system log
  pub fits : list_all (λ (e : Entry). has_small_cause (what e)) log && is_small run.withheld ≡ true
  pub is : run.log ≡ log
  pub items : run.items ≡ schedule_of system log
  pub withheld : run.withheld ≡ counted system log
  pub ended : EndsAs system log run.ended
  pub plain : plain_after system log ≡ Some kernel
  pub section_is : section ≡ report_of kernel run ++ log_text_of log
