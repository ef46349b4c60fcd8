-- What a command makes of the bytes of its input, and `load` of its size: the status, the text that is written, and for `sim` and `run` the run that it tells of.
use Rattle.std.specs.Prelude.{ℕ, ◌≡◌, Bool, true, false, List, [], ◌∷◌, ◌++◌, codes, Option, Some, None, Result, Ok, Err}
use Rattle.std.specs.Fmt.{decimal}
use Rattle.std.specs.Arc.{arc_value}
use Rattle.command_words.specs.declared.command.Command.{Command}
use Rattle.command_words.specs.declared.command.Command.TheVariants as commands
use Rattle.targon_cli.specs.declared.runs.Read.{Read}
use Rattle.targon_cli.specs.declared.runs.Read.TheVariants.{System as AsSystem, Refused as AsRefused}
use Rattle.sys_text.specs.declared.system.System.{System}
use Rattle.sys_text.specs.Text.{system_text}
use Rattle.sys_text.specs.Reading.{Answer, reading_of as system_reading, system_of_lines}
use Rattle.sys_text.specs.Refusal.{number_of_rule as system_rule}
use Rattle.sys_text.specs.Valid.{is_system}
use Rattle.rv_asm.specs.declared.refusal.Rule.{Rule as AsmRule}
use Rattle.rv_asm.specs.Program.{reading_of as asm_reading}
use Rattle.rv_asm.specs.Printing.{words_text_of}
use Rattle.rv_asm.specs.Refusal.{number_of_rule as asm_rule}
use Rattle.plain_kernel.specs.Kernel.{Kernel}
use Rattle.plain_kernel.specs.Still.{IsDefaultRun, is_still}
use Rattle.plain_kernel.specs.declared.item.Item.{Item}
use Rattle.cert_sched.specs.declared.script.ScriptWord.{ScriptWord}
use Rattle.plain_kernel.specs.Apply.{plain_run}
use Rattle.plain_kernel.specs.Answers.{BadAt}
use Rattle.command_words.specs.Script.{are_allowed}
use Rattle.text_parts.specs.Lines.{lines_of}
use Rattle.workload.specs.Ring.{workload}
use Rattle.targon_cli.specs.Sections.{system_part, section_part, items_of_lines}
use Rattle.report_text.specs.Report.{plain_report}
use Rattle.report_text.specs.declared.run.Run.{Run}
use Rattle.report_text.specs.declared.run.Ended.{Ended}
use Rattle.report_text.specs.declared.run.Ended.TheVariants.{Finished, Lost}
use Rattle.report_text.specs.Load.{load_report}
use Rattle.report_text.specs.RunReport.{report_of, log_text_of}
use Rattle.cluster_run.specs.declared.life.Ran.{Ran}
use Rattle.cluster_run.specs.Completed.{IsCompleted}

-- the words are no command, or one of them names a cluster that the system lacks
abbrev pub usage_line : List ℕ
usage_line = codes "t32: usage\n"

-- a refused text, with its line and its rule
abbrev pub system_line : (line rule : ℕ) → List ℕ
system_line line rule = codes "t32: system line " ++ (decimal line ++ (codes " rule " ++ (decimal rule ++ 10 ∷ [])))

abbrev pub asm_line : (line rule : ℕ) → List ℕ
asm_line line rule = codes "t32: asm line " ++ (decimal line ++ (codes " rule " ++ (decimal rule ++ 10 ∷ [])))

abbrev pub schedule_line : (index : ℕ) → List ℕ
schedule_line index = codes "t32: schedule item " ++ (decimal index ++ 10 ∷ [])

-- Items of a schedule are reported where each can be applied. Or the first that cannot be is named, counted from 0.
pub data Follows (system : System) (items : List Item) (status : ℕ) (text : List ℕ) : Type 0 where
  Applied : (kernel : Kernel) → plain_run system items ≡ Some kernel → status ≡ 0 → text ≡ plain_report kernel → Follows system items status text
  Refused : (index : ℕ) → BadAt system items index → status ≡ 3 → text ≡ schedule_line index → Follows system items status text

-- the items of a section are followed, or the first that cannot be read is named
abbrev pub FollowsSection : System → Result (List Item) ℕ → (status : ℕ) → (text : List ℕ) → Type 0
FollowsSection system (Ok items) status text = Follows system items status text
FollowsSection system (Err index) status text = (status ≡ 3) × (text ≡ schedule_line index)

-- the schedule is the section's, or without one the default schedule
abbrev pub RunsBy : System → (section : List (List ℕ)) → (status : ℕ) → (text : List ℕ) → Type 0
RunsBy system [] status text = (status ≡ 0) × ((kernel : Kernel) × IsDefaultRun system kernel × (text ≡ plain_report kernel))
RunsBy system (line ∷ lines) status text = FollowsSection system (items_of_lines (line ∷ lines)) status text

abbrev pub MakesPlain : Answer → (section : List (List ℕ)) → (status : ℕ) → (text : List ℕ) → Type 0
MakesPlain (Ok system) section status text = RunsBy system section status text
MakesPlain (Err refused) section status text = (status ≡ 2) × (text ≡ system_line refused.0 (system_rule refused.1))

-- a system text is printed in canonical form
abbrev pub MakesCheck : Answer → (status : ℕ) → (text : List ℕ) → Type 0
MakesCheck (Ok system) status text = (status ≡ 0) × (text ≡ system_text system)
MakesCheck (Err refused) status text = (status ≡ 2) × (text ≡ system_line refused.0 (system_rule refused.1))

-- the words of an assembler text are printed
abbrev pub MakesAsm : Result (List ℕ) (ℕ × AsmRule) → (status : ℕ) → (text : List ℕ) → Type 0
MakesAsm (Ok words) status text = (status ≡ 0) × (text ≡ words_text_of words)
MakesAsm (Err refused) status text = (status ≡ 2) × (text ≡ asm_line refused.0 (asm_rule refused.1))

-- ---- the run of clusters

-- what is written of a run, where the kernel stands after its schedule; the log only where it is asked for
abbrev pub run_text : (log : Bool) → Kernel → Run → List ℕ
run_text false kernel r = report_of kernel r
run_text true kernel r = report_of kernel r ++ log_text_of r.log

-- of the run of a workload its line alone
abbrev pub load_text : (size : ℕ) → Kernel → Run → List ℕ
load_text size kernel r = load_report size kernel

-- the text tells, by what is printed of both, of the run and of the kernel to which its schedule leads
abbrev pub IsTextOf : System → (print : Kernel → Run → List ℕ) → Run → (text : List ℕ) → Type 0
IsTextOf system print r text = (kernel : Kernel) × (plain_run system r.items ≡ Some kernel) × (text ≡ print kernel r)

-- a run that came to its end has the status 0, and one that a loss ended which is not covered has the status 7
abbrev pub status_of : Ended → ℕ
status_of Finished = 0
status_of (Lost cluster at) = 7

-- The run is what its system and its script allow, and its clusters did its work. Its schedule leads to a kernel, in which nothing can move where the run
-- came to its end, and of this kernel and of the run the text tells.
pub record TellsOf (system : System) (script : List ScriptWord) (print : Kernel → Run → List ℕ) (text : List ℕ) (ran : Ran) : Type 0 where
  pub completed : IsCompleted system script ran
  pub kernel : Kernel
  pub scheduled : plain_run system (ran.run).items ≡ Some kernel
  pub still : (ran.run).ended ≡ Finished → is_still kernel ≡ true
  pub told : text ≡ print kernel ran.run

abbrev pub TellsOfRun : System → List ScriptWord → (print : Kernel → Run → List ℕ) → (status : ℕ) → (text : List ℕ) → Option Ran → Type 0
TellsOfRun system script print status text None = ⊥
TellsOfRun system script print status text (Some ran) = (status ≡ status_of (ran.run).ended) × TellsOf system script print text ran

-- the system has the cluster of each word of the script
abbrev pub has_clusters_of : List ScriptWord → System → Bool
has_clusters_of script system = are_allowed system.clusters system.pager script

-- what a system makes of its script: a run that is told of, on one thread or on many; or usage, where it lacks a cluster of the script
abbrev pub MakesByScript : (has : Bool) → System → List ScriptWord → (print : Kernel → Run → List ℕ) → (status : ℕ) → (text : List ℕ) → Option Ran → Type 0
MakesByScript true system script print status text ran = TellsOfRun system script print status text ran
MakesByScript false system script print status text ran = (status ≡ 1) × (text ≡ usage_line) × (ran ≡ None)

-- the text is asked first, and then the script
abbrev pub MakesRun : Answer → List ScriptWord → (print : Kernel → Run → List ℕ) → (status : ℕ) → (text : List ℕ) → Option Ran → Type 0
MakesRun (Ok system) script print status text ran = MakesByScript (has_clusters_of script system) system script print status text ran
MakesRun (Err refused) script print status text ran = (status ≡ 2) × (text ≡ system_line refused.0 (system_rule refused.1)) × (ran ≡ None)

-- a text was read as its system, which has the clusters of the script; or what is answered where there is no such system
abbrev pub IsRead : Answer → List ScriptWord → Read → Type 0
IsRead (Ok system) script (AsSystem shared) = (arc_value shared ≡ system) × (is_system system ≡ true) × (has_clusters_of script system ≡ true)
IsRead (Ok system) script (AsRefused reply) = (has_clusters_of script system ≡ false) × (reply.status ≡ 1) × (reply.text ≡ usage_line)
IsRead (Err refused) script (AsSystem shared) = ⊥
IsRead (Err refused) script (AsRefused reply) = (reply.status ≡ 2) × (reply.text ≡ system_line refused.0 (system_rule refused.1))

-- ---- the workload

-- a system that has the clusters of the script is printed in canonical form; usage, where it lacks one
abbrev pub PrintsByScript : (has : Bool) → System → (status : ℕ) → (text : List ℕ) → Type 0
PrintsByScript true system status text = (status ≡ 0) × (text ≡ system_text system)
PrintsByScript false system status text = (status ≡ 1) × (text ≡ usage_line)

-- `load` prints its workload where it is only to print it, and runs it where it is not
abbrev pub MakesLoad : (only : Bool) → (size : ℕ) → System → List ScriptWord → (status : ℕ) → (text : List ℕ) → Option Ran → Type 0
MakesLoad true size system script status text ran = PrintsByScript (has_clusters_of script system) system status text × (ran ≡ None)
MakesLoad false size system script status text ran = MakesByScript (has_clusters_of script system) system script (load_text size) status text ran

-- ---- any command

-- only `sim`, `run` and `load` where it does not only print make a run
abbrev pub Makes : Command → (bytes : List ℕ) → (status : ℕ) → (text : List ℕ) → Option Ran → Type 0
Makes commands.Plain bytes status text ran = MakesPlain (system_of_lines (system_part (lines_of bytes))) (section_part (lines_of bytes)) status text × (ran ≡ None)
Makes commands.Check bytes status text ran = MakesCheck (system_reading bytes) status text × (ran ≡ None)
Makes commands.Asm bytes status text ran = MakesAsm (asm_reading bytes) status text × (ran ≡ None)
Makes (commands.Sim pick log script) bytes status text ran = MakesRun (system_reading bytes) script (run_text log) status text ran
Makes (commands.Run log script) bytes status text ran = MakesRun (system_reading bytes) script (run_text log) status text ran
Makes (commands.Load size only script) bytes status text ran = MakesLoad only size (workload size) script status text ran
