-- The replies of commands: their statuses, and which of them have a run.
use Rattle.std.proofs.Common.{◌≡◌, ℕ, Bool, true, false, not, true≢false, List, [], ◌∷◌, ◌⊎◌, inl, inr, refl, sym, ◌∙◌, ap, subst, arith, Option, Some, None}
use Rattle.std.specs.Prelude.{Ok, Err, Result, IfOk, is_some}
use Rattle.command_words.specs.declared.command.Command.{Command}
use Rattle.command_words.specs.declared.command.Command.TheVariants as commands
use Rattle.sys_text.specs.Reading.{reading_of as system_reading, system_of_lines}
use Rattle.sys_text.specs.declared.system.System.{System}
use Rattle.cert_sched.specs.declared.script.ScriptWord.{ScriptWord}
use Rattle.rv_asm.specs.Program.{reading_of as asm_reading}
use Rattle.plain_kernel.specs.Kernel.{Kernel}
use Rattle.plain_kernel.specs.declared.item.Item.{Item}
use Rattle.report_text.specs.declared.run.Run.{Run}
use Rattle.report_text.specs.declared.run.Ended.{Ended}
use Rattle.report_text.specs.declared.run.Ended.TheVariants.{Finished, Lost}
use Rattle.text_parts.specs.Lines.{lines_of}
use Rattle.cluster_run.specs.declared.life.Ran.{Ran}
use Rattle.refusal_text.specs.declared.why.Why.{Why}
use Rattle.workload.specs.Ring.{workload}
use Rattle.targon_cli.specs.Commands.{makes_run, needs_threads, reads_input}
use Rattle.targon_cli.specs.Noted.{Notes, NotesRan}
use Rattle.targon_cli.specs.Explained.{Explains, ExplainsLoad}
use Rattle.t32_base.specs.declared.streams.NoMemory.{NoMemory}
use Rattle.targon_cli.specs.declared.reply.Reply.{Reply}
use Rattle.targon_cli.specs.Reply.{Makes, MakesPlain, MakesCheck, MakesAsm, MakesRun, MakesByScript, MakesLoad, PrintsByScript, has_clusters_of, load_text, run_text, TellsOfRun, RunsBy, FollowsSection, Follows, Applied, Refused, status_of}
use Rattle.targon_cli.specs.Sections.{system_part, section_part, items_of_lines}

-- ---- the status

-- a reply that tells of no run has the status 0, 1, 2 or 3
abbrev pub IsShort : ℕ → Type 0
IsShort wanted = (wanted ≡ 0) ⊎ (wanted ≡ 1) ⊎ (wanted ≡ 2) ⊎ (wanted ≡ 3)

-- and one that tells of a run may have 7
abbrev pub IsReply : ℕ → Type 0
IsReply wanted = IsShort wanted ⊎ (wanted ≡ 7)

-- 7 is none of the others
not_short : {X : Type 0} → IsShort 7 → X
not_short (inl e) = absurd (omega (arith, e))
not_short (inr (inl e)) = absurd (omega (arith, e))
not_short (inr (inr (inl e))) = absurd (omega (arith, e))
not_short (inr (inr (inr e))) = absurd (omega (arith, e))

status_of_items : (system : System) (items : List Item) (wanted : ℕ) (text : List ℕ) → Follows system items wanted text → IsShort wanted
status_of_items system items wanted text (Applied kernel r e t) = inl e
status_of_items system items wanted text (Refused index r e t) = inr (inr (inr e))

status_of_section : (system : System) (reading : Result (List Item) ℕ) (wanted : ℕ) (text : List ℕ) → FollowsSection system reading wanted text → IsShort wanted
status_of_section system (Ok items) wanted text m = status_of_items system items wanted text m
status_of_section system (Err index) wanted text m = inr (inr (inr m.0))

status_of_run : (system : System) (section : List (List ℕ)) (wanted : ℕ) (text : List ℕ) → RunsBy system section wanted text → IsShort wanted
status_of_run system [] wanted text m = inl m.0
status_of_run system (line ∷ lines) wanted text m = status_of_section system (items_of_lines (line ∷ lines)) wanted text m

status_of_plain : (reading : _) (section : List (List ℕ)) (wanted : ℕ) (text : List ℕ) → MakesPlain reading section wanted text → IsShort wanted
status_of_plain (Ok system) section wanted text m = status_of_run system section wanted text m
status_of_plain (Err refused) section wanted text m = inr (inr (inl m.0))

status_of_check : (reading : _) (wanted : ℕ) (text : List ℕ) → MakesCheck reading wanted text → IsShort wanted
status_of_check (Ok system) wanted text m = inl m.0
status_of_check (Err refused) wanted text m = inr (inr (inl m.0))

status_of_asm : (reading : _) (wanted : ℕ) (text : List ℕ) → MakesAsm reading wanted text → IsShort wanted
status_of_asm (Ok words) wanted text m = inl m.0
status_of_asm (Err refused) wanted text m = inr (inr (inl m.0))

status_of_tale : (system : System) (script : List ScriptWord) (print : Kernel → Run → List ℕ) (wanted : ℕ) (text : List ℕ) (ran : Option Ran) → TellsOfRun system script print wanted text ran → IsReply wanted
status_of_tale system script print wanted text None m = absurd m
status_of_tale system script print wanted text (Some r) m = by_end (r.run).ended m.0
  where
    by_end : (ended : Ended) → wanted ≡ status_of ended → IsReply wanted
    by_end Finished e = inl (inl e)
    by_end (Lost cluster at) e = inr e

status_of_script : (has : Bool) (system : System) (script : List ScriptWord) (print : Kernel → Run → List ℕ) (wanted : ℕ) (text : List ℕ) (ran : Option Ran) → MakesByScript has system script print wanted text ran → IsReply wanted
status_of_script true system script print wanted text ran m = status_of_tale system script print wanted text ran m
status_of_script false system script print wanted text ran m = inl (inr (inl m.0))

status_of_ran : (reading : _) (script : List ScriptWord) (print : Kernel → Run → List ℕ) (wanted : ℕ) (text : List ℕ) (ran : Option Ran) → MakesRun reading script print wanted text ran → IsReply wanted
status_of_ran (Ok system) script print wanted text ran m = status_of_script (has_clusters_of script system) system script print wanted text ran m
status_of_ran (Err refused) script print wanted text ran m = inl (inr (inr (inl m.0)))

status_of_printed : (has : Bool) (system : System) (wanted : ℕ) (text : List ℕ) → PrintsByScript has system wanted text → IsShort wanted
status_of_printed true system wanted text m = inl m.0
status_of_printed false system wanted text m = inr (inl m.0)

status_of_load : (only : Bool) (size : ℕ) (system : System) (script : List ScriptWord) (wanted : ℕ) (text : List ℕ) (ran : Option Ran) → MakesLoad only size system script wanted text ran → IsReply wanted
status_of_load true size system script wanted text ran m = inl (status_of_printed (has_clusters_of script system) system wanted text m.0)
status_of_load false size system script wanted text ran m = status_of_script (has_clusters_of script system) system script (load_text size) wanted text ran m

pub status_made : (command : Command) (bytes : List ℕ) (wanted : ℕ) (text : List ℕ) (ran : Option Ran) → Makes command bytes wanted text ran → IsReply wanted
status_made commands.Plain bytes wanted text ran m = inl (status_of_plain (system_of_lines (system_part (lines_of bytes))) (section_part (lines_of bytes)) wanted text m.0)
status_made commands.Check bytes wanted text ran m = inl (status_of_check (system_reading bytes) wanted text m.0)
status_made commands.Asm bytes wanted text ran m = inl (status_of_asm (asm_reading bytes) wanted text m.0)
status_made (commands.Sim pick log script) bytes wanted text ran m = status_of_ran (system_reading bytes) script (run_text log) wanted text ran m
status_made (commands.Run log script) bytes wanted text ran m = status_of_ran (system_reading bytes) script (run_text log) wanted text ran m
status_made (commands.Load size only script) bytes wanted text ran m = status_of_load only size (workload size) script wanted text ran m

-- ---- the run

tale_has_run : (system : System) (script : List ScriptWord) (print : Kernel → Run → List ℕ) (wanted : ℕ) (text : List ℕ) (ran : Option Ran) → TellsOfRun system script print wanted text ran → is_some ran ≡ true
tale_has_run system script print wanted text None m = absurd m
tale_has_run system script print wanted text (Some r) m = refl

script_has_run : (has : Bool) (system : System) (script : List ScriptWord) (print : Kernel → Run → List ℕ) (wanted : ℕ) (text : List ℕ) (ran : Option Ran) → (wanted ≡ 1 → ⊥) → MakesByScript has system script print wanted text ran → is_some ran ≡ true
script_has_run true system script print wanted text ran n1 m = tale_has_run system script print wanted text ran m
script_has_run false system script print wanted text ran n1 m = absurd (n1 m.0)

ran_has_run : (reading : _) (script : List ScriptWord) (print : Kernel → Run → List ℕ) (wanted : ℕ) (text : List ℕ) (ran : Option Ran) → (wanted ≡ 1 → ⊥) → (wanted ≡ 2 → ⊥) → MakesRun reading script print wanted text ran → is_some ran ≡ true
ran_has_run (Ok system) script print wanted text ran n1 n2 m = script_has_run (has_clusters_of script system) system script print wanted text ran n1 m
ran_has_run (Err refused) script print wanted text ran n1 n2 m = absurd (n2 m.0)

load_has_run : (only : Bool) (size : ℕ) (system : System) (script : List ScriptWord) (text : List ℕ) (ran : Option Ran) → MakesLoad only size system script 0 text ran → is_some ran ≡ not only
load_has_run true size system script text ran m = rw m.1 refl
load_has_run false size system script text ran m = script_has_run (has_clusters_of script system) system script (load_text size) 0 text ran (λ e. omega (arith, e)) m

-- what is done by `sim`, `run` or `load` without `--text` has a run, and by another command none
pub run_made : (command : Command) (bytes : List ℕ) (text : List ℕ) (ran : Option Ran) → Makes command bytes 0 text ran → is_some ran ≡ makes_run (Some command)
run_made commands.Plain bytes text ran m = rw m.1 refl
run_made commands.Check bytes text ran m = rw m.1 refl
run_made commands.Asm bytes text ran m = rw m.1 refl
run_made (commands.Sim pick log script) bytes text ran m = ran_has_run (system_reading bytes) script (run_text log) 0 text ran (λ e. omega (arith, e)) (λ e. omega (arith, e)) m
run_made (commands.Run log script) bytes text ran m = ran_has_run (system_reading bytes) script (run_text log) 0 text ran (λ e. omega (arith, e)) (λ e. omega (arith, e)) m
run_made (commands.Load size only script) bytes text ran m = load_has_run only size (workload size) script text ran m

-- what has the status 7 has a run
load_lost : (only : Bool) (size : ℕ) (system : System) (script : List ScriptWord) (text : List ℕ) (ran : Option Ran) → MakesLoad only size system script 7 text ran → is_some ran ≡ true
load_lost true size system script text ran m = not_short (status_of_printed (has_clusters_of script system) system 7 text m.0)
load_lost false size system script text ran m = script_has_run (has_clusters_of script system) system script (load_text size) 7 text ran (λ e. omega (arith, e)) m

pub lost_made : (command : Command) (bytes : List ℕ) (text : List ℕ) (ran : Option Ran) → Makes command bytes 7 text ran → is_some ran ≡ true
lost_made commands.Plain bytes text ran m = not_short (status_of_plain (system_of_lines (system_part (lines_of bytes))) (section_part (lines_of bytes)) 7 text m.0)
lost_made commands.Check bytes text ran m = not_short (status_of_check (system_reading bytes) 7 text m.0)
lost_made commands.Asm bytes text ran m = not_short (status_of_asm (asm_reading bytes) 7 text m.0)
lost_made (commands.Sim pick log script) bytes text ran m = ran_has_run (system_reading bytes) script (run_text log) 7 text ran (λ e. omega (arith, e)) (λ e. omega (arith, e)) m
lost_made (commands.Run log script) bytes text ran m = ran_has_run (system_reading bytes) script (run_text log) 7 text ran (λ e. omega (arith, e)) (λ e. omega (arith, e)) m
lost_made (commands.Load size only script) bytes text ran m = load_lost only size (workload size) script text ran m

no_tale : (system : System) (script : List ScriptWord) (print : Kernel → Run → List ℕ) (wanted : ℕ) (text : List ℕ) (ran : Option Ran) → TellsOfRun system script print wanted text ran → (wanted ≡ 0 → ⊥) → (wanted ≡ 7 → ⊥) → ran ≡ None
no_tale system script print wanted text None m n0 n7 = refl
no_tale system script print wanted text (Some r) m n0 n7 = by_end (r.run).ended m.0
  where
    by_end : (ended : Ended) → wanted ≡ status_of ended → Some r ≡ None
    by_end Finished e = absurd (n0 e)
    by_end (Lost cluster at) e = absurd (n7 e)

no_run_by_script : (has : Bool) (system : System) (script : List ScriptWord) (print : Kernel → Run → List ℕ) (wanted : ℕ) (text : List ℕ) (ran : Option Ran) → MakesByScript has system script print wanted text ran → (wanted ≡ 0 → ⊥) → (wanted ≡ 7 → ⊥) → ran ≡ None
no_run_by_script true system script print wanted text ran m n0 n7 = no_tale system script print wanted text ran m n0 n7
no_run_by_script false system script print wanted text ran m n0 n7 = m.2

no_ran : (reading : _) (script : List ScriptWord) (print : Kernel → Run → List ℕ) (wanted : ℕ) (text : List ℕ) (ran : Option Ran) → MakesRun reading script print wanted text ran → (wanted ≡ 0 → ⊥) → (wanted ≡ 7 → ⊥) → ran ≡ None
no_ran (Ok system) script print wanted text ran m n0 n7 = no_run_by_script (has_clusters_of script system) system script print wanted text ran m n0 n7
no_ran (Err refused) script print wanted text ran m n0 n7 = m.2

no_load : (only : Bool) (size : ℕ) (system : System) (script : List ScriptWord) (wanted : ℕ) (text : List ℕ) (ran : Option Ran) → MakesLoad only size system script wanted text ran → (wanted ≡ 0 → ⊥) → (wanted ≡ 7 → ⊥) → ran ≡ None
no_load true size system script wanted text ran m n0 n7 = m.1
no_load false size system script wanted text ran m n0 n7 = no_run_by_script (has_clusters_of script system) system script (load_text size) wanted text ran m n0 n7

-- a refusal has no run
pub no_run_made : (command : Command) (bytes : List ℕ) (wanted : ℕ) (text : List ℕ) (ran : Option Ran) → Makes command bytes wanted text ran → (wanted ≡ 0 → ⊥) → (wanted ≡ 7 → ⊥) → ran ≡ None
no_run_made commands.Plain bytes wanted text ran m n0 n7 = m.1
no_run_made commands.Check bytes wanted text ran m n0 n7 = m.1
no_run_made commands.Asm bytes wanted text ran m n0 n7 = m.1
no_run_made (commands.Sim pick log script) bytes wanted text ran m n0 n7 = no_ran (system_reading bytes) script (run_text log) wanted text ran m n0 n7
no_run_made (commands.Run log script) bytes wanted text ran m n0 n7 = no_ran (system_reading bytes) script (run_text log) wanted text ran m n0 n7
no_run_made (commands.Load size only script) bytes wanted text ran m n0 n7 = no_load only size (workload size) script wanted text ran m n0 n7

-- ---- a command that reads no input

-- what it makes hangs on no bytes
pub unread_same : (command : Command) (taken bytes : List ℕ) (wanted : ℕ) (text : List ℕ) (ran : Option Ran) → reads_input (Some command) ≡ false → Makes command taken wanted text ran
    → Makes command bytes wanted text ran
unread_same commands.Plain taken bytes wanted text ran e m = cc
unread_same commands.Check taken bytes wanted text ran e m = cc
unread_same commands.Asm taken bytes wanted text ran e m = cc
unread_same (commands.Sim pick log script) taken bytes wanted text ran e m = cc
unread_same (commands.Run log script) taken bytes wanted text ran e m = cc
unread_same (commands.Load size only script) taken bytes wanted text ran e m = m

-- a command without threads that is `load` only prints its workload
only_prints : (command : Command) (size : ℕ) (only : Bool) (script : List ScriptWord) → command ≡ commands.Load size only script → needs_threads (Some command) ≡ false → only ≡ true
only_prints command size only script same alone = by_case only (ap (λ (c : Command). needs_threads (Some c)) (sym same) ∙ alone)
  where
    by_case : (b : Bool) → not b ≡ false → b ≡ true
    by_case true e = refl
    by_case false e = absurd (true≢false e)

-- and one with threads runs it
pub runs_load : (command : Command) (size : ℕ) (only : Bool) (script : List ScriptWord) → command ≡ commands.Load size only script → needs_threads (Some command) ≡ true → command ≡ commands.Load size false script
runs_load command size only script same threads = same ∙ ap (λ (b : Bool). commands.Load size b script) (by_case only (ap (λ (c : Command). needs_threads (Some c)) (sym same) ∙ threads))
  where
    by_case : (b : Bool) → not b ≡ true → b ≡ false
    by_case true e = absurd (true≢false (sym e))
    by_case false e = refl

-- what is made of its size is what the command makes
pub load_makes : (command : Command) (size : ℕ) (only : Bool) (script : List ScriptWord) (bytes : List ℕ) (wanted : ℕ) (text : List ℕ) (ran : Option Ran) → command ≡ commands.Load size only script
    → ((system : System) → system ≡ workload size → MakesLoad only size system script wanted text ran) → Makes command bytes wanted text ran
load_makes command size only script bytes wanted text ran same m = subst (λ (c : Command). Makes c bytes wanted text ran) (sym same) (m (workload size) refl)

pub load_explains : (command : Command) (size : ℕ) (only : Bool) (script : List ScriptWord) (bytes : List ℕ) (wanted : ℕ) (why : Option Why) → command ≡ commands.Load size only script
    → ((system : System) → system ≡ workload size → ExplainsLoad system script wanted why) → Explains command bytes wanted why
load_explains command size only script bytes wanted why same m = subst (λ (c : Command). Explains c bytes wanted why) (sym same) (m (workload size) refl)

pub print_makes : (command : Command) (size : ℕ) (only : Bool) (script : List ScriptWord) (bytes : List ℕ) (wanted : ℕ) (text : List ℕ) → command ≡ commands.Load size only script
    → needs_threads (Some command) ≡ false → ((system : System) → system ≡ workload size → MakesLoad true size system script wanted text None) → Makes command bytes wanted text None
print_makes command size only script bytes wanted text same alone m =
    load_makes command size only script bytes wanted text None same
    (λ system is. subst (λ (o : Bool). MakesLoad o size system script wanted text None) (sym (only_prints command size only script same alone)) (m system is))

-- a reply of a run that was made, or of none
pub loads_make : (command : Command) (size : ℕ) (script : List ScriptWord) (bytes : List ℕ) (made : Result (Reply × Option Ran) NoMemory) → command ≡ commands.Load size false script
    → IfOk made (λ (r : Reply × Option Ran). (system : System) → system ≡ workload size → MakesLoad false size system script (r.0).status (r.0).text r.1)
    → IfOk made (λ (r : Reply × Option Ran). Makes command bytes (r.0).status (r.0).text r.1)
loads_make command size script bytes (Ok r) same m = load_makes command size false script bytes (r.0).status (r.0).text r.1 same m
loads_make command size script bytes (Err e) same m = tt

pub loads_explain : (command : Command) (size : ℕ) (script : List ScriptWord) (bytes : List ℕ) (made : Result (Reply × Option Ran) NoMemory) → command ≡ commands.Load size false script
    → IfOk made (λ (r : Reply × Option Ran). (system : System) → system ≡ workload size → ExplainsLoad system script (r.0).status (r.0).why)
    → IfOk made (λ (r : Reply × Option Ran). Explains command bytes (r.0).status (r.0).why)
loads_explain command size script bytes (Ok r) same m = load_explains command size false script bytes (r.0).status (r.0).why same m
loads_explain command size script bytes (Err e) same m = tt

pub load_noted : (command : Command) (size : ℕ) (only : Bool) (script : List ScriptWord) (bytes : List ℕ) (ran : Option Ran) (notes : Option (List ℕ)) → command ≡ commands.Load size only script
    → ((system : System) → system ≡ workload size → NotesRan [] system script ran notes) → Notes command bytes ran notes
load_noted command size only script bytes ran notes same m = subst (λ (c : Command). Notes c bytes ran notes) (sym same) (m (workload size) refl)

pub loads_noted : (command : Command) (size : ℕ) (script : List ScriptWord) (bytes : List ℕ) (made : Result (Reply × Option Ran) NoMemory) → command ≡ commands.Load size false script
    → IfOk made (λ (r : Reply × Option Ran). (system : System) → system ≡ workload size → NotesRan [] system script r.1 (r.0).notes)
    → IfOk made (λ (r : Reply × Option Ran). Notes command bytes r.1 (r.0).notes)
loads_noted command size script bytes (Ok r) same m = load_noted command size false script bytes r.1 (r.0).notes same m
loads_noted command size script bytes (Err e) same m = tt
