-- Why the program ended as it did, by its words and its input.
use Rattle.std.specs.Prelude.{ℕ, ◌≡◌, ◌⊎◌, Bool, true, false, List, [], ◌∷◌, Option, Some, None, is_some, Result, Ok, Err}
use Rattle.command_words.specs.Command.{command_of}
use Rattle.command_words.specs.declared.command.Command.{Command}
use Rattle.command_words.specs.declared.command.Command.TheVariants as commands
use Rattle.plain_kernel.specs.Answers.{BadAt}
use Rattle.plain_kernel.specs.Apply.{plain_run}
use Rattle.plain_kernel.specs.Kernel.{Kernel}
use Rattle.plain_kernel.specs.declared.item.Item.{Item}
use Rattle.refusal_text.specs.Why.{Says, system_why, asm_why, item_why, unreadable_why, why_of, text_of, headline}
use Rattle.refusal_text.specs.declared.why.ItemFault.TheVariants.{Inapplicable}
use Rattle.refusal_text.specs.declared.why.Why.{Why}
use Rattle.refusal_text.specs.declared.why.Why.TheVariants as whys
use Rattle.rv_asm.specs.Program.{reading_of as asm_reading}
use Rattle.rv_asm.specs.Refusal.{number_of_rule as asm_rule}
use Rattle.rv_asm.specs.declared.refusal.Rule.{Rule as AsmRule}
use Rattle.sys_text.specs.Reading.{Answer, reading_of as system_reading, system_of_lines}
use Rattle.sys_text.specs.Refusal.{number_of_rule as system_rule}
use Rattle.sys_text.specs.declared.system.System.{System}
use Rattle.cert_sched.specs.declared.script.ScriptWord.{ScriptWord}
use Rattle.text_parts.specs.Lines.{lines_of}
use Rattle.workload.specs.Ring.{workload}
use Rattle.targon_cli.specs.declared.runs.Read.{Read}
use Rattle.targon_cli.specs.declared.runs.Read.TheVariants.{System as AsSystem, Refused as AsRefused}
use Rattle.targon_cli.specs.declared.reply.Reply.{Reply}
use Rattle.t32_base.specs.declared.streams.NoMemory.{NoMemory}
use Rattle.cluster_run.specs.declared.life.Ran.{Ran}
use Rattle.targon_cli.specs.Answer.{In, Out, Takes, Says as Writes}
use Rattle.targon_cli.specs.Reply.{has_clusters_of}
use Rattle.targon_cli.specs.Sections.{system_part, section_part, items_of_lines}

-- this is said, or less of it
abbrev pub SaysSome : Why → Option Why → Type 0
SaysSome whole None = ⊥
SaysSome whole (Some why) = Says whole why

-- a system text is read, or the line and the rule of its refusal are told
abbrev pub ExplainsSystem : Answer → List (List ℕ) → (status : ℕ) → Option Why → Type 0
ExplainsSystem (Ok system) lines status why = (status ≡ 0) × (why ≡ None)
ExplainsSystem (Err refused) lines status why = (status ≡ 2) × SaysSome (system_why lines refused.0 (system_rule refused.1)) why

abbrev pub ExplainsAsm : Result (List ℕ) (ℕ × AsmRule) → List (List ℕ) → (status : ℕ) → Option Why → Type 0
ExplainsAsm (Ok words) lines status why = (status ≡ 0) × (why ≡ None)
ExplainsAsm (Err refused) lines status why = (status ≡ 2) × SaysSome (asm_why lines refused.0 (asm_rule refused.1)) why

-- a system has the clusters of the script; or it is told that it lacks one
abbrev pub ExplainsByScript : (has : Bool) → (status : ℕ) → Option Why → Type 0
ExplainsByScript true status why = ((status ≡ 0) ⊎ (status ≡ 7)) × (why ≡ None)
ExplainsByScript false status why = (status ≡ 1) × (why ≡ Some whys.NoCluster)

-- a text is read as a system that has the clusters of the script, or it is told why not
abbrev pub ExplainsRun : Answer → List ScriptWord → List (List ℕ) → (status : ℕ) → Option Why → Type 0
ExplainsRun (Ok system) script lines status why = ExplainsByScript (has_clusters_of script system) status why
ExplainsRun (Err refused) script lines status why = (status ≡ 2) × SaysSome (system_why lines refused.0 (system_rule refused.1)) why

-- where no such system was read, this is explained
abbrev pub ExplainsRead : Answer → List ScriptWord → List (List ℕ) → Read → Type 0
ExplainsRead reading script lines (AsSystem shared) = Unit {0}
ExplainsRead reading script lines (AsRefused reply) = ExplainsRun reading script lines reply.status reply.why

-- items are applied, or the first that cannot be is told
pub data ExplainsItems (system : System) (section : List (List ℕ)) (items : List Item) (status : ℕ) (why : Option Why) : Type 0 where
  AllApplied : (kernel : Kernel) → plain_run system items ≡ Some kernel → status ≡ 0 → why ≡ None → ExplainsItems system section items status why
  OneRefused : (index : ℕ) → BadAt system items index → status ≡ 3 → SaysSome (item_why section index Inapplicable) why → ExplainsItems system section items status why

-- they are read and applied, or the first that cannot be read is told, or that the section begins wrongly behind these lines
abbrev pub ExplainsSection : System → (lines section : List (List ℕ)) → Result (List Item) ℕ → (status : ℕ) → Option Why → Type 0
ExplainsSection system lines section (Ok items) status why = ExplainsItems system section items status why
ExplainsSection system lines section (Err index) status why = (status ≡ 3) × SaysSome (unreadable_why lines section index) why

-- a system runs by a section; without one nothing is refused
abbrev pub ExplainsRunBy : System → (lines section : List (List ℕ)) → (status : ℕ) → Option Why → Type 0
ExplainsRunBy system lines [] status why = (status ≡ 0) × (why ≡ None)
ExplainsRunBy system lines (line ∷ rest) status why = ExplainsSection system lines (line ∷ rest) (items_of_lines (line ∷ rest)) status why

abbrev pub ExplainsPlain : Answer → (lines section : List (List ℕ)) → (status : ℕ) → Option Why → Type 0
ExplainsPlain (Ok system) lines section status why = ExplainsRunBy system lines section status why
ExplainsPlain (Err refused) lines section status why = (status ≡ 2) × SaysSome (system_why lines refused.0 (system_rule refused.1)) why

-- a workload is printed or run, or it is told that it lacks a cluster of the script
abbrev pub ExplainsLoad : System → List ScriptWord → (status : ℕ) → Option Why → Type 0
ExplainsLoad system script status why = ExplainsByScript (has_clusters_of script system) status why

-- the status of what a command makes of these bytes, and what is told of it: nothing exactly where all was done
abbrev pub Explains : Command → (bytes : List ℕ) → (status : ℕ) → Option Why → Type 0
Explains commands.Plain bytes status why = ExplainsPlain (system_of_lines (system_part (lines_of bytes))) (system_part (lines_of bytes)) (section_part (lines_of bytes)) status why
Explains commands.Check bytes status why = ExplainsSystem (system_reading bytes) (lines_of bytes) status why
Explains commands.Asm bytes status why = ExplainsAsm (asm_reading bytes) (lines_of bytes) status why
Explains (commands.Sim pick log script) bytes status why = ExplainsRun (system_reading bytes) script (lines_of bytes) status why
Explains (commands.Run log script) bytes status why = ExplainsRun (system_reading bytes) script (lines_of bytes) status why
Explains (commands.Load size only script) bytes status why = ExplainsLoad (workload size) script status why

-- the status alone tells why
pub record IsByStatus (status : ℕ) (why : Option Why) : Type 0 where
  pub tells : is_some (why_of status) ≡ true
  pub told : why ≡ why_of status

-- what was made of the input tells why, and so does want of memory; or the output failed
abbrev pub HandsWhy : Result (Reply × Option Ran) NoMemory → (status : ℕ) → Option Why → Type 0
HandsWhy (Ok made) status why = ((status ≡ (made.0).status) × (why ≡ (made.0).why)) ⊎ IsByStatus status why
HandsWhy (Err e) status why = IsByStatus status why

-- a command ended so by what it made of its input, or the status alone tells why
pub data ExplainsEnd (command : Command) (status : ℕ) (old new : In) (ended : Bool) (why : Option Why) : Type 0 where
  ByInput : (bytes : List ℕ) → Takes command old new ended bytes → Explains command bytes status why → ExplainsEnd command status old new ended why
  ByStatus : IsByStatus status why → ExplainsEnd command status old new ended why

-- the same where the words are this command, or no command
abbrev pub ExplainsFound : Option Command → (status : ℕ) → (old new : In) → (ended : Bool) → Option Why → Type 0
ExplainsFound None status old new ended why = IsByStatus status why
ExplainsFound (Some command) status old new ended why = ExplainsEnd command status old new ended why

-- why the top call ended with its status
abbrev pub Explained : List (List ℕ) → (status : ℕ) → (old new : In) → (ended : Bool) → Option Why → Type 0
Explained words status old new ended why = ExplainsFound (command_of words) status old new ended why

-- what is said of it was written, whole or by its headline, or a front of that where the sink failed; nothing where there is nothing to say
abbrev pub TellsWhy : Option Why → (before after : Out) → Type 0
TellsWhy None before after = after ≡ before
TellsWhy (Some why) before after = (text : List ℕ) × ((text ≡ text_of why) ⊎ (text ≡ headline why)) × ((status : ℕ) × Writes 0 text status before after)
