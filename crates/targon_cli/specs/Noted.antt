-- What is noted for a person beside why the program ended.
use Rattle.std.specs.Prelude.{ℕ, ◌≡◌, ◌⊎◌, Bool, List, [], ◌∷◌, Option, Some, None, Result, Ok, Err}
use Rattle.command_words.specs.Command.{command_of}
use Rattle.command_words.specs.declared.command.Command.{Command}
use Rattle.command_words.specs.declared.command.Command.TheVariants as commands
use Rattle.cert_sched.specs.declared.script.ScriptWord.{ScriptWord}
use Rattle.cluster_run.specs.declared.life.Ran.{Ran}
use Rattle.hints.specs.Said.{system_hint}
use Rattle.plain_kernel.specs.Apply.{plain_run}
use Rattle.plain_kernel.specs.Kernel.{Kernel}
use Rattle.plain_kernel.specs.Still.{IsDefaultRun}
use Rattle.plain_kernel.specs.declared.item.Item.{Item}
use Rattle.report_text.specs.declared.run.Run.{Run}
use Rattle.run_notes.specs.Note.{IsRunNote, traps_in}
use Rattle.sys_text.specs.Reading.{Answer, reading_of as system_reading, system_of_lines}
use Rattle.sys_text.specs.Refusal.{number_of_rule as system_rule}
use Rattle.sys_text.specs.declared.system.System.{System}
use Rattle.t32_base.specs.declared.streams.NoMemory.{NoMemory}
use Rattle.text_parts.specs.Lines.{lines_of}
use Rattle.word_faults.specs.Fault.{word_hint}
use Rattle.workload.specs.Ring.{workload}
use Rattle.targon_cli.specs.Answer.{In, Out, Takes, Says as Writes}
use Rattle.targon_cli.specs.Sections.{system_part, section_part, items_of_lines}
use Rattle.targon_cli.specs.declared.reply.Reply.{Reply}
use Rattle.targon_cli.specs.declared.runs.Read.{Read}
use Rattle.targon_cli.specs.declared.runs.Read.TheVariants.{System as AsSystem, Refused as AsRefused}

-- this is noted; or nothing, where memory was refused
abbrev pub MayNote : Option (List ℕ) → Option (List ℕ) → Type 0
MayNote whole notes = (notes ≡ whole) ⊎ (notes ≡ None)

-- the traps of a kernel to which these items lead are noted, or nothing
abbrev pub MayNoteTraps : List (List ℕ) → System → List Item → Kernel → Option (List ℕ) → Type 0
MayNoteTraps lines system items kernel notes = MayNote (Some (traps_in lines system items kernel)) notes

-- the words of a script that a run did not come to, and its traps, are noted, or nothing
abbrev pub MayNoteRun : List (List ℕ) → System → List ScriptWord → Run → Option (List ℕ) → Type 0
MayNoteRun lines system script r notes = ((note : List ℕ) × IsRunNote lines system script r note × (notes ≡ Some note)) ⊎ (notes ≡ None)

-- ---- what is noted of what a command makes

-- of a refused system text a hint
abbrev pub NotesSystem : Answer → List (List ℕ) → Option (List ℕ) → Type 0
NotesSystem (Ok system) lines notes = notes ≡ None
NotesSystem (Err refused) lines notes = MayNote (system_hint lines refused.0 (system_rule refused.1)) notes

-- of items that can be applied the traps
abbrev pub NotesItems : List (List ℕ) → System → List Item → Option (List ℕ) → Type 0
NotesItems lines system items notes = ((kernel : Kernel) × (plain_run system items ≡ Some kernel) × MayNoteTraps lines system items kernel notes) ⊎ (notes ≡ None)

abbrev pub NotesSection : List (List ℕ) → System → Result (List Item) ℕ → Option (List ℕ) → Type 0
NotesSection lines system (Ok items) notes = NotesItems lines system items notes
NotesSection lines system (Err index) notes = notes ≡ None

-- the same of the default schedule, whose items are not told
abbrev pub NotesRunBy : List (List ℕ) → System → (section : List (List ℕ)) → Option (List ℕ) → Type 0
NotesRunBy lines system [] notes = (kernel : Kernel) × IsDefaultRun system kernel × MayNoteTraps lines system [] kernel notes
NotesRunBy lines system (line ∷ rest) notes = NotesSection lines system (items_of_lines (line ∷ rest)) notes

abbrev pub NotesPlain : Answer → (lines section : List (List ℕ)) → Option (List ℕ) → Type 0
NotesPlain (Ok system) lines section notes = NotesRunBy lines system section notes
NotesPlain (Err refused) lines section notes = MayNote (system_hint lines refused.0 (system_rule refused.1)) notes

-- of a run that was made
abbrev pub NotesRan : List (List ℕ) → System → List ScriptWord → Option Ran → Option (List ℕ) → Type 0
NotesRan lines system script None notes = notes ≡ None
NotesRan lines system script (Some ran) notes = MayNoteRun lines system script ran.run notes

abbrev pub NotesRun : Answer → List ScriptWord → List (List ℕ) → Option Ran → Option (List ℕ) → Type 0
NotesRun (Ok system) script lines ran notes = NotesRan lines system script ran notes
NotesRun (Err refused) script lines ran notes = MayNote (system_hint lines refused.0 (system_rule refused.1)) notes

-- where no system was read that has the clusters of its script
abbrev pub NotesRead : Answer → List (List ℕ) → Read → Type 0
NotesRead reading lines (AsSystem shared) = Unit {0}
NotesRead reading lines (AsRefused reply) = NotesSystem reading lines reply.notes

abbrev pub Notes : Command → (bytes : List ℕ) → Option Ran → Option (List ℕ) → Type 0
Notes commands.Plain bytes ran notes = NotesPlain (system_of_lines (system_part (lines_of bytes))) (system_part (lines_of bytes)) (section_part (lines_of bytes)) notes
Notes commands.Check bytes ran notes = NotesSystem (system_reading bytes) (lines_of bytes) notes
Notes commands.Asm bytes ran notes = notes ≡ None
Notes (commands.Sim pick log script) bytes ran notes = NotesRun (system_reading bytes) script (lines_of bytes) ran notes
Notes (commands.Run log script) bytes ran notes = NotesRun (system_reading bytes) script (lines_of bytes) ran notes
Notes (commands.Load size only script) bytes ran notes = NotesRan [] (workload size) script ran notes

-- ---- what is noted in the end

-- of what was made and handed out; nothing where the output failed
abbrev pub HandsNotes : Result (Reply × Option Ran) NoMemory → Option Ran → Option (List ℕ) → Type 0
HandsNotes (Ok made) ran notes = (ran ≡ made.1) × MayNote (made.0).notes notes
HandsNotes (Err e) ran notes = notes ≡ None

-- of what a command made of what it took, or nothing
abbrev pub NotedEnd : Command → (old new : In) → (ended : Bool) → Option Ran → Option (List ℕ) → Type 0
NotedEnd command old new ended ran notes = ((bytes : List ℕ) × Takes command old new ended bytes × Notes command bytes ran notes) ⊎ (notes ≡ None)

-- the same where the words are this command; where they are none, the first of them that is wrong
abbrev pub NotedFound : List (List ℕ) → Option Command → (old new : In) → (ended : Bool) → Option Ran → Option (List ℕ) → Type 0
NotedFound words None old new ended ran notes = MayNote (word_hint words) notes
NotedFound words (Some command) old new ended ran notes = NotedEnd command old new ended ran notes

abbrev pub Noted : List (List ℕ) → (old new : In) → (ended : Bool) → Option Ran → Option (List ℕ) → Type 0
Noted words old new ended ran notes = NotedFound words (command_of words) old new ended ran notes

-- the notes were written behind what the sink held, or a front of them where it failed
abbrev pub TellsNotes : Option (List ℕ) → (before after : Out) → Type 0
TellsNotes None before after = after ≡ before
TellsNotes (Some text) before after = (status : ℕ) × Writes 0 text status before after
