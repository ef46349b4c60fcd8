-- What the program answers: its status, what it wrote, what it took of its input, and the run of `sim`, `run` or `load`.
use Rattle.std.specs.Prelude.{ℕ, ◌≡◌, ◌≤◌, ◌<◌, ◌⊎◌, Bool, true, false, List, length, take, codes, Option, Some, None, is_some, Result, Ok, Err}
use Rattle.std.specs.Io.KnownBytes.{Consumes, Keeps, Appends}
use Rattle.t32_base.specs.Streams.{Rose}
use Rattle.t32_base.specs.declared.streams.NoMemory.{NoMemory}
use Rattle.command_words.specs.Command.{command_of}
use Rattle.command_words.specs.declared.command.Command.{Command}
use Rattle.targon_cli.specs.declared.reply.Reply.{Reply}
use Rattle.targon_cli.specs.Commands.{makes_run, reads_input}
use Rattle.cluster_run.specs.declared.life.Ran.{Ran}
use Rattle.targon_cli.specs.Reply.{Makes, usage_line}

-- the most bytes that are read
abbrev pub input_limit : ℕ
input_limit = 4194304

abbrev pub read_fault_line : List ℕ
read_fault_line = codes "t32: read fault\n"

abbrev pub too_long_line : List ℕ
too_long_line = codes "t32: input too long\n"

-- what a sink holds and how often it has failed; what a source has left and how often it has failed
pub record Out : Type 0 where
  pub holds : Option (List ℕ)
  pub faults : ℕ

pub record In : Type 0 where
  pub left : Option (List ℕ)
  pub faults : ℕ

-- some front of the text was put after what the sink held
abbrev pub AppendsPart : Option (List ℕ) → Option (List ℕ) → List ℕ → Type 0
AppendsPart old new text = (n : ℕ) × Appends old new (take n text)

-- The whole text was written, under this status. Or the sink failed: then it is 5, and a front of the text was written.
pub data Says (wanted : ℕ) (text : List ℕ) (status : ℕ) (old new : Out) : Type 0 where
  Wrote : status ≡ wanted → Appends old.holds new.holds text → Says wanted text status old new
  WriteFault : status ≡ 5 → Rose old.faults new.faults → AppendsPart old.holds new.holds text → Says wanted text status old new

-- these bytes are all that a source has left, where it tells
abbrev pub IsAll : Option (List ℕ) → List ℕ → Type 0
IsAll None bytes = Unit {0}
IsAll (Some left) bytes = left ≡ bytes

-- the bytes were taken, and they are all that the source had left, where it tells
pub record ReadsAll (old new : In) (ended : Bool) (bytes : List ℕ) : Type 0 where
  pub all : IsAll old.left bytes
  pub at_end : ended ≡ true
  pub within : length bytes ≤ input_limit

-- more bytes were taken than are read
pub record ReadsTooMany (old new : In) (bytes : List ℕ) : Type 0 where
  pub taken : Consumes old.left new.left bytes
  pub above : input_limit < length bytes

-- what a command took, where it reads the input: all of it
abbrev pub TakesBy : (reads : Bool) → (old new : In) → Bool → (bytes : List ℕ) → Type 0
TakesBy true old new ended bytes = ReadsAll old new ended bytes
TakesBy false old new ended bytes = new ≡ old

abbrev pub Takes : Command → (old new : In) → Bool → (bytes : List ℕ) → Type 0
Takes command old new ended bytes = TakesBy (reads_input (Some command)) old new ended bytes

-- what reads no input leaves it as it was
abbrev pub LeavesInput : Option Command → (old new : In) → Type 0
LeavesInput found old new = reads_input found ≡ false → new ≡ old

-- what a command answers, with the status, what was taken and written, and the run that is handed out
pub data Answers (command : Command) (status : ℕ) (old new : In) (ended : Bool) (before after : Out) (ran : Option Ran) : Type 0 where
  -- what it makes of the bytes that were read
  Replied : (bytes : List ℕ) (wanted : ℕ) (text : List ℕ) → Takes command old new ended bytes → Makes command bytes wanted text ran
      → Says wanted text status before after → Answers command status old new ended before after ran
  TooLong : (bytes : List ℕ) → reads_input (Some command) ≡ true → ReadsTooMany old new bytes → Says 8 too_long_line status before after → ran ≡ None
      → Answers command status old new ended before after ran
  ReadFault : reads_input (Some command) ≡ true → Rose old.faults new.faults → Says 4 read_fault_line status before after → ran ≡ None
      → Answers command status old new ended before after ran
  OutOfMemory : LeavesInput (Some command) old new → status ≡ 6 → Keeps before.holds after.holds → ran ≡ None → Answers command status old new ended before after ran

-- the input could not be read whole, and any command that reads it answers so
abbrev pub IsUnread : (status : ℕ) → (old new : In) → Bool → (before after : Out) → Type 0
IsUnread status old new ended before after = (command : Command) → reads_input (Some command) ≡ true → Answers command status old new ended before after None

-- what was made is written, and its run is handed out; or nothing could be made
abbrev pub HandsOut : Result (Reply × Option Ran) NoMemory → (status : ℕ) → (before after : Out) → Option Ran → Type 0
HandsOut (Ok made) status before after ran = Says (made.0).status (made.0).text status before after × (ran ≡ made.1)
HandsOut (Err e) status before after ran = (status ≡ 6) × Keeps before.holds after.holds × (ran ≡ None)

-- A command made this of what it took, under its status, and the whole text was written.
pub record IsReplied (words : List (List ℕ)) (status : ℕ) (old new : In) (ended : Bool) (before after : Out) (ran : Option Ran) : Type 0 where
  pub command : Command
  pub words_are : command_of words ≡ Some command
  pub bytes : List ℕ
  pub text : List ℕ
  pub read : Takes command old new ended bytes
  pub made : Makes command bytes status text ran
  pub written : Appends before.holds after.holds text

-- what a command makes of known bytes was written, under its status
pub record Completes (command : Command) (bytes : List ℕ) (status : ℕ) (before after : Out) (ran : Option Ran) : Type 0 where
  pub text : List ℕ
  pub made : Makes command bytes status text ran
  pub written : Appends before.holds after.holds text

-- a reply that tells of a run has the status 0 or 7
abbrev pub IsOfRun : ℕ → Type 0
IsOfRun status = (status ≡ 0) ⊎ (status ≡ 7)

-- A command made a run and its report of what it took, and a front of the report was written.
pub record IsCutOff (words : List (List ℕ)) (old new : In) (ended : Bool) (before after : Out) (ran : Option Ran) : Type 0 where
  pub command : Command
  pub words_are : command_of words ≡ Some command
  pub bytes : List ℕ
  pub text : List ℕ
  pub read : Takes command old new ended bytes
  pub wanted : ℕ
  pub of_run : IsOfRun wanted
  pub made : Makes command bytes wanted text ran
  pub written : AppendsPart before.holds after.holds text

-- these bytes are what a source has left for a command that reads it, and are no more than are read
abbrev pub Offers : Command → In → (bytes : List ℕ) → Type 0
Offers command old bytes = reads_input (Some command) ≡ true → (old.left ≡ Some bytes) × (length bytes ≤ input_limit)

-- the statuses of the program
abbrev pub IsStatus : ℕ → Type 0
IsStatus status = (status ≡ 0) ⊎ (status ≡ 1) ⊎ (status ≡ 2) ⊎ (status ≡ 3) ⊎ (status ≡ 4) ⊎ (status ≡ 5) ⊎ (status ≡ 6) ⊎ (status ≡ 7) ⊎ (status ≡ 8)

-- What is answered where the words are this command, or no command.
abbrev pub AnswersFound : Option Command → (status : ℕ) → (old new : In) → (ended : Bool) → (before after : Out) → Option Ran → Type 0
AnswersFound None status old new ended before after ran = Says 1 usage_line status before after × (ran ≡ None) × (new ≡ old)
AnswersFound (Some command) status old new ended before after ran = Answers command status old new ended before after ran

-- The words are no command. That is said; or memory was refused while they were read, and nothing was written.
abbrev pub SaysUsage : (status : ℕ) → (before after : Out) → Type 0
SaysUsage status before after = Says 1 usage_line status before after ⊎ ((status ≡ 6) × Keeps before.holds after.holds)

-- What the top call answers. Want of memory, 6, is the one status without a cause.
pub record Answered (words : List (List ℕ)) (status : ℕ) (old new : In) (ended : Bool) (before after : Out) (ran : Option Ran) : Type 0 where
  -- the words are no command
  pub usage : command_of words ≡ None → SaysUsage status before after
  -- words by which no input is read leave it as it was
  pub left : LeavesInput (command_of words) old new
  -- the words are one
  pub command : (command : Command) → command_of words ≡ Some command → Answers command status old new ended before after ran
  -- each status has its cause: 0 that a command was carried out, 7 that its run was ended by a loss that is not covered, 1 that the words are no command or name a cluster that the system
  -- lacks, and 2 and 3 that the command refuses its input
  pub status_0 : status ≡ 0 → IsReplied words status old new ended before after ran
  pub status_1 : status ≡ 1 → (command_of words ≡ None) ⊎ IsReplied words status old new ended before after ran
  pub status_2 : status ≡ 2 → IsReplied words status old new ended before after ran
  pub status_3 : status ≡ 3 → IsReplied words status old new ended before after ran
  pub status_4 : status ≡ 4 → Rose old.faults new.faults
  pub status_5 : status ≡ 5 → Rose before.faults after.faults
  pub status_7 : status ≡ 7 → IsReplied words status old new ended before after ran
  pub status_8 : status ≡ 8 → (bytes : List ℕ) × ReadsTooMany old new bytes
  pub no_other : IsStatus status
  -- where neither side fails, what a command makes of its input is written, unless memory is refused
  pub complete : (command : Command) → command_of words ≡ Some command → (Rose old.faults new.faults → ⊥) → (Rose before.faults after.faults → ⊥)
      → (bytes : List ℕ) → Offers command old bytes → Completes command bytes status before after ran ⊎ (status ≡ 6)
  -- a run is handed out exactly where all was done and it was `sim`, `run` or `load` without `--text` that did it, and besides at most where a front of its report was written
  pub ran_0 : status ≡ 0 → is_some ran ≡ makes_run (command_of words)
  pub ran_7 : status ≡ 7 → is_some ran ≡ true
  pub ran_5 : status ≡ 5 → is_some ran ≡ true → IsCutOff words old new ended before after ran
  pub no_run : (status ≡ 0 → ⊥) → (status ≡ 5 → ⊥) → (status ≡ 7 → ⊥) → ran ≡ None
