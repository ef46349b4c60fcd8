-- What the reader answers.
use Rattle.std.specs.Prelude.{◌≡◌, ◌<◌, ℕ, ◌+◌, ◌^◌, ◌==◌, Bool, true, false, if◌then◌else◌, List, [], Result, Ok, Err}
use Rattle.sys_text.specs.declared.refusal.Rule.{Rule}
use Rattle.sys_text.specs.Refusal.{number_of_rule}
use Rattle.rv_asm.specs.declared.refusal.AsmRefused.{AsmRefused}
use Rattle.rv_asm.specs.declared.refusal.AsmRefused.TheVariants as asm_refusals
use Rattle.sys_text.specs.declared.refusal.SystemRefused.{SystemRefused}
use Rattle.sys_text.specs.declared.refusal.SystemRefused.TheVariants as refusals
use Rattle.sys_text.specs.declared.system.System.{System}
use Rattle.sys_text.specs.declared.state.State.{State}
use Rattle.sys_text.specs.Reading.{Answer, Step, Goes, Refuses, Outside, InBlock, reading_from}
use Rattle.text_parts.specs.Lines.{lines_of}
use denote.Ref.{Bor}

-- the line and the rule that are named; nothing is said of want of memory
abbrev pub IsRefusal : SystemRefused → Answer → Type 0
IsRefusal (refusals.BadLine line rule) reading = (broken : Rule) × (reading ≡ Err (line, broken)) × (rule ≡ number_of_rule broken)
IsRefusal refusals.NoMemory reading = Unit {0}

-- the system of the text, or the line and the rule that are named
abbrev pub Answers : Result System SystemRefused → Answer → Type 0
Answers (Ok system) reading = reading ≡ Ok system
Answers (Err refused) reading = IsRefusal refused reading

-- ---- the parts of the reader

-- the step that a line leads to is this refusal
abbrev pub RefusesStep : SystemRefused → Step → Type 0
RefusesStep (refusals.BadLine line rule) step = (broken : Rule) × (step ≡ Refuses line broken) × (rule ≡ number_of_rule broken)
RefusesStep refusals.NoMemory step = Unit {0}

-- line n was kept outside blocks, opened a block, or was refused
abbrev pub TakesLine : Result Bool SystemRefused → State → ℕ → Step → Type 0
TakesLine (Ok false) state n step = step ≡ Goes (Outside state)
TakesLine (Ok true) state n step = step ≡ Goes (InBlock state n [])
TakesLine (Err refused) state n step = RefusesStep refused step

-- a line that the assembler refuses, in the numbers of the whole text and by its rules
abbrev pub RefusesBlock : SystemRefused → (header : ℕ) → AsmRefused → Type 0
RefusesBlock refusals.NoMemory header refused = Unit {0}
RefusesBlock (refusals.BadLine line rule) header (asm_refusals.Line asm_line asm_rule) = (line ≡ header + asm_line) × (rule ≡ (if asm_rule == 1 then 1 else 9))
RefusesBlock (refusals.BadLine line rule) header asm_refusals.NoMemory = ⊥

-- the number of that line has 64 bits
abbrev pub IsCounted : (header : ℕ) → AsmRefused → Type 0
IsCounted header (asm_refusals.Line line rule) = header + line < 2 ^ 64
IsCounted header asm_refusals.NoMemory = Unit {0}

-- the end of a block was taken, or a line of it was refused
abbrev pub ClosesBlock : Result (Unit {0}) SystemRefused → State → Step → Type 0
ClosesBlock (Ok done) state step = step ≡ Goes (Outside state)
ClosesBlock (Err refused) state step = RefusesStep refused step

-- the lines up to a number were taken, outside blocks and through one, and a rest of the text is left
abbrev pub TakesLines : Result (ℕ × Bor (List ℕ)) SystemRefused → State → Answer → Type 0
TakesLines (Ok after) state reading = reading ≡ reading_from (Outside state) after.0 (lines_of after.1.now)
TakesLines (Err refused) state reading = IsRefusal refused reading
