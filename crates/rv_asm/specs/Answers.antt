-- What the assembler answers.
use Rattle.std.specs.Prelude.{◌≡◌, ℕ, List, Option, Some, None, Result, Ok, Err}
use Rattle.rv_asm.specs.declared.refusal.AsmRefused.{AsmRefused}
use Rattle.rv_asm.specs.declared.refusal.AsmRefused.TheVariants as refusals
use Rattle.rv_asm.specs.declared.refusal.Rule.{Rule}
use Rattle.rv_asm.specs.Refusal.{number_of_rule}

-- the words of the text, or the line and the rule that are named; nothing is said of want of memory
abbrev pub Refuses : AsmRefused → Result (List ℕ) (ℕ × Rule) → Type 0
Refuses (refusals.Line line rule) reading = (broken : Rule) × (reading ≡ Err (line, broken)) × (rule ≡ number_of_rule broken)
Refuses refusals.NoMemory reading = Unit {0}

abbrev pub Answers : Result (List ℕ) AsmRefused → Result (List ℕ) (ℕ × Rule) → Type 0
Answers (Ok words) reading = reading ≡ Ok words
Answers (Err refused) reading = Refuses refused reading

-- the same of one line with this number, which breaks this rule or no rule, and of the words before and after it
abbrev pub RefusesLine : AsmRefused → ℕ → Option Rule → Type 0
RefusesLine (refusals.Line line rule) number broken = (b : Rule) × (broken ≡ Some b) × (line ≡ number) × (rule ≡ number_of_rule b)
RefusesLine refusals.NoMemory number broken = Unit {0}

abbrev pub LineAnswers : Result (Unit {0}) AsmRefused → ℕ → Option Rule → Type 0
LineAnswers (Ok done) number broken = broken ≡ None
LineAnswers (Err refused) number broken = RefusesLine refused number broken
