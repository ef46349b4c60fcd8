-- A system text, line by line.
use Rattle.std.specs.Prelude.{ℕ, ◌==◌, ◌+◌, Bool, true, false, List, [], ◌∷◌, ◌++◌, length, Option, Some, None, Result, Ok, Err, codes, if◌then◌else◌}
use Rattle.std.specs.Option.{option_map}
use Rattle.std.specs.Str.{bytes_eq}
use Rattle.text_parts.specs.Lines.{are_printable, lines_of, fields_of}
use Rattle.rv_asm.specs.Program.{reading_of_lines}
use Rattle.rv_asm.specs.declared.refusal.Rule.{Rule as AsmRule}
use Rattle.rv_asm.specs.declared.refusal.Rule.TheVariants as asm_rules
use Rattle.sys_text.specs.declared.stage.Keyword.{Keyword}
use Rattle.sys_text.specs.declared.stage.Keyword.TheVariants as keywords
use Rattle.sys_text.specs.declared.stage.Stage.{Stage}
use Rattle.sys_text.specs.declared.stage.Stage.TheVariants.{Start, Roots, Chans}
use Rattle.sys_text.specs.declared.refusal.Rule.{Rule}
use Rattle.sys_text.specs.declared.refusal.Rule.TheVariants.{ForeignByte, Room, Assembler, Ended, Elf}
use Rattle.sys_text.specs.declared.system.System.{System}
use Rattle.sys_text.specs.declared.state.State.{State}
use Rattle.sys_text.specs.Rules.{keyword_in, first_of, rest_of, is_skipped, broken_by, add, closed_with, fit_open}

-- the system, or the line that is refused and the rule that is named
abbrev pub Answer : Type 0
Answer = Result System (ℕ × Rule)

-- before the first line
abbrev pub nothing_yet : State
nothing_yet = record { stage = Start; system = record { clusters = 0; pager = (record { 0 = 0 }, record { 0 = 0 }); syncreads = 0; syncsteps = 0; images = []; roots = []; chans = [] }; block = None; file = None }

-- ---- the end of an assembler block, and of the text

-- where the lines of a block are refused, the rule on foreign bytes is the lower one
abbrev pub rule_in_block : AsmRule → Rule
rule_in_block asm_rules.ForeignByte = ForeignByte
rule_in_block rule = Assembler

-- an assembler block ends at the first line whose only field is `end`
abbrev pub is_end : List (List ℕ) → Bool
is_end [] = false
is_end (field ∷ []) = bytes_eq field (codes "end")
is_end (field ∷ next ∷ fields) = false

-- the last line of a text of n lines
abbrev pub last_line : ℕ → ℕ
last_line n = if n == 0 then 1 else n

-- a text may end after a root
abbrev pub may_end : Stage → Bool
may_end Roots = true
may_end Chans = true
may_end stage = false

-- the system of a text of n lines that ends outside blocks, or rule 10
abbrev pub ended : Stage → System → ℕ → Answer
ended stage system n = if may_end stage then Ok system else Err (last_line n, Ended)

-- the text ends inside a block, after these lines that follow n others
abbrev pub ended_in_block : ℕ → List (List ℕ) → Answer
ended_in_block n [] = Err (n, Ended)
ended_in_block n (line ∷ lines) = if are_printable line then ended_in_block (n + 1) lines else Err (n + 1, ForeignByte)

-- ---- a line

-- where the reading stands: outside assembler blocks, or in one with the number of its line `asm` and its lines so far
pub data Place : Type 0 where
  Outside : (state : State) → Place
  InBlock : (state : State) (header : ℕ) (block : List (List ℕ)) → Place

-- what a line leads to
pub data Step : Type 0 where
  Goes : (place : Place) → Step
  Refuses : (line : ℕ) (rule : Rule) → Step

-- line n ends a block, of which the assembler gives the words or refuses a line, counted from 1 behind the header
abbrev pub close_block : State → (header n : ℕ) → Result (List ℕ) (ℕ × AsmRule) → Step
close_block state header n (Err refused) = Refuses (header + refused.0) (rule_in_block refused.1)
close_block state header n (Ok words) = if fit_open state.block (length words) then Goes (Outside (closed_with state words)) else Refuses n Room

-- the line opens an assembler block
abbrev pub is_asm : Keyword → Bool
is_asm keywords.Asm = true
is_asm keyword = false

-- the state after a line that breaks no rule, and whether the line opens an assembler block
abbrev pub kept_with : State → List (List ℕ) → Option Keyword → State × Bool
kept_with state fields None = (state, false)
kept_with state fields (Some keyword) = (add state keyword fields, is_asm keyword)

-- the same of any line that breaks no rule: one that is skipped adds nothing
abbrev pub kept : State → List (List ℕ) → State × Bool
kept state fields = if is_skipped fields then (state, false) else kept_with state (rest_of fields) (keyword_in state.stage (first_of fields))

-- line n, which breaks no rule, leads to this place
abbrev pub kept_line : (n : ℕ) → State × Bool → Step
kept_line n after = if after.1 then Goes (InBlock after.0 n []) else Goes (Outside after.0)

-- line n is refused by the rule, or kept
abbrev pub line_or_rule : State → (n : ℕ) → List ℕ → Option Rule → Step
line_or_rule state n line None = kept_line n (kept state (fields_of line))
line_or_rule state n line (Some rule) = Refuses n rule

-- line n, outside assembler blocks
abbrev pub step_outside : State → ℕ → List ℕ → Step
step_outside state n line = line_or_rule state n line (broken_by state line)

-- line n
abbrev pub step : Place → ℕ → List ℕ → Step
step (Outside state) n line = step_outside state n line
step (InBlock state header block) n line = if is_end (fields_of line) then close_block state header n (reading_of_lines block) else Goes (InBlock state header (block ++ line ∷ []))

-- ---- a text

-- the text ends after n lines
abbrev pub at_end : Place → ℕ → Answer
at_end (Outside state) n = ended state.stage state.system n
at_end (InBlock state header block) n = ended_in_block header block

-- the rule that is named of a refused line before these: the end of the block of a file breaks rule 10 as well, where it is the last line
abbrev pub named : Rule → (after : List (List ℕ)) → Rule
named (Elf rule) [] = Ended
named rule after = rule

-- the answer of a step before these lines, and what follows it
abbrev pub goes_on : Step → (after : List (List ℕ)) → (Place → Answer) → Answer
goes_on (Goes next) after rest = rest next
goes_on (Refuses line rule) after rest = Err (line, named rule after)

-- the lines after n others
abbrev pub reading_from : Place → ℕ → List (List ℕ) → Answer
reading_from place n [] = at_end place n
reading_from place n (line ∷ lines) = goes_on (step place (n + 1) line) lines (λ next. reading_from next (n + 1) lines)

-- the system of lines, or the first that breaks a rule and the lowest such rule
unfoldable pub system_of_lines : List (List ℕ) → Answer
system_of_lines lines = reading_from (Outside nothing_yet) 0 lines

-- the system of a text, or the first line that breaks a rule and the lowest such rule
abbrev pub reading_of : List ℕ → Answer
reading_of text = system_of_lines (lines_of text)

-- ---- how many lines an assembler block has, if it ends

-- None where no line is the end
abbrev pub lines_before_end : List (List ℕ) → Option ℕ
lines_before_end [] = None
lines_before_end (line ∷ lines) = if is_end (fields_of line) then Some 0 else option_map (λ n. n + 1) (lines_before_end lines)
