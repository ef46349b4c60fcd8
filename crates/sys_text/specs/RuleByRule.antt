-- Which line is refused, rule by rule.
use Rattle.std.specs.Prelude.{◌≡◌, ℕ, zero, suc, ◌+◌, ◌<◌, ◌==◌, Bool, true, false, not, ◌&&◌, List, [], ◌∷◌, ◌++◌, length, Option, Some, None, Result, Ok, Err, if◌then◌else◌}
use Rattle.std.specs.Option.{option_map}
use Rattle.text_parts.specs.Lines.{are_printable, lines_of, fields_of}
use Rattle.rv_asm.specs.Program.{reading_of_lines}
use Rattle.rv_asm.specs.declared.refusal.Rule.{Rule as AsmRule}
use Rattle.sys_text.specs.declared.state.State.{State}
use Rattle.sys_text.specs.declared.system.Image.{Image}
use Rattle.sys_text.specs.declared.system.System.{System}
use Rattle.sys_text.specs.declared.refusal.Rule.{Rule}
use Rattle.sys_text.specs.declared.refusal.Rule.TheVariants.{ForeignByte, Room, Assembler, Ended}
use Rattle.sys_text.specs.declared.refusal.SystemRefused.{SystemRefused}
use Rattle.sys_text.specs.declared.refusal.SystemRefused.TheVariants as refusals
use Rattle.sys_text.specs.Refusal.{number_of_rule}
use Rattle.sys_text.specs.Rules.{breaks, closed_with, fit_open}
use Rattle.sys_text.specs.Reading.{Place, Outside, InBlock, nothing_yet, kept, is_end, may_end}

-- ---- where a line stands

-- the words that the assembler gives, none where it refuses a line
abbrev pub words_or_none : Result (List ℕ) (ℕ × AsmRule) → List ℕ
words_or_none (Ok words) = words
words_or_none (Err refused) = []

-- behind line n, which stands outside assembler blocks: in one where it opens one
abbrev pub place_with : (n : ℕ) → State × Bool → Place
place_with n after = if after.1 then InBlock after.0 n [] else Outside after.0

-- behind a line of an assembler block: outside where it is the block's end
abbrev pub place_in_block : State → (header : ℕ) → List (List ℕ) → (line : List ℕ) → Place
place_in_block state header block line = if is_end (fields_of line) then Outside (closed_with state (words_or_none (reading_of_lines block))) else InBlock state header (block ++ line ∷ [])

-- where the line behind line n stands
abbrev pub place_after : Place → (n : ℕ) → (line : List ℕ) → Place
place_after (Outside state) n line = place_with n (kept state (fields_of line))
place_after (InBlock state header block) n line = place_in_block state header block line

-- ---- the rules

-- the rules 2 to 7 and those for files are of lines outside assembler blocks, where `breaks` says each by itself
abbrev pub breaks_outside : Place → List ℕ → Rule → Bool
breaks_outside (Outside state) line rule = breaks state line rule
breaks_outside (InBlock state header block) line rule = false

-- the words of a block do not fit the pages of its image
abbrev pub overflows : Option Image → Result (List ℕ) (ℕ × AsmRule) → Bool
overflows block (Ok words) = not (fit_open block (length words))
overflows block (Err refused) = false

-- rule 8: of a line outside assembler blocks as `breaks` says, and of the end of a block whose words do not fit
abbrev pub lacks_room : Place → List ℕ → Bool
lacks_room (Outside state) line = breaks state line Room
lacks_room (InBlock state header block) line = is_end (fields_of line) && overflows state.block (reading_of_lines block)

-- the lines before the first end; None where no line is one
abbrev pub before_end : List (List ℕ) → Option (List (List ℕ))
before_end [] = None
before_end (line ∷ lines) = if is_end (fields_of line) then Some [] else option_map (λ rest. line ∷ rest) (before_end lines)

-- line n of the text is the one that the assembler refuses, where the line with the number header opens the block
abbrev pub refuses_line : (header n : ℕ) → Result (List ℕ) (ℕ × AsmRule) → Bool
refuses_line header n (Ok words) = false
refuses_line header n (Err refused) = header + refused.0 == n

-- the same of a block that has an end
abbrev pub refuses_in : (header n : ℕ) → Option (List (List ℕ)) → Bool
refuses_in header n None = false
refuses_in header n (Some block) = refuses_line header n (reading_of_lines block)

-- rule 9: line n, the first of these, stands in an assembler block that has an end, and the assembler refuses it
abbrev pub fails_to_assemble : Place → (n : ℕ) → List (List ℕ) → Bool
fails_to_assemble (Outside state) n lines = false
fails_to_assemble (InBlock state header block) n lines = refuses_in header n (option_map (λ rest. block ++ rest) (before_end lines))

-- a text may end outside assembler blocks, behind a root
abbrev pub may_end_at : Place → Bool
may_end_at (Outside state) = may_end state.stage
may_end_at (InBlock state header block) = false

-- rule 10: no line follows, and a text may not end here
abbrev pub ends_early : Place → List (List ℕ) → Bool
ends_early place [] = not (may_end_at place)
ends_early place (line ∷ lines) = false

-- line n breaks the rule, where it stands at this place and before these lines
abbrev pub breaks_line : Place → (n : ℕ) → (line : List ℕ) → (after : List (List ℕ)) → Rule → Bool
breaks_line place n line after ForeignByte = not (are_printable line)
breaks_line place n line after Room = lacks_room place line
breaks_line place n line after Assembler = fails_to_assemble place n (line ∷ after)
breaks_line place n line after Ended = ends_early (place_after place n line) after
breaks_line place n line after rule = breaks_outside place line rule

-- ---- the lines of a text

-- the line after i others breaks the rule, where the first of the lines stands at this place and follows n others
abbrev pub breaks_among : Place → (n : ℕ) → List (List ℕ) → ℕ → Rule → Bool
breaks_among place n [] i rule = false
breaks_among place n (line ∷ lines) zero rule = breaks_line place (n + 1) line lines rule
breaks_among place n (line ∷ lines) (suc i) rule = breaks_among (place_after place (n + 1) line) (n + 1) lines i rule

-- a text without lines counts as one empty line
abbrev pub one_or_more : List (List ℕ) → List (List ℕ)
one_or_more [] = [] ∷ []
one_or_more (line ∷ lines) = line ∷ lines

-- line i + 1 of the text breaks the rule
abbrev pub line_breaks : List ℕ → ℕ → Rule → Bool
line_breaks text i rule = breaks_among (Outside nothing_yet) 0 (one_or_more (lines_of text)) i rule

-- the refused line is the first one at which a rule is broken, and the lowest such rule is named
pub record IsFirstBroken (text : List ℕ) (line : ℕ) (rule : Rule) : Type 0 where
  pub before : ℕ
  pub number : line ≡ before + 1
  pub broken : line_breaks text before rule ≡ true
  pub lowest : (lower : Rule) → number_of_rule lower < number_of_rule rule → line_breaks text before lower ≡ false
  pub first : (i : ℕ) (other : Rule) → i < before → line_breaks text i other ≡ false

-- where the line behind these lines stands, of which the first stands at this place and follows n others
abbrev pub place_behind : Place → (n : ℕ) → List (List ℕ) → Place
place_behind place n [] = place
place_behind place n (line ∷ lines) = place_behind (place_after place (n + 1) line) (n + 1) lines

-- the system as far as it was read, outside assembler blocks
abbrev pub system_at : Place → Option System
system_at (Outside state) = Some state.system
system_at (InBlock state header block) = None

-- no line breaks a rule, and the system is what the lines say together
pub record IsSystemOf (text : List ℕ) (system : System) : Type 0 where
  pub kept : (i : ℕ) (rule : Rule) → line_breaks text i rule ≡ false
  pub system_is : system_at (place_behind (Outside nothing_yet) 0 (lines_of text)) ≡ Some system

-- what is refused is a line that breaks a rule
abbrev pub HasCause : List ℕ → SystemRefused → Type 0
HasCause text (refusals.BadLine line number) = (rule : Rule) × (number ≡ number_of_rule rule) × IsFirstBroken text line rule
HasCause text refusals.NoMemory = Unit {0}
