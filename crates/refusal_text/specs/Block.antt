-- The assembler block in which a line stands, and the rule of the assembler that the line breaks.
use Rattle.std.specs.Prelude.{ℕ, zero, suc, ◌+◌, ◌-◌, ◌==◌, Bool, false, if◌then◌else◌, List, [], ◌∷◌, take, drop, codes, Option, Some, None, Result, Ok, Err}
use Rattle.std.specs.Str.{bytes_eq}
use Rattle.text_parts.specs.Lines.{fields_of}
use Rattle.rv_asm.specs.Program.{reading_of_lines}
use Rattle.rv_asm.specs.Refusal.{number_of_rule}
use Rattle.rv_asm.specs.declared.refusal.Rule.{Rule}
use Rattle.sys_text.specs.Reading.{is_end}

-- the first field of the line is `asm`
abbrev pub has_asm : List (List ℕ) → Bool
has_asm [] = false
has_asm (field ∷ fields) = bytes_eq field (codes "asm")

abbrev pub opens_block : List ℕ → Bool
opens_block line = has_asm (fields_of line)

-- The number of the last line that opens an assembler block, of the first so many of these lines. They follow `count` others, of which that is `header`.
abbrev pub header_after : (header count : ℕ) → (left : ℕ) → List (List ℕ) → ℕ
header_after header count zero lines = header
header_after header count (suc left) [] = header
header_after header count (suc left) (line ∷ lines) = header_after (if opens_block line then count + 1 else header) (count + 1) left lines

-- the same of all lines before the line with this number; 0 where none opens a block
abbrev pub header_before : List (List ℕ) → (number : ℕ) → ℕ
header_before lines number = header_after 0 0 (number - 1) lines

-- how many lines stand before the first whose only field is `end`; all, where there is none
abbrev pub block_size : List (List ℕ) → ℕ
block_size [] = 0
block_size (line ∷ lines) = if is_end (fields_of line) then 0 else block_size lines + 1

abbrev pub block_of : List (List ℕ) → List (List ℕ)
block_of lines = take (block_size lines) lines

-- the assembler's rule, where it is this line that it refuses
abbrev pub rule_at : (number : ℕ) → Result (List ℕ) (ℕ × Rule) → Option ℕ
rule_at number (Ok words) = None
rule_at number (Err refused) = if refused.0 == number then Some (number_of_rule refused.1) else None

-- The rule of the assembler behind rule 9 of a system text: the lines behind the last `asm` before the line, up to their `end`, are assembled together, and the assembler
-- refuses this line by the rule.
abbrev pub inner_rule : List (List ℕ) → (number : ℕ) → Option ℕ
inner_rule lines number = rule_at (number - header_before lines number) (reading_of_lines (block_of (drop (header_before lines number) lines)))
