-- The line of an assembler block from which a word of its image comes.
use Rattle.std.specs.Prelude.{ℕ, ◌+◌, ◌-◌, ◌==◌, Bool, false, not, List, [], ◌∷◌, length, codes, Option, Some, None, Result, Ok, Err, nat_lt, nat_le, if◌then◌else◌}
use Rattle.std.specs.List.{slice_get}
use Rattle.std.specs.Str.{bytes_eq}
use Rattle.text_parts.specs.Lines.{before, fields_of, from, is_empty, is_space, trim_start}
use Rattle.rv_asm.specs.Program.{reading_of}
use Rattle.rv_asm.specs.declared.refusal.Rule.{Rule}
use Rattle.sys_text.specs.Reading.{is_end}
use Rattle.hints.specs.declared.blocks.Block.{Block}
use Rattle.hints.specs.Blocks.{keyword_of, opened, with_line}

-- the block that the line with this number opens, where it stands in none
abbrev pub begun : Option Block → (number : ℕ) → List ℕ → Option Block
begun None number line = opened number (keyword_of (fields_of line))
begun (Some block) number line = None

abbrev pub with_begun : Option Block → List Block → List Block
with_begun None blocks = blocks
with_begun (Some block) blocks = block ∷ blocks

-- the blocks that these lines open, which follow so many others with this block open behind them
abbrev pub blocks_from : Option Block → (number : ℕ) → List (List ℕ) → List Block
blocks_from around number [] = []
blocks_from around number (line ∷ lines) = with_begun (begun around (number + 1) line) (blocks_from (with_line around (number + 1) line) (number + 1) lines)

-- the block of the image with this index
abbrev pub block_with : List (List ℕ) → (image : ℕ) → Option Block
block_with lines image = slice_get (blocks_from None 0 lines) image

abbrev pub is_colon : ℕ → Bool
is_colon b = b == 58

abbrev pub has_space : List ℕ → Bool
has_space label = not (is_empty (from is_space label))

-- behind the colon, where no space stands before it
abbrev pub behind_colon : (text label rest : List ℕ) → List ℕ
behind_colon text label [] = text
behind_colon text label (colon ∷ statement) = if has_space label then text else statement

-- what stands behind the label of a line
abbrev pub statement_in : List ℕ → List ℕ
statement_in line = behind_colon (trim_start line) (before is_colon (trim_start line)) (from is_colon (trim_start line))

abbrev pub is_la : List (List ℕ) → Bool
is_la [] = false
is_la (word ∷ fields) = bytes_eq word (codes "la")

-- the statement is `la`, which makes two words
abbrev pub names_address : List ℕ → Bool
names_address line = is_la (fields_of (statement_in line))

abbrev pub size_with_label : List ℕ → ℕ
size_with_label line = if names_address line then 2 else 1

-- by what the assembler makes of the line alone: it refuses one that names a label
abbrev pub size_by : List ℕ → Result (List ℕ) (ℕ × Rule) → ℕ
size_by line (Ok words) = length words
size_by line (Err refused) = size_with_label line

-- how many words a line makes
abbrev pub size_of : List ℕ → ℕ
size_of line = size_by line (reading_of line)

-- The line that makes the word after so many, in the block that the line with the number header opens. These lines follow so many others, and the block ends at the first line
-- behind its header whose only field is `end`.
abbrev pub word_line : (header number left : ℕ) → List (List ℕ) → Option ℕ
word_line header number left [] = None
word_line header number left (line ∷ lines) =
    if nat_le (number + 1) header then word_line header (number + 1) left lines
    else if is_end (fields_of line) then None
    else if nat_lt left (size_of line) then Some (number + 1)
    else word_line header (number + 1) (left - size_of line) lines

abbrev pub line_in : List (List ℕ) → (word : ℕ) → Option Block → Option ℕ
line_in lines word None = None
line_in lines word (Some block) = if block.asm then word_line block.header 0 word lines else None

-- the line of an `asm` block that makes this word of this image, which are counted from 0
abbrev pub asm_line : List (List ℕ) → (image word : ℕ) → Option ℕ
asm_line lines image word = line_in lines word (block_with lines image)
