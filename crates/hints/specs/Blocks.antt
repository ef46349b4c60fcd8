-- The blocks of a system text.
use Rattle.std.specs.Prelude.{ℕ, zero, suc, ◌+◌, true, false, List, [], ◌∷◌, Option, Some, None, if◌then◌else◌}
use Rattle.text_parts.specs.Lines.{fields_of}
use Rattle.text_parts.specs.Table.{lookup}
use Rattle.sys_text.specs.Reading.{is_end}
use Rattle.hints.specs.declared.blocks.Block.{Block}
use Rattle.sys_text.specs.declared.stage.Keyword.{Keyword}
use Rattle.sys_text.specs.declared.stage.Keyword.TheVariants as keywords
use Rattle.sys_text.specs.Kinds.{keywords_by_name}

-- what the first of these fields says
abbrev pub keyword_of : List (List ℕ) → Option Keyword
keyword_of [] = None
keyword_of (field ∷ fields) = lookup keywords_by_name field

-- the block that such a line opens
abbrev pub opened : (number : ℕ) → Option Keyword → Option Block
opened number (Some keywords.Image) = Some (record { header = number; asm = false })
opened number (Some keywords.Elf) = Some (record { header = number; asm = false })
opened number (Some keywords.Asm) = Some (record { header = number; asm = true })
opened number _ = None

-- the block that is open behind the line with this number: a block ends at the first line whose only field is `end`
abbrev pub with_line : Option Block → (number : ℕ) → List ℕ → Option Block
with_line None number line = opened number (keyword_of (fields_of line))
with_line (Some block) number line = if is_end (fields_of line) then None else Some block

-- the block that is open behind so many of these lines, which follow others with this block open behind them
abbrev pub block_after : Option Block → (number left : ℕ) → List (List ℕ) → Option Block
block_after before number zero lines = before
block_after before number (suc left) [] = before
block_after before number (suc left) (line ∷ lines) = block_after (with_line before (number + 1) line) (number + 1) left lines

abbrev pub block_behind : List (List ℕ) → (count : ℕ) → Option Block
block_behind lines count = block_after None 0 count lines
