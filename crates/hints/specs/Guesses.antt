-- What is guessed of a refused line by the block in which it stands and by its fields.
use Rattle.std.specs.Prelude.{ℕ, ◌+◌, ◌-◌, ◌==◌, ◌||◌, ◌&&◌, Bool, true, false, List, [], ◌∷◌, Option, Some, None, nat_lt, if◌then◌else◌}
use Rattle.std.specs.List.{list_any}
use Rattle.text_parts.specs.Lines.{fields_of}
use Rattle.sys_text.specs.Rules.{begins_comment}
use Rattle.refusal_text.specs.Lines.{line_at}
use Rattle.hints.specs.declared.blocks.Block.{Block}
use Rattle.hints.specs.declared.guesses.Guess.{Guess}
use Rattle.hints.specs.declared.guesses.Guess.TheVariants.{Comment, EndWithMore, InBlock, NoEnd, NoEndBefore}
use Rattle.sys_text.specs.declared.stage.Keyword.{Keyword}
use Rattle.sys_text.specs.declared.stage.Keyword.TheVariants as keywords
use Rattle.hints.specs.Blocks.{block_behind, keyword_of}
use Rattle.hints.specs.Kinds.{is_outside}

-- of a line in the block that opens at the header, by its first field
abbrev pub inside_by : (header : ℕ) → Option Keyword → Option Guess
inside_by header None = None
inside_by header (Some keywords.End) = Some EndWithMore
inside_by header (Some keyword) = if is_outside keyword then Some (InBlock header) else None

-- of a line in a block
abbrev pub inside : Option Block → Option (List ℕ) → Option Guess
inside None line = None
inside (Some block) None = None
inside (Some block) (Some line) = inside_by block.header (keyword_of (fields_of line))

-- a field of the line begins with `#`
abbrev pub comment_in : Option (List ℕ) → Option Guess
comment_in None = None
comment_in (Some line) = if list_any begins_comment (fields_of line) then Some Comment else None

-- a line that is no line of words and has a first field of a system text
abbrev pub suspects : Option Keyword → Bool
suspects None = false
suspects (Some keywords.Words) = false
suspects (Some keyword) = true

-- the first such line behind the header, where these lines follow so many
abbrev pub suspect_behind : (header count : ℕ) → List (List ℕ) → Option ℕ
suspect_behind header count [] = None
suspect_behind header count (line ∷ lines) = if nat_lt header (count + 1) && suspects (keyword_of (fields_of line)) then Some (count + 1) else suspect_behind header (count + 1) lines

abbrev pub unended_by : (header : ℕ) → Option ℕ → Guess
unended_by header None = NoEnd header
unended_by header (Some line) = NoEndBefore header line

-- of a text that ends in a block
abbrev pub unended : List (List ℕ) → Option Block → Option Guess
unended lines None = None
unended lines (Some block) = Some (unended_by block.header (suspect_behind block.header 0 lines))

-- of the line with this number, which is refused by this rule
abbrev pub guess_of : List (List ℕ) → (line rule : ℕ) → Option Guess
guess_of lines line rule =
    if rule == 2 || rule == 9 then inside (block_behind lines (line - 1)) (line_at lines line)
    else if rule == 3 || rule == 4 then comment_in (line_at lines line)
    else if rule == 10 then unended lines (block_behind lines line)
    else None
