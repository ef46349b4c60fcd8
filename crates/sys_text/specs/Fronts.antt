-- What a line outside assembler blocks begins with.
use Rattle.std.specs.Prelude.{◌≡◌, ℕ, true, false, List, Some, None}
use Rattle.text_parts.specs.Lines.{fields_of}
use Rattle.sys_text.specs.declared.stage.Keyword.{Keyword}
use Rattle.sys_text.specs.declared.state.State.{State}
use Rattle.sys_text.specs.declared.rules.Front.{Front}
use Rattle.sys_text.specs.declared.rules.Front.TheVariants as fronts
use Rattle.sys_text.specs.Rules.{may_stand, broken_by, lowest_with, add}
use Rattle.sys_text.specs.Reading.{kept, is_asm}

-- the keyword may stand here, the rules of the line are those of its keyword and these fields after it, and so is what it adds
pub record Starts (state : State) (line : List ℕ) (keyword : Keyword) (fields : List (List ℕ)) : Type 0 where
  pub stands : may_stand state.stage keyword ≡ true
  pub broken : broken_by state line ≡ lowest_with state keyword fields
  pub kept : kept state (fields_of line) ≡ (add state keyword fields, is_asm keyword)

-- the line is refused by its bytes or its first field, is skipped, or has a keyword that may stand here
abbrev pub IsFront : State → List ℕ → Front → Type 0
IsFront state line (fronts.Refused rule) = broken_by state line ≡ Some rule
IsFront state line fronts.Skipped = (broken_by state line ≡ None) × (kept state (fields_of line) ≡ (state, false))
IsFront state line (fronts.Known keyword text) = Starts state line keyword (fields_of text.now)
