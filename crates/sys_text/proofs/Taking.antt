-- A line that breaks no rule keeps what the rules keep.
use Rattle.std.proofs.Common.{◌≡◌, ℕ, Bool, true, false, List, ◌∷◌, Option, Some, None, refl, ap}
use Rattle.std.specs.List.{find}
use Rattle.text_parts.specs.Lines.{fields_of}
use Rattle.sys_text.specs.declared.stage.Keyword.{Keyword}
use Rattle.sys_text.specs.declared.state.State.{State}
use Rattle.sys_text.specs.declared.refusal.Rule.TheVariants.{ForeignByte, Misplaced, FieldCount, FieldKind, Limit, Same, Name, Room}
use Rattle.sys_text.specs.Rules.{keyword_in, first_of, rest_of, is_skipped, breaks, broken_by, file_rules, lowest_with, HasRoom}
use Rattle.sys_text.specs.Reading.{kept}
use Rattle.sys_text.proofs.Keeping.{none_passes, room_kept}

own_rules : (state : State) (line : List ℕ) → broken_by state line ≡ None → find (breaks state line) (FieldCount ∷ FieldKind ∷ Limit ∷ Same ∷ Name ∷ Room ∷ file_rules) ≡ None
own_rules state line e =
    let s1 = (none_passes (breaks state line) ForeignByte (Misplaced ∷ FieldCount ∷ FieldKind ∷ Limit ∷ Same ∷ Name ∷ Room ∷ file_rules) e).1 in
    (none_passes (breaks state line) Misplaced (FieldCount ∷ FieldKind ∷ Limit ∷ Same ∷ Name ∷ Room ∷ file_rules) s1).1

pub lowest_none : (state : State) (line : List ℕ) (keyword : Keyword) → is_skipped (fields_of line) ≡ false → keyword_in state.stage (first_of (fields_of line)) ≡ Some keyword → broken_by state line ≡ None → lowest_with state keyword (rest_of (fields_of line)) ≡ None
lowest_none state line keyword skip key e = rw (skip, key) at (own_rules state line e)

line_keeps : (state : State) (line : List ℕ) → broken_by state line ≡ None → HasRoom state → HasRoom (kept state (fields_of line)).0
line_keeps state line e room = by_skip (is_skipped (fields_of line)) refl (keyword_in state.stage (first_of (fields_of line))) refl
  where
    by_skip : (b : Bool) → is_skipped (fields_of line) ≡ b → (o : Option Keyword) → keyword_in state.stage (first_of (fields_of line)) ≡ o → HasRoom (kept state (fields_of line)).0
    by_skip true skip o key = rw skip room
    by_skip false skip None key = rw (skip, key) room
    by_skip false skip (Some keyword) key = rw (skip, key) (room_kept state keyword (rest_of (fields_of line)) (lowest_none state line keyword skip key e) room)

pub taken_keeps : (state after : State) (line : List ℕ) (opens : Bool) → broken_by state line ≡ None → kept state (fields_of line) ≡ (after, opens) → HasRoom state → HasRoom after
taken_keeps state after line opens e is room = rw (← ap (λ (x : State × Bool). x.0) is) (line_keeps state line e room)
