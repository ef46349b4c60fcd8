-- What a line that breaks no rule keeps.
use Rattle.std.proofs.Common.{◌≡◌, ℕ, ◌+◌, ◌≤◌, Bool, true, false, not, leb, List, [], ◌∷◌, ◌++◌, Option, Some, None, Result, Ok, Err, refl, sym, ◌∙◌, arith}
use Rattle.std.specs.List.{find}
use Rattle.std.specs.Option.{option_map}
use Rattle.std.specs.Prelude.{is_some}
use Rattle.std.proofs.lemmas.Bool.{ltb-false}
use Rattle.std.proofs.lemmas.Bool.Decides.{nat_tests}
use Rattle.std.proofs.lemmas.List.{length_push}
use Rattle.std.proofs.lemmas.List.Sums.{sum_by_push}
use Rattle.sys_text.specs.declared.stage.Keyword.{Keyword}
use Rattle.sys_text.specs.declared.refusal.Rule.{Rule}
use Rattle.sys_text.specs.declared.refusal.Rule.TheVariants.{ForeignByte, Misplaced, FieldCount, FieldKind, Limit, Same, Name, Room, Assembler, Ended, Elf}
use Rattle.sys_text.specs.declared.line.RootFields.{RootFields}
use Rattle.sys_text.specs.declared.system.Image.{Image}
use Rattle.sys_text.specs.declared.system.Root.{Root}
use Rattle.sys_text.specs.declared.state.State.{State}
use Rattle.sys_text.specs.Valid.{is_within, births_of}
use Rattle.sys_text.specs.Line.{Line, line_of}
use Rattle.sys_text.specs.Line as lines
use Rattle.sys_text.specs.Rules.{image_named, places_with, keeps_limits, are_same, misnames, overfills, breaks_as, breaks_said, file_rules, lowest_of, lowest_of_file, lowest_with, root_of, with_root, image_with, add_line, add, HasRoom}

-- ---- each rule by itself

pub none_passes : (p : Rule → Bool) (x : Rule) (xs : List Rule) → find p (x ∷ xs) ≡ None → (p x ≡ false) × (find p xs ≡ None)
none_passes p x xs e = by_test (p x) refl
  where
    by_test : (b : Bool) → p x ≡ b → (p x ≡ false) × (find p xs ≡ None)
    by_test true h = let f = rw h at e in absurd cc
    by_test false h = (h, rw h at e)

-- the line breaks none of the rules 5 to 8
pub record KeepsRules (state : State) (line : Line) : Type 0 where
  pub limits : not (keeps_limits state.system.clusters line) ≡ false
  pub same : are_same line ≡ false
  pub name : misnames state.system line ≡ false
  pub room : overfills state line ≡ false

pub kept_rules : (state : State) (line : Line) → lowest_of state line ≡ None → KeepsRules state line
kept_rules state line e =
    let p = breaks_as state line in
    let s1 = none_passes p Limit (Same ∷ Name ∷ Room ∷ []) e in
    let s2 = none_passes p Same (Name ∷ Room ∷ []) s1.1 in
    let s3 = none_passes p Name (Room ∷ []) s2.1 in
    record { limits = s1.0; same = s2.0; name = s3.0; room = (none_passes p Room [] s3.1).0 }

-- the line breaks none of the rules 3 to 8, nor one for files
pub record Keeps (state : State) (keyword : Keyword) (fields : List (List ℕ)) : Type 0 where
  pub line : Line
  pub read : line_of keyword fields ≡ Ok line
  pub rules : KeepsRules state line
  pub file : lowest_of_file state line ≡ None

-- what is found in a list is found in the list with others behind it, and where nothing is, what these have
find_in_front : (p : Rule → Bool) (xs ys : List Rule) (r : Rule) → find p xs ≡ Some r → find p (xs ++ ys) ≡ Some r
find_in_front p [] ys r e = absurd cc
find_in_front p (x ∷ xs) ys r e = by_test (λ f. find_in_front p xs ys r f) (p x) refl
  where
    by_test : (find p xs ≡ Some r → find p (xs ++ ys) ≡ Some r) → (b : Bool) → p x ≡ b → find p (x ∷ (xs ++ ys)) ≡ Some r
    by_test next true h = let f = rw h at e in rw h f
    by_test next false h = let f = rw h at e in rw h (next f)

find_behind : (p : Rule → Bool) (xs ys : List Rule) → find p xs ≡ None → find p (xs ++ ys) ≡ find p ys
find_behind p [] ys e = refl
find_behind p (x ∷ xs) ys e = by_test (λ f. find_behind p xs ys f) (p x) refl
  where
    by_test : (find p xs ≡ None → find p (xs ++ ys) ≡ find p ys) → (b : Bool) → p x ≡ b → find p (x ∷ (xs ++ ys)) ≡ find p ys
    by_test next true h = let f = rw h at e in absurd cc
    by_test next false h = let f = rw h at e in rw h (next f)

-- the rules of a line that is read: 5 to 8, and behind them those for files
all_read : (state : State) (keyword : Keyword) (fields : List (List ℕ)) (line : Line) → line_of keyword fields ≡ Ok line
    → lowest_with state keyword fields ≡ find (breaks_as state line) ((Limit ∷ Same ∷ Name ∷ Room ∷ []) ++ file_rules)
all_read state keyword fields line e = rw e refl

pub lowest_read : (state : State) (keyword : Keyword) (fields : List (List ℕ)) (line : Line) (rule : Rule) → line_of keyword fields ≡ Ok line → lowest_of state line ≡ Some rule → lowest_with state keyword fields ≡ Some rule
lowest_read state keyword fields line rule e found = all_read state keyword fields line e ∙ find_in_front (breaks_as state line) (Limit ∷ Same ∷ Name ∷ Room ∷ []) file_rules rule found

pub lowest_file : (state : State) (keyword : Keyword) (fields : List (List ℕ)) (line : Line) → line_of keyword fields ≡ Ok line → lowest_of state line ≡ None → lowest_with state keyword fields ≡ lowest_of_file state line
lowest_file state keyword fields line e none = all_read state keyword fields line e ∙ find_behind (breaks_as state line) (Limit ∷ Same ∷ Name ∷ Room ∷ []) file_rules none

-- a line that is not read breaks rule 3 or 4
some_rule : (state : State) (broken : Rule) → find (breaks_said state (Err broken)) (FieldCount ∷ FieldKind ∷ Limit ∷ Same ∷ Name ∷ Room ∷ file_rules) ≡ None → ⊥
some_rule state ForeignByte e = absurd cc
some_rule state Misplaced e = absurd cc
some_rule state FieldCount e = absurd cc
some_rule state FieldKind e = absurd cc
some_rule state Limit e = absurd cc
some_rule state Same e = absurd cc
some_rule state Name e = absurd cc
some_rule state Room e = absurd cc
some_rule state Assembler e = absurd cc
some_rule state Ended e = absurd cc
some_rule state (Elf rule) e = absurd cc

pub keeps : (state : State) (keyword : Keyword) (fields : List (List ℕ)) → lowest_with state keyword fields ≡ None → Keeps state keyword fields
keeps state keyword fields e = by_read (line_of keyword fields) refl
  where
    by_read : (r : Result Line Rule) → line_of keyword fields ≡ r → Keeps state keyword fields
    by_read (Ok line) h =
        let p = breaks_as state line in
        let all : find p ((Limit ∷ Same ∷ Name ∷ Room ∷ []) ++ file_rules) ≡ None = sym (all_read state keyword fields line h) ∙ e in
        let s1 = none_passes p Limit (Same ∷ Name ∷ Room ∷ file_rules) all in
        let s2 = none_passes p Same (Name ∷ Room ∷ file_rules) s1.1 in
        let s3 = none_passes p Name (Room ∷ file_rules) s2.1 in
        let s4 = none_passes p Room file_rules s3.1 in
        record { line = line; read = h; rules = record { limits = s1.0; same = s2.0; name = s3.0; room = s4.0 }; file = s4.1 }
    by_read (Err broken) h = absurd (some_rule state broken (rw h at e))

lowest_kept : (state : State) (line : Line) → KeepsRules state line → lowest_of state line ≡ None
lowest_kept state line k = rw (k.limits, k.same, k.name, k.room) refl

pub kept_lowest : (state : State) (keyword : Keyword) (fields : List (List ℕ)) → Keeps state keyword fields → lowest_with state keyword fields ≡ None
kept_lowest state keyword fields k = lowest_file state keyword fields k.line k.read (lowest_kept state k.line k.rules) ∙ k.file

-- ---- the room

pub within_le : (low high n : ℕ) → not (is_within low high n) ≡ false → n ≤ high
within_le low high n h = grind (arith, nat_tests)

pub le_of : (a b : ℕ) → not (leb a b) ≡ false → a ≤ b
le_of a b h = grind (arith, nat_tests)

pub births-root : (roots : List Root) (root : Root) → births_of (roots ++ root ∷ []) ≡ births_of roots + root.births
births-root roots root = sum_by_push (λ (r : Root). r.births) roots root

root_room : (state : State) (fields : RootFields) (place : Option ℕ) → overfills state (lines.Root fields []) ≡ false → HasRoom state → HasRoom (with_root state fields place)
root_room state fields None free r = r
root_room state fields (Some place) free r =
    let room = ltb-false 32 (places_with state.system fields.births) free in
    let root = root_of fields place in
    record { clusters = r.clusters; places = omega (arith, room, length_push state.system.roots root, births-root state.system.roots root); image = λ e. absurd cc }

still_some : (f : Image → Image) (o : Option Image) → is_some o ≡ true → is_some (option_map f o) ≡ true
still_some f None h = absurd cc
still_some f (Some image) h = refl

room_line : (state : State) (line : Line) → KeepsRules state line → HasRoom state → HasRoom (add_line state line)
room_line state (lines.Clusters count) k r = record { clusters = within_le 2 16 count k.limits; places = r.places; image = λ e. absurd cc }
room_line state (lines.Pager first second) k r = record { clusters = r.clusters; places = r.places; image = λ e. absurd cc }
room_line state (lines.Syncreads count) k r = record { clusters = r.clusters; places = r.places; image = λ e. absurd cc }
room_line state (lines.Syncsteps count) k r = record { clusters = r.clusters; places = r.places; image = λ e. absurd cc }
room_line state (lines.Image name pages entry) k r = record { clusters = r.clusters; places = r.places; image = λ e. refl }
room_line state (lines.Asm name pages) k r = record { clusters = r.clusters; places = r.places; image = λ e. refl }
room_line state (lines.Elf name pages size) k r = record { clusters = r.clusters; places = r.places; image = λ e. refl }
room_line state (lines.Words words) k r = record { clusters = r.clusters; places = r.places; image = λ e. still_some (λ image. image_with image (image.words ++ words)) state.block (r.image e) }
room_line state lines.End k r = record { clusters = r.clusters; places = r.places; image = λ e. absurd cc }
room_line state (lines.Root root image) k r = root_room state root (image_named state.system image) k.room r
room_line state (lines.Chan first second) k r = record { clusters = r.clusters; places = r.places; image = λ e. absurd cc }

pub room_kept : (state : State) (keyword : Keyword) (fields : List (List ℕ)) → lowest_with state keyword fields ≡ None → HasRoom state → HasRoom (add state keyword fields)
room_kept state keyword fields e r =
    let k = keeps state keyword fields e in
    rw k.read (room_line state k.line k.rules r)
