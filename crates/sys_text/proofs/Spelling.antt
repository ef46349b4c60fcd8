-- A line that is read, and the fields that it was read from.
use Rattle.std.proofs.Common.{◌≡◌, ℕ, Bool, true, false, List, [], ◌∷◌, Option, Some, None, Result, Ok, Err, refl, sym, ap, ◌∙◌}
use Rattle.std.specs.List.{list_all}
use Rattle.text_parts.specs.Numbers.{number_of}
use Rattle.sys_text.specs.declared.stage.Keyword.{Keyword}
use Rattle.sys_text.specs.declared.stage.Keyword.TheVariants as keywords
use Rattle.sys_text.specs.declared.refusal.Rule.{Rule}
use Rattle.sys_text.specs.declared.refusal.Rule.TheVariants as rules
use Rattle.sys_text.specs.declared.refusal.Rule.TheVariants.{FieldCount, FieldKind}
use Rattle.sys_text.specs.declared.line.RootFields.{RootFields}
use Rattle.sys_text.specs.declared.state.State.{State}
use Rattle.sys_text.specs.Valid.{is_name}
use Rattle.sys_text.specs.Kinds.{mode_named}
use Rattle.sys_text.specs.Line.{Line, name_of, is_word_field, both_of, all_of, default_entry, root_with, or_kind, one_number, two_numbers, name_and_pages, image_header, file_header, some_words, no_field, root_fields, as_line, line_of}
use Rattle.sys_text.specs.Line as lines
use Rattle.sys_text.specs.Rules.{lowest_with}

name_is : (field name : List ℕ) → name_of field ≡ Some name → (is_name field ≡ true) × (field ≡ name)
name_is field name e = by_test (is_name field) refl
  where
    by_test : (b : Bool) → is_name field ≡ b → (is_name field ≡ true) × (field ≡ name)
    by_test true h = let f = rw h at e in let same : field ≡ name = cc in (h, same)
    by_test false h = let f = rw h at e in absurd cc

as_ok : {X : Type 0} (say : X → Line) (r : Result X Rule) (line : Line) → as_line say r ≡ Ok line → (x : X) × (r ≡ Ok x) × (line ≡ say x)
as_ok say (Ok x) line e = let same : say x ≡ line = cc in (x, refl, sym same)
as_ok say (Err rule) line e = absurd cc

as_err : {X : Type 0} (say : X → Line) (r : Result X Rule) (rule : Rule) → as_line say r ≡ Err rule → r ≡ Err rule
as_err say (Ok x) rule e = absurd cc
as_err say (Err other) rule e = let same : other ≡ rule = cc in ap Err same

kind_of : {X : Type 0} (o : Option X) (x : X) → or_kind o ≡ Ok x → o ≡ Some x
kind_of None x e = absurd cc
kind_of (Some y) x e = let same : y ≡ x = cc in ap Some same

no_kind_of : {X : Type 0} (o : Option X) (rule : Rule) → or_kind o ≡ Err rule → (o ≡ None) × (FieldKind ≡ rule)
no_kind_of None rule e = let same : FieldKind ≡ rule = cc in (refl, same)
no_kind_of (Some y) rule e = absurd cc

both_some : {X Y : Type 0} (o : Option X) (p : Option Y) (x : X × Y) → both_of o p ≡ Some x → (o ≡ Some x.0) × (p ≡ Some x.1)
both_some None p x e = absurd cc
both_some (Some a) None x e = absurd cc
both_some {X = X} {Y = Y} (Some a) (Some b) x e = let same : (a, b) ≡ x = cc in (ap (λ (y : X × Y). Some y.0) same, ap (λ (y : X × Y). Some y.1) same)

-- ---- the keyword of a line

abbrev pub keyword_said : Line → Keyword
keyword_said (lines.Clusters count) = keywords.Clusters
keyword_said (lines.Pager first second) = keywords.Pager
keyword_said (lines.Syncreads count) = keywords.Syncreads
keyword_said (lines.Syncsteps count) = keywords.Syncsteps
keyword_said (lines.Image name pages entry) = keywords.Image
keyword_said (lines.Asm name pages) = keywords.Asm
keyword_said (lines.Elf name pages size) = keywords.Elf
keyword_said (lines.Words words) = keywords.Words
keyword_said lines.End = keywords.End
keyword_said (lines.Root root image) = keywords.Root
keyword_said (lines.Chan first second) = keywords.Chan

said_by : {X : Type 0} (say : X → Line) (keyword : Keyword) (r : Result X Rule) (line : Line) → ((x : X) → keyword_said (say x) ≡ keyword) → as_line say r ≡ Ok line → keyword_said line ≡ keyword
said_by say keyword r line same e = let x = as_ok say r line e in ap keyword_said x.2 ∙ same x.0

pub said_keyword : (keyword : Keyword) (fields : List (List ℕ)) (line : Line) → line_of keyword fields ≡ Ok line → keyword_said line ≡ keyword
said_keyword keywords.Clusters fields line e = said_by lines.Clusters keywords.Clusters (one_number fields) line (λ x. refl) e
said_keyword keywords.Pager fields line e = said_by (λ (p : ℕ × ℕ). lines.Pager p.0 p.1) keywords.Pager (two_numbers fields) line (λ x. refl) e
said_keyword keywords.Syncreads fields line e = said_by lines.Syncreads keywords.Syncreads (one_number fields) line (λ x. refl) e
said_keyword keywords.Syncsteps fields line e = said_by lines.Syncsteps keywords.Syncsteps (one_number fields) line (λ x. refl) e
said_keyword keywords.Image fields line e = said_by (λ (p : List ℕ × ℕ × ℕ). lines.Image p.0 p.1 p.2) keywords.Image (image_header fields) line (λ x. refl) e
said_keyword keywords.Asm fields line e = said_by (λ (p : List ℕ × ℕ). lines.Asm p.0 p.1) keywords.Asm (name_and_pages fields) line (λ x. refl) e
said_keyword keywords.Elf fields line e = said_by (λ (p : List ℕ × ℕ × ℕ). lines.Elf p.0 p.1 p.2) keywords.Elf (file_header fields) line (λ x. refl) e
said_keyword keywords.Words fields line e = said_by lines.Words keywords.Words (some_words fields) line (λ x. refl) e
said_keyword keywords.End fields line e = said_by (λ (none : Unit {0}). lines.End) keywords.End (no_field fields) line (λ x. refl) e
said_keyword keywords.Root fields line e = said_by (λ (p : RootFields × List ℕ). lines.Root p.0 p.1) keywords.Root (root_fields fields) line (λ x. refl) e
said_keyword keywords.Chan fields line e = said_by (λ (p : ℕ × ℕ). lines.Chan p.0 p.1) keywords.Chan (two_numbers fields) line (λ x. refl) e

-- ---- the name of an image

abbrev pub HasName : Line → Type 0
HasName (lines.Image name pages entry) = is_name name ≡ true
HasName (lines.Asm name pages) = is_name name ≡ true
HasName (lines.Elf name pages size) = is_name name ≡ true
HasName line = Unit {0}

header_name : (fields : List (List ℕ)) (p : List ℕ × ℕ) → name_and_pages fields ≡ Ok p → is_name p.0 ≡ true
header_name [] p e = absurd cc
header_name (name ∷ []) p e = absurd cc
header_name (name ∷ f ∷ []) p e =
    let both = both_some (name_of name) (number_of f) p (kind_of _ p e) in
    let named = name_is name p.0 both.0 in
    rw (← named.1) named.0
header_name (name ∷ f ∷ g ∷ fields) p e = absurd cc

first_of_all : {X Y Z : Type 0} (o : Option X) (p : Option Y) (q : Option Z) (x : X × Y × Z) → all_of o p q ≡ Some x → o ≡ Some x.0
first_of_all None p q x e = absurd cc
first_of_all (Some a) None q x e = absurd cc
first_of_all (Some a) (Some b) None x e = absurd cc
first_of_all {X = X} {Y = Y} {Z = Z} (Some a) (Some b) (Some c) x e = let same : (a, b, c) ≡ x = cc in ap (λ (y : X × Y × Z). Some y.0) same

named_first : (name : List ℕ) (o p : Option ℕ) (x : List ℕ × ℕ × ℕ) → or_kind (all_of (name_of name) o p) ≡ Ok x → is_name x.0 ≡ true
named_first name o p x e =
    let named = name_is name x.0 (first_of_all (name_of name) o p x (kind_of _ x e)) in
    rw (← named.1) named.0

image_name_is : (fields : List (List ℕ)) (x : List ℕ × ℕ × ℕ) → image_header fields ≡ Ok x → is_name x.0 ≡ true
image_name_is [] x e = absurd cc
image_name_is (name ∷ []) x e = absurd cc
image_name_is (name ∷ f ∷ []) x e = named_first name (number_of f) (Some default_entry) x e
image_name_is (name ∷ f ∷ g ∷ []) x e = named_first name (number_of f) (number_of g) x e
image_name_is (name ∷ f ∷ g ∷ h ∷ fields) x e = absurd cc

file_name_is : (fields : List (List ℕ)) (x : List ℕ × ℕ × ℕ) → file_header fields ≡ Ok x → is_name x.0 ≡ true
file_name_is [] x e = absurd cc
file_name_is (name ∷ []) x e = absurd cc
file_name_is (name ∷ f ∷ []) x e = absurd cc
file_name_is (name ∷ f ∷ g ∷ []) x e = named_first name (number_of f) (number_of g) x e
file_name_is (name ∷ f ∷ g ∷ h ∷ fields) x e = absurd cc

pub has_name : (keyword : Keyword) (fields : List (List ℕ)) (line : Line) → line_of keyword fields ≡ Ok line → HasName line
has_name keywords.Clusters fields line e = let x = as_ok lines.Clusters (one_number fields) line e in rw x.2 tt
has_name keywords.Pager fields line e = let x = as_ok (λ (p : ℕ × ℕ). lines.Pager p.0 p.1) (two_numbers fields) line e in rw x.2 tt
has_name keywords.Syncreads fields line e = let x = as_ok lines.Syncreads (one_number fields) line e in rw x.2 tt
has_name keywords.Syncsteps fields line e = let x = as_ok lines.Syncsteps (one_number fields) line e in rw x.2 tt
has_name keywords.Image fields line e = let x = as_ok (λ (p : List ℕ × ℕ × ℕ). lines.Image p.0 p.1 p.2) (image_header fields) line e in rw x.2 (image_name_is fields x.0 x.1)
has_name keywords.Asm fields line e = let x = as_ok (λ (p : List ℕ × ℕ). lines.Asm p.0 p.1) (name_and_pages fields) line e in rw x.2 (header_name fields x.0 x.1)
has_name keywords.Elf fields line e = let x = as_ok (λ (p : List ℕ × ℕ × ℕ). lines.Elf p.0 p.1 p.2) (file_header fields) line e in rw x.2 (file_name_is fields x.0 x.1)
has_name keywords.Words fields line e = let x = as_ok lines.Words (some_words fields) line e in rw x.2 tt
has_name keywords.End fields line e = let x = as_ok (λ (none : Unit {0}). lines.End) (no_field fields) line e in rw x.2 tt
has_name keywords.Root fields line e = let x = as_ok (λ (p : RootFields × List ℕ). lines.Root p.0 p.1) (root_fields fields) line e in rw x.2 tt
has_name keywords.Chan fields line e = let x = as_ok (λ (p : ℕ × ℕ). lines.Chan p.0 p.1) (two_numbers fields) line e in rw x.2 tt

-- ---- fields that are not read

-- rule 3 or 4
abbrev IsOfFields : Rule → Type 0
IsOfFields FieldCount = Unit {0}
IsOfFields FieldKind = Unit {0}
IsOfFields rule = ⊥

by_count : {X : Type 0} (r : Result X Rule) (rule : Rule) → r ≡ Err FieldCount → r ≡ Err rule → IsOfFields rule
by_count r rule h e = let same : FieldCount ≡ rule = cc in rw (← same) tt

by_kind : {X : Type 0} (o : Option X) (rule : Rule) → or_kind o ≡ Err rule → IsOfFields rule
by_kind o rule e = rw (← (no_kind_of o rule e).1) tt

one_of_fields : (fields : List (List ℕ)) (rule : Rule) → one_number fields ≡ Err rule → IsOfFields rule
one_of_fields [] rule e = by_count (one_number []) rule refl e
one_of_fields (f ∷ []) rule e = by_kind (number_of f) rule e
one_of_fields (f ∷ g ∷ fields) rule e = by_count (one_number (f ∷ g ∷ fields)) rule refl e

two_of_fields : (fields : List (List ℕ)) (rule : Rule) → two_numbers fields ≡ Err rule → IsOfFields rule
two_of_fields [] rule e = by_count (two_numbers []) rule refl e
two_of_fields (f ∷ []) rule e = by_count (two_numbers (f ∷ [])) rule refl e
two_of_fields (f ∷ g ∷ []) rule e = by_kind (both_of (number_of f) (number_of g)) rule e
two_of_fields (f ∷ g ∷ h ∷ fields) rule e = by_count (two_numbers (f ∷ g ∷ h ∷ fields)) rule refl e

header_of_fields : (fields : List (List ℕ)) (rule : Rule) → name_and_pages fields ≡ Err rule → IsOfFields rule
header_of_fields [] rule e = by_count (name_and_pages []) rule refl e
header_of_fields (f ∷ []) rule e = by_count (name_and_pages (f ∷ [])) rule refl e
header_of_fields (f ∷ g ∷ []) rule e = by_kind (both_of (name_of f) (number_of g)) rule e
header_of_fields (f ∷ g ∷ h ∷ fields) rule e = by_count (name_and_pages (f ∷ g ∷ h ∷ fields)) rule refl e

image_of_fields : (fields : List (List ℕ)) (rule : Rule) → image_header fields ≡ Err rule → IsOfFields rule
image_of_fields [] rule e = by_count (image_header []) rule refl e
image_of_fields (f ∷ []) rule e = by_count (image_header (f ∷ [])) rule refl e
image_of_fields (f ∷ g ∷ []) rule e = by_kind (all_of (name_of f) (number_of g) (Some default_entry)) rule e
image_of_fields (f ∷ g ∷ h ∷ []) rule e = by_kind (all_of (name_of f) (number_of g) (number_of h)) rule e
image_of_fields (f ∷ g ∷ h ∷ i ∷ fields) rule e = by_count (image_header (f ∷ g ∷ h ∷ i ∷ fields)) rule refl e

file_of_fields : (fields : List (List ℕ)) (rule : Rule) → file_header fields ≡ Err rule → IsOfFields rule
file_of_fields [] rule e = by_count (file_header []) rule refl e
file_of_fields (f ∷ []) rule e = by_count (file_header (f ∷ [])) rule refl e
file_of_fields (f ∷ g ∷ []) rule e = by_count (file_header (f ∷ g ∷ [])) rule refl e
file_of_fields (f ∷ g ∷ h ∷ []) rule e = by_kind (all_of (name_of f) (number_of g) (number_of h)) rule e
file_of_fields (f ∷ g ∷ h ∷ i ∷ fields) rule e = by_count (file_header (f ∷ g ∷ h ∷ i ∷ fields)) rule refl e

words_of_fields : (fields : List (List ℕ)) (rule : Rule) → some_words fields ≡ Err rule → IsOfFields rule
words_of_fields [] rule e = by_count (some_words []) rule refl e
words_of_fields (f ∷ fields) rule e = by_test (list_all is_word_field (f ∷ fields)) refl
  where
    by_test : (b : Bool) → list_all is_word_field (f ∷ fields) ≡ b → IsOfFields rule
    by_test true h = let g = rw h at e in absurd cc
    by_test false h = let g = rw h at e in let same : FieldKind ≡ rule = cc in rw (← same) tt

none_of_fields : (fields : List (List ℕ)) (rule : Rule) → no_field fields ≡ Err rule → IsOfFields rule
none_of_fields [] rule e = absurd cc
none_of_fields (f ∷ fields) rule e = by_count (no_field (f ∷ fields)) rule refl e

root_of_fields : (fields : List (List ℕ)) (rule : Rule) → root_fields fields ≡ Err rule → IsOfFields rule
root_of_fields [] rule e = by_count (root_fields []) rule refl e
root_of_fields (a ∷ []) rule e = by_count (root_fields (a ∷ [])) rule refl e
root_of_fields (a ∷ b ∷ []) rule e = by_count (root_fields (a ∷ b ∷ [])) rule refl e
root_of_fields (a ∷ b ∷ m ∷ []) rule e = by_count (root_fields (a ∷ b ∷ m ∷ [])) rule refl e
root_of_fields (a ∷ b ∷ m ∷ i ∷ []) rule e = by_count (root_fields (a ∷ b ∷ m ∷ i ∷ [])) rule refl e
root_of_fields (a ∷ b ∷ m ∷ i ∷ l ∷ []) rule e = by_count (root_fields (a ∷ b ∷ m ∷ i ∷ l ∷ [])) rule refl e
root_of_fields (a ∷ b ∷ m ∷ i ∷ l ∷ n ∷ []) rule e = by_count (root_fields (a ∷ b ∷ m ∷ i ∷ l ∷ n ∷ [])) rule refl e
root_of_fields (a ∷ b ∷ m ∷ i ∷ l ∷ n ∷ t ∷ []) rule e = by_kind (root_with (number_of a) (number_of b) (mode_named m) (name_of i) (number_of l) (number_of n) (number_of t)) rule e
root_of_fields (a ∷ b ∷ m ∷ i ∷ l ∷ n ∷ t ∷ u ∷ fields) rule e = by_count (root_fields (a ∷ b ∷ m ∷ i ∷ l ∷ n ∷ t ∷ u ∷ fields)) rule refl e

of_fields : (keyword : Keyword) (fields : List (List ℕ)) (rule : Rule) → line_of keyword fields ≡ Err rule → IsOfFields rule
of_fields keywords.Clusters fields rule e = one_of_fields fields rule (as_err lines.Clusters (one_number fields) rule e)
of_fields keywords.Pager fields rule e = two_of_fields fields rule (as_err (λ (p : ℕ × ℕ). lines.Pager p.0 p.1) (two_numbers fields) rule e)
of_fields keywords.Syncreads fields rule e = one_of_fields fields rule (as_err lines.Syncreads (one_number fields) rule e)
of_fields keywords.Syncsteps fields rule e = one_of_fields fields rule (as_err lines.Syncsteps (one_number fields) rule e)
of_fields keywords.Image fields rule e = image_of_fields fields rule (as_err (λ (p : List ℕ × ℕ × ℕ). lines.Image p.0 p.1 p.2) (image_header fields) rule e)
of_fields keywords.Asm fields rule e = header_of_fields fields rule (as_err (λ (p : List ℕ × ℕ). lines.Asm p.0 p.1) (name_and_pages fields) rule e)
of_fields keywords.Elf fields rule e = file_of_fields fields rule (as_err (λ (p : List ℕ × ℕ × ℕ). lines.Elf p.0 p.1 p.2) (file_header fields) rule e)
of_fields keywords.Words fields rule e = words_of_fields fields rule (as_err lines.Words (some_words fields) rule e)
of_fields keywords.End fields rule e = none_of_fields fields rule (as_err (λ (none : Unit {0}). lines.End) (no_field fields) rule e)
of_fields keywords.Root fields rule e = root_of_fields fields rule (as_err (λ (p : RootFields × List ℕ). lines.Root p.0 p.1) (root_fields fields) rule e)
of_fields keywords.Chan fields rule e = two_of_fields fields rule (as_err (λ (p : ℕ × ℕ). lines.Chan p.0 p.1) (two_numbers fields) rule e)

pub rule_named : (state : State) (keyword : Keyword) (fields : List (List ℕ)) (rule : Rule) → line_of keyword fields ≡ Err rule → lowest_with state keyword fields ≡ Some rule
rule_named state keyword fields rule e = by_rule rule e (of_fields keyword fields rule e)
  where
    by_rule : (rule : Rule) → line_of keyword fields ≡ Err rule → IsOfFields rule → lowest_with state keyword fields ≡ Some rule
    by_rule FieldCount e is = rw e refl
    by_rule FieldKind e is = rw e refl
    by_rule rules.ForeignByte e is = absurd is
    by_rule rules.Misplaced e is = absurd is
    by_rule rules.Limit e is = absurd is
    by_rule rules.Same e is = absurd is
    by_rule rules.Name e is = absurd is
    by_rule rules.Room e is = absurd is
    by_rule rules.Assembler e is = absurd is
    by_rule rules.Ended e is = absurd is
    by_rule (rules.Elf elf) e is = absurd is
