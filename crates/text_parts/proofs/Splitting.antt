-- The first line of a text and the first field of a line.
use Rattle.std.proofs.Common.{◌≡◌, ℕ, zero, suc, ◌+◌, ◌-◌, ◌<◌, ◌≤◌, Bool, true, false, cond, not, List, [], ◌∷◌, ◌++◌, length, get_or, take, drop, refl, sym, ap, ◌∙◌, arith}
use Rattle.std.specs.List.{slice_split, onto_first, filter}
use Rattle.std.proofs.lemmas.List.{take_rest, length-take, length-drop}
use Rattle.std.proofs.lemmas.Bool.{false_from_ne_true}
use Rattle.text_parts.specs.Lines.{is_newline, is_space, is_empty, lines_of, fields_of, before, from, trim_start}

-- ---- before and from

pub before-yes : (p : ℕ → Bool) (x : ℕ) (xs : List ℕ) → p x ≡ true → before p (x ∷ xs) ≡ []
before-yes p x xs e = rw e refl

pub before-no : (p : ℕ → Bool) (x : ℕ) (xs : List ℕ) → p x ≡ false → before p (x ∷ xs) ≡ x ∷ before p xs
before-no p x xs e = rw e refl

pub from-yes : (p : ℕ → Bool) (x : ℕ) (xs : List ℕ) → p x ≡ true → from p (x ∷ xs) ≡ x ∷ xs
from-yes p x xs e = rw e refl

pub from-no : (p : ℕ → Bool) (x : ℕ) (xs : List ℕ) → p x ≡ false → from p (x ∷ xs) ≡ from p xs
from-no p x xs e = rw e refl

pub length-from : (p : ℕ → Bool) (xs : List ℕ) → length (from p xs) ≤ length xs
length-from p [] = omega arith
length-from p (x ∷ xs) =
    elim (p x) as (λ b. length (cond b (x ∷ xs) (from p xs)) ≤ suc (length xs)) [
      | true ↦ omega arith
      | false ↦ omega (arith, length-from p xs)
    ]

-- what a scan that has come to i keeps
pub record Scanned (p : ℕ → Bool) (xs : List ℕ) (i : ℕ) : Type 0 where
  pub front : take i xs ++ before p (drop i xs) ≡ before p xs
  pub rest : from p (drop i xs) ≡ from p xs

pub cut_first : (p : ℕ → Bool) (xs : List ℕ) (k : ℕ) → k < length xs → p (get_or xs k 0) ≡ true → ((j : ℕ) → j < k → p (get_or xs j 0) ≡ true → ⊥) → (take k xs ≡ before p xs) × (drop k xs ≡ from p xs)
cut_first p [] k lt passes none = absurd (omega arith)
cut_first p (x ∷ xs) zero lt passes none = (sym (before-yes p x xs passes), sym (from-yes p x xs passes))
cut_first p (x ∷ xs) (suc k) lt passes none =
    let fails : p x ≡ false = false_from_ne_true (p x) (none 0 (omega arith)) in
    let r = cut_first p xs k (omega arith) passes (λ j l e. none (suc j) (omega arith) e) in
    (ap (λ (t : List ℕ). x ∷ t) r.0 ∙ sym (before-no p x xs fails), r.1 ∙ sym (from-no p x xs fails))

pub cut_none : (p : ℕ → Bool) (xs : List ℕ) → ((j : ℕ) → j < length xs → p (get_or xs j 0) ≡ true → ⊥) → (xs ≡ before p xs) × ([] ≡ from p xs)
cut_none p [] none = (refl, refl)
cut_none p (x ∷ xs) none =
    let fails : p x ≡ false = false_from_ne_true (p x) (none 0 (omega arith)) in
    let r = cut_none p xs (λ j l e. none (suc j) (omega arith) e) in
    (ap (λ (t : List ℕ). x ∷ t) r.0 ∙ sym (before-no p x xs fails), r.1 ∙ sym (from-no p x xs fails))

-- ---- lines

lines_of-yes : (x : ℕ) (xs : List ℕ) → is_newline x ≡ true → lines_of (x ∷ xs) ≡ before is_newline (x ∷ xs) ∷ lines_of (drop 1 (from is_newline (x ∷ xs)))
lines_of-yes x xs e = rw e refl

lines_of-no : (x : ℕ) (xs : List ℕ) → is_newline x ≡ false → onto_first x (lines_of xs) ≡ (x ∷ before is_newline xs) ∷ lines_of (drop 1 (from is_newline xs)) → lines_of (x ∷ xs) ≡ before is_newline (x ∷ xs) ∷ lines_of (drop 1 (from is_newline (x ∷ xs)))
lines_of-no x xs e h = rw e h

-- the first line ends before the first newline
pub lines_of-first : (x : ℕ) (xs : List ℕ) → lines_of (x ∷ xs) ≡ before is_newline (x ∷ xs) ∷ lines_of (drop 1 (from is_newline (x ∷ xs)))
lines_of-first x [] = by_head (is_newline x) refl
  where
    by_head : (b : Bool) → is_newline x ≡ b → lines_of (x ∷ []) ≡ before is_newline (x ∷ []) ∷ lines_of (drop 1 (from is_newline (x ∷ [])))
    by_head true e = lines_of-yes x [] e
    by_head false e = lines_of-no x [] e refl
lines_of-first x (y ∷ ys) = by_head (lines_of-first y ys) (is_newline x) refl
  where
    by_head : lines_of (y ∷ ys) ≡ before is_newline (y ∷ ys) ∷ lines_of (drop 1 (from is_newline (y ∷ ys))) → (b : Bool) → is_newline x ≡ b → lines_of (x ∷ y ∷ ys) ≡ before is_newline (x ∷ y ∷ ys) ∷ lines_of (drop 1 (from is_newline (x ∷ y ∷ ys)))
    by_head next true e = lines_of-yes x (y ∷ ys) e
    by_head next false e = lines_of-no x (y ∷ ys) e (ap (onto_first x) next)

pub lines_of-cut : (text : List ℕ) → 0 < length text → lines_of text ≡ before is_newline text ∷ lines_of (drop 1 (from is_newline text))
lines_of-cut [] h = absurd (omega arith)
lines_of-cut (x ∷ xs) h = lines_of-first x xs

-- a cut at the first newline
pub record IsCut (text line rest : List ℕ) : Type 0 where
  pub nonempty : 0 < length text
  pub line_is : line ≡ before is_newline text
  pub rest_is : rest ≡ from is_newline text

pub last_line : (text line rest : List ℕ) → IsCut text line rest → length rest < 1 → lines_of text ≡ line ∷ lines_of rest
last_line text line [] cut h = lines_of-cut text cut.nonempty ∙ rw (← cut.line_is, ← cut.rest_is) refl
last_line text line (x ∷ xs) cut h = absurd (omega arith)

pub line_then : (text line rest : List ℕ) → IsCut text line rest → lines_of text ≡ line ∷ lines_of (take (length rest - 1) (drop 1 rest))
line_then text line rest cut = lines_of-cut text cut.nonempty ∙ rw (← cut.line_is, ← cut.rest_is, take_rest rest 1) refl

pub line_shorter : (text line rest : List ℕ) → IsCut text line rest → length (take (length rest - 1) (drop 1 rest)) < length text
line_shorter text line rest cut = omega (arith, cut.nonempty, length-take (length rest - 1) (drop 1 rest), length-drop 1 rest, ap length cut.rest_is, length-from is_newline text)

-- ---- fields

fields_of-space : (x : ℕ) (xs : List ℕ) → is_space x ≡ true → fields_of (x ∷ xs) ≡ fields_of xs
fields_of-space x xs e = rw e refl

not-true : (b : Bool) → b ≡ true → not b ≡ false
not-true b e = rw e refl

not-false : (b : Bool) → b ≡ false → not b ≡ true
not-false b e = rw e refl

pub trim_start-space : (x : ℕ) (xs : List ℕ) → is_space x ≡ true → trim_start (x ∷ xs) ≡ trim_start xs
trim_start-space x xs e = from-no (λ b. not (is_space b)) x xs (not-true (is_space x) e)

pub trim_start-other : (x : ℕ) (xs : List ℕ) → is_space x ≡ false → trim_start (x ∷ xs) ≡ x ∷ xs
trim_start-other x xs e = from-yes (λ b. not (is_space b)) x xs (not-false (is_space x) e)

-- spaces before a field are no part of it
pub fields_of-trimmed : (line : List ℕ) → fields_of line ≡ fields_of (trim_start line)
fields_of-trimmed [] = refl
fields_of-trimmed (x ∷ xs) = by_head (fields_of-trimmed xs) (is_space x) refl
  where
    by_head : fields_of xs ≡ fields_of (trim_start xs) → (b : Bool) → is_space x ≡ b → fields_of (x ∷ xs) ≡ fields_of (trim_start (x ∷ xs))
    by_head next true e = fields_of-space x xs e ∙ next ∙ ap fields_of (sym (trim_start-space x xs e))
    by_head next false e = ap fields_of (sym (trim_start-other x xs e))

pub trim_start-head : (line : List ℕ) (x : ℕ) (xs : List ℕ) → trim_start line ≡ x ∷ xs → is_space x ≡ false
trim_start-head [] x xs e = absurd cc
trim_start-head (y ∷ ys) x xs e = by_head (λ f. trim_start-head ys x xs f) (is_space y) refl
  where
    by_head : (trim_start ys ≡ x ∷ xs → is_space x ≡ false) → (b : Bool) → is_space y ≡ b → is_space x ≡ false
    by_head next true h = next (sym (trim_start-space y ys h) ∙ e)
    by_head next false h = let s = sym (trim_start-other y ys h) ∙ e in let same : y ≡ x = cc in rw (← same) h

-- the parts after the first
abbrev pub parts_after : (ℕ → Bool) → List ℕ → List (List ℕ)
parts_after p [] = []
parts_after p (b ∷ bs) = slice_split p bs

parts-yes : (p : ℕ → Bool) (x : ℕ) (xs : List ℕ) → p x ≡ true → slice_split p (x ∷ xs) ≡ before p (x ∷ xs) ∷ parts_after p (from p (x ∷ xs))
parts-yes p x xs e = rw e refl

parts-no : (p : ℕ → Bool) (x : ℕ) (xs : List ℕ) → p x ≡ false → onto_first x (slice_split p xs) ≡ (x ∷ before p xs) ∷ parts_after p (from p xs) → slice_split p (x ∷ xs) ≡ before p (x ∷ xs) ∷ parts_after p (from p (x ∷ xs))
parts-no p x xs e h = rw e h

pub parts : (p : ℕ → Bool) (xs : List ℕ) → slice_split p xs ≡ before p xs ∷ parts_after p (from p xs)
parts p [] = refl
parts p (x ∷ xs) = by_head (parts p xs) (p x) refl
  where
    by_head : slice_split p xs ≡ before p xs ∷ parts_after p (from p xs) → (b : Bool) → p x ≡ b → slice_split p (x ∷ xs) ≡ before p (x ∷ xs) ∷ parts_after p (from p (x ∷ xs))
    by_head next true e = parts-yes p x xs e
    by_head next false e = parts-no p x xs e (ap (onto_first x) next)

pub from-head : (p : ℕ → Bool) (xs : List ℕ) (y : ℕ) (ys : List ℕ) → from p xs ≡ y ∷ ys → p y ≡ true
from-head p [] y ys e = absurd cc
from-head p (x ∷ xs) y ys e = by_head (λ f. from-head p xs y ys f) (p x) refl
  where
    by_head : (from p xs ≡ y ∷ ys → p y ≡ true) → (b : Bool) → p x ≡ b → p y ≡ true
    by_head next true h = let s = sym (from-yes p x xs h) ∙ e in let same : x ≡ y = cc in rw (← same) h
    by_head next false h = next (sym (from-no p x xs h) ∙ e)

abbrev some_of : List (List ℕ) → List (List ℕ)
some_of parts = filter (λ part. not (is_empty part)) parts

fields-after : (rest : List ℕ) → ((y : ℕ) (ys : List ℕ) → rest ≡ y ∷ ys → is_space y ≡ true) → some_of (parts_after is_space rest) ≡ fields_of rest
fields-after [] h = refl
fields-after (y ∷ ys) h = sym (fields_of-space y ys (h y ys refl))

-- the first field ends before the first space after it
pub fields_of-first : (x : ℕ) (xs : List ℕ) → is_space x ≡ false → fields_of (x ∷ xs) ≡ before is_space (x ∷ xs) ∷ fields_of (from is_space (x ∷ xs))
fields_of-first x xs e =
    ap some_of (parts is_space (x ∷ xs)) ∙ ap (λ (w : List ℕ). some_of (w ∷ parts_after is_space (from is_space (x ∷ xs)))) (before-no is_space x xs e)
    ∙ ap (λ (fs : List (List ℕ)). (x ∷ before is_space xs) ∷ fs) (fields-after (from is_space (x ∷ xs)) (λ y ys f. from-head is_space (x ∷ xs) y ys f))
    ∙ ap (λ (w : List ℕ). w ∷ fields_of (from is_space (x ∷ xs))) (sym (before-no is_space x xs e))

pub length-after : (x : ℕ) (xs : List ℕ) → is_space x ≡ false → length (from is_space (x ∷ xs)) < length (x ∷ xs)
length-after x xs e = omega (arith, length-from is_space xs, ap length (from-no is_space x xs e))

-- a line from its first field on
pub record HasField (line text : List ℕ) : Type 0 where
  pub fields : fields_of line ≡ before is_space text ∷ fields_of (from is_space text)
  pub shorter : length (from is_space text) < length line

pub first_field : (line text : List ℕ) → text ≡ trim_start line → 0 < length text → HasField line text
first_field line [] e h = absurd (omega arith)
first_field line (x ∷ xs) e h =
    let head = trim_start-head line x xs (sym e) in
    record {
      fields = fields_of-trimmed line ∙ ap fields_of (sym e) ∙ fields_of-first x xs head;
      shorter = omega (arith, length-after x xs head, length-from (λ b. not (is_space b)) line, ap length e);
    }

pub no_field : (line text : List ℕ) → text ≡ trim_start line → length text ≡ 0 → fields_of line ≡ []
no_field line [] e h = fields_of-trimmed line ∙ ap fields_of (sym e)
no_field line (x ∷ xs) e h = absurd (omega arith)

pub cut_field : (line text field rest : List ℕ) → HasField line text → field ≡ before is_space text → rest ≡ from is_space text → (fields_of line ≡ field ∷ fields_of rest) × (length rest < length line)
cut_field line text field rest has f r = (rw (f, r) has.fields, rw r has.shorter)
