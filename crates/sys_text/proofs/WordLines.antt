-- A line of words, field by field.
use Rattle.std.proofs.Common.{◌≡◌, ℕ, zero, suc, ◌+◌, ◌≤◌, Bool, true, false, List, [], ◌∷◌, ◌++◌, length, Option, Some, None, Ok, Err, Result, refl, sym, ap, ◌∙◌, arith, append_assoc}
use Rattle.std.specs.Prelude.{◌&&◌, nat_le, OnOk, IfErr}
use Rattle.std.specs.List.{list_all}
use Rattle.std.proofs.lemmas.Bool.{le-leb}
use Rattle.std.proofs.lemmas.List.{append-nil, length-append}
use Rattle.std.proofs.lemmas.List.Elements.{filter_map-append}
use Rattle.std.proofs.lemmas.List.Folds.{list_all-append}
use Rattle.text_parts.specs.Lines.{fields_of}
use Rattle.text_parts.specs.Numbers.{word_of}
use Rattle.sys_text.specs.declared.stage.Keyword.TheVariants.{Words}
use Rattle.sys_text.specs.declared.refusal.Rule.TheVariants.{FieldCount, Room}
use Rattle.sys_text.specs.declared.refusal.SystemRefused.{SystemRefused}
use Rattle.sys_text.specs.declared.system.Image.{Image}
use Rattle.sys_text.specs.declared.state.State.{State}
use Rattle.sys_text.specs.Line.{words_in, is_word_field, line_of}
use Rattle.sys_text.specs.Line as lines
use Rattle.sys_text.specs.Rules.{limit_of, fit_limit, broken_by, lowest_with, image_with, add}
use Rattle.sys_text.specs.Fronts.{Starts}
use Rattle.sys_text.specs.Reading.{Goes, Outside, step_outside}
use Rattle.sys_text.specs.Answers.{ClosesBlock}
use Rattle.sys_text.specs.WordLines.{lowest_of_words, RefusesBy}
use Rattle.sys_text.proofs.LineSteps.{refused_at}

-- the fields so far are words, and stand behind the old ones
pub record SoFar (old new rest : List ℕ) (all : List (List ℕ)) : Type 0 where
  pub front : List (List ℕ)
  pub cut : front ++ fields_of rest ≡ all
  pub are : list_all (is_word_field) front ≡ true
  pub words : new ≡ old ++ words_in front

one_field : (field : List ℕ) (w : ℕ) → word_of field ≡ Some w → words_in (field ∷ []) ≡ w ∷ []
one_field field w e = rw e refl

one_kind : (field : List ℕ) (w : ℕ) → word_of field ≡ Some w → list_all (is_word_field) (field ∷ []) ≡ true
one_kind field w e = rw e refl

both_true : (a b : Bool) → a ≡ true → b ≡ true → (a && b) ≡ true
both_true a b h k = rw (h, k) refl

pub so_far_more : (old new next rest after : List ℕ) (all : List (List ℕ)) (field : List ℕ) (w : ℕ) → SoFar old new rest all → fields_of rest ≡ field ∷ fields_of after → word_of field ≡ Some w → next ≡ new ++ w ∷ [] → SoFar old next after all
so_far_more old new next rest after all field w s cut_is e next_is = record {
  front = s.front ++ field ∷ [];
  cut = append_assoc s.front (field ∷ []) (fields_of after) ∙ ap (λ (t : List (List ℕ)). s.front ++ t) (sym cut_is) ∙ s.cut;
  are = list_all-append (is_word_field) s.front (field ∷ []) ∙ both_true (list_all (is_word_field) s.front) (list_all (is_word_field) (field ∷ [])) s.are (one_kind field w e);
  words = next_is ∙ ap (λ (t : List ℕ). t ++ w ∷ []) s.words ∙ append_assoc old (words_in s.front) (w ∷ []) ∙ ap (λ (t : List ℕ). old ++ t) (sym (filter_map-append word_of s.front (field ∷ []) ∙ ap (λ (t : List ℕ). words_in s.front ++ t) (one_field field w e)));
}

-- ---- a field that is no word

some_fields : (front more : List (List ℕ)) (field : List ℕ) → nat_le 1 (length (front ++ field ∷ more)) ≡ true
some_fields front more field = le-leb 1 (length (front ++ field ∷ more)) (omega (arith, length-append front (field ∷ more)))

-- ---- all fields are words

pub record Read (old new : List ℕ) (all : List (List ℕ)) : Type 0 where
  pub are : list_all (is_word_field) all ≡ true
  pub words : new ≡ old ++ words_in all
  pub size : length new ≡ length old + length all

words_length : (fields : List (List ℕ)) → list_all (is_word_field) fields ≡ true → length (words_in fields) ≡ length fields
words_length [] h = refl
words_length (field ∷ fields) h = by_word (λ k. words_length fields k) (word_of field) refl
  where
    by_word : (list_all (is_word_field) fields ≡ true → length (words_in fields) ≡ length fields) → (o : Option ℕ) → word_of field ≡ o → length (words_in (field ∷ fields)) ≡ length (field ∷ fields)
    by_word next None e = let f = rw e at h in absurd cc
    by_word next (Some w) e = let f = rw e at h in rw e (omega (arith, next f))

pub read_all : (old new rest : List ℕ) (all : List (List ℕ)) → SoFar old new rest all → fields_of rest ≡ [] → Read old new all
read_all old new rest all s none =
    let whole : s.front ≡ all = sym (append-nil s.front) ∙ ap (λ (t : List (List ℕ)). s.front ++ t) (sym none) ∙ s.cut in
    let are : list_all (is_word_field) all ≡ true = ap (list_all (is_word_field)) (sym whole) ∙ s.are in
    let words : new ≡ old ++ words_in all = s.words ∙ ap (λ (t : List (List ℕ)). old ++ words_in t) whole in
    record { are = are; words = words; size = ap length words ∙ length-append old (words_in all) ∙ ap (λ (k : ℕ). length old + k) (words_length all are) }

pub no_fields : (old new : List ℕ) (all : List (List ℕ)) (pages : Option ℕ) → Read old new all → length new ≡ length old → lowest_of_words (length old) pages all ≡ Some FieldCount
no_fields old new all pages r same = by_fields all (omega (arith, r.size, same))
  where
    by_fields : (fields : List (List ℕ)) → length fields ≡ 0 → lowest_of_words (length old) pages fields ≡ Some FieldCount
    by_fields [] e = refl
    by_fields (field ∷ fields) e = absurd (omega (arith, e))

some_of : (old new : List ℕ) (all : List (List ℕ)) → Read old new all → (length new ≡ length old → ⊥) → nat_le 1 (length all) ≡ true
some_of old new all r differ = le-leb 1 (length all) (at_least (length all) refl)
  where
    at_least : (k : ℕ) → length all ≡ k → 1 ≤ k
    at_least zero e = absurd (differ (r.size ∙ ap (λ (n : ℕ). length old + n) e ∙ omega arith))
    at_least (suc k) e = omega arith

pub no_room : (old new : List ℕ) (all : List (List ℕ)) (pages : Option ℕ) → Read old new all → (length new ≡ length old → ⊥) → fit_limit (length new) pages ≡ false → lowest_of_words (length old) pages all ≡ Some Room
no_room old new all pages r differ over =
    let many : fit_limit (length old + length all) pages ≡ false = ap (λ (n : ℕ). fit_limit n pages) (sym r.size) ∙ over in
    rw (some_of old new all r differ, r.are, many) refl

pub in_room : (old new : List ℕ) (all : List (List ℕ)) (pages : Option ℕ) → Read old new all → (length new ≡ length old → ⊥) → fit_limit (length new) pages ≡ true → lowest_of_words (length old) pages all ≡ None
in_room old new all pages r differ fits =
    let few : fit_limit (length old + length all) pages ≡ true = ap (λ (n : ℕ). fit_limit n pages) (sym r.size) ∙ fits in
    rw (some_of old new all r differ, r.are, few) refl

-- ---- what the line leads to

words_lowest : (state : State) (image : Image) (fields : List (List ℕ)) → state.block ≡ Some image → lowest_with state Words fields ≡ lowest_of_words (length image.words) (limit_of state.file image.pages) fields
words_lowest state image [] is = refl
words_lowest state image (field ∷ fields) is = by_words (list_all is_word_field (field ∷ fields)) refl
  where
    by_words : (b : Bool) → list_all is_word_field (field ∷ fields) ≡ b → lowest_with state Words (field ∷ fields) ≡ lowest_of_words (length image.words) (limit_of state.file image.pages) (field ∷ fields)
    by_words true h = rw (some_fields [] fields field, h, words_length (field ∷ fields) h, is) refl
    by_words false h = rw (some_fields [] fields field, h) refl

words_rules : (state : State) (image : Image) (line rest : List ℕ) → state.block ≡ Some image → Starts state line Words (fields_of rest) → broken_by state line ≡ lowest_of_words (length image.words) (limit_of state.file image.pages) (fields_of rest)
words_rules state image line rest is s = s.broken ∙ words_lowest state image (fields_of rest) is

words_read : (words : ℕ) (pages : Option ℕ) (fields : List (List ℕ)) → lowest_of_words words pages fields ≡ None → line_of Words fields ≡ Ok (lines.Words (words_in fields))
words_read words pages [] e = absurd cc
words_read words pages (field ∷ fields) e = by_words (list_all is_word_field (field ∷ fields)) refl
  where
    by_words : (b : Bool) → list_all is_word_field (field ∷ fields) ≡ b → line_of Words (field ∷ fields) ≡ Ok (lines.Words (words_in (field ∷ fields)))
    by_words true h = rw h refl
    by_words false h = let f = rw (some_fields [] fields field, h) at e in absurd cc

-- the state with this image of the block
abbrev pub with_block : State → Image → State
with_block state image = record { stage = state.stage; system = state.system; block = Some image; file = state.file }

words_kept : (state : State) (image : Image) (fields : List (List ℕ)) → state.block ≡ Some image → lowest_of_words (length image.words) (limit_of state.file image.pages) fields ≡ None → add state Words fields ≡ with_block state (image_with image (image.words ++ words_in fields))
words_kept state image fields is e = rw (words_read (length image.words) (limit_of state.file image.pages) fields e, is) refl

words_go : (state : State) (image : Image) (n : ℕ) (line rest : List ℕ) → state.block ≡ Some image → Starts state line Words (fields_of rest) → lowest_of_words (length image.words) (limit_of state.file image.pages) (fields_of rest) ≡ None → step_outside state n line ≡ Goes (Outside (with_block state (image_with image (image.words ++ words_in (fields_of rest)))))
words_go state image n line rest is s none =
    let broken : broken_by state line ≡ None = words_rules state image line rest is s ∙ none in
    rw (broken, s.kept, words_kept state image (fields_of rest) is none) refl

pub words_step : (state : State) (image new : Image) (n : ℕ) (line rest : List ℕ) (r : Result (Unit {0}) SystemRefused) → state.block ≡ Some image → Starts state line Words (fields_of rest)
    → OnOk r (new ≡ image_with image (image.words ++ words_in (fields_of rest))) → OnOk r (lowest_of_words (length image.words) (limit_of state.file image.pages) (fields_of rest) ≡ None)
    → IfErr r (λ refused. RefusesBy refused n (lowest_of_words (length image.words) (limit_of state.file image.pages) (fields_of rest))) → ClosesBlock r (with_block state new) (step_outside state n line)
words_step state image new n line rest (Ok done) is w added none by = rw added (words_go state image n line rest is w none)
words_step state image new n line rest (Err refused) is w added none by = refused_at state n line (lowest_of_words (length image.words) (limit_of state.file image.pages) (fields_of rest)) refused (words_rules state image line rest is w) by
