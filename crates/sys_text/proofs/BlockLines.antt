-- Which lines of an assembler block have only printable bytes.
use Rattle.std.proofs.Common.{◌≡◌, ℕ, ◌+◌, ◌≤◌, Bool, true, false, not, ◌&&◌, List, [], ◌∷◌, Option, Some, None, Result, Ok, Err, refl, sym, ap, ◌∙◌, arith, inl, inr, ◌⊎◌}
use Rattle.std.specs.List.{list_all, filter, slice_split, onto_first, find}
use Rattle.std.specs.Prelude.{codes}
use Rattle.std.proofs.lemmas.Bool.Decides.{nat_tests}
use Rattle.std.proofs.lemmas.Slice.Eq.{bytes_eq-Decides}
use Rattle.text_parts.specs.Lines.{is_space, is_printable, are_printable, is_empty, fields_of}
use Rattle.rv_asm.specs.declared.labels.Place.{Place as LabelPlace}
use Rattle.rv_asm.specs.declared.refusal.Rule.{Rule as AsmRule}
use Rattle.rv_asm.specs.declared.refusal.Rule.TheVariants as asm_rules
use Rattle.rv_asm.specs.Labels.{labels_from, line_size, line_code}
use Rattle.rv_asm.specs.Program.{breaks as asm_breaks, broken_by as asm_broken_by, words_at, address_after, with_front, reading_from as asm_reading_from, reading_of_lines}
use Rattle.sys_text.specs.Reading.{is_end}
use Rattle.sys_text.proofs.Bounds.{first_of_two, second_of_two}
use Rattle.sys_text.proofs.Printed.{both}

-- ---- the end of a block

abbrev all_printable : List (List ℕ) → Bool
all_printable parts = list_all are_printable parts

space_printable : (x : ℕ) → is_space x ≡ true → is_printable x ≡ true
space_printable x e = by_byte x (eq_of x e)
  where
    eq_of : (x : ℕ) → is_space x ≡ true → x ≡ 32
    eq_of x e = grind (arith, nat_tests)

    by_byte : (x : ℕ) → x ≡ 32 → is_printable x ≡ true
    by_byte x e = rw e refl

onto_printable : (x : ℕ) (xs : List ℕ) (parts : List (List ℕ)) → (all_printable parts ≡ true → are_printable xs ≡ true) → all_printable (onto_first x parts) ≡ true → are_printable (x ∷ xs) ≡ true
onto_printable x xs [] next h = both (is_printable x) (are_printable xs) (first_of_two (is_printable x) true (first_of_two (is_printable x && true) true h)) (next refl)
onto_printable x xs (part ∷ parts) next h =
    let first : (is_printable x && are_printable part) ≡ true = first_of_two (is_printable x && are_printable part) (all_printable parts) h in
    let rest : all_printable parts ≡ true = second_of_two (is_printable x && are_printable part) (all_printable parts) h in
    both (is_printable x) (are_printable xs) (first_of_two (is_printable x) (are_printable part) first) (next (both (are_printable part) (all_printable parts) (second_of_two (is_printable x) (are_printable part) first) rest))

parts_printable : (line : List ℕ) → all_printable (slice_split is_space line) ≡ true → are_printable line ≡ true
parts_printable [] h = refl
parts_printable (x ∷ xs) h = by_space (λ g. parts_printable xs g) (is_space x) refl
  where
    by_space : (all_printable (slice_split is_space xs) ≡ true → are_printable xs ≡ true) → (b : Bool) → is_space x ≡ b → are_printable (x ∷ xs) ≡ true
    by_space next true e = let g = rw e at h in both (is_printable x) (are_printable xs) (space_printable x e) (next g)
    by_space next false e = let g = rw e at h in onto_printable x xs (slice_split is_space xs) next g

some_printable : (parts : List (List ℕ)) → all_printable (filter (λ part. not (is_empty part)) parts) ≡ true → all_printable parts ≡ true
some_printable [] h = refl
some_printable ([] ∷ parts) h = some_printable parts h
some_printable ((b ∷ bs) ∷ parts) h = both (are_printable (b ∷ bs)) (all_printable parts) (first_of_two (are_printable (b ∷ bs)) _ h) (some_printable parts (second_of_two (are_printable (b ∷ bs)) _ h))

fields_printable : (line : List ℕ) → all_printable (fields_of line) ≡ true → are_printable line ≡ true
fields_printable line h = parts_printable line (some_printable (slice_split is_space line) h)

end_fields : (fields : List (List ℕ)) → is_end fields ≡ true → all_printable fields ≡ true
end_fields [] h = absurd cc
end_fields (field ∷ []) h = let same : field ≡ codes "end" = (bytes_eq-Decides field (codes "end")).0 h in rw same refl
end_fields (field ∷ next ∷ fields) h = absurd cc

-- a line whose only field is `end` has no other bytes but spaces
pub end_printable : (line : List ℕ) → is_end (fields_of line) ≡ true → are_printable line ≡ true
end_printable line h = fields_printable line (end_fields (fields_of line) h)

-- ---- the lines that the assembler reads

abbrev pub is_foreign : AsmRule → Bool
is_foreign asm_rules.ForeignByte = true
is_foreign rule = false

-- lines that are numbered from n are printable up to line k, and line k where the rule is no foreign byte
abbrev pub PrintsTo : (n : ℕ) → List (List ℕ) → (k : ℕ) → AsmRule → Type 0
PrintsTo n [] k rule = ⊥
PrintsTo n (line ∷ lines) k rule = ((k ≡ n) × (not (are_printable line) ≡ is_foreign rule)) ⊎ ((not (are_printable line) ≡ false) × PrintsTo (n + 1) lines k rule)

pub prints_from : (n : ℕ) (lines : List (List ℕ)) (k : ℕ) (rule : AsmRule) → PrintsTo n lines k rule → n ≤ k
prints_from n [] k rule p = absurd p
prints_from n (line ∷ lines) k rule p =
    elim p [
      | inl here ↦ omega (arith, here.0)
      | inr later ↦ omega (arith, prints_from (n + 1) lines k rule later.1)
    ]

abbrev pub AllPrint : List (List ℕ) → Type 0
AllPrint [] = Unit {0}
AllPrint (line ∷ lines) = (not (are_printable line) ≡ false) × AllPrint lines

-- a rule that is found among others than that on foreign bytes
not_foreign : (p : AsmRule → Bool) (xs : List AsmRule) (r : AsmRule) → list_all (λ x. not (is_foreign x)) xs ≡ true → find p xs ≡ Some r → is_foreign r ≡ false
not_foreign p [] r h e = absurd cc
not_foreign p (x ∷ xs) r h e = by_test (λ f. not_foreign p xs r (second_of_two (not (is_foreign x)) _ h) f) (p x) refl
  where
    not_true : (b : Bool) → not b ≡ true → b ≡ false
    not_true true e = absurd cc
    not_true false e = refl

    by_test : (find p xs ≡ Some r → is_foreign r ≡ false) → (b : Bool) → p x ≡ b → is_foreign r ≡ false
    by_test next true t =
        let f = rw t at e in
        let same : x ≡ r = cc in
        rw (← same) (not_true (is_foreign x) (first_of_two (not (is_foreign x)) _ h))
    by_test next false t = next (rw t at e)

module _ (labels : List (List ℕ × LabelPlace)) where
  rule_kept : (n words : ℕ) (line : List ℕ) → asm_broken_by labels n words line ≡ None → not (are_printable line) ≡ false
  rule_kept n words line e = by_test (not (are_printable line)) refl
    where
      by_test : (b : Bool) → not (are_printable line) ≡ b → not (are_printable line) ≡ false
      by_test true h = let f = rw h at e in absurd cc
      by_test false h = h

  rule_broken : (n words : ℕ) (line : List ℕ) (rule : AsmRule) → asm_broken_by labels n words line ≡ Some rule → not (are_printable line) ≡ is_foreign rule
  rule_broken n words line rule e = by_test (not (are_printable line)) refl
    where
      others : List AsmRule
      others = asm_rules.UnknownWord ∷ asm_rules.BadForm ∷ asm_rules.NumberRange ∷ asm_rules.DefinedTwice ∷ asm_rules.NeverDefined ∷ asm_rules.TooFar ∷ asm_rules.TooLong ∷ []

      by_test : (b : Bool) → not (are_printable line) ≡ b → b ≡ is_foreign rule
      by_test true h =
          let f = rw h at e in
          let same : asm_rules.ForeignByte ≡ rule = cc in
          ap is_foreign same
      by_test false h =
          let f : find (asm_breaks labels n words line) others ≡ Some rule = rw h at e in
          sym (not_foreign (asm_breaks labels n words line) others rule refl f)

  front_err : (front : List ℕ) (r : Result (List ℕ) (ℕ × AsmRule)) (e : ℕ × AsmRule) → with_front front r ≡ Err e → r ≡ Err e
  front_err front (Ok rest) e h = absurd cc
  front_err front (Err refused) e h = h

  front_ok : (front : List ℕ) (r : Result (List ℕ) (ℕ × AsmRule)) (words : List ℕ) → with_front front r ≡ Ok words → (rest : List ℕ) × (r ≡ Ok rest)
  front_ok front (Ok rest) words h = (rest, refl)
  front_ok front (Err refused) words h = absurd cc

  prints_to : (n words : ℕ) (lines : List (List ℕ)) (k : ℕ) (rule : AsmRule) → asm_reading_from labels n words lines ≡ Err (k, rule) → PrintsTo n lines k rule
  prints_to n words [] k rule e = absurd cc
  prints_to n words (line ∷ lines) k rule e = by_rule (λ f. prints_to (n + 1) (words + line_size line) lines k rule f) (asm_broken_by labels n words line) refl
    where
      line_in : Result (List ℕ) (ℕ × AsmRule) → ℕ
      line_in (Ok words) = n
      line_in (Err refused) = refused.0

      rule_in : Result (List ℕ) (ℕ × AsmRule) → AsmRule
      rule_in (Ok words) = rule
      rule_in (Err refused) = refused.1

      by_rule : (asm_reading_from labels (n + 1) (words + line_size line) lines ≡ Err (k, rule) → PrintsTo (n + 1) lines k rule) → (o : Option AsmRule) → asm_broken_by labels n words line ≡ o → PrintsTo n (line ∷ lines) k rule
      by_rule next (Some r) h =
          let f = rw h at e in
          let same : n ≡ k = ap line_in f in
          let same_rule : r ≡ rule = ap rule_in f in
          inl (sym same, rule_broken n words line r h ∙ ap is_foreign same_rule)
      by_rule next None h =
          let f = rw h at e in
          inr (rule_kept n words line h, next (front_err (words_at labels (address_after words) (line_code line)) (asm_reading_from labels (n + 1) (words + line_size line) lines) (k, rule) f))

  all_print : (n words : ℕ) (lines : List (List ℕ)) (all : List ℕ) → asm_reading_from labels n words lines ≡ Ok all → AllPrint lines
  all_print n words [] all e = tt
  all_print n words (line ∷ lines) all e = by_rule (λ rest f. all_print (n + 1) (words + line_size line) lines rest f) (asm_broken_by labels n words line) refl
    where
      by_rule : ((rest : List ℕ) → asm_reading_from labels (n + 1) (words + line_size line) lines ≡ Ok rest → AllPrint lines) → (o : Option AsmRule) → asm_broken_by labels n words line ≡ o → AllPrint (line ∷ lines)
      by_rule next (Some r) h = let f = rw h at e in absurd cc
      by_rule next None h =
          let f = rw h at e in
          let rest = front_ok (words_at labels (address_after words) (line_code line)) (asm_reading_from labels (n + 1) (words + line_size line) lines) all f in
          (rule_kept n words line h, next rest.0 rest.1)

pub refused_prints : (block : List (List ℕ)) (k : ℕ) (rule : AsmRule) → reading_of_lines block ≡ Err (k, rule) → PrintsTo 1 block k rule
unfolding reading_of_lines
refused_prints block k rule e = prints_to (labels_from 1 0 block) 1 0 block k rule e

pub words_print : (block : List (List ℕ)) (words : List ℕ) → reading_of_lines block ≡ Ok words → AllPrint block
unfolding reading_of_lines
words_print block words e = all_print (labels_from 1 0 block) 1 0 block words e
