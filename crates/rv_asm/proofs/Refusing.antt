-- What reading line by line names is the first line that breaks a rule, and the lowest rule that it breaks.
use Rattle.std.proofs.Common.{◌≡◌, ℕ, zero, suc, ◌+◌, ◌<◌, ◌≤◌, Bool, true, false, cond, eqb, List, [], ◌∷◌, ◌++◌, Option, Some, None, Result, Ok, Err, refl, sym, ap, ◌∙◌, arith, inl, inr, ◌⊎◌}
use Rattle.std.specs.List.{find}
use Rattle.std.specs.Prelude.{IfOk, IfErr}
use Rattle.std.proofs.lemmas.Bool.{cases_eq}
use Rattle.text_parts.specs.Lines.{lines_of}
use Rattle.rv_asm.specs.declared.labels.Place.{Place}
use Rattle.rv_asm.specs.declared.refusal.Rule.{Rule}
use Rattle.rv_asm.specs.declared.refusal.Rule.TheVariants.{ForeignByte, UnknownWord, BadForm, NumberRange, DefinedTwice, NeverDefined, TooFar, TooLong}
use Rattle.rv_asm.specs.declared.refusal.AsmRefused.{AsmRefused}
use Rattle.rv_asm.specs.declared.refusal.AsmRefused.TheVariants as refusals
use Rattle.rv_asm.specs.Refusal.{number_of_rule}
use Rattle.rv_asm.specs.Labels.{line_code, line_size, labels_of}
use Rattle.rv_asm.specs.Program.{breaks, rules, broken_by, words_at, address_after, with_front, line_then, reading_from, reading_of, reading_of_lines}
use Rattle.rv_asm.specs.RuleByRule.{breaks_among, IsRefused, words_from, AreWordsOf, HasCause}
use Rattle.rv_asm.specs.Answers.{Answers}

-- ---- the rules by their numbers

rule_of : ℕ → Rule
rule_of n = cond (eqb n 1) ForeignByte (cond (eqb n 2) UnknownWord (cond (eqb n 3) BadForm (cond (eqb n 4) NumberRange (cond (eqb n 5) DefinedTwice (cond (eqb n 6) NeverDefined (cond (eqb n 7) TooFar TooLong))))))

rule_of-number : (r : Rule) → rule_of (number_of_rule r) ≡ r
unfolding rule_of
rule_of-number ForeignByte = refl
rule_of-number UnknownWord = refl
rule_of-number BadForm = refl
rule_of-number NumberRange = refl
rule_of-number DefinedTwice = refl
rule_of-number NeverDefined = refl
rule_of-number TooFar = refl
rule_of-number TooLong = refl

same_rule : (a b : Rule) → number_of_rule a ≡ number_of_rule b → a ≡ b
same_rule a b e = sym (rule_of-number a) ∙ ap rule_of e ∙ rule_of-number b

one_or_more : (r : Rule) → (1 ≤ number_of_rule r) × (number_of_rule r ≤ 8)
one_or_more ForeignByte = (omega arith, omega arith)
one_or_more UnknownWord = (omega arith, omega arith)
one_or_more BadForm = (omega arith, omega arith)
one_or_more NumberRange = (omega arith, omega arith)
one_or_more DefinedTwice = (omega arith, omega arith)
one_or_more NeverDefined = (omega arith, omega arith)
one_or_more TooFar = (omega arith, omega arith)
one_or_more TooLong = (omega arith, omega arith)

-- rules with the numbers from k on
abbrev AreFrom : ℕ → List Rule → Type 0
AreFrom k [] = k ≡ 9
AreFrom k (r ∷ rs) = (number_of_rule r ≡ k) × AreFrom (k + 1) rs

rules_from : AreFrom 1 rules
rules_from = (refl, (refl, (refl, (refl, (refl, (refl, (refl, (refl, refl))))))))

found : (p : Rule → Bool) (x : Rule) (xs : List Rule) (r : Rule) → find p (x ∷ xs) ≡ Some r → ((p x ≡ true) × (x ≡ r)) ⊎ ((p x ≡ false) × (find p xs ≡ Some r))
found p x xs r e = by_test (p x) refl
  where
    by_test : (b : Bool) → p x ≡ b → ((p x ≡ true) × (x ≡ r)) ⊎ ((p x ≡ false) × (find p xs ≡ Some r))
    by_test true h = let f = rw h at e in inl (h, cc)
    by_test false h = let f = rw h at e in inr (h, f)

passes : (p : Rule → Bool) (xs : List Rule) (r : Rule) → find p xs ≡ Some r → p r ≡ true
passes p [] r e = absurd cc
passes p (x ∷ xs) r e =
    elim (found p x xs r e) [
      | inl h ↦ ap p (sym h.1) ∙ h.0
      | inr h ↦ passes p xs r h.1
    ]

lower_fails : (p : Rule → Bool) (k : ℕ) (xs : List Rule) (r lower : Rule) → AreFrom k xs → find p xs ≡ Some r → k ≤ number_of_rule lower → number_of_rule lower < number_of_rule r → p lower ≡ false
lower_fails p k [] r lower are e le lt = absurd cc
lower_fails p k (x ∷ xs) r lower are e le lt =
    elim (found p x xs r e) [
      | inl h ↦ let same = ap number_of_rule h.1 in absurd (omega (arith, same, are.0, le, lt))
      | inr h ↦ elim (cases_eq (number_of_rule lower) k) [
        | inl here ↦ ap p (same_rule lower x (here ∙ sym are.0)) ∙ h.0
        | inr other ↦ lower_fails p (k + 1) xs r lower are.1 h.1 (omega (arith, le, other)) lt
      ]
    ]

none_at_all : (p : Rule → Bool) (k : ℕ) (xs : List Rule) (r : Rule) → AreFrom k xs → find p xs ≡ None → k ≤ number_of_rule r → p r ≡ false
none_at_all p k [] r are e le = absurd (omega (arith, are, le, (one_or_more r).1))
none_at_all p k (x ∷ xs) r are e le = by_test (λ next_le f. none_at_all p (k + 1) xs r are.1 f next_le) (p x) refl
  where
    by_test : (k + 1 ≤ number_of_rule r → find p xs ≡ None → p r ≡ false) → (b : Bool) → p x ≡ b → p r ≡ false
    by_test next true h = let f = rw h at e in absurd cc
    by_test next false h =
        let f = rw h at e in
        elim (cases_eq (number_of_rule r) k) [
          | inl here ↦ ap p (same_rule r x (here ∙ sym are.0)) ∙ h
          | inr other ↦ next (omega (arith, le, other)) f
        ]

-- ---- the lines

module _ (labels : List (List ℕ × Place)) where
  -- the line after i others is the first that breaks a rule
  record Refused (n words : ℕ) (lines : List (List ℕ)) (line : ℕ) (rule : Rule) : Type 0 where
    before : ℕ
    number : line ≡ n + before
    broken : breaks_among labels n words lines before rule ≡ true
    lowest : (lower : Rule) → number_of_rule lower < number_of_rule rule → breaks_among labels n words lines before lower ≡ false
    first : (i : ℕ) (other : Rule) → i < before → breaks_among labels n words lines i other ≡ false

  front_err : (front : List ℕ) (r : Result (List ℕ) (ℕ × Rule)) (e : ℕ × Rule) → with_front front r ≡ Err e → r ≡ Err e
  front_err front (Ok rest) e h = absurd cc
  front_err front (Err refused) e h = h

  front_ok : (front : List ℕ) (r : Result (List ℕ) (ℕ × Rule)) (words : List ℕ) → with_front front r ≡ Ok words → (rest : List ℕ) × (r ≡ Ok rest) × (words ≡ front ++ rest)
  front_ok front (Ok rest) words h = (rest, refl, cc)
  front_ok front (Err refused) words h = absurd cc

  later : (n words : ℕ) (line : List ℕ) (lines : List (List ℕ)) (m : ℕ) (rule : Rule) → ((r : Rule) → breaks labels n words line r ≡ false) → Refused (n + 1) (words + line_size line) lines m rule → Refused n words (line ∷ lines) m rule
  later n words line lines m rule none r = record {
    before = suc r.before;
    number = omega (arith, r.number);
    broken = r.broken;
    lowest = r.lowest;
    first = first_of;
  }
    where
      first_of : (i : ℕ) (other : Rule) → i < suc r.before → breaks_among labels n words (line ∷ lines) i other ≡ false
      first_of zero other lt = none other
      first_of (suc i) other lt = r.first i other (omega (arith, lt))

  now : (n words : ℕ) (line : List ℕ) (lines : List (List ℕ)) (rule : Rule) → broken_by labels n words line ≡ Some rule → Refused n words (line ∷ lines) n rule
  now n words line lines rule e = record {
    before = 0;
    number = omega arith;
    broken = passes (breaks labels n words line) rules rule e;
    lowest = λ lower lt. lower_fails (breaks labels n words line) 1 rules rule lower rules_from e (one_or_more lower).0 lt;
    first = λ i other lt. absurd (omega (arith, lt));
  }

  refused : (n words : ℕ) (lines : List (List ℕ)) (m : ℕ) (rule : Rule) → reading_from labels n words lines ≡ Err (m, rule) → Refused n words lines m rule
  refused n words [] m rule e = absurd cc
  refused n words (line ∷ lines) m rule e = by_rule (λ f. refused (n + 1) (words + line_size line) lines m rule f) (broken_by labels n words line) refl
    where
      added : List ℕ
      added = words_at labels (address_after words) (line_code line)

      rest : Result (List ℕ) (ℕ × Rule)
      rest = reading_from labels (n + 1) (words + line_size line) lines

      err_of : Result (List ℕ) (ℕ × Rule) → ℕ × Rule
      err_of (Ok words) = (0, rule)
      err_of (Err e) = e

      by_rule : (rest ≡ Err (m, rule) → Refused (n + 1) (words + line_size line) lines m rule) → (o : Option Rule) → broken_by labels n words line ≡ o → Refused n words (line ∷ lines) m rule
      by_rule next (Some r) h =
          let same = ap err_of (sym (ap (λ (o : Option Rule). line_then n o added rest) h) ∙ e) in
          rw (← ap (λ (e : ℕ × Rule). e.0) same, ← ap (λ (e : ℕ × Rule). e.1) same) (now n words line lines r h)
      by_rule next None h =
          let f : with_front added rest ≡ Err (m, rule) = sym (ap (λ (o : Option Rule). line_then n o added rest) h) ∙ e in
          later n words line lines m rule (λ r. none_at_all (breaks labels n words line) 1 rules r rules_from h (one_or_more r).0) (next (front_err added rest (m, rule) f))

  record Kept (n words : ℕ) (lines : List (List ℕ)) (all : List ℕ) : Type 0 where
    kept : (i : ℕ) (rule : Rule) → breaks_among labels n words lines i rule ≡ false
    are : all ≡ words_from labels words lines

  kept_later : (n words : ℕ) (line : List ℕ) (lines : List (List ℕ)) (rest all : List ℕ) → ((r : Rule) → breaks labels n words line r ≡ false) → all ≡ words_at labels (address_after words) (line_code line) ++ rest → Kept (n + 1) (words + line_size line) lines rest → Kept n words (line ∷ lines) all
  kept_later n words line lines rest all none is k = record { kept = kept_of; are = is ∙ ap (λ (t : List ℕ). words_at labels (address_after words) (line_code line) ++ t) k.are }
    where
      kept_of : (i : ℕ) (rule : Rule) → breaks_among labels n words (line ∷ lines) i rule ≡ false
      kept_of zero rule = none rule
      kept_of (suc i) rule = k.kept i rule

  kept_all : (n words : ℕ) (lines : List (List ℕ)) (all : List ℕ) → reading_from labels n words lines ≡ Ok all → Kept n words lines all
  kept_all n words [] all e = record { kept = λ i rule. refl; are = cc }
  kept_all n words (line ∷ lines) all e = by_rule (λ rest f. kept_all (n + 1) (words + line_size line) lines rest f) (broken_by labels n words line) refl
    where
      added : List ℕ
      added = words_at labels (address_after words) (line_code line)

      after : Result (List ℕ) (ℕ × Rule)
      after = reading_from labels (n + 1) (words + line_size line) lines

      not_refused : (refused : ℕ × Rule) → Err refused ≡ Ok all → ⊥
      not_refused refused h = absurd cc

      by_rule : ((rest : List ℕ) → after ≡ Ok rest → Kept (n + 1) (words + line_size line) lines rest) → (o : Option Rule) → broken_by labels n words line ≡ o → Kept n words (line ∷ lines) all
      by_rule next (Some r) h = absurd (not_refused (n, r) (sym (ap (λ (o : Option Rule). line_then n o added after) h) ∙ e))
      by_rule next None h =
          let f : with_front added after ≡ Ok all = sym (ap (λ (o : Option Rule). line_then n o added after) h) ∙ e in
          let parts = front_ok added after all f in
          kept_later n words line lines parts.0 all (λ r. none_at_all (breaks labels n words line) 1 rules r rules_from h (one_or_more r).0) parts.2 (next parts.0 parts.1)

-- ---- a text

pub is_refused : (text : List ℕ) (line : ℕ) (rule : Rule) → reading_of text ≡ Err (line, rule) → IsRefused text line rule
unfolding reading_of_lines
is_refused text line rule e =
    let r = refused (labels_of text) 1 0 (lines_of text) line rule e in
    record { before = r.before; number = omega (arith, r.number); broken = r.broken; lowest = r.lowest; first = r.first }

pub are_words_of : (text words : List ℕ) → reading_of text ≡ Ok words → AreWordsOf text words
unfolding reading_of_lines
are_words_of text words e =
    let k = kept_all (labels_of text) 1 0 (lines_of text) words e in
    record { kept = k.kept; words_are = k.are }

pub words_from_answer : (text : List ℕ) (r : Result (List ℕ) AsmRefused) → Answers r (reading_of text) → IfOk r (λ words. AreWordsOf text words)
words_from_answer text (Ok words) a = are_words_of text words a
words_from_answer text (Err e) a = tt

pub cause_from_answer : (text : List ℕ) (r : Result (List ℕ) AsmRefused) → Answers r (reading_of text) → IfErr r (HasCause text)
cause_from_answer text (Ok words) a = tt
cause_from_answer text (Err (refusals.Line line number)) a = (a.0, a.2, is_refused text line a.0 a.1)
cause_from_answer text (Err refusals.NoMemory) a = tt
