-- The rule that is found first is the lowest that is broken.
use Rattle.std.proofs.Common.{◌≡◌, ℕ, ◌+◌, ◌<◌, ◌≤◌, Bool, true, false, cond, eqb, List, [], ◌∷◌, ◌++◌, Some, None, refl, sym, ap, ◌∙◌, arith, inl, inr, ◌⊎◌}
use Rattle.std.specs.List.{find}
use Rattle.std.proofs.lemmas.Bool.{cases_eq}
use Rattle.rv_elf.specs.declared.refusal.Rule.{Rule}
use Rattle.rv_elf.specs.declared.refusal.Rule.TheVariants.{NoElf, Class, Machine, Compressed, Table, Dynamic, FileBytes, Outside, Overlap, Entry}
use Rattle.rv_elf.specs.Refusal.{number_of_rule}
use Rattle.rv_elf.specs.Rules.{rules}

-- ---- the rules by their numbers

rule_of : ℕ → Rule
rule_of n = cond (eqb n 1) NoElf
    (cond (eqb n 2) Class
    (cond (eqb n 3) Machine (cond (eqb n 4) Compressed (cond (eqb n 5) Table (cond (eqb n 6) Dynamic (cond (eqb n 7) FileBytes (cond (eqb n 8) Outside (cond (eqb n 9) Overlap Entry))))))))

rule_of-number : (r : Rule) → rule_of (number_of_rule r) ≡ r
unfolding rule_of
rule_of-number NoElf = refl
rule_of-number Class = refl
rule_of-number Machine = refl
rule_of-number Compressed = refl
rule_of-number Table = refl
rule_of-number Dynamic = refl
rule_of-number FileBytes = refl
rule_of-number Outside = refl
rule_of-number Overlap = refl
rule_of-number Entry = refl

same_rule : (a b : Rule) → number_of_rule a ≡ number_of_rule b → a ≡ b
same_rule a b e = sym (rule_of-number a) ∙ ap rule_of e ∙ rule_of-number b

one_or_more : (r : Rule) → (1 ≤ number_of_rule r) × (number_of_rule r ≤ 10)
one_or_more NoElf = (omega arith, omega arith)
one_or_more Class = (omega arith, omega arith)
one_or_more Machine = (omega arith, omega arith)
one_or_more Compressed = (omega arith, omega arith)
one_or_more Table = (omega arith, omega arith)
one_or_more Dynamic = (omega arith, omega arith)
one_or_more FileBytes = (omega arith, omega arith)
one_or_more Outside = (omega arith, omega arith)
one_or_more Overlap = (omega arith, omega arith)
one_or_more Entry = (omega arith, omega arith)

-- rules with the numbers from k to 10
abbrev AreFrom : ℕ → List Rule → Type 0
AreFrom k [] = k ≡ 11
AreFrom k (r ∷ rs) = (number_of_rule r ≡ k) × AreFrom (k + 1) rs

rules_from : AreFrom 1 rules
rules_from = (refl, (refl, (refl, (refl, (refl, (refl, (refl, (refl, (refl, (refl, refl))))))))))

-- ---- what is found first

found : (p : Rule → Bool) (x : Rule) (xs : List Rule) (r : Rule) → find p (x ∷ xs) ≡ Some r → ((p x ≡ true) × (x ≡ r)) ⊎ ((p x ≡ false) × (find p xs ≡ Some r))
found p x xs r e = by_test (p x) refl
  where
    by_test : (b : Bool) → p x ≡ b → ((p x ≡ true) × (x ≡ r)) ⊎ ((p x ≡ false) × (find p xs ≡ Some r))
    by_test true h = let f = rw h at e in inl (h, cc)
    by_test false h = let f = rw h at e in inr (h, f)

passes_in : (p : Rule → Bool) (xs : List Rule) (r : Rule) → find p xs ≡ Some r → p r ≡ true
passes_in p [] r e = absurd cc
passes_in p (x ∷ xs) r e =
    elim (found p x xs r e) [
      | inl h ↦ ap p (sym h.1) ∙ h.0
      | inr h ↦ passes_in p xs r h.1
    ]

lower_fails_from : (p : Rule → Bool) (k : ℕ) (xs : List Rule) (r lower : Rule) → AreFrom k xs → find p xs ≡ Some r → k ≤ number_of_rule lower → number_of_rule lower < number_of_rule r
    → p lower ≡ false
lower_fails_from p k [] r lower are e le lt = absurd cc
lower_fails_from p k (x ∷ xs) r lower are e le lt =
    elim (found p x xs r e) [
      | inl h ↦ let same = ap number_of_rule h.1 in absurd (omega (arith, same, are.0, le, lt))
      | inr h ↦ elim (cases_eq (number_of_rule lower) k) [
        | inl here ↦ ap p (same_rule lower x (here ∙ sym are.0)) ∙ h.0
        | inr other ↦ lower_fails_from p (k + 1) xs r lower are.1 h.1 (omega (arith, le, other)) lt
      ]
    ]

none_from : (p : Rule → Bool) (k : ℕ) (xs : List Rule) (r : Rule) → AreFrom k xs → find p xs ≡ None → k ≤ number_of_rule r → p r ≡ false
none_from p k [] r are e le = absurd (omega (arith, are, le, (one_or_more r).1))
none_from p k (x ∷ xs) r are e le = by_test (λ next_le f. none_from p (k + 1) xs r are.1 f next_le) (p x) refl
  where
    by_test : (k + 1 ≤ number_of_rule r → find p xs ≡ None → p r ≡ false) → (b : Bool) → p x ≡ b → p r ≡ false
    by_test next true h = let f = rw h at e in absurd cc
    by_test next false h =
        let f = rw h at e in
        elim (cases_eq (number_of_rule r) k) [
          | inl here ↦ ap p (same_rule r x (here ∙ sym are.0)) ∙ h
          | inr other ↦ next (omega (arith, le, other)) f
        ]

-- the rule that is found is broken
pub passes : (p : Rule → Bool) (r : Rule) → find p rules ≡ Some r → p r ≡ true
passes p r e = passes_in p rules r e

-- and no lower one is
pub lower_fails : (p : Rule → Bool) (r lower : Rule) → find p rules ≡ Some r → number_of_rule lower < number_of_rule r → p lower ≡ false
lower_fails p r lower e lt = lower_fails_from p 1 rules r lower rules_from e (one_or_more lower).0 lt

-- where none is found, none is
pub none_at_all : (p : Rule → Bool) (r : Rule) → find p rules ≡ None → p r ≡ false
none_at_all p r e = none_from p 1 rules r rules_from e (one_or_more r).0

-- ---- in two parts

-- what is found in the first part is found in both
pub found_in_front : (p : Rule → Bool) (xs ys : List Rule) (r : Rule) → find p xs ≡ Some r → find p (xs ++ ys) ≡ Some r
found_in_front p [] ys r e = absurd cc
found_in_front p (x ∷ xs) ys r e = by_test (λ f. found_in_front p xs ys r f) (p x) refl
  where
    by_test : (find p xs ≡ Some r → find p (xs ++ ys) ≡ Some r) → (b : Bool) → p x ≡ b → find p (x ∷ (xs ++ ys)) ≡ Some r
    by_test next true h = let f = rw h at e in rw h f
    by_test next false h = let f = rw h at e in rw h (next f)

-- where nothing is found, the first is not broken, and nothing is found behind it
pub passed_over : (p : Rule → Bool) (x : Rule) (xs : List Rule) → find p (x ∷ xs) ≡ None → (p x ≡ false) × (find p xs ≡ None)
passed_over p x xs e = by_test (p x) refl
  where
    by_test : (b : Bool) → p x ≡ b → (p x ≡ false) × (find p xs ≡ None)
    by_test true h = let f = rw h at e in absurd cc
    by_test false h = let f = rw h at e in (h, f)
