-- Letters that come to a process are among the saved ones and in its mailbox: of the saved letters the same were read.
use Rattle.std.proofs.Common.{◌≡◌, ℕ, ◌+◌, ◌<◌, refl, ◌∙◌, ap, arith, List, [], ◌∷◌, ◌++◌, map, Bool, true, false, cond, not, ◌||◌, eqb, eq-eqb, ne_eqb, ltb}
use Rattle.std.specs.Prelude.{filter}
use Rattle.std.proofs.lemmas.Bool.{and_parts}
use Rattle.std.proofs.lemmas.Bool.Decides.{nat_tests}
use Rattle.std.proofs.lemmas.List.Folds.{list_any-append}
use Rattle.t32_base.specs.declared.letter.Arrived.{Arrived}
use Rattle.t32_base.specs.declared.letter.Letter.{Letter}
use Rattle.t32_base.proofs.Facts.{or_false, or_true}
use Rattle.cert_sched.specs.Deeds.{numbered}
use Rattle.cert_sched.specs.Steps.{numbers_read}
use Rattle.log_laws.specs.letters.Numbered.{are_below}
use Rattle.checkpoint_laws.proofs.posts.TakenNumbers.{has}

less_of : (m n : ℕ) → ltb m n ≡ true → m < n
less_of m n less = grind (arith, nat_tests)

-- none of those that come has a number below theirs
none_lower : (m n : ℕ) (letters : List Letter) → m < n → has m (numbered n letters) ≡ false
none_lower m n [] less = refl
none_lower m n (l ∷ letters) less = ap (λ b. b || has m (numbered (n + 1) letters)) (ne_eqb n m (λ same. omega (arith, same, less))) ∙ none_lower m (n + 1) letters (omega (arith, less))

-- of letters that are all in the mailbox none was read
in_mail : (letters mail : List Arrived) → ((m : ℕ) → has m letters ≡ true → has m mail ≡ true) → numbers_read letters mail ≡ []
in_mail [] mail there = refl
in_mail (a ∷ letters) mail there =
    ap (λ b. number_of (cond (not b) (a ∷ left) left)) (there a.number (ap (λ b. b || has a.number letters) (eq-eqb a.number a.number refl)))
    ∙ in_mail letters mail (λ m here. there m (ap (λ b. eqb a.number m || b) here ∙ or_true (eqb a.number m)))
  where
    number_of : List Arrived → List ℕ
    number_of xs = map (λ (b : Arrived). b.number) xs

    left : List Arrived
    left = filter (λ (b : Arrived). not (has b.number mail)) letters

module _ (n : ℕ) (letters : List Letter) (mail : List Arrived) where
  abbrev new : List Arrived
  new = numbered n letters

  -- those that come are in the mailbox
  new_there : numbers_read new (mail ++ new) ≡ []
  new_there = in_mail new (mail ++ new) (λ m here. list_any-append (λ (b : Arrived). eqb b.number m) mail new ∙ ap (λ b. has m mail || b) here ∙ or_true (has m mail))

  -- a lower number is in the mailbox where it was
  same_there : (m : ℕ) → m < n → has m (mail ++ new) ≡ has m mail
  same_there m less = list_any-append (λ (b : Arrived). eqb b.number m) mail new ∙ ap (λ b. has m mail || b) (none_lower m n letters less) ∙ or_false (has m mail)

  pub same_read : (saved : List Arrived) → are_below n saved ≡ true → numbers_read (saved ++ new) (mail ++ new) ≡ numbers_read saved mail
  same_read [] below = new_there
  same_read (a ∷ saved) below =
      let parts = and_parts (ltb a.number n) (are_below n saved) below in
      ap (λ b. map (λ (c : Arrived). c.number) (cond (not b) (a ∷ left_more) left_more)) (same_there a.number (less_of a.number n parts.0))
      ∙ by_test (has a.number mail) (same_read saved parts.1)
    where
      left : List Arrived
      left = filter (λ (b : Arrived). not (has b.number mail)) saved

      left_more : List Arrived
      left_more = filter (λ (b : Arrived). not (has b.number (mail ++ new))) (saved ++ new)

      by_test : (b : Bool) → map (λ (c : Arrived). c.number) left_more ≡ map (λ (c : Arrived). c.number) left
          → map (λ (c : Arrived). c.number) (cond (not b) (a ∷ left_more) left_more) ≡ map (λ (c : Arrived). c.number) (cond (not b) (a ∷ left) left)
      by_test true more = more
      by_test false more = ap (λ ns. a.number ∷ ns) more
