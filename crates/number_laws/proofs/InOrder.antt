-- Lists with the same numbers, in which none stands twice, are one in rising order.
use Rattle.std.proofs.Common.{◌≡◌, ℕ, refl, sym, ◌∙◌, ap, arith, List, [], ◌∷◌, Bool, true, false, cond, not, ◌||◌, eqb, eqb-true, eq-eqb, ltb, true≢false}
use Rattle.std.specs.Prelude.{filter}
use Rattle.std.specs.List.{AllByRecursion, list_any}
use Rattle.std.specs.List.Sorted.{IsStrictlySortedBy}
use Rattle.std.specs.Ordering.{nat_cmp}
use Rattle.std.specs.declared.cmp.Ordering.TheVariants.{Less}
use Rattle.std.proofs.lemmas.Bool.{or_parts}
use Rattle.std.proofs.lemmas.Bool.Decides.{nat_tests}
use Rattle.cert_sched.specs.Parts.{put_rising, rising}
use Rattle.cert_sched.proofs.RisingLaws.{NoTwo, put_rising-swap}

-- ---- numbers that rise already

first_below : (n : ℕ) (ns : List ℕ) → AllByRecursion (λ m. nat_cmp n m ≡ Less) ns → put_rising n ns ≡ n ∷ ns
first_below n [] all = refl
first_below n (m ∷ ns) all = ap (λ b. cond b (n ∷ m ∷ ns) (m ∷ put_rising n ns)) (less n m all.0)
  where
    less : (n m : ℕ) → nat_cmp n m ≡ Less → ltb n m ≡ true
    less n m is = grind (arith, nat_tests)

pub rises_already : (ns : List ℕ) → IsStrictlySortedBy nat_cmp ns → rising ns ≡ ns
unfolding IsStrictlySortedBy
rises_already [] sorted = refl
rises_already (n ∷ ns) sorted = ap (put_rising n) (rises_already ns sorted.1) ∙ first_below n ns sorted.0

none_equal : (n : ℕ) (ns : List ℕ) → AllByRecursion (λ m. nat_cmp n m ≡ Less) ns → list_any (λ m. eqb m n) ns ≡ false
none_equal n [] all = refl
none_equal n (m ∷ ns) all = λ i. apart n m all.0 i || none_equal n ns all.1 i
  where
    apart : (n m : ℕ) → nat_cmp n m ≡ Less → eqb m n ≡ false
    apart n m is = grind (arith, nat_tests)

pub rises_apart : (ns : List ℕ) → IsStrictlySortedBy nat_cmp ns → NoTwo ns
unfolding IsStrictlySortedBy
rises_apart [] sorted = tt
rises_apart (n ∷ ns) sorted = (none_equal n ns sorted.0, rises_apart ns sorted.1)

-- ---- the same numbers

abbrev pub has : ℕ → List ℕ → Bool
has n ns = list_any (λ m. eqb m n) ns

abbrev without : ℕ → List ℕ → List ℕ
without n ns = filter (λ m. not (eqb m n)) ns

turned : (m n : ℕ) → eqb m n ≡ false → eqb n m ≡ false
turned m n apart = grind (arith, nat_tests)

not_there : (n : ℕ) (ns : List ℕ) → has n ns ≡ false → without n ns ≡ ns
not_there n [] none = refl
not_there n (m ∷ ns) none =
    let parts = or_parts (eqb m n) (has n ns) none in
    ap (λ b. cond (not b) (m ∷ without n ns) (without n ns)) parts.0 ∙ ap (λ ms. m ∷ ms) (not_there n ns parts.1)

-- a number that is there once may be put last
taken_out : (n : ℕ) (ns : List ℕ) → NoTwo ns → has n ns ≡ true → rising ns ≡ put_rising n (rising (without n ns))
taken_out n [] two there = absurd (true≢false (sym there))
taken_out n (m ∷ ns) two there = by_test (eqb m n) refl there (taken_out n ns two.1)
  where
    by_test : (b : Bool) → eqb m n ≡ b → (b || has n ns) ≡ true → (has n ns ≡ true → rising ns ≡ put_rising n (rising (without n ns)))
        → put_rising m (rising ns) ≡ put_rising n (rising (cond (not b) (m ∷ without n ns) (without n ns)))
    by_test true is there more =
        let same : m ≡ n = eqb-true m n is in
        ap (λ k. put_rising k (rising ns)) same ∙ ap (λ ms. put_rising n (rising ms)) (sym (not_there n ns (ap (λ k. has k ns) (sym same) ∙ two.0)))
    by_test false is there more = ap (put_rising m) (more there) ∙ put_rising-swap m n (rising (without n ns))

-- without it every other number is there as before
still_there : (k n : ℕ) (ns : List ℕ) → eqb n k ≡ false → has k (without n ns) ≡ has k ns
still_there k n [] apart = refl
still_there k n (m ∷ ns) apart = by_test (eqb m n) refl (still_there k n ns apart)
  where
    by_test : (b : Bool) → eqb m n ≡ b → has k (without n ns) ≡ has k ns → has k (cond (not b) (m ∷ without n ns) (without n ns)) ≡ (eqb m k || has k ns)
    by_test true is more = more ∙ ap (λ b. b || has k ns) (sym (ap (λ j. eqb j k) (eqb-true m n is) ∙ apart))
    by_test false is more = ap (λ b. eqb m k || b) more

gone : (n : ℕ) (ns : List ℕ) → has n (without n ns) ≡ false
gone n [] = refl
gone n (m ∷ ns) = by_test (eqb m n) refl (gone n ns)
  where
    by_test : (b : Bool) → eqb m n ≡ b → has n (without n ns) ≡ false → has n (cond (not b) (m ∷ without n ns) (without n ns)) ≡ false
    by_test true is more = more
    by_test false is more = λ i. is i || more i

stays_apart : (n : ℕ) (ns : List ℕ) → NoTwo ns → NoTwo (without n ns)
stays_apart n [] two = tt
stays_apart n (m ∷ ns) two = by_test (eqb m n) refl (stays_apart n ns two.1)
  where
    by_test : (b : Bool) → eqb m n ≡ b → NoTwo (without n ns) → NoTwo (cond (not b) (m ∷ without n ns) (without n ns))
    by_test true is more = more
    by_test false is more = (still_there m n ns (turned m n is) ∙ two.0, more)

pub same_in_order : (ns ms : List ℕ) → NoTwo ns → NoTwo ms → ((n : ℕ) → has n ns ≡ has n ms) → rising ns ≡ rising ms
same_in_order [] [] two twos same = refl
same_in_order [] (m ∷ ms) two twos same = absurd (true≢false (sym (ap (λ b. b || has m ms) (eq-eqb m m refl)) ∙ sym (same m)))
same_in_order (n ∷ ns) ms two twos same =
    let there : has n ms ≡ true = sym (same n) ∙ ap (λ b. b || has n ns) (eq-eqb n n refl) in
    ap (put_rising n) (same_in_order ns (without n ms) two.1 (stays_apart n ms twos) rest) ∙ sym (taken_out n ms twos there)
  where
    rest : (k : ℕ) → has k ns ≡ has k (without n ms)
    rest k = by_test (eqb n k) refl
      where
        by_test : (b : Bool) → eqb n k ≡ b → has k ns ≡ has k (without n ms)
        by_test true is = let here : n ≡ k = eqb-true n k is in ap (λ j. has j ns) (sym here) ∙ two.0 ∙ sym (ap (λ j. has j (without n ms)) (sym here) ∙ gone n ms)
        by_test false is = ap (λ b. b || has k ns) (sym is) ∙ same k ∙ sym (still_there k n ms is)
