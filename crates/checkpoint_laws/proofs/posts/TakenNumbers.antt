-- A letter that is taken out of a mailbox is one more that was read: its number is put in its place among those read before.
use Rattle.std.proofs.Common.{◌≡◌, ℕ, refl, sym, ◌∙◌, ap, arith, List, [], ◌∷◌, ◌++◌, map, Bool, true, false, cond, not, ◌||◌, ◌&&◌, eqb, eqb-true, eq-eqb, ltb, Option, Some, None, true≢false}
use Rattle.std.specs.Prelude.{filter, find}
use Rattle.std.specs.List.{list_any}
use Rattle.std.proofs.lemmas.Bool.{and_parts, and_from}
use Rattle.std.proofs.lemmas.Bool.Decides.{nat_tests}
use Rattle.std.proofs.lemmas.Option.{same_Some}
use Rattle.t32_base.specs.declared.letter.Arrived.{Arrived}
use Rattle.t32_base.proofs.Facts.{or_false, or_true, and_true, and_false}
use Rattle.proc_state.specs.Mail.{without_first}
use Rattle.cert_sched.specs.Parts.{put_rising, rising}
use Rattle.cert_sched.specs.Steps.{numbers_read}
use Rattle.cert_sched.proofs.RisingLaws.{rising-append, put_all-put, put_all-none}
use Rattle.log_laws.specs.letters.Numbered.{are_above, are_in_order}

-- the letter is the first that passes a test, and the others are left
pub record IsTaken (a : Arrived) (before after : List Arrived) : Type 0 where
  pub wanted : Arrived → Bool
  pub found : find wanted before ≡ Some a
  pub left : after ≡ without_first wanted before

-- where no letter is taken the mailbox stays
abbrev pub TakesOut : Option Arrived → List Arrived → List Arrived → Type 0
TakesOut None before after = after ≡ before
TakesOut (Some a) before after = IsTaken a before after

-- a letter of the list has the number
abbrev pub has : ℕ → List Arrived → Bool
has n letters = list_any (λ (b : Arrived). eqb b.number n) letters

-- ---- two numbers

not_under : (m n : ℕ) → ltb m n ≡ true → ltb n m ≡ false
not_under m n less = grind (arith, nat_tests)

apart : (m n : ℕ) → ltb m n ≡ true → eqb m n ≡ false
apart m n less = grind (arith, nat_tests)

turned_apart : (m n : ℕ) → ltb m n ≡ true → eqb n m ≡ false
turned_apart m n less = grind (arith, nat_tests)

turned : (m n : ℕ) → eqb m n ≡ false → eqb n m ≡ false
turned m n other = grind (arith, nat_tests)

-- ---- letters in order

filter_above : (n : ℕ) (test : Arrived → Bool) (xs : List Arrived) → are_above n xs ≡ true → are_above n (filter test xs) ≡ true
filter_above n test [] above = refl
filter_above n test (x ∷ xs) above = let parts = and_parts (ltb n x.number) (are_above n xs) above in by_test (test x) parts.0 (filter_above n test xs parts.1)
  where
    by_test : (b : Bool) → ltb n x.number ≡ true → are_above n (filter test xs) ≡ true → are_above n (cond b (x ∷ filter test xs) (filter test xs)) ≡ true
    by_test true here more = and_from (ltb n x.number) (are_above n (filter test xs)) here more
    by_test false here more = more

pub filter_in_order : (test : Arrived → Bool) (xs : List Arrived) → are_in_order xs ≡ true → are_in_order (filter test xs) ≡ true
filter_in_order test [] rises = refl
filter_in_order test (x ∷ xs) rises =
    let parts = and_parts (are_above x.number xs) (are_in_order xs) rises in
    by_test (test x) (filter_above x.number test xs parts.0) (filter_in_order test xs parts.1)
  where
    by_test : (b : Bool) → are_above x.number (filter test xs) ≡ true → are_in_order (filter test xs) ≡ true → are_in_order (cond b (x ∷ filter test xs) (filter test xs)) ≡ true
    by_test true above more = and_from (are_above x.number (filter test xs)) (are_in_order (filter test xs)) above more
    by_test false above more = more

pub has_filter : (n : ℕ) (test : Arrived → Bool) (xs : List Arrived) → has n (filter test xs) ≡ true → has n xs ≡ true
has_filter n test [] there = there
has_filter n test (x ∷ xs) there = by_test (test x) there (has_filter n test xs)
  where
    or_more : (b : Bool) → (has n (filter test xs) ≡ true → has n xs ≡ true) → (b || has n (filter test xs)) ≡ true → (b || has n xs) ≡ true
    or_more true more is = refl
    or_more false more is = more is

    by_test : (b : Bool) → has n (cond b (x ∷ filter test xs) (filter test xs)) ≡ true → (has n (filter test xs) ≡ true → has n xs ≡ true) → (eqb x.number n || has n xs) ≡ true
    by_test true is more = or_more (eqb x.number n) more is
    by_test false is more = ap (λ b. eqb x.number n || b) (more is) ∙ or_true (eqb x.number n)

-- a number that a letter has is above what all are above
has_above : (m n : ℕ) (xs : List Arrived) → are_above m xs ≡ true → has n xs ≡ true → ltb m n ≡ true
has_above m n [] above there = absurd (true≢false (sym there))
has_above m n (x ∷ xs) above there = let parts = and_parts (ltb m x.number) (are_above m xs) above in by_test (eqb x.number n) refl there parts.0 (has_above m n xs parts.1)
  where
    by_test : (b : Bool) → eqb x.number n ≡ b → (b || has n xs) ≡ true → ltb m x.number ≡ true → (has n xs ≡ true → ltb m n ≡ true) → ltb m n ≡ true
    by_test true is there here more = ap (ltb m) (sym (eqb-true x.number n is)) ∙ here
    by_test false is there here more = more there

-- so it is none that all are above
has_none : (n : ℕ) (xs : List Arrived) → are_above n xs ≡ true → has n xs ≡ false
has_none n xs above = by_test (has n xs) refl
  where
    by_test : (b : Bool) → has n xs ≡ b → b ≡ false
    by_test true there = absurd (true≢false (sym (eq-eqb n n refl) ∙ apart n n (has_above n n xs above there)))
    by_test false there = refl

-- ---- a letter that is found

found_has : (wanted : Arrived → Bool) (xs : List Arrived) (a : Arrived) → find wanted xs ≡ Some a → has a.number xs ≡ true
found_has wanted [] a found = cc
found_has wanted (x ∷ xs) a found = by_test (wanted x) found (found_has wanted xs a)
  where
    by_test : (b : Bool) → cond b (Some x) (find wanted xs) ≡ Some a → (find wanted xs ≡ Some a → has a.number xs ≡ true) → (eqb x.number a.number || has a.number xs) ≡ true
    by_test true is more = ap (λ b. b || has a.number xs) (eq-eqb x.number a.number (ap (λ (b : Arrived). b.number) (same_Some x a is)))
    by_test false is more = ap (λ b. eqb x.number a.number || b) (more is) ∙ or_true (eqb x.number a.number)

-- without it the others have their numbers still
without_has : (n : ℕ) (wanted : Arrived → Bool) (xs : List Arrived) (a : Arrived) → are_in_order xs ≡ true → find wanted xs ≡ Some a → has n (without_first wanted xs) ≡ (has n xs && not (eqb n a.number))
without_has n wanted [] a rises found = cc
without_has n wanted (x ∷ xs) a rises found =
    let parts = and_parts (are_above x.number xs) (are_in_order xs) rises in
    by_test (wanted x) found parts.0 (without_has n wanted xs a parts.1)
  where
    at_first : (b : Bool) → eqb n x.number ≡ b → x ≡ a → are_above x.number xs ≡ true → has n xs ≡ ((eqb x.number n || has n xs) && not (eqb n a.number))
    at_first true is same above =
        let here : n ≡ x.number = eqb-true n x.number is in
        ap (λ m. has m xs) here ∙ has_none x.number xs above
        ∙ sym (ap (λ b. (eqb x.number n || has n xs) && not b) (ap (λ (b : Arrived). eqb n b.number) (sym same) ∙ is) ∙ and_false (eqb x.number n || has n xs))
    at_first false is same above =
        sym (ap (λ b. (eqb x.number n || has n xs) && not b) (ap (λ (b : Arrived). eqb n b.number) (sym same) ∙ is)
        ∙ and_true (eqb x.number n || has n xs)
        ∙ ap (λ b. b || has n xs) (turned n x.number is))

    at_other : (b : Bool) → eqb x.number n ≡ b → find wanted xs ≡ Some a → are_above x.number xs ≡ true → has n (without_first wanted xs) ≡ (has n xs && not (eqb n a.number))
        → (b || has n (without_first wanted xs)) ≡ ((b || has n xs) && not (eqb n a.number))
    at_other true is later above more =
        let here : x.number ≡ n = eqb-true x.number n is in
        let less : ltb n a.number ≡ true = ap (λ m. ltb m a.number) (sym here) ∙ has_above x.number a.number xs above (found_has wanted xs a later) in
        sym (ap not (apart n a.number less))
    at_other false is later above more = more

    by_test : (b : Bool) → cond b (Some x) (find wanted xs) ≡ Some a → are_above x.number xs ≡ true → (find wanted xs ≡ Some a → has n (without_first wanted xs) ≡ (has n xs && not (eqb n a.number)))
        → has n (cond b xs (x ∷ without_first wanted xs)) ≡ ((eqb x.number n || has n xs) && not (eqb n a.number))
    by_test true is above more = at_first (eqb n x.number) refl (same_Some x a is) above
    by_test false is above more = at_other (eqb x.number n) refl is above (more is)

-- ---- one number more passes

module _ (x : ℕ) (before after : ℕ → Bool) (not_before : before x ≡ false) (one_more : (n : ℕ) → after n ≡ (before n || eqb n x)) where
  number : Arrived → ℕ
  number a = a.number

  passed : (ℕ → Bool) → List Arrived → List Arrived
  passed test letters = filter (λ (a : Arrived). test a.number) letters

  -- those above it pass where they passed
  same_above : (letters : List Arrived) → are_above x letters ≡ true → passed after letters ≡ passed before letters
  unfolding passed
  same_above [] above = refl
  same_above (a ∷ letters) above =
      let parts = and_parts (ltb x a.number) (are_above x letters) above in
      let same : after a.number ≡ before a.number = one_more a.number ∙ ap (λ b. before a.number || b) (turned_apart x a.number parts.0) ∙ or_false (before a.number) in
      let more = same_above letters parts.1 in
      λ i. cond (same i) (a ∷ more i) (more i)

  put_front : (letters : List Arrived) → are_above x letters ≡ true → put_rising x (map number (passed before letters)) ≡ x ∷ map number (passed before letters)
  unfolding passed number
  put_front [] above = refl
  put_front (a ∷ letters) above = let parts = and_parts (ltb x a.number) (are_above x letters) above in by_test (before a.number) parts.0 (put_front letters parts.1)
    where
      rest : List Arrived
      rest = filter (λ (b : Arrived). before b.number) letters

      by_test : (b : Bool) → ltb x a.number ≡ true → put_rising x (map number rest) ≡ x ∷ map number rest → put_rising x (map number (cond b (a ∷ rest) rest)) ≡ x ∷ map number (cond b (a ∷ rest) rest)
      by_test true less more = ap (λ b. cond b (x ∷ a.number ∷ map number rest) (a.number ∷ put_rising x (map number rest))) less
      by_test false less more = more

  put_in_place : (letters : List Arrived) → are_in_order letters ≡ true → has x letters ≡ true → map number (passed after letters) ≡ put_rising x (map number (passed before letters))
  unfolding passed number
  put_in_place [] rises there = absurd (true≢false (sym there))
  put_in_place (a ∷ letters) rises there =
      let parts = and_parts (are_above a.number letters) (are_in_order letters) rises in
      by_number (eqb a.number x) refl there parts.0 (put_in_place letters parts.1)
    where
      rest : List Arrived
      rest = filter (λ (b : Arrived). before b.number) letters

      rest_after : List Arrived
      rest_after = filter (λ (b : Arrived). after b.number) letters

      by_test : (b : Bool) → ltb x a.number ≡ false → map number rest_after ≡ put_rising x (map number rest) → map number (cond b (a ∷ rest_after) rest_after) ≡ put_rising x (map number (cond b (a ∷ rest) rest))
      by_test true over more = ap (λ l. a.number ∷ l) more ∙ sym (ap (λ b. cond b (x ∷ a.number ∷ map number rest) (a.number ∷ put_rising x (map number rest))) over)
      by_test false over more = more

      by_number : (b : Bool) → eqb a.number x ≡ b → (b || has x letters) ≡ true → are_above a.number letters ≡ true → (has x letters ≡ true → map number rest_after ≡ put_rising x (map number rest))
          → map number (cond (after a.number) (a ∷ rest_after) rest_after) ≡ put_rising x (map number (cond (before a.number) (a ∷ rest) rest))
      by_number true is there above more =
          let here : a.number ≡ x = eqb-true a.number x is in
          let over : are_above x letters ≡ true = ap (λ n. are_above n letters) (sym here) ∙ above in
          let passes : after a.number ≡ true = one_more a.number ∙ ap (λ b. before a.number || b) is ∙ or_true (before a.number) in
          ap (λ b. map number (cond b (a ∷ rest_after) rest_after)) passes
          ∙ (λ i. here i ∷ map number (same_above letters over i))
          ∙ sym (put_front letters over)
          ∙ sym (ap (λ b. put_rising x (map number (cond b (a ∷ rest) rest))) (ap before here ∙ not_before))
      by_number false is there above more =
          let over : ltb x a.number ≡ false = not_under a.number x (has_above a.number x letters above there) in
          let same : after a.number ≡ before a.number = one_more a.number ∙ ap (λ b. before a.number || b) is ∙ or_false (before a.number) in
          ap (λ b. map number (cond b (a ∷ rest_after) rest_after)) same ∙ by_test (before a.number) over (more there)

-- ---- one letter more was read

pub one_more_read : (saved before after : List Arrived) (a : Arrived) → are_in_order saved ≡ true → are_in_order before ≡ true → has a.number saved ≡ true → IsTaken a before after
    → numbers_read saved after ≡ put_rising a.number (numbers_read saved before)
unfolding passed number
one_more_read saved before after a rises in_order there taken =
    put_in_place a.number (λ n. not (has n before)) (λ n. not (has n after)) (ap not (found_has taken.wanted before a taken.found)) one_more saved rises there
  where
    by_tests : (b c : Bool) → not (b && not c) ≡ (not b || c)
    by_tests true true = refl
    by_tests true false = refl
    by_tests false c = refl

    one_more : (n : ℕ) → not (has n after) ≡ (not (has n before) || eqb n a.number)
    one_more n = ap not (ap (has n) taken.left ∙ without_has n taken.wanted before a in_order taken.found) ∙ by_tests (has n before) (eqb n a.number)

pub taken_was_there : (before after : List Arrived) (a : Arrived) → IsTaken a before after → has a.number before ≡ true
taken_was_there before after a taken = found_has taken.wanted before a taken.found

-- its number may be put last among those that were read
pub rising_last : (read : List ℕ) (n : ℕ) → rising (read ++ n ∷ []) ≡ put_rising n (rising read)
rising_last read n = rising-append read (n ∷ []) ∙ put_all-put read n [] ∙ ap (put_rising n) (put_all-none read)
