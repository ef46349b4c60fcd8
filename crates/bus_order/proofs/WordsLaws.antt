-- Lists of words: what is found first, what is left without it, and how many there are.
use Rattle.std.proofs.Common.{◌≡◌, ℕ, suc, ◌+◌, ◌<◌, ◌≤◌, refl, sym, ◌∙◌, ap, subst, arith, List, [], ◌∷◌, length, Bool, true, false, cond, ◌||◌, not, ltb, Some, None, unwrap_or, true≢false}
use Rattle.std.specs.Prelude.{filter, find, count_by, position, remove, slice_get}
use Rattle.std.specs.List.{list_any, list_all, position_or_len}
use Rattle.std.proofs.lemmas.Bool.{and_parts, and_from}
use Rattle.std.proofs.lemmas.Bool.Decides.{nat_tests}
use Rattle.std.proofs.lemmas.List.Folds.{find_at}
use Rattle.std.proofs.lemmas.Option.{slice_get_past}
use Rattle.std.proofs.lemmas.List.Sums.{sum_by-cons}
use Rattle.proc_state.specs.Mail.{without_first}
use Rattle.cert_sched.specs.declared.script.ScriptWord.{ScriptWord}
use Rattle.bus_order.specs.Script.{IsFirst}

-- ---- among those that pass a weaker test

module _ {X : Type 0} (t u : X → Bool) (within : (x : X) → t x ≡ true → u x ≡ true) where
  pub find-filter : (xs : List X) → find t (filter u xs) ≡ find t xs
  find-filter [] = refl
  find-filter (x ∷ xs) = by_tests (t x) (u x) refl (within x) (find-filter xs)
    where
      by_tests : (a b : Bool) → t x ≡ a → (a ≡ true → b ≡ true) → find t (filter u xs) ≡ find t xs → find t (cond b (x ∷ filter u xs) (filter u xs)) ≡ cond a (Some x) (find t xs)
      by_tests true true is h more = ap (λ c. cond c (Some x) (find t (filter u xs))) is
      by_tests true false is h more = absurd (true≢false (sym (h refl)))
      by_tests false true is h more = ap (λ c. cond c (Some x) (find t (filter u xs))) is ∙ more
      by_tests false false is h more = more

  pub without-filter : (xs : List X) → without_first t (filter u xs) ≡ filter u (without_first t xs)
  without-filter [] = refl
  without-filter (x ∷ xs) = by_tests (t x) (u x) refl refl (within x) (without-filter xs)
    where
      by_tests : (a b : Bool) → t x ≡ a → u x ≡ b → (a ≡ true → b ≡ true) → without_first t (filter u xs) ≡ filter u (without_first t xs)
          → without_first t (cond b (x ∷ filter u xs) (filter u xs)) ≡ filter u (cond a xs (x ∷ without_first t xs))
      by_tests true true is kept h more = ap (λ c. cond c (filter u xs) (x ∷ without_first t (filter u xs))) is
      by_tests true false is kept h more = absurd (true≢false (sym (h refl)))
      by_tests false true is kept h more =
          ap (λ c. cond c (filter u xs) (x ∷ without_first t (filter u xs))) is ∙ ap (λ l. x ∷ l) more
          ∙ sym (ap (λ c. cond c (x ∷ filter u (without_first t xs)) (filter u (without_first t xs))) kept)
      by_tests false false is kept h more = more ∙ sym (ap (λ c. cond c (x ∷ filter u (without_first t xs)) (filter u (without_first t xs))) kept)

  pub any-filter : (xs : List X) → list_any t (filter u xs) ≡ list_any t xs
  any-filter [] = refl
  any-filter (x ∷ xs) = by_tests (t x) (u x) refl (within x) (any-filter xs)
    where
      by_tests : (a b : Bool) → t x ≡ a → (a ≡ true → b ≡ true) → list_any t (filter u xs) ≡ list_any t xs → list_any t (cond b (x ∷ filter u xs) (filter u xs)) ≡ (a || list_any t xs)
      by_tests true true is h more = ap (λ c. c || list_any t (filter u xs)) is
      by_tests true false is h more = absurd (true≢false (sym (h refl)))
      by_tests false true is h more = ap (λ c. c || list_any t (filter u xs)) is ∙ more
      by_tests false false is h more = more

  -- where none passes the weaker test, none passes the other
  pub any-weaker : (xs : List X) → list_any u xs ≡ false → list_any t xs ≡ false
  any-weaker [] none = refl
  any-weaker (x ∷ xs) none = by_tests (t x) (u x) (within x) none (any-weaker xs)
    where
      by_tests : (a b : Bool) → (a ≡ true → b ≡ true) → (b || list_any u xs) ≡ false → (list_any u xs ≡ false → list_any t xs ≡ false) → (a || list_any t xs) ≡ false
      by_tests true true h e more = absurd (true≢false e)
      by_tests true false h e more = absurd (true≢false (sym (h refl)))
      by_tests false true h e more = absurd (true≢false e)
      by_tests false false h e more = more e

-- ---- beside those that pass another

pub filter-without : {X : Type 0} (t u : X → Bool) → ((x : X) → t x ≡ true → u x ≡ false) → (xs : List X) → filter u (without_first t xs) ≡ filter u xs
filter-without t u apart [] = refl
filter-without t u apart (x ∷ xs) = by_test (t x) refl (filter-without t u apart xs)
  where
    by_test : (a : Bool) → t x ≡ a → filter u (without_first t xs) ≡ filter u xs → filter u (cond a xs (x ∷ without_first t xs)) ≡ cond (u x) (x ∷ filter u xs) (filter u xs)
    by_test true is more = sym (ap (λ c. cond c (x ∷ filter u xs) (filter u xs)) (apart x is))
    by_test false is more = ap (λ l. cond (u x) (x ∷ l) l) more

-- ---- the first that passes

pub count-without : {X : Type 0} (t p : X → Bool) (xs : List X) (w : X) → find t xs ≡ Some w → count_by p (without_first t xs) + cond (p w) 1 0 ≡ count_by p xs
count-without t p [] w found = cc
count-without t p (x ∷ xs) w found = by_test (t x) found (count-without t p xs w)
  where
    here : count_by p (x ∷ xs) ≡ cond (p x) 1 0 + count_by p xs
    here = sum_by-cons (λ x. cond (p x) 1 0) x xs

    by_test : (a : Bool) → cond a (Some x) (find t xs) ≡ Some w → (find t xs ≡ Some w → count_by p (without_first t xs) + cond (p w) 1 0 ≡ count_by p xs)
        → count_by p (cond a xs (x ∷ without_first t xs)) + cond (p w) 1 0 ≡ count_by p (x ∷ xs)
    by_test true e more =
        let same : x ≡ w = ap (λ o. unwrap_or o x) e in
        let as_here : ◌≡◌ {A = ℕ} (cond (p x) 1 0) (cond (p w) 1 0) = ap (λ y. cond (p y) 1 0) same in
        omega (arith, here, as_here)
    by_test false e more =
        let later = more e in
        let there : count_by p (x ∷ without_first t xs) ≡ cond (p x) 1 0 + count_by p (without_first t xs) = sum_by-cons (λ x. cond (p x) 1 0) x (without_first t xs) in
        omega (arith, here, there, later)

pub length-without : {X : Type 0} (t : X → Bool) (xs : List X) (w : X) → find t xs ≡ Some w → length (without_first t xs) + 1 ≡ length xs
length-without t [] w found = cc
length-without t (x ∷ xs) w found = by_test (t x) found (length-without t xs w)
  where
    by_test : (a : Bool) → cond a (Some x) (find t xs) ≡ Some w → (find t xs ≡ Some w → length (without_first t xs) + 1 ≡ length xs) → length (cond a xs (x ∷ without_first t xs)) + 1 ≡ length (x ∷ xs)
    by_test true e more = omega arith
    by_test false e more = omega (arith, more e)

pub all-without : {X : Type 0} (t p : X → Bool) (xs : List X) → list_all p xs ≡ true → list_all p (without_first t xs) ≡ true
all-without t p [] all = refl
all-without t p (x ∷ xs) all = by_test (t x) (all-without t p xs parts.1)
  where
    parts : (p x ≡ true) × (list_all p xs ≡ true)
    parts = and_parts (p x) (list_all p xs) all

    by_test : (a : Bool) → list_all p (without_first t xs) ≡ true → list_all p (cond a xs (x ∷ without_first t xs)) ≡ true
    by_test true more = parts.1
    by_test false more = and_from (p x) (list_all p (without_first t xs)) parts.0 more

pub all-found : {X : Type 0} (t p : X → Bool) (xs : List X) (w : X) → list_all p xs ≡ true → find t xs ≡ Some w → (t w ≡ true) × (p w ≡ true)
all-found t p [] w all found = cc
all-found t p (x ∷ xs) w all found = by_test (t x) refl found (all-found t p xs w parts.1)
  where
    parts : (p x ≡ true) × (list_all p xs ≡ true)
    parts = and_parts (p x) (list_all p xs) all

    by_test : (a : Bool) → t x ≡ a → cond a (Some x) (find t xs) ≡ Some w → (find t xs ≡ Some w → (t w ≡ true) × (p w ≡ true)) → (t w ≡ true) × (p w ≡ true)
    by_test true is e more = let same : x ≡ w = ap (λ o. unwrap_or o x) e in (ap t (sym same) ∙ is, ap p (sym same) ∙ parts.0)
    by_test false is e more = more e

-- what is found passes
pub found_passes : {X : Type 0} (t : X → Bool) (xs : List X) (w : X) → find t xs ≡ Some w → t w ≡ true
found_passes t xs w found = (all-found t (λ x. true) xs w (all_true xs) found).0
  where
    all_true : {X : Type 0} (xs : List X) → list_all (λ (x : X). true) xs ≡ true
    all_true [] = refl
    all_true (x ∷ xs) = all_true xs

pub none-found : {X : Type 0} (t : X → Bool) (xs : List X) → find t xs ≡ None → list_any t xs ≡ false
none-found t [] none = refl
none-found t (x ∷ xs) none = by_test (t x) none (none-found t xs)
  where
    by_test : (a : Bool) → cond a (Some x) (find t xs) ≡ None → (find t xs ≡ None → list_any t xs ≡ false) → (a || list_any t xs) ≡ false
    by_test true e more = cc
    by_test false e more = more e

pub find-none : {X : Type 0} (t : X → Bool) (xs : List X) → list_any t xs ≡ false → find t xs ≡ None
find-none t [] none = refl
find-none t (x ∷ xs) none = by_test (t x) none (find-none t xs)
  where
    by_test : (a : Bool) → (a || list_any t xs) ≡ false → (list_any t xs ≡ false → find t xs ≡ None) → cond a (Some x) (find t xs) ≡ None
    by_test true e more = absurd (true≢false e)
    by_test false e more = more e

-- ---- its number

remove-first : {X : Type 0} (t : X → Bool) (xs : List X) → position_or_len t xs < length xs → remove xs (position_or_len t xs) ≡ without_first t xs
remove-first t [] within = absurd (omega arith)
remove-first t (x ∷ xs) within = by_test (t x) within (remove-first t xs)
  where
    by_test : (b : Bool) → cond (not b) (1 + position_or_len t xs) 0 < length (x ∷ xs) → (position_or_len t xs < length xs → remove xs (position_or_len t xs) ≡ without_first t xs)
        → remove (x ∷ xs) (cond (not b) (1 + position_or_len t xs) 0) ≡ cond b xs (x ∷ without_first t xs)
    by_test true within more = refl
    by_test false within more =
        ap (remove (x ∷ xs)) (let e : 1 + position_or_len t xs ≡ suc (position_or_len t xs) = omega arith in e) ∙ ap (λ l. x ∷ l) (more (omega (arith, within)))

placed_first : {X : Type 0} (t : X → Bool) (xs : List X) (n : ℕ) → position t xs ≡ Some n → (position_or_len t xs < length xs) × (position_or_len t xs ≡ n)
placed_first t xs n is = by_test (ltb (position_or_len t xs) (length xs)) refl is
  where
    by_test : (b : Bool) → ltb (position_or_len t xs) (length xs) ≡ b → cond b (Some (position_or_len t xs)) None ≡ Some n → (position_or_len t xs < length xs) × (position_or_len t xs ≡ n)
    by_test true less e = (let l : position_or_len t xs < length xs = grind (arith, nat_tests) in l, ap (λ o. unwrap_or o (position_or_len t xs)) e)
    by_test false less e = cc

-- the word that stands there is the first that passes
pub is_first : (t : ScriptWord → Bool) (words : List ScriptWord) (n : ℕ) (w : ScriptWord) → position t words ≡ Some n → slice_get words n ≡ Some w → IsFirst t words n w
is_first t words n w at there =
    let place = placed_first t words n at in
    (find_at t words ∙ ap (slice_get words) place.1 ∙ there, subst (λ m. m < length words) place.1 place.0, ap (remove words) (sym place.1) ∙ remove-first t words place.0)

pub not_first : {X : Type 0} (t : X → Bool) (xs : List X) → position t xs ≡ None → find t xs ≡ None
not_first t xs is = find_at t xs ∙ by_test (ltb (position_or_len t xs) (length xs)) refl is
  where
    by_test : (b : Bool) → ltb (position_or_len t xs) (length xs) ≡ b → cond b (Some (position_or_len t xs)) None ≡ None → slice_get xs (position_or_len t xs) ≡ None
    by_test true less e = cc
    by_test false less e = slice_get_past xs (position_or_len t xs) (let l : length xs ≤ position_or_len t xs = grind (arith, nat_tests) in l)

pub first_within : {X : Type 0} (t : X → Bool) (xs : List X) (n : ℕ) → position t xs ≡ Some n → n < length xs
first_within t xs n at = let place = placed_first t xs n at in subst (λ m. m < length xs) place.1 place.0
