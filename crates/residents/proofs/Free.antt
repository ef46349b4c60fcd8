-- The next of those that may move and that no child hinders.
use Rattle.std.proofs.Common.{◌≡◌, ℕ, Bool, ◌&&◌, ◌||◌, eqb-true, cond, find, length, refl, sym, ◌∙◌, ap, List, [], ◌∷◌, Option, Some, None, true, false, true≢false}
use Rattle.std.specs.Prelude.{filter, nat_lt}
use Rattle.std.specs.List.{list_any, list_all}
use Rattle.std.specs.Option.{option_or}
use Rattle.std.proofs.lemmas.Bool.{or_left, or_right}
use Rattle.plain_kernel.specs.Maps.{at_key}
use Rattle.cert_sched.specs.Parts.{first_of}
use Rattle.residents.specs.Residents.{are_rising, next_ready}
use Rattle.residents.proofs.Kept.{first_filtered, next_is_ready, none_ready}
use Rattle.residents.proofs.Slots.{at_key_is, both_true}

-- ---- numbers that pass a test

find_filtered : (t u : ℕ → Bool) (xs : List ℕ) → find t (filter u xs) ≡ find (λ n. t n && u n) xs
find_filtered t u [] = refl
find_filtered t u (x ∷ xs) = by_tests (u x) (t x) refl (find_filtered t u xs)
  where
    either : (b c : Bool) (o p : Option ℕ) → o ≡ p → cond b (Some x) o ≡ cond (b && true) (Some x) p
    either true c o p same = refl
    either false c o p same = same

    none : (b : Bool) (p : Option ℕ) → p ≡ cond (b && false) (Some x) p
    none true p = refl
    none false p = refl

    by_tests : (b c : Bool) → t x ≡ c → find t (filter u xs) ≡ find (λ n. t n && u n) xs → find t (cond b (x ∷ filter u xs) (filter u xs)) ≡ cond (c && b) (Some x) (find (λ n. t n && u n) xs)
    by_tests true true is more = ap (λ d. cond d (Some x) (find t (filter u xs))) is
    by_tests true false is more = ap (λ d. cond d (Some x) (find t (filter u xs))) is ∙ more
    by_tests false true is more = more
    by_tests false false is more = more

-- they rise still
pub filter_rises : (u : ℕ → Bool) (xs : List ℕ) → are_rising xs ≡ true → are_rising (filter u xs) ≡ true
filter_rises u [] rise = refl
filter_rises u (x ∷ xs) rise = by_test (u x) (filter_rises u xs parts.1)
  where
    parts : (list_all (λ m. nat_lt x m) xs ≡ true) × (are_rising xs ≡ true)
    parts = both_true (list_all (λ m. nat_lt x m) xs) (are_rising xs) rise

    fewer : (ys : List ℕ) → list_all (λ m. nat_lt x m) ys ≡ true → list_all (λ m. nat_lt x m) (filter u ys) ≡ true
    fewer [] all = refl
    fewer (y ∷ ys) all = by_kept (u y) (both_true (nat_lt x y) (list_all (λ m. nat_lt x m) ys) all) (fewer ys)
      where
        by_kept : (b : Bool) → (nat_lt x y ≡ true) × (list_all (λ m. nat_lt x m) ys ≡ true) → (list_all (λ m. nat_lt x m) ys ≡ true → list_all (λ m. nat_lt x m) (filter u ys) ≡ true)
            → list_all (λ m. nat_lt x m) (cond b (y ∷ filter u ys) (filter u ys)) ≡ true
        by_kept true both more = ap (λ b. b && list_all (λ m. nat_lt x m) (filter u ys)) both.0 ∙ more both.1
        by_kept false both more = more both.1

    by_test : (b : Bool) → are_rising (filter u xs) ≡ true → are_rising (cond b (x ∷ filter u xs) (filter u xs)) ≡ true
    by_test true more = ap (λ b. b && are_rising (filter u xs)) (fewer xs parts.0) ∙ more
    by_test false more = more

-- one that passes is among them,
pub any_filtered : (u : ℕ → Bool) (xs : List ℕ) (q : ℕ) → list_any (at_key q) xs ≡ true → u q ≡ true → list_any (at_key q) (filter u xs) ≡ true
any_filtered u [] q any passes = cc
any_filtered u (x ∷ xs) q any passes = by_tests (at_key q x) (u x) refl refl any (λ any. any_filtered u xs q any passes)
  where
    by_tests : (b c : Bool) → at_key q x ≡ b → u x ≡ c → (b || list_any (at_key q) xs) ≡ true → (list_any (at_key q) xs ≡ true → list_any (at_key q) (filter u xs) ≡ true) → list_any (at_key q) (cond c (x ∷ filter u xs) (filter u xs)) ≡ true
    by_tests true true is at any more = or_left (at_key q x) (list_any (at_key q) (filter u xs)) is
    by_tests true false is at any more = absurd (true≢false (sym passes ∙ ap u (sym (eqb-true x q (sym (at_key_is q x) ∙ is))) ∙ at))
    by_tests false true is at any more = or_right (at_key q x) (list_any (at_key q) (filter u xs)) (more any)
    by_tests false false is at any more = more any

-- each of them was there before,
pub any_unfiltered : (u : ℕ → Bool) (xs : List ℕ) (q : ℕ) → list_any (at_key q) (filter u xs) ≡ true → list_any (at_key q) xs ≡ true
any_unfiltered u [] q any = cc
any_unfiltered u (x ∷ xs) q any = by_test (u x) any (any_unfiltered u xs q)
  where
    by_key : (b : Bool) → (b || list_any (at_key q) (filter u xs)) ≡ true → (list_any (at_key q) (filter u xs) ≡ true → list_any (at_key q) xs ≡ true) → (b || list_any (at_key q) xs) ≡ true
    by_key true any more = refl
    by_key false any more = more any

    by_test : (b : Bool) → list_any (at_key q) (cond b (x ∷ filter u xs) (filter u xs)) ≡ true → (list_any (at_key q) (filter u xs) ≡ true → list_any (at_key q) xs ≡ true) → (at_key q x || list_any (at_key q) xs) ≡ true
    by_test true any more = by_key (at_key q x) any more
    by_test false any more = or_right (at_key q x) (list_any (at_key q) xs) (more any)

-- and passes
pub filtered_passes : (u : ℕ → Bool) (xs : List ℕ) (q : ℕ) → list_any (at_key q) (filter u xs) ≡ true → u q ≡ true
filtered_passes u [] q any = cc
filtered_passes u (x ∷ xs) q any = by_test (u x) refl any (filtered_passes u xs q)
  where
    by_key : (b : Bool) → at_key q x ≡ b → u x ≡ true → (b || list_any (at_key q) (filter u xs)) ≡ true → (list_any (at_key q) (filter u xs) ≡ true → u q ≡ true) → u q ≡ true
    by_key true is at any more = ap u (sym (eqb-true x q (sym (at_key_is q x) ∙ is))) ∙ at
    by_key false is at any more = more any

    by_test : (b : Bool) → u x ≡ b → list_any (at_key q) (cond b (x ∷ filter u xs) (filter u xs)) ≡ true → (list_any (at_key q) (filter u xs) ≡ true → u q ≡ true) → u q ≡ true
    by_test true at any more = by_key (at_key q x) refl at any more
    by_test false at any more = more any

-- ---- the next of them

-- above the last one,
pub next_above_last : (u : ℕ → Bool) (ready : List ℕ) (last n : ℕ) → find (λ m. nat_lt last m && u m) ready ≡ Some n → next_ready (filter u ready) last ≡ Some n
next_above_last u ready last n found = ap (λ o. option_or o (first_of (filter u ready))) (find_filtered (λ m. nat_lt last m) u ready ∙ found)

-- or the lowest
pub next_from_start : (u : ℕ → Bool) (ready : List ℕ) (last : ℕ) → find (λ m. nat_lt last m && u m) ready ≡ None → next_ready (filter u ready) last ≡ find u ready
next_from_start u ready last none = ap (λ o. option_or o (first_of (filter u ready))) (find_filtered (λ m. nat_lt last m) u ready ∙ none) ∙ first_filtered u u (λ n. refl) ready

-- none where none is ready
pub none_where_empty : (u : ℕ → Bool) (ready : List ℕ) (last : ℕ) → length ready ≡ 0 → next_ready (filter u ready) last ≡ None
none_where_empty u [] last empty = refl
none_where_empty u (n ∷ ready) last empty = cc

-- where there is none, none that is ready passes
pub none_passes_next : (u : ℕ → Bool) (ready : List ℕ) (last : ℕ) → next_ready (filter u ready) last ≡ None → (q : ℕ) → list_any (at_key q) ready ≡ true → u q ≡ false
none_passes_next u ready last none q any = by_test (u q) refl
  where
    by_test : (b : Bool) → u q ≡ b → u q ≡ false
    by_test true is = absurd (true≢false (sym (any_filtered u ready q any is) ∙ ap (list_any (at_key q)) (none_ready (filter u ready) last none)))
    by_test false is = is

-- the next of them is ready, and passes
pub next_passes : (u : ℕ → Bool) (ready : List ℕ) (last n : ℕ) → next_ready (filter u ready) last ≡ Some n → (list_any (at_key n) ready ≡ true) × (u n ≡ true)
next_passes u ready last n next =
    let there = next_is_ready (filter u ready) last n next in
    (any_unfiltered u ready n there, filtered_passes u ready n there)
