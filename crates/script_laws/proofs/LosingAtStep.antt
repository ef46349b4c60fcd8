-- A cluster that counted its steps may be lost at the next one, where a word for it is left.
use Rattle.std.proofs.Common.{◌≡◌, ℕ, zero, suc, ◌+◌, ◌-◌, ◌^◌, ◌<◌, ◌≤◌, refl, sym, ◌∙◌, ap, arith, List, [], ◌∷◌, ◌++◌, length, take, drop, Bool, true, false, cond, not, ◌||◌, true≢false}
use Rattle.std.specs.Prelude.{count_by, nat_le}
use Rattle.std.specs.List.{list_any}
use Rattle.std.proofs.lemmas.Bool.{and_from, or_parts}
use Rattle.std.proofs.lemmas.Bool.Decides.{nat_tests}
use Rattle.std.proofs.lemmas.List.{take-append-drop}
use Rattle.std.proofs.lemmas.List.Folds.{list_any-append}
use Rattle.std.proofs.lemmas.List.Sums.{sum_by-take-drop}
use Rattle.t32_base.specs.declared.process.ClusterNo.{ClusterNo}
use Rattle.t32_base.proofs.Facts.{one_at_most}
use Rattle.bus_msg.specs.declared.entry.Cause.TheVariants.{Step}
use Rattle.bus_msg.specs.declared.entry.Entry.{Entry}
use Rattle.bus_msg.specs.PlacedAfter.{what}
use Rattle.cert_sched.specs.Losses.{before_last, capped, heard, has_step_left, is_by_cluster, is_scripted_cause, is_step_crash, is_step_word, least_steps, may_be_lost_at, was_lost_in}
use Rattle.bus_order.specs.Script.{has_unused}
use Rattle.bus_order.specs.View.{BusView, KeepsScript, MayBeLost}
use Rattle.script_laws.proofs.Counts.{count-cons, count_none, count_some}

-- one more element taken
taken_length : (n : ℕ) (xs : List Entry) → length (take (suc n) xs) ≤ length (take n xs) + 1
taken_length n [] = omega arith
taken_length zero (x ∷ xs) = omega arith
taken_length (suc n) (x ∷ xs) = let more = taken_length n xs in omega (arith, more)

-- ---- the part before the last that passes

module _ (t : Entry → Bool) where
  none_last : (xs : List Entry) → list_any t xs ≡ false → before_last t xs ≡ []
  none_last [] none = refl
  none_last (x ∷ xs) none = ap (λ b. cond b (x ∷ before_last t xs) []) (or_parts (t x) (list_any t xs) none).1

  or_none : (a b : Bool) → b ≡ false → (a || b) ≡ a
  or_none true b none = refl
  or_none false b none = none

  -- what stands after it is not counted
  pub last_before : (xs ys : List Entry) → list_any t ys ≡ false → before_last t (xs ++ ys) ≡ before_last t xs
  last_before [] ys none = none_last ys none
  last_before (x ∷ xs) ys none =
      ap (λ b. cond b (x ∷ before_last t (xs ++ ys)) []) (list_any-append t xs ys ∙ or_none (list_any t xs) (list_any t ys) none)
      ∙ ap (λ l. cond (list_any t xs) (x ∷ l) []) (last_before xs ys none)

  -- it is shorter
  shorter : (xs : List Entry) → length (before_last t xs) ≤ length xs - 1
  shorter [] = omega arith
  shorter (x ∷ xs) = by_test (list_any t xs) refl (shorter xs)
    where
      some : (ys : List Entry) → list_any t ys ≡ true → 1 ≤ length ys
      some [] h = absurd (true≢false (sym h))
      some (y ∷ ys) h = omega arith

      by_test : (b : Bool) → list_any t xs ≡ b → length (before_last t xs) ≤ length xs - 1 → length (cond b (x ∷ before_last t xs) []) ≤ length (x ∷ xs) - 1
      by_test true is more = let long = some xs is in omega (arith, more, long)
      by_test false is more = omega arith

  -- one more element taken
  taken_count : (n : ℕ) (xs : List Entry) → count_by t (take (suc n) xs) ≤ count_by t (take n xs) + 1
  taken_count n [] = omega arith
  taken_count zero (x ∷ xs) = let c = count-cons t x [] in let m = one_at_most (t x) in omega (arith, c, m)
  taken_count (suc n) (x ∷ xs) =
      let a = count-cons t x (take (suc n) xs) in
      let b = count-cons t x (take n xs) in
      let more = taken_count n xs in
      omega (arith, a, b, more)

  -- what stands before the last that passes, and how many pass, where none does after the first n
  before_within : (n : ℕ) (xs : List Entry) → list_any t (drop n xs) ≡ false → (length (before_last t xs) ≤ length (take n xs) - 1) × (count_by t xs ≡ count_by t (take n xs))
  before_within n xs none =
      let same = ap (before_last t) (sym (take-append-drop n xs)) ∙ last_before (take n xs) (drop n xs) none in
      let long : length (before_last t xs) ≡ length (before_last t (take n xs)) = ap length same in
      let short = shorter (take n xs) in
      let parts : count_by t (take n xs) + count_by t (drop n xs) ≡ count_by t xs = sum_by-take-drop (λ x. cond (t x) 1 0) xs n in
      let rest = count_none t (drop n xs) none in
      (omega (arith, long, short), omega (arith, parts, rest))

-- ---- the least steps

pub uncapped : (m n : ℕ) → capped m ≤ n → n < 2 ^ 64 - 1 → m ≤ n
uncapped m n most less = omega (arith, most, less)

-- of a cluster that has taken in what stands before the cursor, and sent nothing from there
least_before : (log : List Entry) (k : ClusterNo) (cursor : ℕ) → list_any (is_by_cluster k) (drop cursor log) ≡ false → least_steps (heard k log) log k ≤ least_steps (take cursor log) (take cursor log) k
least_before log k cursor none =
    let both = before_within (is_by_cluster k) cursor log none in
    let less = both.0 in
    let same = both.1 in
    omega (arith, less, same)

-- or has sent what stands at the cursor
least_at : (log : List Entry) (k : ClusterNo) (cursor : ℕ) → list_any (is_by_cluster k) (drop (cursor + 1) log) ≡ false → least_steps (heard k log) log k ≤ least_steps (take cursor log) (take cursor log) k + 1
least_at log k cursor none =
    let next : cursor + 1 ≡ suc cursor = omega arith in
    let both = before_within (is_by_cluster k) (suc cursor) log (ap (λ n. list_any (is_by_cluster k) (drop n log)) (sym next) ∙ none) in
    let less = both.0 in
    let same = both.1 in
    let long = taken_length cursor log in
    let counted = taken_count (is_by_cluster k) cursor log in
    omega (arith, less, same, long, counted)

-- ---- the loss

pub or_last : (a b c : Bool) → c ≡ true → (a || b || c) ≡ true
or_last true b c h = refl
or_last false true c h = refl
or_last false false c h = h

-- one of the words for the step gave no loss yet
step_left : (b : BusView) (k : ClusterNo) (n : ℕ) → KeepsScript b → has_unused b.left k (Step n) ≡ true → has_step_left b.script b.log k n ≡ true
step_left b k n keeps unused =
    let used = keeps.used k (Step n) in
    let some = count_some (is_step_word k n) b.left unused in
    let less : count_by (λ (e : Entry). is_step_crash k n (what e)) b.log < count_by (is_step_word k n) b.script = omega (arith, used, some) in
    grind (arith, nat_tests)

scripted_at : (b : BusView) (k : ClusterNo) (n : ℕ) → KeepsScript b → has_unused b.left k (Step n) ≡ true → least_steps (heard k b.log) b.log k ≤ n → is_scripted_cause b.system b.script b.log k (Step n) ≡ true
scripted_at b k n keeps unused least =
    and_from (has_step_left b.script b.log k n) (may_be_lost_at b.log k (least_steps (heard k b.log) b.log k) n) (step_left b k n keeps unused)
    (or_last (was_lost_in b.log k) (not (list_any (is_by_cluster k) b.log)) (nat_le (least_steps (heard k b.log) b.log k) n) (let l : nat_le (least_steps (heard k b.log) b.log k) n ≡ true = grind (arith, nat_tests) in l))

pub scripted_before : (b : BusView) (k : ClusterNo) (n cursor : ℕ) → KeepsScript b → has_unused b.left k (Step n) ≡ true → list_any (is_by_cluster k) (drop cursor b.log) ≡ false
    → capped (least_steps (take cursor b.log) (take cursor b.log) k) ≤ n → n < 2 ^ 64 - 1 → is_scripted_cause b.system b.script b.log k (Step n) ≡ true
scripted_before b k n cursor keeps unused none counted less =
    let least = least_before b.log k cursor none in
    let most = uncapped (least_steps (take cursor b.log) (take cursor b.log) k) n counted less in
    scripted_at b k n keeps unused (omega (arith, least, most))

pub scripted_sent : (b : BusView) (k : ClusterNo) (n cursor : ℕ) → KeepsScript b → has_unused b.left k (Step n) ≡ true → list_any (is_by_cluster k) (drop (cursor + 1) b.log) ≡ false
    → capped (least_steps (take cursor b.log) (take cursor b.log) k + 1) ≤ n → n < 2 ^ 64 - 1 → is_scripted_cause b.system b.script b.log k (Step n) ≡ true
scripted_sent b k n cursor keeps unused none counted less =
    let least = least_at b.log k cursor none in
    let most = uncapped (least_steps (take cursor b.log) (take cursor b.log) k + 1) n counted less in
    scripted_at b k n keeps unused (omega (arith, least, most))

pub may_before : (b : BusView) (k : ClusterNo) (n cursor : ℕ) → k.0 < (b.system).clusters → KeepsScript b → has_unused b.left k (Step n) ≡ true → list_any (is_by_cluster k) (drop cursor b.log) ≡ false
    → capped (least_steps (take cursor b.log) (take cursor b.log) k) ≤ n → n < 2 ^ 64 - 1 → MayBeLost b k (Step n)
may_before b k n cursor within keeps unused none counted less = record { has = within; unused = unused; may = λ goes_on off. scripted_before b k n cursor keeps unused none counted less }

pub may_sent : (b : BusView) (k : ClusterNo) (n cursor : ℕ) → k.0 < (b.system).clusters → KeepsScript b → has_unused b.left k (Step n) ≡ true → list_any (is_by_cluster k) (drop (cursor + 1) b.log) ≡ false
    → capped (least_steps (take cursor b.log) (take cursor b.log) k + 1) ≤ n → n < 2 ^ 64 - 1 → MayBeLost b k (Step n)
may_sent b k n cursor within keeps unused none counted less = record { has = within; unused = unused; may = λ goes_on off. scripted_sent b k n cursor keeps unused none counted less }
