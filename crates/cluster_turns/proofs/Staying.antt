-- A cluster comes on in a log, and is not lost on its way.
use Rattle.std.proofs.Common.{◌≡◌, ℕ, zero, suc, ◌+◌, ◌-◌, ◌≤◌, ◌<◌, refl, sym, ◌∙◌, ap, subst, arith, List, [], ◌∷◌, ◌++◌, take, drop, Bool, true, false, cond, not, ◌||◌}
use Rattle.std.specs.List.{list_any, position_or_len}
use Rattle.std.proofs.lemmas.List.{drop-drop, take-append-drop}
use Rattle.std.proofs.lemmas.List.Folds.{list_any-append}
use Rattle.t32_base.specs.declared.process.ClusterNo.{ClusterNo}
use Rattle.sys_text.specs.declared.system.System.{System}
use Rattle.bus_msg.specs.declared.entry.Entry.{Entry}
use Rattle.bus_msg.specs.PlacedAfter.{what}
use Rattle.cert_sched.specs.Losses.{is_crash_of, was_lost_in}
use Rattle.cluster_core.specs.View.{ClusterView}
use Rattle.bus_order.specs.View.{BusView}
use Rattle.cluster_turns.specs.Offers.{HasGrown}
use Rattle.cluster_turns.specs.Along.{StaysAlive, upto}

-- ---- the first of a list that passes

module _ {X : Type 0} (t : X → Bool) where
  -- is no earlier in a longer list
  first_longer : (xs ys : List X) → position_or_len t xs ≤ position_or_len t (xs ++ ys)
  first_longer [] ys = omega arith
  first_longer (x ∷ xs) ys = by_test (t x) (first_longer xs ys)
    where
      by_test : (b : Bool) → position_or_len t xs ≤ position_or_len t (xs ++ ys) → cond (not b) (1 + position_or_len t xs) 0 ≤ cond (not b) (1 + position_or_len t (xs ++ ys)) 0
      by_test true more = omega arith
      by_test false more = omega (arith, more)

  first_behind : (n : ℕ) (xs ys : List X) → position_or_len t (drop n xs) ≤ position_or_len t (drop n (xs ++ ys))
  first_behind zero xs ys = first_longer xs ys
  first_behind (suc n) [] ys = omega arith
  first_behind (suc n) (x ∷ xs) ys = first_behind n xs ys

  -- and is counted on from any place before it
  first_from : (n : ℕ) (xs : List X) → n ≤ position_or_len t xs → position_or_len t xs ≡ n + position_or_len t (drop n xs)
  first_from zero xs low = omega arith
  first_from (suc n) [] low = absurd (omega (arith, low))
  first_from (suc n) (x ∷ xs) low = by_test (t x) low (first_from n xs)
    where
      by_test : (b : Bool) → suc n ≤ cond (not b) (1 + position_or_len t xs) 0 → (n ≤ position_or_len t xs → position_or_len t xs ≡ n + position_or_len t (drop n xs)) → cond (not b) (1 + position_or_len t xs) 0 ≡ suc n + position_or_len t (drop n xs)
      by_test true low more = absurd (omega (arith, low))
      by_test false low more = let there = more (omega (arith, low)) in omega (arith, there)

  -- none stands before it
  none_first : (n : ℕ) (xs : List X) → n ≤ position_or_len t xs → list_any t (take n xs) ≡ false
  none_first zero xs low = refl
  none_first (suc n) [] low = refl
  none_first (suc n) (x ∷ xs) low = by_test (t x) refl low (none_first n xs)
    where
      by_test : (b : Bool) → t x ≡ b → suc n ≤ cond (not b) (1 + position_or_len t xs) 0 → (n ≤ position_or_len t xs → list_any t (take n xs) ≡ false) → (t x || list_any t (take n xs)) ≡ false
      by_test true is low more = absurd (omega (arith, low))
      by_test false is low more = let rest = more (omega (arith, low)) in λ i. is i || rest i

-- ---- a cluster

abbrev its_loss : ClusterNo → Entry → Bool
its_loss k e = is_crash_of k (what e)

-- where it is next lost, counted from where it was
pub next_same : (k : ClusterNo) (log : List Entry) (n m : ℕ) → StaysAlive k log n m → n + position_or_len (its_loss k) (drop n log) ≡ m + position_or_len (its_loss k) (drop m log)
next_same k log n m stays =
    let order = stays.order in
    let before = stays.before in
    let far : m ≡ n + (m - n) = omega (arith, order) in
    let later = first_from (its_loss k) (m - n) (drop n log) (omega (arith, order, before)) in
    let back : drop m log ≡ drop (m - n) (drop n log) = ap (λ i. drop i log) far ∙ sym (drop-drop (m - n) n log) in
    let there : position_or_len (its_loss k) (drop m log) ≡ position_or_len (its_loss k) (drop (m - n) (drop n log)) = ap (position_or_len (its_loss k)) back in
    omega (arith, order, later, there)

pub stays_there : (k : ClusterNo) (log : List Entry) (n m : ℕ) → m ≡ n → StaysAlive k log n m
stays_there k log n m same = record { order = omega (arith, same); before = omega (arith, same) }

pub stays_then : (k : ClusterNo) (log : List Entry) (n m l : ℕ) → StaysAlive k log n m → StaysAlive k log m l → StaysAlive k log n l
stays_then k log n m l one two =
    let first = one.order in
    let second = two.order in
    let before = two.before in
    let same = next_same k log n m one in
    record { order = omega (arith, first, second); before = omega (arith, before, same) }

pub stays_longer : (k : ClusterNo) (log longer more : List Entry) (n m : ℕ) → longer ≡ log ++ more → StaysAlive k log n m → StaysAlive k longer n m
stays_longer k log longer more n m is stays =
    let before = stays.before in
    let most = first_behind (its_loss k) n log more in
    let there : position_or_len (its_loss k) (drop n longer) ≡ position_or_len (its_loss k) (drop n (log ++ more)) = ap (λ l. position_or_len (its_loss k) (drop n l)) is in
    record { order = stays.order; before = omega (arith, before, most, there) }

-- the entry at its cursor, which it takes in, does not lose it
pub stays_next : (k : ClusterNo) (system : System) (log : List Entry) (n m : ℕ) → n < upto k system log n → m ≡ n + 1 → StaysAlive k log n m
stays_next k system log n m within is = record { order = omega (arith, is); before = omega (arith, within, is) }

-- one that came on in a log comes on further in a longer one
pub life_on : (c mid new : ClusterView) (b after : BusView) → mid.number ≡ c.number → HasGrown b after → StaysAlive c.number b.log c.cursor mid.cursor → StaysAlive mid.number after.log mid.cursor new.cursor → StaysAlive c.number after.log c.cursor new.cursor
life_on c mid new b after number grown one two =
    stays_then c.number after.log c.cursor mid.cursor new.cursor (stays_longer c.number b.log after.log grown.more c.cursor mid.cursor grown.log one) (subst (λ k. StaysAlive k after.log mid.cursor new.cursor) number two)

-- it is lost behind the one place where it is behind the other
pub stays_lost : (k : ClusterNo) (log : List Entry) (n m : ℕ) → StaysAlive k log n m → was_lost_in (drop n log) k ≡ was_lost_in (drop m log) k
stays_lost k log n m stays =
    let order = stays.order in
    let before = stays.before in
    let far : m ≡ n + (m - n) = omega (arith, order) in
    let front = none_first (its_loss k) (m - n) (drop n log) (omega (arith, order, before)) in
    let back : drop m log ≡ drop (m - n) (drop n log) = ap (λ i. drop i log) far ∙ sym (drop-drop (m - n) n log) in
    ap (λ l. was_lost_in l k) (sym (take-append-drop (m - n) (drop n log))) ∙ list_any-append (its_loss k) (take (m - n) (drop n log)) (drop (m - n) (drop n log))
    ∙ ap (λ t. t || was_lost_in (drop (m - n) (drop n log)) k) front ∙ ap (λ l. was_lost_in l k) (sym back)

-- so is the cluster, where it is the same
pub same_lost : (log : List Entry) (old new : ClusterView) → new.number ≡ old.number → StaysAlive old.number log old.cursor new.cursor → was_lost_in (drop new.cursor log) new.number ≡ was_lost_in (drop old.cursor log) old.number
same_lost log old new same stays = ap (was_lost_in (drop new.cursor log)) same ∙ sym (stays_lost old.number log old.cursor new.cursor stays)
