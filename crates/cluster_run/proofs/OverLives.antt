-- The lives that are over, as another one is over and as the log grows.
use Rattle.std.proofs.Common.{◌≡◌, ℕ, ◌+◌, ◌≤◌, ◌<◌, refl, sym, ◌∙◌, ap, subst, arith, List, [], ◌∷◌, ◌++◌, length, Bool, false, true, not, ◌||◌, ◌&&◌, ◌==◌, true≢false, eq-eqb, eqb, eqb-true, ltb-true, inl, inr}
use Rattle.std.specs.Prelude.{All, nat_lt}
use Rattle.std.specs.List.{list_any}
use Rattle.std.proofs.lemmas.Bool.{and_parts, cases_lt, lt-ltb, or_parts}
use Rattle.std.proofs.lemmas.Bool.Decides.{nat_tests}
use Rattle.std.proofs.lemmas.List.Elements.{All-append, All-cons, All-head, All-nil, All-tail, All-weaker}
use Rattle.std.proofs.lemmas.List.Folds.{list_any-append}
use Rattle.t32_base.specs.declared.process.ClusterNo.{ClusterNo}
use Rattle.bus_msg.specs.declared.entry.Entry.{Entry}
use Rattle.bus_msg.specs.Places.{same_cluster}
use Rattle.cluster_core.specs.View.{ClusterView}
use Rattle.bus_order.specs.View.{BusView}
use Rattle.cluster_turns.specs.Lives.{begin_of_life, begins_at}
use Rattle.cluster_run.specs.declared.life.Life.{Life}
use Rattle.cluster_run.specs.Begun.{BeginsLife}
use Rattle.cluster_run.specs.Lived.{are_distinct, is_life}
use Rattle.cluster_run.specs.Past.{ArePastOf, HasItsPast, IsPast, IsStillPast}
use Rattle.cluster_run.proofs.Begins.{begin_here, begin_longer, begin_low, begins_longer}
use Rattle.cluster_run.proofs.PastLives.{past_longer}

-- ---- which lives are there

pub same_turned : (j k : ClusterNo) → same_cluster j k ≡ same_cluster k j
same_turned j k = by_test (eqb j.0 k.0) refl
  where
    by_test : (t : Bool) → eqb j.0 k.0 ≡ t → eqb j.0 k.0 ≡ eqb k.0 j.0
    by_test true is = is ∙ sym (eq-eqb k.0 j.0 (sym (eqb-true j.0 k.0 is)))
    by_test false is = is ∙ sym (turned (eqb k.0 j.0) refl)
      where
        turned : (t : Bool) → eqb k.0 j.0 ≡ t → eqb k.0 j.0 ≡ false
        turned true there = absurd (true≢false (sym (eq-eqb j.0 k.0 (sym (eqb-true k.0 j.0 there))) ∙ is))
        turned false there = there

equal_turned : (m n : ℕ) → (m == n) ≡ (n == m)
equal_turned m n = grind (arith, nat_tests)

pub life_turned : (l m : Life) → is_life l.cluster l.from m ≡ is_life m.cluster m.from l
life_turned l m = λ i. same_turned m.cluster l.cluster i && equal_turned m.from l.from i

-- one list of lives behind another has each once, where none of the one is in the other
pub distinct_both : (xs ys : List Life) → are_distinct xs ≡ true → are_distinct ys ≡ true → All (λ (l : Life). list_any (is_life l.cluster l.from) ys ≡ false) xs → are_distinct (xs ++ ys) ≡ true
distinct_both [] ys one two apart = two
distinct_both (l ∷ xs) ys one two apart =
    let parts = and_parts (not (list_any (is_life l.cluster l.from) xs)) (are_distinct xs) one in
    let here = All-head (λ (l : Life). list_any (is_life l.cluster l.from) ys ≡ false) l xs apart in
    let more = All-tail (λ (l : Life). list_any (is_life l.cluster l.from) ys ≡ false) l xs apart in
    (λ i. not ((list_any-append (is_life l.cluster l.from) xs ys ∙ (λ j. none (list_any (is_life l.cluster l.from) xs) parts.0 j || here j)) i) && distinct_both xs ys parts.1 two more i)
  where
    none : (t : Bool) → not t ≡ true → t ≡ false
    none true h = absurd (true≢false (sym h))
    none false h = refl

-- a life that is not there is none of those
others_apart : (l : Life) (xs : List Life) → list_any (is_life l.cluster l.from) xs ≡ false → All (λ (m : Life). list_any (is_life m.cluster m.from) (l ∷ []) ≡ false) xs
others_apart l [] none = All-nil (λ (m : Life). list_any (is_life m.cluster m.from) (l ∷ []) ≡ false)
others_apart l (m ∷ xs) none =
    let parts = or_parts (is_life l.cluster l.from m) (list_any (is_life l.cluster l.from) xs) none in
    All-cons (λ (m : Life). list_any (is_life m.cluster m.from) (l ∷ []) ≡ false) m xs (λ i. (life_turned m l ∙ parts.0) i || false) (others_apart l xs parts.1)

-- ---- one more life is over

low_one : (a b : ℕ) → a < b → nat_lt a b ≡ true
low_one a b less = lt-ltb a b less

pub high_one : (a b : ℕ) → b ≤ a → nat_lt a b ≡ false
high_one a b most = by_test (nat_lt a b) refl
  where
    by_test : (t : Bool) → nat_lt a b ≡ t → t ≡ false
    by_test true is = absurd (let less : a < b = ltb-true a b is in omega (arith, less, most))
    by_test false is = refl

pub and_none : (t : Bool) → (t && false) ≡ false
and_none true = refl
and_none false = refl

module _ (b : BusView) (old new : ClusterView) (before after : List Life) (begun : BeginsLife b old new before after) where
  abbrev l : Life
  l = begun.life

  abbrev k : ClusterNo
  k = old.number

  -- what the life that is over adds
  there : (j : ClusterNo) (from : ℕ) → list_any (is_life j from) after ≡ (list_any (is_life j from) before || ((same_cluster k j && (l.from == from)) || false))
  there j from = ap (list_any (is_life j from)) begun.kept ∙ list_any-append (is_life j from) before (l ∷ []) ∙ ap (λ n. list_any (is_life j from) before || ((same_cluster n j && (l.from == from)) || false)) begun.cluster

  or_nothing : (t : Bool) → (t || (false || false)) ≡ t
  or_nothing true = refl
  or_nothing false = refl

  pub begun_others : IsStillPast old.number before after
  begun_others j from other = there j from ∙ (λ i. list_any (is_life j from) before || (((same_turned k j ∙ other) i && (l.from == from)) || false)) ∙ or_nothing (list_any (is_life j from) before)

  itself : same_cluster k k ≡ true
  itself = eq-eqb k.0 k.0 refl

  here : (from : ℕ) → list_any (is_life k from) after ≡ (list_any (is_life k from) before || ((l.from == from) || false))
  here from = there k from ∙ ap (λ t. list_any (is_life k from) before || ((t && (l.from == from)) || false)) itself

  begins_there : begins_at b.log k l.from ≡ true
  begins_there = ap (λ n. begins_at b.log n l.from) (sym begun.cluster) ∙ ((begun.past).holds).begins

  -- of the cluster those are there that begin before its new life
  its_here : HasItsPast b.log before old → (from : ℕ) → list_any (is_life k from) after ≡ (begins_at b.log k from && nat_lt from new.cursor)
  its_here its from = elim (cases_lt from l.from) [
    | inl less ↦
        here from ∙ (λ i. (its from ∙ ap (λ m. begins_at b.log k from && nat_lt from m) (sym begun.from) ∙ ap (λ t. begins_at b.log k from && t) (low_one from l.from less)) i || (apart l.from from (λ same. absurd (omega (arith, less, same))) i || false))
        ∙ or_same (begins_at b.log k from) ∙ ap (λ t. begins_at b.log k from && t) (sym (low_one from new.cursor (let far = begun.before_it in omega (arith, less, far))))
    | inr most ↦ elim (cases_lt l.from from) [
      | inl more ↦
          here from ∙ (λ i. (its from ∙ ap (λ m. begins_at b.log k from && nat_lt from m) (sym begun.from) ∙ ap (λ t. begins_at b.log k from && t) (high_one from l.from most) ∙ and_none (begins_at b.log k from)) i || (apart l.from from (λ same. absurd (omega (arith, more, same))) i || false))
          ∙ sym (later from more)
      | inr low ↦
          (let same : l.from ≡ from = omega (arith, low, most) in
          here from ∙ (λ i. list_any (is_life k from) before || (eq-eqb l.from from same i || false)) ∙ or_true (list_any (is_life k from) before)
          ∙ sym (λ i. (ap (begins_at b.log k) (sym same) ∙ begins_there) i && low_one from new.cursor (let far = begun.before_it in omega (arith, same, far)) i))
    ]
  ]
    where
      apart : (m n : ℕ) → (m ≡ n → ⊥) → (m == n) ≡ false
      apart m n other = by_test (m == n) refl
        where
          by_test : (t : Bool) → (m == n) ≡ t → t ≡ false
          by_test true is = absurd (other (eqb-true m n is))
          by_test false is = refl

      or_same : (t : Bool) → ((t && true) || (false || false)) ≡ (t && true)
      or_same true = refl
      or_same false = refl

      or_true : (t : Bool) → (t || (true || false)) ≡ true
      or_true true = refl
      or_true false = refl

      later : (from : ℕ) → l.from < from → (begins_at b.log k from && nat_lt from new.cursor) ≡ false
      later from more = elim (cases_lt from new.cursor) [
        | inl less ↦ ap (λ t. t && nat_lt from new.cursor) (begun.none_between from more less)
        | inr most ↦ ap (λ t. begins_at b.log k from && t) (high_one from new.cursor most) ∙ and_none (begins_at b.log k from)
      ]

  pub begun_past : ArePastOf b before old → ArePastOf b after new
  begun_past past = record {
    each = subst (All (IsPast b)) (sym begun.kept) (All-append (IsPast b) before (l ∷ []) past.each (All-cons (IsPast b) l [] begun.past (All-nil (IsPast b))));
    distinct = ap are_distinct begun.kept ∙ distinct_both before (l ∷ []) past.distinct refl (others_apart l before none);
    its = λ from.
        let Its : ClusterNo → Type 0 = λ j. list_any (is_life j from) after ≡ (begins_at b.log j from && nat_lt from (begin_of_life b.log j new.cursor)) in
        subst Its (sym (begun.same).number) (its_here past.its from ∙ ap (λ m. begins_at b.log k from && nat_lt from m) (sym (begin_here b.log k new.cursor begun.begins)));
  }
    where
      none : list_any (is_life l.cluster l.from) before ≡ false
      none =
          ap (λ j. list_any (is_life j l.from) before) begun.cluster ∙ past.its l.from ∙ ap (λ m. begins_at b.log k l.from && nat_lt l.from m) (sym begun.from)
          ∙ ap (λ t. begins_at b.log k l.from && t) (high_one l.from l.from (omega arith)) ∙ and_none (begins_at b.log k l.from)

-- ---- the log grows

-- what is there of the lives of a cluster that has not come past the shorter log stays
pub its_longer : (log more longer : List Entry) (past : List Life) (c : ClusterView) → longer ≡ log ++ more → c.cursor ≤ length log → HasItsPast log past c → HasItsPast longer past c
its_longer log more longer past c is within its from =
    its from ∙ same from ∙ ap (λ l. begins_at l c.number from && nat_lt from (begin_of_life l c.number c.cursor)) (sym is)
  where
    begin : begin_of_life (log ++ more) c.number c.cursor ≡ begin_of_life log c.number c.cursor
    begin = begin_longer log more c.number c.cursor within

    same : (from : ℕ) → (begins_at log c.number from && nat_lt from (begin_of_life log c.number c.cursor)) ≡ (begins_at (log ++ more) c.number from && nat_lt from (begin_of_life (log ++ more) c.number c.cursor))
    same from = elim (cases_lt from (length log + 1)) [
      | inl low ↦ (λ i. sym (begins_longer log more c.number from (omega (arith, low))) i && nat_lt from (sym begin i))
      | inr high ↦
          (let far : nat_lt from (begin_of_life log c.number c.cursor) ≡ false = high_one from (begin_of_life log c.number c.cursor) (let most = begin_low log c.number c.cursor in omega (arith, high, most, within)) in
          ap (λ t. begins_at log c.number from && t) far ∙ and_none (begins_at log c.number from)
          ∙ sym (ap (λ m. begins_at (log ++ more) c.number from && nat_lt from m) begin ∙ ap (λ t. begins_at (log ++ more) c.number from && t) far ∙ and_none (begins_at (log ++ more) c.number from)))
    ]

pub each_longer : (b after : BusView) (more : List Entry) (past : List Life) → after.system ≡ b.system → after.script ≡ b.script → after.log ≡ b.log ++ more → All (IsPast b) past → All (IsPast after) past
each_longer b after more past system script longer each = All-weaker (IsPast b) (IsPast after) (λ l one. past_longer b after more l system script longer one) past each
