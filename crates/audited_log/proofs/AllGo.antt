-- Each process goes on, one after another.
use Rattle.std.proofs.Common.{◌≡◌, ℕ, zero, suc, ◌+◌, ◌<◌, refl, sym, ◌∙◌, ap, subst, List, [], ◌∷◌, ◌++◌, length, take, get_or, slice_get, Bool, true, false, ◌||◌, cond, Option, Some, None, true≢false}
use Rattle.std.specs.List.{AllByRecursion, list_any}
use Rattle.std.specs.List.Sorted.{IsStrictlySortedBy}
use Rattle.std.specs.Map.{keys_of, lookup, set_value}
use Rattle.std.specs.Ordering.{nat_cmp}
use Rattle.std.specs.declared.cmp.Ordering.TheVariants.{Less}
use Rattle.std.proofs.lemmas.List.{take_more}
use Rattle.std.proofs.lemmas.List.Folds.{list_any-append}
use Rattle.std.proofs.lemmas.Option.{slice_get-get_or, same_Some}
use Rattle.t32_base.specs.declared.process.Pid.{Pid}
use Rattle.plain_kernel.specs.Maps.{at_key}
use Rattle.plain_kernel.proofs.Entries.{later_no_key}
use Rattle.bus_msg.specs.declared.entry.Entry.{Entry}
use Rattle.bus_msg.specs.Places.{Places}
use Rattle.audited_process.specs.declared.audited.Audited.{Audited}
use Rattle.audited_log.specs.Processes.{kept_at}
use Rattle.audited_log.specs.Walk.{AllGoOn, GoesOn, GoesOnIfThere}
use Rattle.audited_log.proofs.Maps.{elsewhere, here, key_itself, key_same}

-- the number is one of these
abbrev pub has : ℕ → List ℕ → Bool
has n ns = list_any (at_key n) ns

-- the processes with these numbers go on, and the others are as they were
pub record GoneOn (before : Places) (e : Entry) (done : List ℕ) (old new : List (ℕ × Audited)) : Type 0 where
  pub those : (q : Pid) → has q.0 done ≡ true → GoesOnIfThere before e q (kept_at old q) (kept_at new q)
  pub others : (q : Pid) → has q.0 done ≡ false → kept_at new q ≡ kept_at old q

-- ---- numbers that rise are apart

above : (m n : ℕ) (ns : List ℕ) (i : ℕ) → AllByRecursion (λ y. nat_cmp m y ≡ Less) ns → slice_get ns i ≡ Some n → nat_cmp m n ≡ Less
above m n [] i all at = cc
above m n (k ∷ ns) zero all at = let same : k ≡ n = cc in subst (λ x. nat_cmp m x ≡ Less) same all.0
above m n (k ∷ ns) (suc i) all at = above m n ns i all.1 at

-- a number is not among those in front of it
pub not_before : (ns : List ℕ) (i n : ℕ) → IsStrictlySortedBy nat_cmp ns → slice_get ns i ≡ Some n → has n (take i ns) ≡ false
unfolding IsStrictlySortedBy
not_before [] i n sorted at = cc
not_before (m ∷ ns) zero n sorted at = refl
not_before (m ∷ ns) (suc i) n sorted at = λ j. later_no_key m n (above m n ns i sorted.0 at) j || not_before ns i n sorted.1 at j

-- a number that is none of the keys has nothing
pub no_key : (n : ℕ) (es : List (ℕ × Audited)) → has n (keys_of es) ≡ false → lookup (at_key n) es ≡ None
no_key n [] none = refl
no_key n (x ∷ es) none = by_key (at_key n x.0) (no_key n es) none
  where
    by_key : (b : Bool) → (has n (keys_of es) ≡ false → lookup (at_key n) es ≡ None) → (b || has n (keys_of es)) ≡ false → cond b (Some x.1) (lookup (at_key n) es) ≡ None
    by_key true more other = absurd (true≢false other)
    by_key false more other = more other

-- ---- one more

module _ (before : Places) (e : Entry) (ns : List ℕ) (i n : ℕ) (within : i < length ns) (sorted : IsStrictlySortedBy nat_cmp ns) (at : slice_get ns i ≡ Some n) where
  abbrev p : Pid
  p = record { 0 = n }

  more : (q : Pid) → has q.0 (take (i + 1) ns) ≡ (has q.0 (take i ns) || (at_key q.0 n || false))
  more q =
      let same : get_or ns i n ≡ n = same_Some (get_or ns i n) n (sym (slice_get-get_or ns i n within) ∙ at) in
      ap (has q.0) (take_more ns i n within ∙ ap (λ x. take i ns ++ x ∷ []) same) ∙ list_any-append (at_key q.0) (take i ns) (n ∷ [])

  new_one : has n (take i ns) ≡ false
  new_one = not_before ns i n sorted at

  module _ (old now : List (ℕ × Audited)) (gone : GoneOn before e (take i ns) old now) where
    -- it is there still as it was
    pub was : (a : Audited) → kept_at now p ≡ Some a → kept_at old p ≡ Some a
    was a there = sym (gone.others p new_one) ∙ there

    -- and goes on
    pub gone_more : (a new : Audited) → kept_at now p ≡ Some a → GoesOn before e p a new → GoneOn before e (take (i + 1) ns) old (set_value (at_key n) now new)
    gone_more a new there goes = record { those = those; others = others }
      where
        those : (q : Pid) → has q.0 (take (i + 1) ns) ≡ true → GoesOnIfThere before e q (kept_at old q) (kept_at (set_value (at_key n) now new) q)
        those q is = by_key (at_key n q.0) refl (sym (more q) ∙ is)
          where
            apart : at_key n q.0 ≡ false → at_key q.0 n ≡ false
            apart other = by_other (at_key q.0 n) refl
              where
                by_other : (b : Bool) → at_key q.0 n ≡ b → b ≡ false
                by_other true same = absurd (true≢false (sym (ap (λ m. at_key n m) (key_same q.0 n same) ∙ key_itself n) ∙ other))
                by_other false same = refl

            by_key : (b : Bool) → at_key n q.0 ≡ b → (has q.0 (take i ns) || (at_key q.0 n || false)) ≡ true → GoesOnIfThere before e q (kept_at old q) (kept_at (set_value (at_key n) now new) q)
            by_key true same is =
                let me : p ≡ q = λ j. record { 0 = key_same n q.0 same j } in
                subst (λ (q : Pid). GoesOnIfThere before e q (kept_at old q) (kept_at (set_value (at_key n) now new) q)) me
                (subst (λ (o : Option Audited). GoesOnIfThere before e p o (kept_at (set_value (at_key n) now new) p)) (sym (was a there))
                (subst (λ (o : Option Audited). GoesOnIfThere before e p (Some a) o) (sym (here p now a new there)) goes))
            by_key false other is =
                let done : has q.0 (take i ns) ≡ true = sym (drop_false (has q.0 (take i ns))) ∙ (λ j. has q.0 (take i ns) || (sym (apart other) j || false)) ∙ is in
                subst (λ (o : Option Audited). GoesOnIfThere before e q (kept_at old q) o) (sym (elsewhere p q now new other)) (gone.those q done)
              where
                drop_false : (b : Bool) → (b || (false || false)) ≡ b
                drop_false true = refl
                drop_false false = refl

        others : (q : Pid) → has q.0 (take (i + 1) ns) ≡ false → kept_at (set_value (at_key n) now new) q ≡ kept_at old q
        others q is =
            let parts = none_of (has q.0 (take i ns)) (at_key q.0 n) (sym (more q) ∙ is) in
            elsewhere p q now new (other_way parts.1) ∙ gone.others q parts.0
          where
            none_of : (a b : Bool) → (a || (b || false)) ≡ false → (a ≡ false) × (b ≡ false)
            none_of true b is = absurd (true≢false is)
            none_of false true is = absurd (true≢false is)
            none_of false false is = (refl, refl)

            other_way : at_key q.0 n ≡ false → at_key n q.0 ≡ false
            other_way other = by_other (at_key n q.0) refl
              where
                by_other : (b : Bool) → at_key n q.0 ≡ b → b ≡ false
                by_other true same = absurd (true≢false (sym (ap (λ m. at_key m n) (sym (key_same n q.0 same)) ∙ key_itself n) ∙ other))
                by_other false same = refl

    -- or it is not there
    pub gone_none : kept_at now p ≡ None → GoneOn before e (take (i + 1) ns) old now
    gone_none nothing = record { those = those; others = λ q is. gone.others q (first_of (has q.0 (take i ns)) (at_key q.0 n) (sym (more q) ∙ is)) }
      where
        first_of : (a b : Bool) → (a || (b || false)) ≡ false → a ≡ false
        first_of true b is = absurd (true≢false is)
        first_of false b is = refl

        those : (q : Pid) → has q.0 (take (i + 1) ns) ≡ true → GoesOnIfThere before e q (kept_at old q) (kept_at now q)
        those q is = by_done (has q.0 (take i ns)) refl (sym (more q) ∙ is)
          where
            by_done : (b : Bool) → has q.0 (take i ns) ≡ b → (b || (at_key q.0 n || false)) ≡ true → GoesOnIfThere before e q (kept_at old q) (kept_at now q)
            by_done true done is = gone.those q done
            by_done false undone is =
                let same : at_key q.0 n ≡ true = only (at_key q.0 n) is in
                let me : p ≡ q = λ j. record { 0 = sym (key_same q.0 n same) j } in
                subst (λ (q : Pid). GoesOnIfThere before e q (kept_at old q) (kept_at now q)) me
                (subst (λ (o : Option Audited). GoesOnIfThere before e p o (kept_at now p)) (gone.others p new_one)
                (subst (λ (o : Option Audited). GoesOnIfThere before e p o o) (sym nothing) tt))
              where
                only : (b : Bool) → (b || false) ≡ true → b ≡ true
                only true is = refl
                only false is = is

-- before any, and after all of them

pub gone_none_yet : (before : Places) (e : Entry) (old : List (ℕ × Audited)) → GoneOn before e [] old old
gone_none_yet before e old = record { those = λ q is. absurd (true≢false (sym is)); others = λ q is. refl }

pub all_gone : (before : Places) (e : Entry) (old now : List (ℕ × Audited)) → GoneOn before e (keys_of old) old now → AllGoOn before e old now
all_gone before e old now gone q = by_key (has q.0 (keys_of old)) refl
  where
    by_key : (b : Bool) → has q.0 (keys_of old) ≡ b → GoesOnIfThere before e q (kept_at old q) (kept_at now q)
    by_key true is = gone.those q is
    by_key false is =
        subst (λ (o : Option Audited). GoesOnIfThere before e q (kept_at old q) o) (sym (gone.others q is))
        (subst (λ (o : Option Audited). GoesOnIfThere before e q o o) (sym (no_key q.0 old is)) tt)
