-- The others of a family, with one birth more.
use Rattle.std.proofs.Common.{◌≡◌, ℕ, ◌+◌, ◌<◌, refl, sym, ◌∙◌, ap, List, [], ◌∷◌, ◌++◌, length, take, get_or, map, Bool, true, false, cond, ◌||◌, eqb, eq-eqb, ne_eqb, arith}
use Rattle.std.specs.Prelude.{drop, fold}
use Rattle.std.specs.BTreeMap.{is_at}
use Rattle.std.specs.BTreeSet.{insert_key}
use Rattle.std.specs.List.{list_any}
use Rattle.std.specs.Ordering.{is_eq, match_ordering, nat_cmp}
use Rattle.std.specs.declared.cmp.Ordering.{Ordering}
use Rattle.std.specs.declared.cmp.Ordering.TheVariants.{Less, Equal, Greater}
use Rattle.std.proofs.lemmas.List.{map-append, take_more}
use Rattle.std.proofs.lemmas.List.Sums.{fold-append}
use Rattle.std.proofs.lemmas.Map.Lookups.{exact_unsigned}
use Rattle.std.proofs.lemmas.Bool.Decides.{nat_tests}
use Rattle.t32_base.specs.declared.process.Pid.{Pid}
use Rattle.bus_msg.specs.Places.{same_pid}
use Rattle.birth_notice.specs.Joined.{by_number, family_of, joins_with, others_of}

-- ---- numbers in their places

-- the pids as numbers
abbrev numbers : List Pid → List ℕ
numbers pids = map (λ (q : Pid). q.0) pids

-- one more comes at its place
by_number_more : (pids : List Pid) (q : Pid) → by_number (pids ++ q ∷ []) ≡ insert_key nat_cmp (by_number pids) q.0
by_number_more pids q =
    ap (λ ns. fold (insert_key nat_cmp) [] ns) (map-append (λ (q : Pid). q.0) pids (q ∷ [])) ∙ fold-append (insert_key nat_cmp) [] (numbers pids) (q.0 ∷ [])

-- a number that is put at its place is there, and all that were there are
any_put : (n k : ℕ) (ks : List ℕ) → list_any (is_at (nat_cmp n)) (insert_key nat_cmp ks k) ≡ (list_any (is_at (nat_cmp n)) ks || is_eq (nat_cmp n k))
any_put n k [] = by_test (is_eq (nat_cmp n k))
  where
    by_test : (b : Bool) → (b || false) ≡ b
    by_test true = refl
    by_test false = refl
any_put n k (x ∷ xs) = by_order (nat_cmp k x) refl (any_put n k xs)
  where
    swapped : (a b c : Bool) → (a || (b || c)) ≡ ((b || c) || a)
    swapped true true c = refl
    swapped true false true = refl
    swapped true false false = refl
    swapped false true c = refl
    swapped false false true = refl
    swapped false false false = refl

    grouped : (a b c : Bool) → (a || (b || c)) ≡ ((a || b) || c)
    grouped true b c = refl
    grouped false b c = refl

    twice : (a b : Bool) → (a || b) ≡ ((a || b) || a)
    twice true b = refl
    twice false true = refl
    twice false false = refl

    by_order : (o : Ordering) → nat_cmp k x ≡ o → list_any (is_at (nat_cmp n)) (insert_key nat_cmp xs k) ≡ (list_any (is_at (nat_cmp n)) xs || is_eq (nat_cmp n k))
        → list_any (is_at (nat_cmp n)) (match_ordering o (k ∷ x ∷ xs) (x ∷ xs) (x ∷ insert_key nat_cmp xs k)) ≡ ((is_eq (nat_cmp n x) || list_any (is_at (nat_cmp n)) xs) || is_eq (nat_cmp n k))
    by_order Less is more = swapped (is_eq (nat_cmp n k)) (is_eq (nat_cmp n x)) (list_any (is_at (nat_cmp n)) xs)
    by_order Equal is more =
        twice (is_eq (nat_cmp n x)) (list_any (is_at (nat_cmp n)) xs) ∙ ap (λ m. (is_eq (nat_cmp n x) || list_any (is_at (nat_cmp n)) xs) || is_eq (nat_cmp n m)) (sym (exact_unsigned k x is))
    by_order Greater is more = ap (λ b. is_eq (nat_cmp n x) || b) more ∙ grouped (is_eq (nat_cmp n x)) (list_any (is_at (nat_cmp n)) xs) (is_eq (nat_cmp n k))

-- so are all that are put there
pub any_with : (n : ℕ) (ns ks : List ℕ) → list_any (is_at (nat_cmp n)) (fold (insert_key nat_cmp) ns ks) ≡ (list_any (is_at (nat_cmp n)) ns || list_any (is_at (nat_cmp n)) ks)
any_with n ns [] = by_test (list_any (is_at (nat_cmp n)) ns)
  where
    by_test : (b : Bool) → b ≡ (b || false)
    by_test true = refl
    by_test false = refl
any_with n ns (k ∷ ks) =
    any_with n (insert_key nat_cmp ns k) ks ∙ ap (λ b. b || list_any (is_at (nat_cmp n)) ks) (any_put n k ns)
    ∙ grouped (list_any (is_at (nat_cmp n)) ns) (is_eq (nat_cmp n k)) (list_any (is_at (nat_cmp n)) ks)
  where
    grouped : (a b c : Bool) → ((a || b) || c) ≡ (a || (b || c))
    grouped true b c = refl
    grouped false b c = refl

key_is : (n m : ℕ) → is_eq (nat_cmp n m) ≡ eqb n m
key_is n m = grind (arith, nat_tests)

-- those are there of whom it is one
pub any_number : (p : Pid) (pids : List Pid) → list_any (is_at (nat_cmp p.0)) (by_number pids) ≡ list_any (same_pid p) pids
any_number p pids = any_with p.0 [] (numbers pids) ∙ each pids
  where
    each : (pids : List Pid) → list_any (is_at (nat_cmp p.0)) (numbers pids) ≡ list_any (same_pid p) pids
    each [] = refl
    each (q ∷ pids) = λ i. key_is p.0 q.0 i || each pids i

-- ---- the family

-- the process is the first of its family
pub own_first : (p : Pid) (family : List Pid) (births : List (Pid × Pid)) → fold joins_with (p ∷ family) births ≡ p ∷ drop 1 (fold joins_with (p ∷ family) births)
own_first p family [] = refl
own_first p family (b ∷ births) = by_test (list_any (same_pid b.0) (p ∷ family)) (own_first p (family ++ b.1 ∷ []) births) (own_first p family births)
  where
    Leads : List Pid → Type 0
    Leads pids = fold joins_with pids births ≡ p ∷ drop 1 (fold joins_with pids births)

    by_test : (t : Bool) → Leads (p ∷ (family ++ b.1 ∷ [])) → Leads (p ∷ family) → Leads (cond t (p ∷ (family ++ b.1 ∷ [])) (p ∷ family))
    by_test true with_it without = with_it
    by_test false with_it without = without

-- who is the process or one of the others is in its family
pub any_others : (births : List (Pid × Pid)) (p q : Pid) → list_any (same_pid q) (family_of births p) ≡ (same_pid q p || list_any (is_at (nat_cmp q.0)) (others_of births p))
any_others births p q =
    ap (list_any (same_pid q)) (own_first p [] births) ∙ ap (λ b. same_pid q p || b) (sym (any_number q (drop 1 (family_of births p))))

-- a birth more: the child joins the others where its parent is the process or one of them
module _ (p : Pid) (births : List (Pid × Pid)) (b : Pid × Pid) where
  family_more : family_of (births ++ b ∷ []) p ≡ joins_with (family_of births p) b
  family_more = fold-append joins_with (p ∷ []) births (b ∷ [])

  more_others : (t : Bool) → list_any (same_pid b.0) (family_of births p) ≡ t → others_of (births ++ b ∷ []) p ≡ cond t (insert_key nat_cmp (others_of births p) (b.1).0) (others_of births p)
  more_others t is = ap (λ family. by_number (drop 1 family)) (family_more ∙ ap (λ t. cond t (family_of births p ++ b.1 ∷ []) (family_of births p)) is) ∙ by_test t
    where
      joined : by_number (drop 1 (family_of births p ++ b.1 ∷ [])) ≡ insert_key nat_cmp (others_of births p) (b.1).0
      joined = ap (λ family. by_number (drop 1 (family ++ b.1 ∷ []))) (own_first p [] births) ∙ by_number_more (drop 1 (family_of births p)) b.1

      by_test : (t : Bool) → by_number (drop 1 (cond t (family_of births p ++ b.1 ∷ []) (family_of births p))) ≡ cond t (insert_key nat_cmp (others_of births p) (b.1).0) (others_of births p)
      by_test true = joined
      by_test false = refl

others_more : (births : List (Pid × Pid)) (n : ℕ) (d : Pid × Pid) (p : Pid) (t : Bool) → n < length births
    → (same_pid (get_or births n d).0 p || list_any (is_at (nat_cmp ((get_or births n d).0).0)) (others_of (take n births) p)) ≡ t
    → others_of (take (n + 1) births) p ≡ cond t (insert_key nat_cmp (others_of (take n births) p) ((get_or births n d).1).0) (others_of (take n births) p)
others_more births n d p t within is =
    ap (λ bs. others_of bs p) (take_more births n d within)
    ∙ more_others p (take n births) (get_or births n d) t (any_others (take n births) p (get_or births n d).0 ∙ is)

-- ---- the next birth, by whose child it is

module _ (births : List (Pid × Pid)) (n : ℕ) (d : Pid × Pid) (p : Pid) (keys : List ℕ) (within : n < length births) (so_far : keys ≡ others_of (take n births) p) where
  abbrev next : Pid × Pid
  next = get_or births n d

  by_keys : (t : Bool) → (same_pid next.0 p || list_any (is_at (nat_cmp (next.0).0)) keys) ≡ t → others_of (take (n + 1) births) p ≡ cond t (insert_key nat_cmp keys (next.1).0) keys
  by_keys t is =
      others_more births n d p t within (ap (λ ks. same_pid next.0 p || list_any (is_at (nat_cmp (next.0).0)) ks) (sym so_far) ∙ is)
      ∙ ap (λ ks. cond t (insert_key nat_cmp ks (next.1).0) ks) (sym so_far)

  either : (a b : Bool) → b ≡ true → (a || b) ≡ true
  either true b h = refl
  either false b h = h

  pub own_joins : (next.0).0 ≡ p.0 → insert_key nat_cmp keys (next.1).0 ≡ others_of (take (n + 1) births) p
  own_joins same = sym (by_keys true (ap (λ b. b || list_any (is_at (nat_cmp (next.0).0)) keys) (eq-eqb (next.0).0 p.0 same)))

  pub one_joins : list_any (is_at (nat_cmp (next.0).0)) keys ≡ true → insert_key nat_cmp keys (next.1).0 ≡ others_of (take (n + 1) births) p
  one_joins there = sym (by_keys true (either (same_pid next.0 p) (list_any (is_at (nat_cmp (next.0).0)) keys) there))

  pub none_joins : ((next.0).0 ≡ p.0 → ⊥) → list_any (is_at (nat_cmp (next.0).0)) keys ≡ false → keys ≡ others_of (take (n + 1) births) p
  none_joins other none = sym (by_keys false (λ i. ne_eqb (next.0).0 p.0 other i || none i))
