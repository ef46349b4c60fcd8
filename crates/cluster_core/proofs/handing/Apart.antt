-- The numbers of a family, of whom none stands twice: the order in which their records are handed on.
use Rattle.std.proofs.Common.{◌≡◌, ℕ, refl, sym, ◌∙◌, ap, subst, List, [], ◌∷◌, ◌++◌, map, Bool, true, false, cond, ◌&&◌, ◌||◌, eqb, ltb, eqb-true, eq-eqb, arith, true≢false, inl, inr}
use Rattle.std.specs.Prelude.{drop, fold}
use Rattle.std.specs.BTreeSet.{insert_key}
use Rattle.std.specs.List.{list_any}
use Rattle.std.specs.Ordering.{match_ordering, nat_cmp}
use Rattle.std.specs.declared.cmp.Ordering.{Ordering}
use Rattle.std.specs.declared.cmp.Ordering.TheVariants.{Less, Equal, Greater}
use Rattle.std.proofs.lemmas.Bool.{and_parts, or_parts}
use Rattle.std.proofs.lemmas.Bool.Decides.{nat_tests}
use Rattle.std.proofs.lemmas.List.{map-append}
use Rattle.std.proofs.lemmas.List.Folds.{list_any-append}
use Rattle.t32_base.specs.declared.process.Pid.{Pid}
use Rattle.sys_text.specs.declared.system.System.{System}
use Rattle.bus_msg.specs.declared.entry.Entry.{Entry}
use Rattle.bus_msg.specs.Places.{Places, same_pid}
use Rattle.birth_notice.specs.Joined.{family_of, others_of}
use Rattle.birth_notice.proofs.JoinedLaws.{any_with, own_first}
use Rattle.plain_kernel.specs.Maps.{at_key}
use Rattle.cert_sched.specs.Parts.{put_rising, rising}
use Rattle.cert_sched.specs.Schedule.{placement}
use Rattle.cert_sched.specs.Family.{births_of, is_unsynced, joins, unsynced_family}
use Rattle.cert_sched.specs.Record.{has_state}
use Rattle.cert_sched.proofs.FamilyLaws.{Families, Member, Ordered, Pair, among, none_of}
use Rattle.cert_sched.proofs.RisingLaws.{NoTwo, put_all, put_all-none, put_all-put, rising-any, rising-apart}
use Rattle.log_laws.specs.births.Unsynced.{unsynced_births}
use Rattle.cluster_core.proofs.awaiting.Joined.{joined}
use Rattle.cluster_core.proofs.losses.HomesMoved.{same_in_order}
use Rattle.residents.proofs.Slots.{at_key_is, turned}

abbrev pub numbers : List Pid → List ℕ
numbers pids = map (λ (q : Pid). q.0) pids

-- ---- no process stands twice in a family

-- one more, who was not there
two_more : (ns : List ℕ) (n : ℕ) → NoTwo ns → list_any (λ m. eqb m n) ns ≡ false → NoTwo (ns ++ n ∷ [])
two_more [] n two none = (refl, tt)
two_more (m ∷ ns) n two none =
    let parts = or_parts (eqb m n) (list_any (λ m. eqb m n) ns) none in
    (list_any-append (λ l. eqb l m) ns (n ∷ []) ∙ (λ i. two.0 i || (turned m n parts.0 i || false)), two_more ns n two.1 parts.1)

number_there : (q : Pid) (family : List Pid) → list_any (λ m. eqb m q.0) (numbers family) ≡ among q family
number_there q [] = refl
number_there q (p ∷ family) = λ i. swapped p.0 q.0 i || number_there q family i
  where
    swapped : (m n : ℕ) → eqb m n ≡ eqb n m
    swapped m n = grind (arith, nat_tests)

module _ (places : Places) where
  -- nobody who may still join is there
  abbrev NoneThere : List Pid → List Pair → Type 0
  NoneThere family bs = (b : Pair) → Member b bs → is_unsynced places b.1 ≡ true → among b.1 family ≡ false

  apart_family : (bs : List Pair) (family : List Pid) → Ordered bs → NoneThere family bs → NoTwo (numbers family) → NoTwo (numbers (fold (joins places) family bs))
  apart_family [] family ordered none two = two
  apart_family (c ∷ bs) family ordered none two =
      by_test (list_any (same_pid c.0) family && is_unsynced places c.1) refl (apart_family bs (family ++ c.1 ∷ []) ordered.2)
      (apart_family bs family ordered.2 (λ b m. none b (inr m)) two)
    where
      by_test : (t : Bool) → (list_any (same_pid c.0) family && is_unsynced places c.1) ≡ t
          → (NoneThere (family ++ c.1 ∷ []) bs → NoTwo (numbers (family ++ c.1 ∷ [])) → NoTwo (numbers (fold (joins places) (family ++ c.1 ∷ []) bs)))
          → NoTwo (numbers (fold (joins places) family bs)) → NoTwo (numbers (fold (joins places) (cond t (family ++ c.1 ∷ []) family) bs))
      by_test false passes with_it without = without
      by_test true passes with_it without =
          let new : among c.1 family ≡ false = none c (inl refl) (and_parts (list_any (same_pid c.0) family) (is_unsynced places c.1) passes).1 in
          with_it
          (λ b m unsynced. list_any-append (same_pid b.1) family (c.1 ∷ []) ∙ (λ i. none b (inr m) unsynced i || (none_of (λ (d : Pair). same_pid d.1 c.1) bs ordered.1 b m i || false)))
          (subst NoTwo (sym (map-append (λ (q : Pid). q.0) family (c.1 ∷ []))) (two_more (numbers family) (c.1).0 two (number_there c.1 family ∙ new)))

-- a process that has a state joins nobody's family
module _ (system : System) (log : List Entry) (all : Families system log) (p : Pid) (stated : has_state system log p ≡ true) where
  never_joins : (b : Pair) → Member b (births_of log) → is_unsynced (placement system log) b.1 ≡ true → among b.1 (p ∷ []) ≡ false
  never_joins b m unsynced = by_test (same_pid b.1 p) refl
    where
      stateless : has_state system log b.1 ≡ false
      stateless = λ i. all.no_roots b m i || all.uncut b.1 unsynced i

      by_test : (t : Bool) → same_pid b.1 p ≡ t → (t || false) ≡ false
      by_test false other = refl
      by_test true same =
          let one : b.1 ≡ p = λ i. record { 0 = eqb-true (b.1).0 p.0 same i } in
          absurd (true≢false (sym stated ∙ ap (has_state system log) (sym one) ∙ stateless))

  pub family_apart : NoTwo (numbers (unsynced_family system log p))
  family_apart = apart_family (placement system log) (births_of log) (p ∷ []) all.ordered never_joins (refl, tt)

-- ---- numbers in their places

-- one that is not there comes to its place
put_there : (n : ℕ) (ns : List ℕ) → list_any (λ m. eqb m n) ns ≡ false → insert_key nat_cmp ns n ≡ put_rising n ns
put_there n [] none = refl
put_there n (m ∷ ns) none =
    let parts = or_parts (eqb m n) (list_any (λ m. eqb m n) ns) none in
    by_order (nat_cmp n m) refl parts.0 (put_there n ns parts.1)
  where
    below : nat_cmp n m ≡ Less → ltb n m ≡ true
    below is = grind (arith, nat_tests)

    above : nat_cmp n m ≡ Greater → ltb n m ≡ false
    above is = grind (arith, nat_tests)

    apart : nat_cmp n m ≡ Equal → eqb m n ≡ true
    apart is = grind (arith, nat_tests)

    by_order : (o : Ordering) → nat_cmp n m ≡ o → eqb m n ≡ false → insert_key nat_cmp ns n ≡ put_rising n ns
        → match_ordering o (n ∷ m ∷ ns) (m ∷ ns) (m ∷ insert_key nat_cmp ns n) ≡ cond (ltb n m) (n ∷ m ∷ ns) (m ∷ put_rising n ns)
    by_order Less is other more = ap (λ b. cond b (n ∷ m ∷ ns) (m ∷ put_rising n ns)) (sym (below is))
    by_order Equal is other more = absurd (true≢false (sym (apart is) ∙ other))
    by_order Greater is other more = ap (λ l. m ∷ l) more ∙ ap (λ b. cond b (n ∷ m ∷ ns) (m ∷ put_rising n ns)) (sym (above is))

-- so do many of whom none is there and none stands twice
all_there : (ns ks : List ℕ) → NoTwo ns → ((n : ℕ) → list_any (λ m. eqb m n) ns ≡ true → list_any (λ m. eqb m n) ks ≡ false) → fold (insert_key nat_cmp) ks ns ≡ put_all ns ks
all_there [] ks two none = refl
all_there (n ∷ ns) ks two none =
    all_there ns (insert_key nat_cmp ks n) two.1 still ∙ ap (put_all ns) (put_there n ks (none n (ap (λ b. b || list_any (λ m. eqb m n) ns) (eq-eqb n n refl)))) ∙ put_all-put ns n ks
  where
    any_at : (k : ℕ) (xs : List ℕ) → list_any (at_key k) xs ≡ list_any (λ m. eqb m k) xs
    any_at k [] = refl
    any_at k (x ∷ xs) = λ i. at_key_is k x i || any_at k xs i

    either : (a b : Bool) → b ≡ true → (a || b) ≡ true
    either true b h = refl
    either false b h = h

    still : (k : ℕ) → list_any (λ m. eqb m k) ns ≡ true → list_any (λ m. eqb m k) (insert_key nat_cmp ks n) ≡ false
    still k there =
        sym (any_at k (insert_key nat_cmp ks n)) ∙ any_with k ks (n ∷ [])
        ∙ (λ i. (any_at k ks ∙ none k (either (eqb n k) (list_any (λ m. eqb m k) ns) there)) i || ((at_key_is k n ∙ other (eqb n k) refl) i || false))
      where
        other : (b : Bool) → eqb n k ≡ b → b ≡ false
        other false is = refl
        other true is = absurd (true≢false (sym there ∙ ap (λ l. list_any (λ m. eqb m l) ns) (sym (eqb-true n k is)) ∙ two.0))

-- ---- a family by number

module _ (system : System) (log : List Entry) (all : Families system log) (p : Pid) (stated : has_state system log p ≡ true) where
  abbrev others : List ℕ
  others = numbers (drop 1 (family_of (unsynced_births system log) p))

  family_is : numbers (unsynced_family system log p) ≡ p.0 ∷ others
  family_is = ap numbers (sym (joined system log p) ∙ own_first p [] (unsynced_births system log))

  apart : NoTwo others
  apart = (subst NoTwo family_is (family_apart system log all p stated)).1

  -- the process and the others are its family that never synchronised
  pub in_order : rising (p.0 ∷ others_of (unsynced_births system log) p) ≡ rising (numbers (unsynced_family system log p))
  in_order =
      ap (λ ns. put_rising p.0 (rising ns)) (all_there others [] apart (λ n there. refl) ∙ put_all-none others)
      ∙ ap (put_rising p.0) (same_in_order (rising others) others (rising-apart others apart) apart (λ q. rising-any (λ m. eqb m q.0) others))
      ∙ ap rising (sym family_is)
