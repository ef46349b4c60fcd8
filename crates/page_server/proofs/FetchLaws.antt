-- The notes of the fetches, as fetches come and go.
use Rattle.std.proofs.Common.{◌≡◌, ℕ, ◌≤◌, ◌+◌, Bool, true, false, cond, not, eqb, ◌&&◌, List, [], ◌∷◌, ◌++◌, filter, drop, slice_get, refl, sym, ap, ◌∙◌, subst, arith, ◌⊎◌, inl, inr, Option, Some, None, is_some, unwrap_or}
use Rattle.std.proofs.lemmas.Bool.{false≢true}
use Rattle.std.proofs.lemmas.Map.Entries.{lookup-filter-keys}
use Rattle.std.specs.declared.cmp.Ordering.{Ordering}
use Rattle.std.specs.declared.cmp.Ordering.TheVariants.{Less, Equal, Greater}
use Rattle.std.specs.Ordering.{nat_cmp, is_eq, ordering_then}
use Rattle.std.specs.BTreeMap.{get, is_at}
use Rattle.std.specs.Map.{lookup}
use Rattle.t32_base.specs.declared.process.Pid.{Pid}
use Rattle.page_server.specs.Account.{fetches_without, fetches_but}
use Rattle.page_server.specs.Fetches.{page_cmp, waits, Fits, Notes, Noted, notes_without}
use Rattle.page_server.proofs.PagerLaws.{same_or_not, test_same, test_other, at_same, at_other}

abbrev Fetch : Type 0
Fetch = Pid × ℕ

-- ---- tests of pages

abbrev Same : ℕ → ℕ → ℕ → ℕ → Type 0
Same q j pid i = (q ≡ pid) × (j ≡ i)

same_page_or_not : (q j pid i : ℕ) → Same q j pid i ⊎ (Same q j pid i → ⊥)
same_page_or_not q j pid i = by_pid (same_or_not q pid) (same_or_not j i)
  where
    by_pid : ((q ≡ pid) ⊎ (q ≡ pid → ⊥)) → ((j ≡ i) ⊎ (j ≡ i → ⊥)) → Same q j pid i ⊎ (Same q j pid i → ⊥)
    by_pid (inl e) (inl e') = inl (e, e')
    by_pid (inl e) (inr other) = inr (λ s. other s.1)
    by_pid (inr other) b = inr (λ s. other s.0)

both : {a b : Bool} → a ≡ true → b ≡ true → (a && b) ≡ true
both {a} {b} e f = ap (λ a. a && b) e ∙ f

second_fails : (a b : Bool) → b ≡ false → (a && b) ≡ false
second_fails true b e = e
second_fails false b e = refl

-- a test of numbers that fails for two that differ fails for one part of two pages that differ
pages_differ : (test : ℕ → ℕ → Bool) → ((x y : ℕ) → (x ≡ y → ⊥) → test x y ≡ false) → (q j pid i : ℕ) → (Same q j pid i → ⊥) → (test q pid && test j i) ≡ false
pages_differ test differs q j pid i other = by_pid (same_or_not q pid)
  where
    by_pid : ((q ≡ pid) ⊎ (q ≡ pid → ⊥)) → (test q pid && test j i) ≡ false
    by_pid (inl e) = second_fails (test q pid) (test j i) (differs j i (λ e'. other (e, e')))
    by_pid (inr apart) = ap (λ b. b && test j i) (differs q pid apart)

then_is_eq : (a b : Ordering) → is_eq (ordering_then a b) ≡ (is_eq a && is_eq b)
then_is_eq Less b = refl
then_is_eq Equal b = refl
then_is_eq Greater b = refl

at_page : (q j pid i : ℕ) → Same q j pid i → is_at (page_cmp (pid, i)) (q, j) ≡ true
at_page q j pid i s = then_is_eq (nat_cmp pid q) (nat_cmp i j) ∙ both (at_same q pid s.0) (at_same j i s.1)

at_other_page : (q j pid i : ℕ) → (Same q j pid i → ⊥) → is_at (page_cmp (pid, i)) (q, j) ≡ false
at_other_page q j pid i other = then_is_eq (nat_cmp pid q) (nat_cmp i j) ∙ pages_differ (λ x y. is_eq (nat_cmp y x)) at_other q j pid i other

-- ---- how many wait

waits_more : (pid i : ℕ) (fs : List Fetch) (f : Fetch) → waits pid i (fs ++ f ∷ []) ≡ cond (eqb (f.0).0 pid && eqb f.1 i) 1 0 + waits pid i fs
waits_more pid i [] f = refl
waits_more pid i (g ∷ fs) f = let e = waits_more pid i fs f in omega (arith, e)

waits_fewer : (pid i : ℕ) (test : Fetch → Bool) (fs : List Fetch) → waits pid i (filter test fs) ≤ waits pid i fs
waits_fewer pid i test [] = omega arith
waits_fewer pid i test (f ∷ fs) = by_test (test f) (waits_fewer pid i test fs)
  where
    by_test : (b : Bool) → waits pid i (filter test fs) ≤ waits pid i fs → waits pid i (cond b (f ∷ filter test fs) (filter test fs)) ≤ waits pid i (f ∷ fs)
    by_test true h = omega (arith, h)
    by_test false h = omega (arith, h)

-- where no fetch of the page waits, the fetches of other pages are all
kept_whole : (pid : Pid) (i : ℕ) (fs : List Fetch) → waits pid.0 i fs ≡ 0 → fetches_but pid i fs ≡ fs
kept_whole pid i [] none = refl
kept_whole pid i (f ∷ fs) none = by_page (eqb (f.0).0 pid.0 && eqb f.1 i) none (kept_whole pid i fs)
  where
    by_page : (b : Bool) → cond b 1 0 + waits pid.0 i fs ≡ 0 → (waits pid.0 i fs ≡ 0 → fetches_but pid i fs ≡ fs) → cond (not b) (f ∷ fetches_but pid i fs) (fetches_but pid i fs) ≡ f ∷ fs
    by_page true h rest = absurd (omega (arith, h))
    by_page false h rest = ap (λ gs. f ∷ gs) (rest (omega (arith, h)))

none_left : (pid : Pid) (i : ℕ) (fs : List Fetch) → waits pid.0 i (fetches_but pid i fs) ≡ 0
none_left pid i [] = refl
none_left pid i (f ∷ fs) = by_page (eqb (f.0).0 pid.0 && eqb f.1 i) refl (none_left pid i fs)
  where
    by_page : (b : Bool) → (eqb (f.0).0 pid.0 && eqb f.1 i) ≡ b → waits pid.0 i (fetches_but pid i fs) ≡ 0 → waits pid.0 i (cond (not b) (f ∷ fetches_but pid i fs) (fetches_but pid i fs)) ≡ 0
    by_page true is h = h
    by_page false is h = subst (λ b. cond b 1 0 + waits pid.0 i (fetches_but pid i fs) ≡ 0) (sym is) (omega (arith, h))

none_left_of : (pid : Pid) (i : ℕ) (fs : List Fetch) → waits pid.0 i (fetches_without pid fs) ≡ 0
none_left_of pid i [] = refl
none_left_of pid i (f ∷ fs) = by_pid (eqb (f.0).0 pid.0) refl (none_left_of pid i fs)
  where
    by_pid : (b : Bool) → eqb (f.0).0 pid.0 ≡ b → waits pid.0 i (fetches_without pid fs) ≡ 0 → waits pid.0 i (cond (not b) (f ∷ fetches_without pid fs) (fetches_without pid fs)) ≡ 0
    by_pid true is h = h
    by_pid false is h = subst (λ b. cond (b && eqb f.1 i) 1 0 + waits pid.0 i (fetches_without pid fs) ≡ 0) (sym is) (omega (arith, h))

-- ---- what is noted

fits_fewer : (note : Option Bool) (n k : ℕ) → k ≤ n → Fits note n → Fits note k
fits_fewer None n k less fits = omega (arith, less, fits)
fits_fewer (Some false) n k less fits = omega (arith, less, fits)
fits_fewer (Some true) n k less fits = tt

fits_none : (note : Option Bool) → Fits note 0
fits_none None = refl
fits_none (Some false) = omega arith
fits_none (Some true) = tt

abbrev Becomes : Notes → Notes → ℕ → ℕ → Option Bool → Type 0
Becomes old new pid i note = (q : ℕ × ℕ) → get page_cmp new q ≡ cond (is_at (page_cmp (pid, i)) q) note (get page_cmp old q)

became : (old new : Notes) (pid i : ℕ) (note : Option Bool) → Becomes old new pid i note → (q j : ℕ) → Same q j pid i → get page_cmp new (q, j) ≡ note
became old new pid i note b q j s = b (q, j) ∙ ap (λ t. cond t note (get page_cmp old (q, j))) (at_page q j pid i s)

stayed : (old new : Notes) (pid i : ℕ) (note : Option Bool) → Becomes old new pid i note → (q j : ℕ) → (Same q j pid i → ⊥) → get page_cmp new (q, j) ≡ get page_cmp old (q, j)
stayed old new pid i note b q j other = b (q, j) ∙ ap (λ t. cond t note (get page_cmp old (q, j))) (at_other_page q j pid i other)

-- a page of which one more waits, at most
fits_again : (note : Option Bool) (n k : ℕ) → k ≤ 1 + n → Fits note n → Fits (Some (is_some note)) k
fits_again None n k more fits = omega (arith, more, fits)
fits_again (Some b) n k more fits = tt

-- a fetch came, or did not for want of memory
noted_more : (old new : Notes) (pid i : ℕ) (fs gs : List Fetch) → ((q j : ℕ) → waits q j gs ≤ cond (eqb pid q && eqb i j) 1 0 + waits q j fs) → Becomes old new pid i (Some (is_some (get page_cmp old (pid, i)))) → Noted old fs → Noted new gs
noted_more old new pid i fs gs more b noted q j = by_page (same_page_or_not q j pid i)
  where
    by_page : (Same q j pid i ⊎ (Same q j pid i → ⊥)) → Fits (get page_cmp new (q, j)) (waits q j gs)
    by_page (inl s) =
        let few : waits q j gs ≤ 1 + waits q j fs = subst (λ b. waits q j gs ≤ cond b 1 0 + waits q j fs) (both (test_same pid q (sym s.0)) (test_same i j (sym s.1))) (more q j) in
        let fits : Fits (get page_cmp old (pid, i)) (waits q j fs) = subst (λ k. Fits (get page_cmp old (k, i)) (waits q j fs)) s.0 (subst (λ k. Fits (get page_cmp old (q, k)) (waits q j fs)) s.1 (noted q j)) in
        subst (λ note. Fits note (waits q j gs)) (sym (became old new pid i _ b q j s)) (fits_again (get page_cmp old (pid, i)) (waits q j fs) (waits q j gs) few fits)
    by_page (inr other) =
        let still = subst (λ b. waits q j gs ≤ cond b 1 0 + waits q j fs) (pages_differ (λ x y. eqb y x) (λ x y apart. test_other y x (λ e. apart (sym e))) q j pid i other) (more q j) in
        let few : waits q j gs ≤ waits q j fs = omega (arith, still) in
        subst (λ note. Fits note (waits q j gs)) (sym (stayed old new pid i _ b q j other)) (fits_fewer (get page_cmp old (q, j)) (waits q j fs) (waits q j gs) few (noted q j))

pub noted_came : (old new : Notes) (pid : Pid) (i : ℕ) (fs : List Fetch) → Becomes old new pid.0 i (Some (is_some (get page_cmp old (pid.0, i)))) → Noted old fs → Noted new (fs ++ (pid, i) ∷ [])
noted_came old new pid i fs b noted = noted_more old new pid.0 i fs (fs ++ (pid, i) ∷ []) (λ q j. omega (arith, waits_more q j fs (pid, i))) b noted

pub noted_not_come : (old new : Notes) (pid i : ℕ) (fs : List Fetch) → Becomes old new pid i (Some (is_some (get page_cmp old (pid, i)))) → Noted old fs → Noted new fs
noted_not_come old new pid i fs b noted = noted_more old new pid i fs fs (λ q j. omega arith) b noted

-- a page has no fetch any more
noted_gone : (old new : Notes) (pid i : ℕ) (fs gs : List Fetch) → ((q j : ℕ) → waits q j gs ≤ waits q j fs) → waits pid i gs ≡ 0 → Becomes old new pid i None → Noted old fs → Noted new gs
noted_gone old new pid i fs gs fewer none b noted q j = by_page (same_page_or_not q j pid i)
  where
    by_page : (Same q j pid i ⊎ (Same q j pid i → ⊥)) → Fits (get page_cmp new (q, j)) (waits q j gs)
    by_page (inl s) = subst (λ note. Fits note (waits q j gs)) (sym (became old new pid i None b q j s)) (ap (λ k. waits k j gs) s.0 ∙ ap (λ k. waits pid k gs) s.1 ∙ none)
    by_page (inr other) = subst (λ note. Fits note (waits q j gs)) (sym (stayed old new pid i None b q j other)) (fits_fewer (get page_cmp old (q, j)) (waits q j fs) (waits q j gs) (fewer q j) (noted q j))

-- ---- what the calls leave

pub page_dropped : (old new : Notes) (pid : Pid) (i : ℕ) (fs : List Fetch) → Becomes old new pid.0 i None → Noted old fs → Noted new (fetches_but pid i fs)
page_dropped old new pid i fs b noted = noted_gone old new pid.0 i fs (fetches_but pid i fs) (λ q j. waits_fewer q j _ fs) (none_left pid i fs) b noted

-- the notes of other processes stay
others_noted : (old new : Notes) (pid : Pid) → new.entries ≡ notes_without pid old.entries → (q j : ℕ) → (q ≡ pid.0 → ⊥) → get page_cmp new (q, j) ≡ get page_cmp old (q, j)
others_noted old new pid left q j other = by_test (same_or_not q pid.0)
  where
    of_other : (k : ℕ × ℕ) → is_at (page_cmp (q, j)) k ≡ true → not (eqb k.0 pid.0) ≡ true
    of_other k hit = by_pid (same_or_not k.0 pid.0)
      where
        by_pid : ((k.0 ≡ pid.0) ⊎ (k.0 ≡ pid.0 → ⊥)) → not (eqb k.0 pid.0) ≡ true
        by_pid (inl e) = absurd (false≢true (sym (then_is_eq (nat_cmp q k.0) (nat_cmp j k.1) ∙ ap (λ b. b && is_eq (nat_cmp j k.1)) (at_other k.0 q (λ is. other (sym is ∙ e)))) ∙ hit))
        by_pid (inr apart) = ap not (test_other k.0 pid.0 apart)

    by_test : ((q ≡ pid.0) ⊎ (q ≡ pid.0 → ⊥)) → get page_cmp new (q, j) ≡ get page_cmp old (q, j)
    by_test (inl e) = absurd (other e)
    by_test (inr apart) = ap (λ es. lookup (is_at (page_cmp (q, j))) es) left ∙ lookup-filter-keys (is_at (page_cmp (q, j))) (λ (k : ℕ × ℕ). not (eqb k.0 pid.0)) true of_other old.entries

pub process_dropped : (old new : Notes) (pid : Pid) (fs : List Fetch) → new.entries ≡ notes_without pid old.entries → Noted old fs → Noted new (fetches_without pid fs)
process_dropped old new pid fs left noted q j = by_pid (same_or_not q pid.0)
  where
    by_pid : ((q ≡ pid.0) ⊎ (q ≡ pid.0 → ⊥)) → Fits (get page_cmp new (q, j)) (waits q j (fetches_without pid fs))
    by_pid (inl e) = subst (Fits (get page_cmp new (q, j))) (sym (ap (λ k. waits k j (fetches_without pid fs)) e ∙ none_left_of pid j fs)) (fits_none (get page_cmp new (q, j)))
    by_pid (inr other) = subst (λ note. Fits note (waits q j (fetches_without pid fs))) (sym (others_noted old new pid left q j other)) (fits_fewer (get page_cmp old (q, j)) (waits q j fs) (waits q j (fetches_without pid fs)) (waits_fewer q j _ fs) (noted q j))

-- the first fetch, which is alone
no_first : (f : Fetch) → None ≡ Some f → ⊥
no_first f e = cc

pub first_was_all : (notes : Notes) (pid : Pid) (i : ℕ) (fs : List Fetch) → slice_get fs 0 ≡ Some (pid, i) → get page_cmp notes (pid.0, i) ≡ Some false → Noted notes fs → drop 1 fs ≡ fetches_but pid i fs
first_was_all notes pid i [] first found noted = absurd (no_first (pid, i) first)
first_was_all notes pid i (f ∷ fs) first found noted =
    let is : f ≡ (pid, i) = ap (λ o. unwrap_or o f) first in
    let at : (eqb (f.0).0 pid.0 && eqb f.1 i) ≡ true = ap (λ (g : Fetch). eqb (g.0).0 pid.0 && eqb g.1 i) is ∙ both (test_same pid.0 pid.0 refl) (test_same i i refl) in
    let few : cond (eqb (f.0).0 pid.0 && eqb f.1 i) 1 0 + waits pid.0 i fs ≤ 1 = subst (λ note. Fits note (waits pid.0 i (f ∷ fs))) found (noted pid.0 i) in
    let one : 1 + waits pid.0 i fs ≤ 1 = subst (λ b. cond b 1 0 + waits pid.0 i fs ≤ 1) at few in
    sym (ap (λ b. cond (not b) (f ∷ fetches_but pid i fs) (fetches_but pid i fs)) at ∙ kept_whole pid i fs (omega (arith, one)))
