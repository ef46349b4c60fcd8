-- The way down to the child that is to be synchronised first: it ends within as many steps as there are births, so it is what the rule says.
use Rattle.std.proofs.Common.{◌≡◌, ℕ, zero, suc, ◌<◌, ◌≤◌, Bool, true, false, ◌&&◌, ◌||◌, cond, List, [], ◌∷◌, length, Option, None, Some, refl, sym, ◌∙◌, ap, arith}
use Rattle.std.specs.Option.{option_map, unwrap_or}
use Rattle.std.specs.List.{list_any}
use Rattle.std.proofs.lemmas.Bool.Decides.{nat_tests}
use Rattle.t32_base.specs.declared.process.Pid.{Pid}
use Rattle.bus_msg.specs.Places.{same_pid}
use Rattle.birth_notice.specs.Family.{stands_in, are_births, is_of, children_of, lowest, next_by, IsByRule, first_within, first_unsynced}
use Rattle.birth_notice.proofs.BirthLaws.{neither, three}
use Rattle.birth_notice.proofs.LowestLaws.{lowest-born, none-lowest}

-- ---- how many births are left below a process

-- the births after that of the process; d where it was born in none of them
abbrev left_from : ℕ → List (Pid × Pid) → Pid → ℕ
left_from d [] p = d
left_from d (b ∷ bs) p = cond (same_pid b.1 p) (length bs) (left_from d bs p)

abbrev pub left : List (Pid × Pid) → Pid → ℕ
left births p = left_from (length births) births p

left_most : (d : ℕ) (births : List (Pid × Pid)) (p : Pid) → length births ≤ d → left_from d births p ≤ d
left_most d [] p h = omega arith
left_most d (b ∷ bs) p h = by (same_pid b.1 p) (left_most d bs p (omega arith))
  where
    by : (t : Bool) → left_from d bs p ≤ d → cond t (length bs) (left_from d bs p) ≤ d
    by true rest = omega arith
    by false rest = rest

pub left-most : (births : List (Pid × Pid)) (p : Pid) → left births p ≤ length births
left-most births p = left_most (length births) births p (omega arith)

-- of a child in these births
left_child : (d : ℕ) (births : List (Pid × Pid)) (c : Pid) → list_any (λ (b : Pid × Pid). same_pid b.1 c) births ≡ true → left_from d births c < length births
left_child d [] c is = cc
left_child d (b ∷ bs) c is = by (same_pid b.1 c) is (λ rest. left_child d bs c rest)
  where
    by : (t : Bool) → (t || list_any (λ (b : Pid × Pid). same_pid b.1 c) bs) ≡ true → (list_any (λ (b : Pid × Pid). same_pid b.1 c) bs ≡ true → left_from d bs c < length bs)
        → cond t (length bs) (left_from d bs c) < suc (length bs)
    by true is more = omega arith
    by false is more = let rest = more is in omega arith

-- of a process that was born in none
left_absent : (d : ℕ) (births : List (Pid × Pid)) (p : Pid) → list_any (λ (b : Pid × Pid). same_pid b.1 p) births ≡ false → left_from d births p ≡ d
left_absent d [] p none = refl
left_absent d (b ∷ bs) p none =
    let parts = neither (same_pid b.1 p) (list_any (λ (b : Pid × Pid). same_pid b.1 p) bs) none in
    ap (λ t. cond t (length bs) (left_from d bs p)) parts.0 ∙ left_absent d bs p parts.1

-- ---- one list of births, two tests

weaker : (f g : Pid × Pid → Bool) (births : List (Pid × Pid)) → ((b : Pid × Pid) → g b ≡ true → f b ≡ true) → list_any g births ≡ true → list_any f births ≡ true
weaker f g [] more is = cc
weaker f g (b ∷ bs) more is = by (g b) refl is (λ rest. weaker f g bs more rest)
  where
    left_or : (a b : Bool) → a ≡ true → (a || b) ≡ true
    left_or a b h i = h i || b

    right_or : (a b : Bool) → b ≡ true → (a || b) ≡ true
    right_or true b h = refl
    right_or false b h = h

    by : (t : Bool) → g b ≡ t → (t || list_any g bs) ≡ true → (list_any g bs ≡ true → list_any f bs ≡ true) → (f b || list_any f bs) ≡ true
    by true here is rest = left_or (f b) (list_any f bs) (more b here)
    by false here is rest = right_or (f b) (list_any f bs) (rest is)

weaker_none : (f g : Pid × Pid → Bool) (births : List (Pid × Pid)) → ((b : Pid × Pid) → g b ≡ true → f b ≡ true) → list_any f births ≡ false → list_any g births ≡ false
weaker_none f g births more none = by (list_any g births) refl
  where
    by : (t : Bool) → list_any g births ≡ t → t ≡ false
    by true is = let found : list_any f births ≡ true = weaker f g births more is in cc
    by false is = refl

-- ---- a child has fewer births left below it than its parent

both : (a b : Bool) → (a && b) ≡ true → (a ≡ true) × (b ≡ true)
both true b h = (refl, h)
both false b h = cc

as_parent : (x p : Pid) (b : Pid × Pid) → is_of p b ≡ true → same_pid x p ≡ true → stands_in x b ≡ true
as_parent x p b is same = grind (arith, nat_tests)

as_child : (x c : Pid) (b : Pid × Pid) → same_pid b.1 c ≡ true → same_pid x c ≡ true → stands_in x b ≡ true
as_child x c b is same = grind (arith, nat_tests)

not_own : (p : Pid) (b : Pid × Pid) → is_of p b ≡ true → same_pid b.1 b.0 ≡ false → same_pid b.1 p ≡ false
not_own p b is other = grind (arith, nat_tests)

abbrev bears : Pid → Pid → Pid × Pid → Bool
bears p c b = is_of p b && same_pid b.1 c

below : (d : ℕ) (births : List (Pid × Pid)) (p c : Pid) → are_births births ≡ true → list_any (bears p c) births ≡ true → length births ≤ d → left_from d births c < left_from d births p
below d [] p c ok is h = cc
below d (b ∷ bs) p c ok is h =
    let parts = three (same_pid b.1 b.0) (list_any (λ (x : Pid × Pid). stands_in x.1 b) bs) (are_births bs) ok in
    at_head parts.0 parts.1 (bears p c b) refl is (λ rest. below d bs p c parts.2 rest (omega arith))
  where
    first : same_pid b.1 b.0 ≡ false → list_any (λ (x : Pid × Pid). stands_in x.1 b) bs ≡ false → (is_of p b ≡ true) × (same_pid b.1 c ≡ true)
        → left_from d (b ∷ bs) c < left_from d (b ∷ bs) p
    first other none is =
        let of_p : left_from d (b ∷ bs) p ≡ d =
        ap (λ t. cond t (length bs) (left_from d bs p)) (not_own p b is.0 other)
        ∙ left_absent d bs p (weaker_none (λ (x : Pid × Pid). stands_in x.1 b) (λ (x : Pid × Pid). same_pid x.1 p) bs (λ x same. as_parent x.1 p b is.0 same) none) in
        let of_c : left_from d (b ∷ bs) c ≡ length bs = ap (λ t. cond t (length bs) (left_from d bs c)) is.1 in
        omega (arith, of_p, of_c)

    later : list_any (λ (x : Pid × Pid). stands_in x.1 b) bs ≡ false → list_any (bears p c) bs ≡ true → left_from d bs c < left_from d bs p
        → left_from d (b ∷ bs) c < left_from d (b ∷ bs) p
    later none is rest = by_c (same_pid b.1 c) refl
      where
        is_child : list_any (λ (x : Pid × Pid). same_pid x.1 c) bs ≡ true
        is_child = weaker (λ (x : Pid × Pid). same_pid x.1 c) (bears p c) bs (λ x h. (both (is_of p x) (same_pid x.1 c) h).1) is

        by_p : (t : Bool) → left_from d bs c < cond t (length bs) (left_from d bs p)
        by_p true = left_child d bs c is_child
        by_p false = rest

        by_c : (t : Bool) → same_pid b.1 c ≡ t → cond t (length bs) (left_from d bs c) < left_from d (b ∷ bs) p
        by_c true same =
            let absent : list_any (λ (x : Pid × Pid). same_pid x.1 c) bs ≡ false = weaker_none (λ (x : Pid × Pid). stands_in x.1 b) (λ (x : Pid × Pid). same_pid x.1 c) bs (λ x h. as_child x.1 c b same h) none in
            let wrong : true ≡ false = sym is_child ∙ absent in
            cc
        by_c false other = by_p (same_pid b.1 p)

    at_head : same_pid b.1 b.0 ≡ false → list_any (λ (x : Pid × Pid). stands_in x.1 b) bs ≡ false → (t : Bool) → bears p c b ≡ t → (t || list_any (bears p c) bs) ≡ true
        → (list_any (bears p c) bs ≡ true → left_from d bs c < left_from d bs p) → left_from d (b ∷ bs) c < left_from d (b ∷ bs) p
    at_head other none true here is more = first other none (both (is_of p b) (same_pid b.1 c) here)
    at_head other none false here is more = later none is (more is)

-- One list of births that may stand so.
module _ (births : List (Pid × Pid)) (ok : are_births births ≡ true) where
  pub down : (p c : Pid) → lowest (children_of births p) ≡ Some c → left births c < left births p
  down p c is = below (length births) births p c ok (lowest-born births p c is) (omega arith)

  -- ---- without children there is none

  pub within-none : (n : ℕ) (p : Pid) → lowest (children_of births p) ≡ None → first_within n births p ≡ None
  within-none zero p none = refl
  within-none (suc n) p none = ap (option_map (λ child. unwrap_or (first_within n births child) child)) none

  next-none : (next : Pid → Option Pid) (p : Pid) → lowest (children_of births p) ≡ None → next_by births next p ≡ None
  next-none next p none = ap (option_map (λ child. unwrap_or (next child) child)) none

  next-some : (next : Pid → Option Pid) (p c : Pid) → lowest (children_of births p) ≡ Some c → next_by births next p ≡ Some (unwrap_or (next c) c)
  next-some next p c is = ap (option_map (λ child. unwrap_or (next child) child)) is

  -- ---- enough steps find the same

  within-same : (n k : ℕ) (p : Pid) → left births p ≤ n → left births p ≤ k → first_within n births p ≡ first_within k births p
  within-same zero k p h g = at (lowest (children_of births p)) refl
    where
      at : (o : Option Pid) → lowest (children_of births p) ≡ o → first_within zero births p ≡ first_within k births p
      at None is = sym (within-none k p is)
      at (Some c) is = let less = down p c is in absurd (omega arith)
  within-same (suc n) zero p h g = at (lowest (children_of births p)) refl
    where
      at : (o : Option Pid) → lowest (children_of births p) ≡ o → first_within (suc n) births p ≡ first_within zero births p
      at None is = within-none (suc n) p is
      at (Some c) is = let less = down p c is in absurd (omega arith)
  within-same (suc n) (suc k) p h g = at (lowest (children_of births p)) refl (λ c a b. within-same n k c a b)
    where
      at : (o : Option Pid) → lowest (children_of births p) ≡ o → ((c : Pid) → left births c ≤ n → left births c ≤ k → first_within n births c ≡ first_within k births c)
          → first_within (suc n) births p ≡ first_within (suc k) births p
      at None is more = within-none (suc n) p is ∙ sym (within-none (suc k) p is)
      at (Some c) is more =
          let less = down p c is in
          next-some (first_within n births) p c is ∙ ap (λ r. Some (unwrap_or r c)) (more c (omega arith) (omega arith)) ∙ sym (next-some (first_within k births) p c is)

  -- what is found follows the rule
  pub first-by_rule : IsByRule births (first_unsynced births)
  first-by_rule p = let most = left-most births p in within-same (length births) (suc (length births)) p most (omega arith)

  -- and so does nothing else
  only_within : (next : Pid → Option Pid) → IsByRule births next → (n : ℕ) (p : Pid) → left births p ≤ n → next p ≡ first_within n births p
  only_within next rule zero p h = at (lowest (children_of births p)) refl
    where
      at : (o : Option Pid) → lowest (children_of births p) ≡ o → next p ≡ first_within zero births p
      at None is = rule p ∙ next-none next p is
      at (Some c) is = let less = down p c is in absurd (omega arith)
  only_within next rule (suc n) p h = at (lowest (children_of births p)) refl (λ c a. only_within next rule n c a)
    where
      at : (o : Option Pid) → lowest (children_of births p) ≡ o → ((c : Pid) → left births c ≤ n → next c ≡ first_within n births c) → next p ≡ first_within (suc n) births p
      at None is more = rule p ∙ next-none next p is ∙ sym (within-none (suc n) p is)
      at (Some c) is more =
          let less = down p c is in
          rule p ∙ next-some next p c is ∙ ap (λ r. Some (unwrap_or r c)) (more c (omega arith)) ∙ sym (next-some (first_within n births) p c is)

  pub only_by_rule : (next : Pid → Option Pid) → IsByRule births next → (p : Pid) → next p ≡ first_unsynced births p
  only_by_rule next rule p = only_within next rule (length births) p (left-most births p)

  -- ---- one step down

  pub first-none : (p : Pid) → lowest (children_of births p) ≡ None → first_unsynced births p ≡ None
  first-none p is = within-none (length births) p is

  pub first-some : (p c : Pid) → lowest (children_of births p) ≡ Some c → first_unsynced births p ≡ Some (unwrap_or (first_unsynced births c) c)
  first-some p c is = first-by_rule p ∙ next-some (first_unsynced births) p c is

  -- there is none only where there are no children
  pub none-first : (p : Pid) → first_unsynced births p ≡ None → children_of births p ≡ []
  none-first p none = at (lowest (children_of births p)) refl
    where
      at : (o : Option Pid) → lowest (children_of births p) ≡ o → children_of births p ≡ []
      at None is = none-lowest (children_of births p) is
      at (Some c) is = let some = first-some p c is in cc

  -- ---- the first one has no children itself

  childless : (n : ℕ) (p f : Pid) → left births p ≤ n → first_unsynced births p ≡ Some f → children_of births f ≡ []
  childless zero p f h found = at (lowest (children_of births p)) refl
    where
      at : (o : Option Pid) → lowest (children_of births p) ≡ o → children_of births f ≡ []
      at None is = let none = first-none p is in cc
      at (Some c) is = let less = down p c is in absurd (omega arith)
  childless (suc n) p f h found = at (lowest (children_of births p)) refl (λ c a found. childless n c f a found)
    where
      of_child : (c : Pid) (o : Option Pid) → first_unsynced births c ≡ o → unwrap_or o c ≡ f → (first_unsynced births c ≡ Some f → children_of births f ≡ []) → children_of births f ≡ []
      of_child c None is same more = ap (children_of births) (sym same) ∙ none-first c is
      of_child c (Some r) is same more = more (is ∙ ap Some same)

      at : (o : Option Pid) → lowest (children_of births p) ≡ o → ((c : Pid) → left births c ≤ n → first_unsynced births c ≡ Some f → children_of births f ≡ []) → children_of births f ≡ []
      at None is more = let none = first-none p is in cc
      at (Some c) is more =
          let less = down p c is in
          let some : Some (unwrap_or (first_unsynced births c) c) ≡ Some f = sym (first-some p c is) ∙ found in
          let same : unwrap_or (first_unsynced births c) c ≡ f = cc in
          of_child c (first_unsynced births c) refl same (more c (omega arith))

  pub first-childless : (p f : Pid) → first_unsynced births p ≡ Some f → children_of births f ≡ []
  first-childless p f found = childless (length births) p f (left-most births p) found
