-- The births that may stand in a list still may after one more and after those of a child that is gone.
use Rattle.std.proofs.Common.{◌≡◌, Bool, true, false, not, ◌&&◌, ◌||◌, cond, List, [], ◌∷◌, ◌++◌, filter, refl, ◌∙◌}
use Rattle.std.specs.List.{list_any}
use Rattle.std.proofs.lemmas.List.Folds.{list_any-append}
use Rattle.t32_base.specs.declared.process.Pid.{Pid}
use Rattle.bus_msg.specs.Places.{same_pid}
use Rattle.birth_notice.specs.Family.{stands_in, are_births}

-- ---- tests

pub neither : (a b : Bool) → (a || b) ≡ false → (a ≡ false) × (b ≡ false)
neither true b h = cc
neither false b h = (refl, h)

pub three : (a b c : Bool) → (not a && not b && c) ≡ true → (a ≡ false) × (b ≡ false) × (c ≡ true)
three true b c h = cc
three false true c h = cc
three false false c h = (refl, refl, h)

three_back : (a b c : Bool) → a ≡ false → b ≡ false → c ≡ true → (not a && not b && c) ≡ true
three_back a b c p q r i = not (p i) && not (q i) && r i

-- ---- one birth more

pub births_born : (births : List (Pid × Pid)) (parent child : Pid) → are_births births ≡ true → same_pid child parent ≡ false → list_any (stands_in child) births ≡ false
    → are_births (births ++ (parent, child) ∷ []) ≡ true
births_born [] parent child ok other new = three_back (same_pid child parent) false true other refl refl
births_born (b ∷ bs) parent child ok other new =
    let later : Pid × Pid → Bool = λ x. stands_in x.1 b in
    let last : Pid × Pid = (parent, child) in
    let parts = three (same_pid b.1 b.0) (list_any later bs) (are_births bs) ok in
    let stands = neither (stands_in child b) (list_any (stands_in child) bs) new in
    let none : list_any later (bs ++ last ∷ []) ≡ false = list_any-append later bs (last ∷ []) ∙ (λ i. parts.1 i || (stands.0 i || false)) in
    three_back (same_pid b.1 b.0) (list_any later (bs ++ last ∷ [])) (are_births (bs ++ last ∷ [])) parts.0 none
    (births_born bs parent child parts.2 other stands.1)

-- ---- some births less

none_kept : (test keep : Pid × Pid → Bool) (births : List (Pid × Pid)) → list_any test births ≡ false → list_any test (filter keep births) ≡ false
none_kept test keep [] none = refl
none_kept test keep (b ∷ bs) none =
    let parts = neither (test b) (list_any test bs) none in
    by (keep b) parts.0 (none_kept test keep bs parts.1)
  where
    by : (k : Bool) → test b ≡ false → list_any test (filter keep bs) ≡ false → list_any test (cond k (b ∷ filter keep bs) (filter keep bs)) ≡ false
    by true here rest = λ i. here i || rest i
    by false here rest = rest

pub births_kept : (keep : Pid × Pid → Bool) (births : List (Pid × Pid)) → are_births births ≡ true → are_births (filter keep births) ≡ true
births_kept keep [] ok = refl
births_kept keep (b ∷ bs) ok =
    let later : Pid × Pid → Bool = λ x. stands_in x.1 b in
    let parts = three (same_pid b.1 b.0) (list_any later bs) (are_births bs) ok in
    by (keep b) parts.0 (none_kept later keep bs parts.1) (births_kept keep bs parts.2)
  where
    by : (k : Bool) → same_pid b.1 b.0 ≡ false → list_any (λ (x : Pid × Pid). stands_in x.1 b) (filter keep bs) ≡ false → are_births (filter keep bs) ≡ true
        → are_births (cond k (b ∷ filter keep bs) (filter keep bs)) ≡ true
    by true other none rest = three_back (same_pid b.1 b.0) (list_any (λ (x : Pid × Pid). stands_in x.1 b) (filter keep bs)) (are_births (filter keep bs)) other none rest
    by false other none rest = rest
