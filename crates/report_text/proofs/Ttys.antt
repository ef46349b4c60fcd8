-- One more terminal of a report.
use Rattle.std.proofs.Common.{◌≡◌, ℕ, zero, suc, ◌+◌, List, [], ◌∷◌, ◌++◌, refl, sym, ap, ◌∙◌, append_assoc, append-nil, add-one, arith}
use Rattle.std.specs.List.{flat_map, range_with_len}
use Rattle.std.proofs.lemmas.List.Concat.{flat_map-append}

range_more : (a n : ℕ) → range_with_len a (suc n) ≡ range_with_len a n ++ (a + n) ∷ []
range_more a zero = let e : a + 0 ≡ a = omega arith in rw e refl
range_more a (suc n) = let e : (a + 1) + n ≡ a + suc n = omega arith in ap (λ r. a ∷ r) (range_more (a + 1) n) ∙ rw e refl

-- parts for 0, 1, 2 and so on, and one more
pub parts_more : (part : ℕ → List ℕ) (n : ℕ) (text old init : List ℕ) → text ≡ old ++ part n → old ≡ init ++ flat_map part (range_with_len 0 n) → text ≡ init ++ flat_map part (range_with_len 0 (n + 1))
parts_more part n text old init e f =
    let more : flat_map part (range_with_len 0 (n + 1)) ≡ flat_map part (range_with_len 0 n) ++ part n =
    rw add-one (ap (flat_map part) (range_more 0 n) ∙ flat_map-append _ (range_with_len 0 n) _ ∙ (let z : 0 + n ≡ n = omega arith in rw (z, append-nil) refl)) in
    e ∙ ap (λ x. x ++ part n) f ∙ append_assoc init _ _ ∙ ap (λ x. init ++ x) (sym more)
