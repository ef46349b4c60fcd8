-- Which pairs stay of a list of births: two tests that agree, two tests in turn, a question to those that stay, and one pair that passes.
use Rattle.std.proofs.Common.{◌≡◌, refl, sym, ◌∙◌, ap, inl, inr, List, [], ◌∷◌, Bool, true, false, cond, ◌&&◌, ◌||◌, true≢false}
use Rattle.std.specs.Prelude.{filter}
use Rattle.std.specs.List.{list_any}
use Rattle.cert_sched.proofs.FamilyLaws.{Pair, Member}

pub and_true : (x : Bool) → (x && true) ≡ x
and_true true = refl
and_true false = refl

pub and_false : (x : Bool) → (x && false) ≡ false
and_false true = refl
and_false false = refl

-- two tests that agree on each member keep the same pairs
pub filter_alike : (s t : Pair → Bool) (bs : List Pair) → ((b : Pair) → Member b bs → s b ≡ t b) → filter s bs ≡ filter t bs
filter_alike s t [] same = refl
filter_alike s t (b ∷ bs) same =
    let more = filter_alike s t bs (λ c m. same c (inr m)) in
    λ i. cond (same b (inl refl) i) (b ∷ more i) (more i)

-- a test that asks both keeps what the one keeps of what the other kept
pub filter_both : (s t u : Pair → Bool) → ((b : Pair) → s b ≡ (t b && u b)) → (bs : List Pair) → filter s bs ≡ filter u (filter t bs)
filter_both s t u both [] = refl
filter_both s t u both (b ∷ bs) = ap (λ x. cond x (b ∷ filter s bs) (filter s bs)) (both b) ∙ by_test (t b) (filter_both s t u both bs)
  where
    by_test : (x : Bool) → filter s bs ≡ filter u (filter t bs) → cond (x && u b) (b ∷ filter s bs) (filter s bs) ≡ filter u (cond x (b ∷ filter t bs) (filter t bs))
    by_test true more = λ i. cond (u b) (b ∷ more i) (more i)
    by_test false more = more

-- one that stays passes a test where a pair passes both
pub any_kept : (s t : Pair → Bool) (bs : List Pair) → list_any (λ (b : Pair). s b && t b) bs ≡ list_any s (filter t bs)
any_kept s t [] = refl
any_kept s t (b ∷ bs) = by_test (t b) (any_kept s t bs)
  where
    by_test : (x : Bool) → list_any (λ (b : Pair). s b && t b) bs ≡ list_any s (filter t bs) → ((s b && x) || list_any (λ (b : Pair). s b && t b) bs) ≡ list_any s (cond x (b ∷ filter t bs) (filter t bs))
    by_test true more = λ i. and_true (s b) i || more i
    by_test false more = λ i. and_false (s b) i || more i

-- a test that no member passes, none of those that stay passes
pub none_kept : (s t : Pair → Bool) (bs : List Pair) → ((b : Pair) → Member b bs → s b ≡ false) → list_any s (filter t bs) ≡ false
none_kept s t [] none = refl
none_kept s t (b ∷ bs) none = by_test (t b) (none_kept s t bs (λ c m. none c (inr m)))
  where
    by_test : (x : Bool) → list_any s (filter t bs) ≡ false → list_any s (cond x (b ∷ filter t bs) (filter t bs)) ≡ false
    by_test true more = λ i. none b (inl refl) i || more i
    by_test false more = more

-- ---- one pair

-- a pair that passes
pub record Passes (t : Pair → Bool) (bs : List Pair) : Type 0 where
  pub pair : Pair
  pub member : Member pair bs
  pub passes : t pair ≡ true

-- where any passes there is one that does
pub one_passes : (t : Pair → Bool) (bs : List Pair) → list_any t bs ≡ true → Passes t bs
one_passes t [] any = absurd (true≢false (sym any))
one_passes t (b ∷ bs) any = by_test (t b) refl any (one_passes t bs)
  where
    by_test : (x : Bool) → t b ≡ x → (x || list_any t bs) ≡ true → (list_any t bs ≡ true → Passes t bs) → Passes t (b ∷ bs)
    by_test true is any more = record { pair = b; member = inl refl; passes = is }
    by_test false is any more = let one = more any in record { pair = one.pair; member = inr one.member; passes = one.passes }

-- and the other way round
pub passes_any : (t : Pair → Bool) (bs : List Pair) (b : Pair) → Member b bs → t b ≡ true → list_any t bs ≡ true
passes_any t [] b m passes = absurd m
passes_any t (c ∷ bs) b (inl same) passes = λ i. (ap t (sym same) ∙ passes) i || list_any t bs
passes_any t (c ∷ bs) b (inr later) passes = by_test (t c) (passes_any t bs b later passes)
  where
    by_test : (x : Bool) → list_any t bs ≡ true → (x || list_any t bs) ≡ true
    by_test true more = refl
    by_test false more = more

-- a pair that stays was there, and passes
pub kept_passes : (t : Pair → Bool) (bs : List Pair) (b : Pair) → Member b (filter t bs) → Member b bs × (t b ≡ true)
kept_passes t [] b m = absurd m
kept_passes t (c ∷ bs) b m = by_test (t c) refl m (kept_passes t bs b)
  where
    by_test : (x : Bool) → t c ≡ x → Member b (cond x (c ∷ filter t bs) (filter t bs)) → (Member b (filter t bs) → Member b bs × (t b ≡ true)) → Member b (c ∷ bs) × (t b ≡ true)
    by_test true is (inl same) more = (inl same, ap t same ∙ is)
    by_test true is (inr later) more = let rest = more later in (inr rest.0, rest.1)
    by_test false is later more = let rest = more later in (inr rest.0, rest.1)
