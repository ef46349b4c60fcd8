-- What does not look at a change of each element says the same of the changed list.
use Rattle.std.proofs.Common.{◌≡◌, refl, ◌∙◌, ap, ℕ, ◌+◌, Bool, true, false, cond, ◌||◌, List, [], ◌∷◌, ◌++◌, map, Option, Some, None}
use Rattle.std.specs.Prelude.{fold, option_map}
use Rattle.std.specs.List.{list_any, flat_map, sum_by}
use Rattle.t32_base.specs.declared.process.Pid.{Pid}
use Rattle.t32_base.specs.Small.{SmallState}
use Rattle.bus_msg.specs.declared.entry.What.{What}
use Rattle.bus_msg.specs.declared.entry.What.TheVariants.{Sync}
use Rattle.cert_sched.specs.Parts.{after_last, upto_last, last_of, last_that, rising}
use Rattle.line_laws.specs.Meant.{reads_rising}

-- ---- of what an entry says

pub blind : {A : Type 0} (g : What → A) → ((p : Pid) (small : SmallState) (read : List ℕ) (took : Option ℕ) → g (Sync p small (rising read) took) ≡ g (Sync p small read took))
    → (w : What) → g (reads_rising w) ≡ g w
blind g same (Sync p small read took) = same p small read took
blind g same _ = refl

-- ---- of lists

module _ {X : Type 0} (f : X → X) where
  pub fold-same : {B : Type 0} (g : B → X → B) → ((b : B) (x : X) → g b (f x) ≡ g b x) → (b : B) (xs : List X) → fold g b (map f xs) ≡ fold g b xs
  fold-same g same b [] = refl
  fold-same g same b (x ∷ xs) = fold-same g same (g b (f x)) xs ∙ ap (λ b. fold g b xs) (same b x)

  pub flat_map-same : {B : Type 0} (g : X → List B) → ((x : X) → g (f x) ≡ g x) → (xs : List X) → flat_map g (map f xs) ≡ flat_map g xs
  flat_map-same g same [] = refl
  flat_map-same g same (x ∷ xs) = λ i. same x i ++ flat_map-same g same xs i

  pub sum_by-same : (g : X → ℕ) → ((x : X) → g (f x) ≡ g x) → (xs : List X) → sum_by g (map f xs) ≡ sum_by g xs
  sum_by-same g same xs = fold-same (λ sum x. sum + g x) (λ sum x. ap (λ n. sum + n) (same x)) 0 xs

  pub map-same : {B : Type 0} (g : X → B) → ((x : X) → g (f x) ≡ g x) → (xs : List X) → map g (map f xs) ≡ map g xs
  map-same g same [] = refl
  map-same g same (x ∷ xs) = λ i. same x i ∷ map-same g same xs i

  pub list_any-same : (t : X → Bool) → ((x : X) → t (f x) ≡ t x) → (xs : List X) → list_any t (map f xs) ≡ list_any t xs
  list_any-same t same [] = refl
  list_any-same t same (x ∷ xs) = λ i. same x i || list_any-same t same xs i

  pub last_of-same : (xs : List X) → last_of (map f xs) ≡ option_map f (last_of xs)
  last_of-same [] = refl
  last_of-same (x ∷ []) = refl
  last_of-same (x ∷ y ∷ xs) = last_of-same (y ∷ xs)

  module _ (t : X → Bool) (same : (x : X) → t (f x) ≡ t x) where
    pub after_last-same : (xs : List X) → after_last t (map f xs) ≡ map f (after_last t xs)
    after_last-same [] = refl
    after_last-same (x ∷ xs) =
        (λ i. cond (list_any-same t same xs i) (after_last-same xs i) (cond (same x i) (map f xs) (f x ∷ map f xs))) ∙ by_cases (list_any t xs) (t x)
      where
        by_cases : (any here : Bool) → cond any (map f (after_last t xs)) (cond here (map f xs) (f x ∷ map f xs)) ≡ map f (cond any (after_last t xs) (cond here xs (x ∷ xs)))
        by_cases true here = refl
        by_cases false true = refl
        by_cases false false = refl

    pub upto_last-same : (xs : List X) → upto_last t (map f xs) ≡ map f (upto_last t xs)
    upto_last-same [] = refl
    upto_last-same (x ∷ xs) =
        (λ i. cond (list_any-same t same xs i) (f x ∷ upto_last-same xs i) (cond (same x i) (f x ∷ []) [])) ∙ by_cases (list_any t xs) (t x)
      where
        by_cases : (any here : Bool) → cond any (f x ∷ map f (upto_last t xs)) (cond here (f x ∷ []) []) ≡ map f (cond any (x ∷ upto_last t xs) (cond here (x ∷ []) []))
        by_cases true here = refl
        by_cases false true = refl
        by_cases false false = refl

    pub last_that-same : (xs : List X) → last_that t (map f xs) ≡ option_map f (last_that t xs)
    last_that-same [] = refl
    last_that-same (x ∷ xs) =
        (λ i. cond (list_any-same t same xs i) (last_that-same xs i) (cond (same x i) (Some (f x)) None)) ∙ by_cases (list_any t xs) (t x)
      where
        by_cases : (any here : Bool) → cond any (option_map f (last_that t xs)) (cond here (Some (f x)) None) ≡ option_map f (cond any (last_that t xs) (cond here (Some x) None))
        by_cases true here = refl
        by_cases false true = refl
        by_cases false false = refl
