-- How many ends pass a test, counted one after the other.
use Rattle.std.proofs.Common.{◌≡◌, ℕ, ◌+◌, ◌∙◌, ap, arith, List, ◌∷◌, length, map, Bool, true, false, cond, Option}
use Rattle.std.specs.Prelude.{count_by}
use Rattle.std.proofs.lemmas.List.Sums.{sum_by-cons}
use Rattle.t32_base.specs.declared.process.End.{End}

abbrev pub passing : (Option End → Bool) → List (ℕ × Option End) → ℕ
passing test es = count_by test (map (λ (e : ℕ × Option End). e.1) es)

-- the first of them is one more, or none
first_counts : (test : Option End → Bool) (e : ℕ × Option End) (es : List (ℕ × Option End)) (b : Bool) → test e.1 ≡ b → passing test (e ∷ es) ≡ cond b 1 0 + passing test es
first_counts test e es b is = sum_by-cons (λ (end : Option End). cond (test end) 1 0) e.1 (map (λ (e : ℕ × Option End). e.1) es) ∙ ap (λ c. cond c 1 0 + passing test es) is

pub passes : (test : Option End → Bool) (e : ℕ × Option End) (rest es : List (ℕ × Option End)) (n total : ℕ) → rest ≡ e ∷ es → test e.1 ≡ true → n + passing test rest ≡ total → n + 1 + passing test es ≡ total
passes test e rest es n total is passed counted =
    let here = first_counts test e es true passed in
    omega (arith, counted, ap (passing test) is, here)

pub fails : (test : Option End → Bool) (e : ℕ × Option End) (rest es : List (ℕ × Option End)) (n total : ℕ) → rest ≡ e ∷ es → test e.1 ≡ false → n + passing test rest ≡ total → n + passing test es ≡ total
fails test e rest es n total is failed counted =
    let here = first_counts test e es false failed in
    omega (arith, counted, ap (passing test) is, here)

pub one_less : (e : ℕ × Option End) (rest es : List (ℕ × Option End)) → rest ≡ e ∷ es → length rest ≡ length es + 1
one_less e rest es is = omega (arith, ap length is)
