-- The law on prefixes: with the counts of a prefix of a list, withholding along the list withholds exactly that prefix.
use Rattle.std.proofs.Common.{◌≡◌, ℕ, ◌+◌, ◌<◌, true, false, List, [], ◌∷◌, ◌++◌, length, replicate, refl, sym, ◌∙◌, ap, subst, arith, ltb, All}
use Rattle.std.proofs.lemmas.List.Elements.{All-head, All-tail}
use Rattle.std.proofs.lemmas.Bool.Decides.{nat_tests}
use Rattle.t32_base.specs.declared.letter.Letter.{Letter}
use Rattle.write_count.specs.Counting.{counts_of, no_counts, count_for, lowered, withheld, left_after}
use Rattle.write_count.proofs.CountLaws.{counts_of-cons, lowered-raised, count_for-raised, length-counts_of, count_for-no_counts, lowered-no_counts}

-- The counts of a list, lowered by its first letter, are those of the rest.
pub lowered-counts_of : (letter : Letter) (rest : List Letter) → letter.out < 32 → lowered (counts_of (letter ∷ rest)) letter ≡ counts_of rest
lowered-counts_of letter rest h =
    ap (λ counts. lowered counts letter) (counts_of-cons letter rest h)
    ∙ lowered-raised (counts_of rest) letter (subst (λ n. letter.out < n) (sym (length-counts_of rest)) h)

above_zero : (n m : ℕ) → n ≡ m + 1 → ltb 0 n ≡ true
above_zero n m e = grind (arith, nat_tests)

not_above_zero : (n : ℕ) → n ≡ 0 → ltb 0 n ≡ false
not_above_zero n e = grind (arith, nat_tests)

-- The first letter of a list has a count in those of the list.
first_is_withheld : (letter : Letter) (rest : List Letter) → letter.out < 32 → ltb 0 (count_for (counts_of (letter ∷ rest)) letter) ≡ true
first_is_withheld letter rest h =
    above_zero _ (count_for (counts_of rest) letter)
    (ap (λ counts. count_for counts letter) (counts_of-cons letter rest h)
    ∙ count_for-raised (counts_of rest) letter (subst (λ n. letter.out < n) (sym (length-counts_of rest)) h))

-- Where no letter is counted, none is withheld.
pub withheld-no_counts : (letters : List Letter) → withheld no_counts letters ≡ replicate (length letters) false
withheld-no_counts [] = refl
withheld-no_counts (letter ∷ rest) =
    let first : ltb 0 (count_for no_counts letter) ≡ false = not_above_zero _ (count_for-no_counts letter) in
    let others : withheld (lowered no_counts letter) rest ≡ replicate (length rest) false =
    ap (λ counts. withheld counts rest) (lowered-no_counts letter) ∙ withheld-no_counts rest in
    λ i. first i ∷ others i

-- With the counts of a prefix, withholding along the list answers true on each letter of the prefix and false on each after it.
pub withheld-prefix : (before after : List Letter) → All (λ (letter : Letter). letter.out < 32) before
    → withheld (counts_of before) (before ++ after) ≡ replicate (length before) true ++ replicate (length after) false
withheld-prefix [] after h = withheld-no_counts after
withheld-prefix (letter ∷ rest) after h =
    let here : letter.out < 32 = All-head (λ (l : Letter). l.out < 32) letter rest h in
    let first : ltb 0 (count_for (counts_of (letter ∷ rest)) letter) ≡ true = first_is_withheld letter rest here in
    let others : withheld (lowered (counts_of (letter ∷ rest)) letter) (rest ++ after) ≡ replicate (length rest) true ++ replicate (length after) false =
    ap (λ counts. withheld counts (rest ++ after)) (lowered-counts_of letter rest here) ∙ withheld-prefix rest after (All-tail (λ (l : Letter). l.out < 32) letter rest h) in
    λ i. first i ∷ others i

-- With the counts of a list, withholding along a prefix of it leaves the counts of the rest; so after the whole list no letter is counted.
pub left_after-prefix : (before after : List Letter) → All (λ (letter : Letter). letter.out < 32) before
    → left_after (counts_of (before ++ after)) before ≡ counts_of after
left_after-prefix [] after h = refl
left_after-prefix (letter ∷ rest) after h =
    ap (λ counts. left_after counts rest) (lowered-counts_of letter (rest ++ after) (All-head (λ (l : Letter). l.out < 32) letter rest h))
    ∙ left_after-prefix rest after (All-tail (λ (l : Letter). l.out < 32) letter rest h)
