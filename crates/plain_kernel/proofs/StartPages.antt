-- The pages of a memory that begins with the bytes of words.
use Rattle.std.proofs.Common.{◌≡◌, ℕ, zero, suc, ◌+◌, ◌-◌, ◌*◌, ◌<◌, ◌≤◌, inl, inr, List, [], ◌∷◌, ◌++◌, length, take, drop, refl, sym, ap, ◌∙◌, arith, append-nil}
use Rattle.std.specs.Prelude.{replicate}
use Rattle.std.proofs.Math.Seq.{drop-append-add, drop-nil, take-append-add, take-nil}
use Rattle.std.proofs.lemmas.Bool.{cases_lt}
use Rattle.std.proofs.lemmas.List.{drop-append-le, drop-replicate, drop_all, length-append, length-drop, length-replicate, length-take-le, take-append-le, take-replicate, take_all}
use Rattle.byteorder.specs.Endian.{little_bytes}
use Rattle.rv_mem.specs.Memory.{page_at}
use Rattle.sys_text.specs.Boot.{bytes_of_words}
use Rattle.plain_kernel.specs.Starts.{page_of_words}

four_each : (words : List ℕ) → length (bytes_of_words words) ≡ 4 * length words
four_each [] = refl
four_each (w ∷ words) = omega (arith, four_each words)

-- the bytes behind some words, and those of some words
bytes_behind : (n : ℕ) (words : List ℕ) → drop (4 * n) (bytes_of_words words) ≡ bytes_of_words (drop n words)
bytes_behind zero words = refl
bytes_behind (suc n) [] = drop-nil (4 * suc n)
bytes_behind (suc n) (w ∷ words) = ap (λ k. drop k (little_bytes 4 w ++ bytes_of_words words)) (next n) ∙ drop-append-add (little_bytes 4 w) (bytes_of_words words) (4 * n) ∙ bytes_behind n words
  where
    next : (n : ℕ) → 4 * suc n ≡ 4 + 4 * n
    next n = omega arith

bytes_upto : (n : ℕ) (words : List ℕ) → take (4 * n) (bytes_of_words words) ≡ bytes_of_words (take n words)
bytes_upto zero words = refl
bytes_upto (suc n) [] = take-nil (4 * suc n)
bytes_upto (suc n) (w ∷ words) = ap (λ k. take k (little_bytes 4 w ++ bytes_of_words words)) (next n) ∙ take-append-add (little_bytes 4 w) (bytes_of_words words) (4 * n) ∙ ap (λ bytes. little_bytes 4 w ++ bytes) (bytes_upto n words)
  where
    next : (n : ℕ) → 4 * suc n ≡ 4 + 4 * n
    next n = omega arith

-- behind all bytes that stand before it a list goes on
drop_behind : (k : ℕ) (xs ys : List ℕ) → length xs ≤ k → drop k (xs ++ ys) ≡ drop (k - length xs) ys
drop_behind k xs ys behind = ap (λ n. drop n (xs ++ ys)) (parts k (length xs) behind) ∙ drop-append-add xs ys (k - length xs)
  where
    parts : (k n : ℕ) → n ≤ k → k ≡ n + (k - n)
    parts k n h = omega arith

take_behind : (k : ℕ) (xs ys : List ℕ) → length xs ≤ k → take k (xs ++ ys) ≡ xs ++ take (k - length xs) ys
take_behind k xs ys behind = ap (λ n. take n (xs ++ ys)) (parts k (length xs) behind) ∙ take-append-add xs ys (k - length xs)
  where
    parts : (k n : ℕ) → n ≤ k → k ≡ n + (k - n)
    parts k n h = omega arith

-- a page of these words, with enough zero bytes behind them
filled_page : (words : List ℕ) (zeros : ℕ) → 256 ≤ 4 * length words + zeros → take 256 (bytes_of_words words ++ replicate zeros 0) ≡ page_of_words (take 64 words)
filled_page words zeros enough = elim (cases_lt (length words) 64) [
  | inl few ↦ (
      take_behind 256 (bytes_of_words words) (replicate zeros 0) (omega (arith, four_each words, few))
      ∙ ap (λ n. bytes_of_words words ++ take (256 - n) (replicate zeros 0)) (four_each words)
      ∙ ap (λ l. bytes_of_words words ++ l) (take-replicate (256 - 4 * length words) zeros 0 (omega (arith, enough)) ∙ sym (drop-replicate (4 * length words) 256 0))
      ∙ ap page_of_words (sym (take_all 64 words (omega (arith, few)))))
  | inr many ↦ (
      take-append-le 256 (bytes_of_words words) (replicate zeros 0) (omega (arith, four_each words, many))
      ∙ bytes_upto 64 words
      ∙ sym (append-nil (bytes_of_words (take 64 words)))
      ∙ ap (λ l. bytes_of_words (take 64 words) ++ l) (sym (drop_all (4 * length (take 64 words)) (replicate 256 0) (omega (arith, length-take-le 64 words many, length-replicate {A = ℕ} 256 0)))))
]

-- page i of a memory of n pages that begins with the bytes of words
pub page_is : (words : List ℕ) (n i : ℕ) → 4 * length words ≤ 256 * n → i < n
    → page_of_words (take 64 (drop (64 * i) words)) ≡ page_at (bytes_of_words words ++ replicate (256 * n - length (bytes_of_words words)) 0) i
page_is words n i fits within = sym (elim (cases_lt (length words) (64 * i)) [ inl past ↦ past_all past | inr upto ↦ among upto ])
  where
    size : length (bytes_of_words words) ≡ 4 * length words
    size = four_each words

    zeros : ℕ
    zeros = 256 * n - length (bytes_of_words words)

    words_left : length (drop (64 * i) words) ≡ length words - 64 * i
    words_left = length-drop (64 * i) words

    four_times : (i : ℕ) → 256 * i ≡ 4 * (64 * i)
    four_times i = omega arith

    -- its words, and zero bytes behind them
    among : 64 * i ≤ length words → page_at (bytes_of_words words ++ replicate zeros 0) i ≡ page_of_words (take 64 (drop (64 * i) words))
    among upto =
        ap (take 256) (drop-append-le (256 * i) (bytes_of_words words) (replicate zeros 0) (omega (arith, size, upto)))
        ∙ ap (λ l. take 256 (l ++ replicate zeros 0)) (ap (λ k. drop k (bytes_of_words words)) (four_times i) ∙ bytes_behind (64 * i) words)
        ∙ filled_page (drop (64 * i) words) zeros (omega (arith, size, words_left, upto, fits, within))

    -- zero bytes alone
    past_all : length words < 64 * i → page_at (bytes_of_words words ++ replicate zeros 0) i ≡ page_of_words (take 64 (drop (64 * i) words))
    past_all past =
        ap (take 256) (drop_behind (256 * i) (bytes_of_words words) (replicate zeros 0) (omega (arith, size, past)) ∙ drop-replicate (256 * i - length (bytes_of_words words)) zeros 0)
        ∙ take-replicate 256 (zeros - (256 * i - length (bytes_of_words words))) 0 (omega (arith, size, past, fits, within))
        ∙ ap (λ l. page_of_words (take 64 l)) (sym (drop_all (64 * i) words (omega (arith, past))))

-- the memory fills its pages
pub memory_fills : (words : List ℕ) (n : ℕ) → 4 * length words ≤ 256 * n → length (bytes_of_words words ++ replicate (256 * n - length (bytes_of_words words)) 0) ≡ 256 * n
memory_fills words n fits =
    let more = 256 * n - length (bytes_of_words words) in
    omega (arith, length-append (bytes_of_words words) (replicate more 0), length-replicate {A = ℕ} more 0, four_each words, fits)

-- the words of a page, as far as there are any
pub words_at : (words : List ℕ) (k first count : ℕ) → first ≤ length words → first ≤ k → (first < k → first ≡ length words) → count ≤ 64 → (count < 64 → count ≡ length words - first)
    → take count (take (length words - first) (drop first words)) ≡ take 64 (drop k words)
words_at words k first count within upto all few rest =
    ap (take count) (take_all (length words - first) (drop first words) (omega (arith, left)))
    ∙ elim (cases_lt count 64) [
      | inl lt ↦ (take_all count (drop first words) (omega (arith, left, rest lt)) ∙ sym (take_all 64 (drop first words) (omega (arith, left, rest lt, few))))
      | inr ge ↦ ap (λ n. take n (drop first words)) (both few ge)
    ]
    ∙ ap (take 64) (elim (cases_lt first k) [
      | inl lt ↦ (drop_all first words (omega (arith, all lt)) ∙ sym (drop_all k words (omega (arith, all lt, upto))))
      | inr ge ↦ ap (λ n. drop n words) (same upto ge)
    ])
  where
    left : length (drop first words) ≡ length words - first
    left = length-drop first words

    both : count ≤ 64 → 64 ≤ count → count ≡ 64
    both h g = omega (arith, h, g)

    same : first ≤ k → k ≤ first → first ≡ k
    same h g = omega (arith, h, g)
