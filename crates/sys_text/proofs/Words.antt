-- Words that fit 32 bits pass the test of a word.
use Rattle.std.proofs.Common.{◌≡◌, ◌*◌, ◌^◌, ◌&&◌, nat_le, length, get_or, ℕ, suc, ◌<◌, Bool, true, false, List, [], ◌∷◌, refl, arith}
use Rattle.std.specs.List.{list_all}
use Rattle.std.proofs.lemmas.Bool.{and_from}
use Rattle.std.proofs.lemmas.Bool.Decides.{nat_tests}
use Rattle.sys_text.specs.Valid.{is_word}

word_fits : (w : ℕ) → w < 2 ^ 32 → is_word w ≡ true
word_fits w p = grind (arith, nat_tests)

pub are_words : (words : List ℕ) → ((i : ℕ) → get_or words i 0 < 2 ^ 32) → list_all is_word words ≡ true
are_words [] h = refl
are_words (w ∷ ws) h = and_from _ _ (word_fits w (h 0)) (are_words ws (λ i. h (suc i)))

same_fit : (size pages : ℕ) (b : Bool) → b ≡ true → nat_le size (64 * pages) ≡ (nat_le (4 * size) (256 * pages) && b)
same_fit size pages true e = grind (arith, nat_tests)
same_fit size pages false e = cc

pub words_fit : (words : List ℕ) (pages same : ℕ) → same ≡ pages → ((i : ℕ) → get_or words i 0 < 2 ^ 32) → nat_le (length words) (64 * same) ≡ (nat_le (4 * length words) (256 * pages) && list_all is_word words)
words_fit words pages same e h = rw e (same_fit (length words) pages (list_all is_word words) (are_words words h))
