-- The words of a memory, without the zeros at their end.
use Rattle.std.proofs.Common.{◌≡◌, ℕ, zero, suc, ◌+◌, ◌-◌, ◌*◌, ◌<◌, ◌≤◌, Bool, true, false, eqb, List, [], ◌∷◌, length, drop, get_or, refl, sym, ap, ◌∙◌, arith}
use Rattle.std.specs.Prelude.{slice_index, take}
use Rattle.std.proofs.lemmas.Bool.{eqb-true}
use Rattle.std.proofs.lemmas.List.FromFn.{length-map-range_with_len}
use Rattle.byteorder.specs.Endian.{little_number}
use Rattle.rv_elf.specs.File.{headers}
use Rattle.rv_elf.specs.Loaded.{byte_at, loaded}
use Rattle.sys_text.specs.Files.{file_of, words_loaded, words_of_bytes, before_trimmed, trimmed}

-- ---- how many

length-words_of_bytes : (bytes : List ℕ) → 4 * length (words_of_bytes bytes) ≤ length bytes
length-words_of_bytes [] = omega arith
length-words_of_bytes (a ∷ []) = omega arith
length-words_of_bytes (a ∷ b ∷ []) = omega arith
length-words_of_bytes (a ∷ b ∷ c ∷ []) = omega arith
length-words_of_bytes (a ∷ b ∷ c ∷ d ∷ rest) = omega (arith, length-words_of_bytes rest)

length-before_trimmed : (word : ℕ) (words : List ℕ) → length (before_trimmed word words) ≤ suc (length words)
length-before_trimmed word [] = by_zero (eqb word 0) refl
  where
    by_zero : (b : Bool) → eqb word 0 ≡ b → length (before_trimmed word []) ≤ 1
    by_zero true e = rw e (omega arith)
    by_zero false e = rw e (omega arith)
length-before_trimmed word (next ∷ words) = omega arith

pub length-trimmed : (words : List ℕ) → length (trimmed words) ≤ length words
length-trimmed [] = omega arith
length-trimmed (word ∷ words) = omega (arith, length-before_trimmed word (trimmed words), length-trimmed words)

pub length-loaded : (file : List ℕ) (pages : ℕ) → length (loaded file pages) ≡ 256 * pages
length-loaded file pages = length-map-range_with_len (λ k. byte_at file (headers file) (0x10000 + k)) 0 (256 * pages)

loaded_fits : (file : List ℕ) (pages : ℕ) → 4 * length (trimmed (words_of_bytes (loaded file pages))) ≤ 256 * pages
loaded_fits file pages = omega (arith, length-trimmed (words_of_bytes (loaded file pages)), length-words_of_bytes (loaded file pages), length-loaded file pages)

pub words_fit : (size : ℕ) (words : List ℕ) (pages : ℕ) → 4 * length (words_loaded size words pages) ≤ 256 * pages
unfolding words_loaded
words_fit size words pages = loaded_fits (file_of size words) pages

-- ---- each word by its place

next_four : (a b c d : ℕ) (rest : List ℕ) (k : ℕ) → drop (4 * suc k) (a ∷ b ∷ c ∷ d ∷ rest) ≡ drop (4 * k) rest
next_four a b c d rest k = let more : 4 * suc k ≡ suc (suc (suc (suc (4 * k)))) = omega arith in ap (λ n. drop n (a ∷ b ∷ c ∷ d ∷ rest)) more

pub words_by_place : (words bytes : List ℕ) → length bytes ≡ 4 * length words → ((k : ℕ) → k < length words → slice_index words k ≡ little_number 4 (drop (4 * k) bytes)) → words ≡ words_of_bytes bytes
words_by_place [] [] size each = refl
words_by_place [] (a ∷ bytes) size each = absurd (omega (arith, size))
words_by_place (word ∷ words) [] size each = absurd (omega (arith, size))
words_by_place (word ∷ words) (a ∷ []) size each = absurd (omega (arith, size))
words_by_place (word ∷ words) (a ∷ b ∷ []) size each = absurd (omega (arith, size))
words_by_place (word ∷ words) (a ∷ b ∷ c ∷ []) size each = absurd (omega (arith, size))
words_by_place (word ∷ words) (a ∷ b ∷ c ∷ d ∷ rest) size each =
    let first : word ≡ little_number 4 (a ∷ b ∷ c ∷ d ∷ []) = each 0 (omega arith) in
    let more = words_by_place words rest (omega (arith, size)) (λ k lt. each (suc k) (omega (arith, lt)) ∙ ap (little_number 4) (next_four a b c d rest k)) in
    ap (λ w. w ∷ words) first ∙ ap (λ ws. little_number 4 (a ∷ b ∷ c ∷ d ∷ []) ∷ ws) more

-- ---- the last word

-- a zero at the end is dropped
pub drops_zero : (words : List ℕ) (i : ℕ) → suc i ≡ length words → get_or words i 0 ≡ 0 → trimmed words ≡ trimmed (take i words)
drops_zero [] i size e = absurd (omega (arith, size))
drops_zero (word ∷ []) zero size e = rw e refl
drops_zero (word ∷ []) (suc i) size e = absurd (omega (arith, size))
drops_zero (word ∷ next ∷ words) zero size e = absurd (omega (arith, size))
drops_zero (word ∷ next ∷ words) (suc i) size e = ap (before_trimmed word) (drops_zero (next ∷ words) i (omega (arith, size)) e)

-- where a word that is no zero stands at the end, no word is dropped
pub keeps_some : (words : List ℕ) (i : ℕ) → suc i ≡ length words → eqb (get_or words i 0) 0 ≡ false → trimmed words ≡ words
keeps_some [] i size some = absurd (omega (arith, size))
keeps_some (word ∷ []) zero size some = rw some refl
keeps_some (word ∷ []) (suc i) size some = absurd (omega (arith, size))
keeps_some (word ∷ next ∷ words) zero size some = absurd (omega (arith, size))
keeps_some (word ∷ next ∷ words) (suc i) size some = ap (before_trimmed word) (keeps_some (next ∷ words) i (omega (arith, size)) some)

-- the same of the last place
pub last_dropped : (words : List ℕ) (count : ℕ) → count ≡ length words → 0 < count → eqb (get_or words (count - 1) 0) 0 ≡ true → trimmed (take (length words - 1) words) ≡ trimmed words
last_dropped words count size some is_zero =
    let place : suc (count - 1) ≡ length words = omega (arith, size, some) in
    let same : length words - 1 ≡ count - 1 = omega (arith, size) in
    ap (λ (n : ℕ). trimmed (take n words)) same ∙ sym (drops_zero words (count - 1) place (eqb-true (get_or words (count - 1) 0) 0 is_zero))

pub last_kept : (words : List ℕ) (count : ℕ) → count ≡ length words → 0 < count → eqb (get_or words (count - 1) 0) 0 ≡ false → trimmed words ≡ words
last_kept words count size some kept = keeps_some words (count - 1) (omega (arith, size, some)) kept
