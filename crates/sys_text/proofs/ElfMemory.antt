-- The words of a loaded memory, filled up with zeros, are the memory.
use Rattle.std.proofs.Common.{◌≡◌, ℕ, zero, suc, ◌+◌, ◌-◌, ◌*◌, ◌<◌, ◌≤◌, Bool, true, false, eqb, List, [], ◌∷◌, ◌++◌, length, map, take, get_or, refl, sym, ap, ◌∙◌, arith, append_assoc}
use Rattle.std.specs.Prelude.{replicate}
use Rattle.std.specs.Int.{byte_at}
use Rattle.std.specs.List.{range_with_len}
use Rattle.std.proofs.lemmas.Bool.{eqb-true}
use Rattle.byteorder.specs.Endian.{little_bytes, little_number}
use Rattle.rv_elf.specs.declared.headers.Header.{Header}
use Rattle.rv_elf.specs.File.{headers}
use Rattle.rv_elf.specs.Loaded.{byte_at as loaded_byte, gives, loaded}
use Rattle.sys_text.specs.Boot.{bytes_of_words}
use Rattle.sys_text.specs.Files.{file_of, words_of_bytes, before_trimmed, trimmed, words_loaded}
use Rattle.sys_text.proofs.FileWords.{length-loaded, length-trimmed}

-- ---- bytes

-- numbers below 256
abbrev AreBytes : List ℕ → Type 0
AreBytes [] = Unit {0}
AreBytes (byte ∷ bytes) = (byte < 256) × AreBytes bytes

bytes-append : (xs ys : List ℕ) → AreBytes xs → AreBytes ys → AreBytes (xs ++ ys)
bytes-append [] ys a b = b
bytes-append (x ∷ xs) ys a b = (a.0, bytes-append xs ys a.1 b)

bytes-take : (n : ℕ) (xs : List ℕ) → AreBytes xs → AreBytes (take n xs)
bytes-take zero xs a = tt
bytes-take (suc n) [] a = tt
bytes-take (suc n) (x ∷ xs) a = (a.0, bytes-take n xs a.1)

byte_below : (xs : List ℕ) (i : ℕ) → AreBytes xs → get_or xs i 0 < 256
byte_below [] i a = omega arith
byte_below (x ∷ xs) zero a = a.0
byte_below (x ∷ xs) (suc i) a = byte_below xs i a.1

word_bytes : (w : ℕ) → AreBytes (little_bytes 4 w)
word_bytes w = (omega arith, (omega arith, (omega arith, (omega arith, tt))))

are_bytes : (words : List ℕ) → AreBytes (bytes_of_words words)
are_bytes [] = tt
are_bytes (w ∷ words) = bytes-append (little_bytes 4 w) (bytes_of_words words) (word_bytes w) (are_bytes words)

loaded_below : (file : List ℕ) (hs : List Header) (address : ℕ) → AreBytes file → loaded_byte file hs address < 256
loaded_below file [] address a = omega arith
loaded_below file (h ∷ hs) address a = by_header (loaded_below file hs address a) (gives h address) refl
  where
    by_header : loaded_byte file hs address < 256 → (b : Bool) → gives h address ≡ b → loaded_byte file (h ∷ hs) address < 256
    by_header next true e = rw e (byte_below file (h.offset + address - h.address) a)
    by_header next false e = rw e next

map_bytes : (f : ℕ → ℕ) → ((k : ℕ) → f k < 256) → (ks : List ℕ) → AreBytes (map f ks)
map_bytes f below [] = tt
map_bytes f below (k ∷ ks) = (below k, map_bytes f below ks)

memory_bytes : (file : List ℕ) (pages : ℕ) → AreBytes file → AreBytes (loaded file pages)
memory_bytes file pages a = map_bytes (λ k. loaded_byte file (headers file) (0x10000 + k)) (λ k. loaded_below file (headers file) (0x10000 + k) a) (range_with_len 0 (256 * pages))

-- ---- words

pub four_each : (words : List ℕ) → length (bytes_of_words words) ≡ 4 * length words
four_each [] = refl
four_each (w ∷ words) = omega (arith, four_each words)

four_again : (a b c d : ℕ) → a < 256 → b < 256 → c < 256 → d < 256 → little_bytes 4 (little_number 4 (a ∷ b ∷ c ∷ d ∷ [])) ≡ a ∷ b ∷ c ∷ d ∷ []
four_again a b c d pa pb pc pd =
    let n = little_number 4 (a ∷ b ∷ c ∷ d ∷ []) in
    let e0 : byte_at 0 n ≡ a = omega (arith, pa, pb, pc, pd) in
    let e1 : byte_at 1 n ≡ b = omega (arith, pa, pb, pc, pd) in
    let e2 : byte_at 2 n ≡ c = omega (arith, pa, pb, pc, pd) in
    let e3 : byte_at 3 n ≡ d = omega (arith, pa, pb, pc, pd) in
    ap (λ (x : ℕ). x ∷ byte_at 1 n ∷ byte_at 2 n ∷ byte_at 3 n ∷ []) e0 ∙ ap (λ (x : ℕ). a ∷ x ∷ byte_at 2 n ∷ byte_at 3 n ∷ []) e1 ∙ ap (λ (x : ℕ). a ∷ b ∷ x ∷ byte_at 3 n ∷ []) e2 ∙ ap (λ (x : ℕ). a ∷ b ∷ c ∷ x ∷ []) e3

-- bytes of whole words
bytes_again : (n : ℕ) (bytes : List ℕ) → length bytes ≡ 4 * n → AreBytes bytes → bytes_of_words (words_of_bytes bytes) ≡ bytes
bytes_again n [] size a = refl
bytes_again n (x ∷ []) size a = absurd (omega (arith, size))
bytes_again n (x ∷ y ∷ []) size a = absurd (omega (arith, size))
bytes_again n (x ∷ y ∷ z ∷ []) size a = absurd (omega (arith, size))
bytes_again zero (x ∷ y ∷ z ∷ w ∷ rest) size a = absurd (omega (arith, size))
bytes_again (suc n) (x ∷ y ∷ z ∷ w ∷ rest) size a =
    ap (λ (bytes : List ℕ). bytes ++ bytes_of_words (words_of_bytes rest)) (four_again x y z w a.0 a.1.0 a.1.1.0 a.1.1.1.0)
    ∙ ap (λ (bytes : List ℕ). x ∷ y ∷ z ∷ w ∷ bytes) (bytes_again n rest (omega (arith, size)) a.1.1.1.1)

-- ---- zeros at the end

abbrev filled : List ℕ → ℕ → List ℕ
filled words size = bytes_of_words words ++ replicate (size - length (bytes_of_words words)) 0

-- a word in front of others
one_more : (word : ℕ) (words : List ℕ) (size : ℕ) → length (bytes_of_words words) ≤ size → filled (word ∷ words) (4 + size) ≡ little_bytes 4 word ++ filled words size
one_more word words size fits =
    let left : 4 + size - length (bytes_of_words (word ∷ words)) ≡ size - length (bytes_of_words words) = omega (arith, fits) in
    ap (λ (n : ℕ). bytes_of_words (word ∷ words) ++ replicate n 0) left ∙ append_assoc (little_bytes 4 word) (bytes_of_words words) (replicate (size - length (bytes_of_words words)) 0)

no_words : (size : ℕ) → filled [] (4 + size) ≡ little_bytes 4 0 ++ filled [] size
no_words size = ap (λ (n : ℕ). replicate n 0) four
  where
    four : 4 + size - 0 ≡ suc (suc (suc (suc (size - 0))))
    four = omega arith

trimmed_size : (words : List ℕ) → length (bytes_of_words (trimmed words)) ≤ 4 * length words
trimmed_size words = omega (arith, four_each (trimmed words), length-trimmed words)

before_filled : (word : ℕ) (words : List ℕ) (size : ℕ) → length (bytes_of_words words) ≤ size → filled (before_trimmed word words) (4 + size) ≡ little_bytes 4 word ++ filled words size
before_filled word [] size fits = by_zero (eqb word 0) refl
  where
    by_zero : (b : Bool) → eqb word 0 ≡ b → filled (before_trimmed word []) (4 + size) ≡ little_bytes 4 word ++ filled [] size
    by_zero true e = rw e (no_words size ∙ ap (λ (w : ℕ). little_bytes 4 w ++ filled [] size) (sym (eqb-true word 0 e)))
    by_zero false e = rw e (one_more word [] size fits)
before_filled word (next ∷ words) size fits = one_more word (next ∷ words) size fits

trimmed_filled : (words : List ℕ) → filled (trimmed words) (4 * length words) ≡ bytes_of_words words
trimmed_filled [] = refl
trimmed_filled (word ∷ words) =
    let more : 4 * suc (length words) ≡ 4 + 4 * length words = omega arith in
    ap (λ (n : ℕ). filled (trimmed (word ∷ words)) n) more ∙ before_filled word (trimmed words) (4 * length words) (trimmed_size words) ∙ ap (λ (bytes : List ℕ). little_bytes 4 word ++ bytes) (trimmed_filled words)

-- the words of a memory of whole words are a quarter as many
quarter : (n : ℕ) (bytes : List ℕ) → length bytes ≡ 4 * n → 4 * length (words_of_bytes bytes) ≡ length bytes
quarter n [] size = refl
quarter n (x ∷ []) size = absurd (omega (arith, size))
quarter n (x ∷ y ∷ []) size = absurd (omega (arith, size))
quarter n (x ∷ y ∷ z ∷ []) size = absurd (omega (arith, size))
quarter zero (x ∷ y ∷ z ∷ w ∷ rest) size = absurd (omega (arith, size))
quarter (suc n) (x ∷ y ∷ z ∷ w ∷ rest) size = let next = quarter n rest (omega (arith, size)) in omega (arith, next)

memory_filled : (memory : List ℕ) (n : ℕ) → length memory ≡ 4 * n → AreBytes memory → filled (trimmed (words_of_bytes memory)) (length memory) ≡ memory
memory_filled memory n size a =
    ap (filled (trimmed (words_of_bytes memory))) (sym (quarter n memory size)) ∙ trimmed_filled (words_of_bytes memory) ∙ bytes_again n memory size a

pub loaded_filled : (size : ℕ) (words : List ℕ) (pages : ℕ) → bytes_of_words (words_loaded size words pages) ++ replicate (256 * pages - length (bytes_of_words (words_loaded size words pages))) 0 ≡ loaded (file_of size words) pages
unfolding words_loaded
loaded_filled size words pages =
    let file = file_of size words in
    let long = length-loaded file pages in
    let whole : length (loaded file pages) ≡ 4 * (64 * pages) = omega (arith, long) in
    ap (filled (trimmed (words_of_bytes (loaded file pages)))) (sym long) ∙ memory_filled (loaded file pages) (64 * pages) whole (memory_bytes file pages (bytes-take size (bytes_of_words words) (are_bytes words)))
