-- What `clap` sees in a word, by its first bytes.
use Rattle.std.proofs.Common.{◌≡◌, ◌∙◌, ◌+◌, refl, sym, ap, arith, cond, Bool, true, false, not, ◌&&◌, ◌||◌, ℕ, suc, List, [], ◌∷◌, ◌++◌, take, drop, Some, None, codes, true≢false}
use Rattle.std.specs.Prelude.{◌==◌, slice_get}
use Rattle.std.specs.List.{after_first, before_first, position_or_len}
use Rattle.std.specs.Option.{option_and_then}
use Rattle.std.specs.Str.{IsUtf8, bytes_eq, chars, encode_utf8_all}
use Rattle.std.specs.Cmp.Lexicographic.{same_text}
use Rattle.std.proofs.lemmas.Bool.{eqb-true}
use Rattle.std.proofs.lemmas.List.{take-append-drop}
use Rattle.std.proofs.lemmas.Str.{IsCharBoundary-after_ascii, IsUtf8-drop, chars-encodes}
use Rattle.clap.specs.Lexer.{has_byte, long_of, long_of_rest, name_and_value, short_of, short_of_rest, strip_byte}
use Rattle.command_words.specs.Options.{Text, begins_with_hyphen}

-- ---- characters

pub first_char : (b : ℕ) (bs : Text) → IsUtf8 (b ∷ bs) → (x : ℕ) × (slice_get (chars (b ∷ bs)) 0 ≡ Some x)
first_char b bs text = go text.0 text.1.1 (ap chars (sym text.1.1) ∙ chars-encodes text.0 text.1.0)
  where
    go : (cs : List ℕ) → encode_utf8_all cs ≡ b ∷ bs → chars (b ∷ bs) ≡ cs → (x : ℕ) × (slice_get (chars (b ∷ bs)) 0 ≡ Some x)
    go [] e is = let bad : [] ≡ b ∷ bs = e in cc
    go (c ∷ cs) e is = (c, ap (λ t. slice_get t 0) is)

pub behind_hyphen : (bs : Text) → IsUtf8 (45 ∷ bs) → IsUtf8 bs
behind_hyphen bs text = IsUtf8-drop (45 ∷ bs) 1 text (IsCharBoundary-after_ascii (45 ∷ bs) 0 text (omega arith) (omega arith))

-- ---- a word that begins with no hyphen

pub no_long : (word : Text) → begins_with_hyphen word ≡ false → long_of word ≡ None
no_long [] e = refl
no_long (b ∷ bs) e = ap (λ x. option_and_then long_of_rest (option_and_then (strip_byte 45) (cond x (Some bs) None))) e

pub no_short : (word : Text) → begins_with_hyphen word ≡ false → short_of word ≡ None
no_short [] e = refl
no_short (b ∷ bs) e = ap (λ x. option_and_then short_of_rest (cond x (Some bs) None)) e

pub no_end : (word : Text) → begins_with_hyphen word ≡ false → bytes_eq word (codes "--") ≡ false
no_end [] e = refl
no_end (b ∷ bs) e = ap (λ x. x && bytes_eq bs (codes "-")) e

-- ---- `--name` and `--name=value`

pub one_more : (n : ℕ) → 1 + n ≡ suc n
one_more n = omega arith

two_more : (n : ℕ) → 1 + n + 1 ≡ suc (n + 1)
two_more n = omega arith

-- without a `=` the name is all
pub whole_name : (t : Text) → has_byte 61 t ≡ false → before_first (λ x. x == 61) t ≡ t
whole_name [] e = refl
whole_name (x ∷ xs) e = go (x == 61) e (whole_name xs)
  where
    go : (b : Bool) → (b || has_byte 61 xs) ≡ false → (has_byte 61 xs ≡ false → take (position_or_len (λ y. y == 61) xs) xs ≡ xs)
        → take (cond (not b) (1 + position_or_len (λ y. y == 61) xs) 0) (x ∷ xs) ≡ x ∷ xs
    go true none rest = absurd (true≢false none)
    go false none rest = ap (λ k. take k (x ∷ xs)) (one_more (position_or_len (λ y. y == 61) xs)) ∙ ap (λ t. x ∷ t) (rest none)

-- with one it stands between the name and the value
pub parted : (t : Text) → has_byte 61 t ≡ true → t ≡ before_first (λ x. x == 61) t ++ 61 ∷ after_first (λ x. x == 61) t
parted [] e = absurd (true≢false (sym e))
parted (x ∷ xs) e = go (x == 61) refl e (parted xs)
  where
    go : (b : Bool) → (x == 61) ≡ b → (b || has_byte 61 xs) ≡ true
        → (has_byte 61 xs ≡ true → xs ≡ take (position_or_len (λ y. y == 61) xs) xs ++ 61 ∷ drop (position_or_len (λ y. y == 61) xs + 1) xs)
        → x ∷ xs ≡ take (cond (not b) (1 + position_or_len (λ y. y == 61) xs) 0) (x ∷ xs) ++ 61 ∷ drop (cond (not b) (1 + position_or_len (λ y. y == 61) xs) 0 + 1) (x ∷ xs)
    go true is has rest = ap (λ y. y ∷ xs) (eqb-true x 61 is)
    go false is has rest =
        ap (λ t. x ∷ t) (rest has)
        ∙ sym (ap (λ k. take k (x ∷ xs) ++ 61 ∷ drop (position_or_len (λ y. y == 61) xs + 1) xs) (one_more (position_or_len (λ y. y == 61) xs)))
        ∙ sym (ap (λ k. take (1 + position_or_len (λ y. y == 61) xs) (x ∷ xs) ++ 61 ∷ drop k (x ∷ xs)) (two_more (position_or_len (λ y. y == 61) xs)))

-- `pick=` at the front of the body is the name and the `=`
pub pick_named : (body : Text) → bytes_eq (take 5 body) (codes "pick=") ≡ true → name_and_value body ≡ (codes "pick", Some (drop 5 body))
pick_named body e = ap name_and_value (sym (take-append-drop 5 body) ∙ ap (λ t. t ++ drop 5 body) (same_text (take 5 body) (codes "pick=") (sym e)))

pub named_pick : (body : Text) → has_byte 61 body ≡ true → bytes_eq (codes "pick") (before_first (λ x. x == 61) body) ≡ true
    → (bytes_eq (take 5 body) (codes "pick=") ≡ true) × (drop 5 body ≡ after_first (λ x. x == 61) body)
named_pick body has named =
    let is : body ≡ codes "pick=" ++ after_first (λ x. x == 61) body =
    parted body has ∙ ap (λ t. t ++ 61 ∷ after_first (λ x. x == 61) body) (sym (same_text (codes "pick") (before_first (λ x. x == 61) body) (sym named))) in
    (ap (λ t. bytes_eq (take 5 t) (codes "pick=")) is, ap (drop 5) is)
