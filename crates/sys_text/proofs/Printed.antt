-- Lines that are printed are read as the same fields.
use Rattle.std.proofs.Common.{◌≡◌, ℕ, zero, suc, ◌+◌, ◌*◌, ◌/◌, ◌%◌, ◌^◌, ◌<◌, ◌≤◌, Bool, true, false, not, ◌&&◌, nat_lt, List, [], ◌∷◌, ◌++◌, length, get_or, map, Some, refl, sym, ap, ◌∙◌, arith, append_assoc, length-append}
use Rattle.std.specs.List.{list_all, filter, slice_split, All}
use Rattle.std.specs.Fmt.{decimal}
use Rattle.std.specs.Char.{is_digit, digit_value}
use Rattle.std.specs.Str.Parse.{digits_value}
use Rattle.std.proofs.lemmas.Fmt.{decimal_by_steps}
use Rattle.std.proofs.lemmas.Int.Digits.{digits_value_push}
use Rattle.std.proofs.lemmas.List.Splits.{slice_split_none, slice_split_at}
use Rattle.std.proofs.lemmas.List.Sums.{AllPass-from_list_all}
use Rattle.std.proofs.lemmas.Bool.{eq-eqb}
use Rattle.std.proofs.lemmas.Bool.Decides.{nat_tests}
use Rattle.std.proofs.Math.Nat.{pow-suc}
use Rattle.text_parts.specs.Lines.{is_newline, is_space, is_printable, are_printable, is_empty, lines_of, fields_of}
use Rattle.text_parts.specs.Numbers.{are_digits, word_of}
use Rattle.t32_base.specs.declared.process.Mode.{Mode}
use Rattle.t32_base.specs.declared.process.Mode.TheVariants.{Quarter, Half, Full}
use Rattle.sys_text.specs.Valid.{is_name, is_name_byte, is_word}
use Rattle.sys_text.specs.Kinds.{mode_named}
use Rattle.sys_text.specs.Text.{line_text, lines_text, hex_digit, hex_digits, word_text, mode_text}
use Rattle.sys_text.proofs.Bounds.{first_of_two, second_of_two}

-- ---- tests

pub both : (a b : Bool) → a ≡ true → b ≡ true → (a && b) ≡ true
both a b p q = rw (p, q) refl

pub all_joined : {X : Type 0} → (p : X → Bool) → (xs ys : List X) → list_all p xs ≡ true → list_all p ys ≡ true → list_all p (xs ++ ys) ≡ true
all_joined p [] ys h i = i
all_joined p (x ∷ xs) ys h i = both _ _ (first_of_two _ _ h) (all_joined p xs ys (second_of_two _ _ h) i)

all_weaker : (p q : ℕ → Bool) → ((x : ℕ) → p x ≡ true → q x ≡ true) → (xs : List ℕ) → list_all p xs ≡ true → list_all q xs ≡ true
all_weaker p q w [] h = refl
all_weaker p q w (x ∷ xs) h = both _ _ (w x (first_of_two _ _ h)) (all_weaker p q w xs (second_of_two _ _ h))

all_fail : (p q : ℕ → Bool) → ((x : ℕ) → p x ≡ true → q x ≡ false) → (xs : List ℕ) → list_all p xs ≡ true → All (λ x. q x ≡ false) xs
all_fail p q w xs h = λ k d lt. w (get_or xs k d) (AllPass-from_list_all p xs h k d lt)

-- ---- plain fields: printable bytes that are no spaces, and at least one of them

abbrev pub is_plain_byte : ℕ → Bool
is_plain_byte b = nat_lt 32 b && nat_lt b 127

abbrev pub is_plain : List ℕ → Bool
is_plain field = not (is_empty field) && list_all is_plain_byte field

abbrev pub are_plain : List (List ℕ) → Bool
are_plain fields = list_all is_plain fields

-- the line without its end
abbrev pub joined : List (List ℕ) → List ℕ
joined [] = []
joined (f ∷ []) = f
joined (f ∷ g ∷ fs) = f ++ 32 ∷ joined (g ∷ fs)

line_is : (fields : List (List ℕ)) → line_text fields ≡ joined fields ++ 10 ∷ []
line_is [] = refl
line_is (f ∷ []) = refl
line_is (f ∷ g ∷ fs) = ap (λ t. f ++ 32 ∷ t) (line_is (g ∷ fs)) ∙ sym (append_assoc f (32 ∷ joined (g ∷ fs)) (10 ∷ []))

plain_printable : (b : ℕ) → is_plain_byte b ≡ true → is_printable b ≡ true
plain_printable b h = grind (arith, nat_tests)

plain_no_space : (b : ℕ) → is_plain_byte b ≡ true → is_space b ≡ false
plain_no_space b h = grind (arith, nat_tests)

printable_no_newline : (b : ℕ) → is_printable b ≡ true → is_newline b ≡ false
printable_no_newline b h = grind (arith, nat_tests)

pub joined_printable : (fields : List (List ℕ)) → are_plain fields ≡ true → are_printable (joined fields) ≡ true
joined_printable [] h = refl
joined_printable (f ∷ []) h = all_weaker is_plain_byte is_printable plain_printable f (second_of_two (not (is_empty f)) _ (first_of_two (is_plain f) _ h))
joined_printable (f ∷ g ∷ fs) h =
    all_joined is_printable f (32 ∷ joined (g ∷ fs)) (all_weaker is_plain_byte is_printable plain_printable f (second_of_two (not (is_empty f)) _ (first_of_two (is_plain f) _ h)))
    (both _ _ refl (joined_printable (g ∷ fs) (second_of_two (is_plain f) _ h)))

onto_line : (b : ℕ) (line more : List ℕ) → is_newline b ≡ false → lines_of (line ++ 10 ∷ more) ≡ line ∷ lines_of more → lines_of ((b ∷ line) ++ 10 ∷ more) ≡ (b ∷ line) ∷ lines_of more
onto_line b line more e next = rw (e, next) refl

line_ends : (line more : List ℕ) → are_printable line ≡ true → lines_of (line ++ 10 ∷ more) ≡ line ∷ lines_of more
line_ends [] more h = refl
line_ends (b ∷ line) more h = onto_line b line more (printable_no_newline b (first_of_two (is_printable b) _ h)) (line_ends line more (second_of_two (is_printable b) _ h))

pub lines_printed : (ls : List (List (List ℕ))) → list_all are_plain ls ≡ true → lines_of (lines_text ls) ≡ map joined ls
lines_printed [] h = refl
lines_printed (l ∷ ls) h =
    ap (λ t. lines_of (t ++ lines_text ls)) (line_is l) ∙ ap lines_of (append_assoc (joined l) (10 ∷ []) (lines_text ls)) ∙ line_ends (joined l) (lines_text ls) (joined_printable l (first_of_two (are_plain l) _ h))
    ∙ ap (λ t. joined l ∷ t) (lines_printed ls (second_of_two (are_plain l) _ h))

-- ---- the fields

kept_part : (f : List ℕ) (parts : List (List ℕ)) → not (is_empty f) ≡ true → filter (λ part. not (is_empty part)) (f ∷ parts) ≡ f ∷ filter (λ part. not (is_empty part)) parts
kept_part f parts h = rw h refl

no_spaces : (f : List ℕ) → is_plain f ≡ true → All (λ x. is_space x ≡ false) f
no_spaces f h = all_fail is_plain_byte is_space plain_no_space f (second_of_two (not (is_empty f)) _ h)

pub fields_printed : (f : List ℕ) (fs : List (List ℕ)) → are_plain (f ∷ fs) ≡ true → fields_of (joined (f ∷ fs)) ≡ f ∷ fs
fields_printed f [] h =
    let p = first_of_two (is_plain f) _ h in
    ap (filter (λ part. not (is_empty part))) (slice_split_none is_space f (no_spaces f p)) ∙ kept_part f [] (first_of_two (not (is_empty f)) _ p)
fields_printed f (g ∷ fs) h =
    let p = first_of_two (is_plain f) _ h in
    ap (filter (λ part. not (is_empty part))) (slice_split_at is_space f 32 (joined (g ∷ fs)) (no_spaces f p) refl) ∙ kept_part f (slice_split is_space (joined (g ∷ fs))) (first_of_two (not (is_empty f)) _ p)
    ∙ ap (λ t. f ∷ t) (fields_printed g fs (second_of_two (is_plain f) _ h))

-- ---- which fields are plain

plain_ends : (ds : List ℕ) (d : ℕ) → list_all is_plain_byte ds ≡ true → is_plain_byte d ≡ true → is_plain (ds ++ d ∷ []) ≡ true
plain_ends [] d h p = both _ _ p refl
plain_ends (x ∷ ds) d h p = all_joined is_plain_byte (x ∷ ds) (d ∷ []) h (both _ _ p refl)

plain_digit : (n : ℕ) → n < 10 → is_plain_byte (48 + n) ≡ true
plain_digit n p = grind (arith, nat_tests)

pub plain_decimal : (n : ℕ) → n < 2 ^ 64 → is_plain (decimal n) ≡ true
plain_decimal n p = decimal_by_steps (λ _ ds. is_plain ds ≡ true) one more n p
  where
    one : (n : ℕ) → n < 10 → is_plain ((48 + n) ∷ []) ≡ true
    one n p = both _ _ (plain_digit n p) refl

    more : (n : ℕ) (ds : List ℕ) → 10 ≤ n → is_plain ds ≡ true → is_plain (ds ++ (48 + n % 10) ∷ []) ≡ true
    more n ds p h = plain_ends ds (48 + n % 10) (second_of_two (not (is_empty ds)) _ h) (plain_digit (n % 10) (omega arith))

plain_hex_digit : (d : ℕ) → d < 16 → is_plain_byte (hex_digit d) ≡ true
plain_hex_digit d p = grind (arith, nat_tests)

plain_hex : (k n : ℕ) → list_all is_plain_byte (hex_digits k n) ≡ true
plain_hex zero n = refl
plain_hex (suc k) n = all_joined is_plain_byte (hex_digits k (n / 16)) (hex_digit (n % 16) ∷ []) (plain_hex k (n / 16)) (both _ _ (plain_hex_digit (n % 16) (omega arith)) refl)

pub plain_word : (w : ℕ) → is_plain (word_text w) ≡ true
unfolding word_text
plain_word w = plain_ends (hex_digits 7 (w / 16)) (hex_digit (w % 16)) (plain_hex 7 (w / 16)) (plain_hex_digit (w % 16) (omega arith))

name_byte_plain : (c : ℕ) → is_name_byte c ≡ true → is_plain_byte c ≡ true
name_byte_plain c h = grind (arith, nat_tests)

pub plain_name : (name : List ℕ) → is_name name ≡ true → is_plain name ≡ true
plain_name [] h = absurd cc
plain_name (b ∷ bs) h = all_weaker is_name_byte is_plain_byte name_byte_plain (b ∷ bs) (second_of_two _ _ h)

pub plain_mode : (m : Mode) → is_plain (mode_text m) ≡ true
plain_mode Quarter = refl
plain_mode Half = refl
plain_mode Full = refl

pub mode_again : (m : Mode) → mode_named (mode_text m) ≡ Some m
mode_again Quarter = refl
mode_again Half = refl
mode_again Full = refl

-- ---- words

digit_again : (d : ℕ) → d < 16 → digit_value (hex_digit d) ≡ d
digit_again d p = grind (arith, nat_tests)

hex_is_digit : (d : ℕ) → d < 16 → is_digit (hex_digit d) 16 ≡ true
hex_is_digit d p = grind (arith, nat_tests)

hex_are_digits : (k n : ℕ) → are_digits 16 (hex_digits k n) ≡ true
hex_are_digits zero n = refl
hex_are_digits (suc k) n = all_joined (λ c. is_digit c 16) (hex_digits k (n / 16)) (hex_digit (n % 16) ∷ []) (hex_are_digits k (n / 16)) (both _ _ (hex_is_digit (n % 16) (omega arith)) refl)

hex_value : (k n : ℕ) → n < 16 ^ k → digits_value 16 (hex_digits k n) ≡ n
hex_value zero n p = omega arith
hex_value (suc k) n p =
    let w : 16 ^ suc k ≡ 16 ^ k * 16 = pow-suc 16 k in
    let v : digits_value 16 (hex_digits k (n / 16)) ≡ n / 16 = hex_value k (n / 16) (omega arith) in
    let d : digit_value (hex_digit (n % 16)) ≡ n % 16 = digit_again (n % 16) (omega arith) in
    digits_value_push 16 (hex_digits k (n / 16)) (hex_digit (n % 16)) ∙ rw (v, d) (omega arith)

length_hex : (k n : ℕ) → length (hex_digits k n) ≡ k
length_hex zero n = refl
length_hex (suc k) n = omega (arith, length-append (hex_digits k (n / 16)) (hex_digit (n % 16) ∷ []), length_hex k (n / 16))

read_digits : (ds : List ℕ) (n : ℕ) → length ds ≡ 8 → are_digits 16 ds ≡ true → digits_value 16 ds ≡ n → word_of ds ≡ Some n
read_digits [] n l d v = absurd (omega (arith, l))
read_digits (b ∷ bs) n l d v = rw (eq-eqb (length (b ∷ bs)) 8 l, d) (ap Some v)

small_word : (w : ℕ) → is_word w ≡ true → w < 2 ^ 32
small_word w h = grind (arith, nat_tests)

pub word_again : (w : ℕ) → is_word w ≡ true → word_of (word_text w) ≡ Some w
unfolding word_text
word_again w h = read_digits (hex_digits 8 w) w (length_hex 8 w) (hex_are_digits 8 w) (hex_value 8 w (omega (arith, small_word w h)))
