-- Reading a text in quotes from left to right.
use Rattle.std.proofs.Common.{◌≡◌, ℕ, ◌+◌, ◌≤◌, Bool, false, List, [], ◌∷◌, ◌++◌, length, Option, Some, None, refl, sym, ap, ◌∙◌, arith, append_assoc}
use Rattle.std.proofs.lemmas.List.{append-nil, length-append}
use Rattle.std.specs.Option.{option_to_list}
use Rattle.rv_asm.specs.Quoted.{spelled, is_quote, escapes, joined, text_from}

abbrev pub after_front : List ℕ → Option (List ℕ) → Option (List ℕ)
after_front front None = None
after_front front (Some more) = Some (front ++ more)

-- the bytes so far, and what is left
pub record Decoded (text front : List ℕ) (escaped : Bool) (rest : List ℕ) : Type 0 where
  pub same : after_front front (text_from escaped rest) ≡ text_from false text

at_byte : (e : Bool) (b : ℕ) (bs : List ℕ) → is_quote e b ≡ false → text_from e (b ∷ bs) ≡ joined (spelled e b) (text_from (escapes e b) bs)
at_byte e b bs h = rw h refl

nothing : (front : List ℕ) (o : Option (List ℕ)) → after_front front (joined (Some None) o) ≡ after_front front o
nothing front None = refl
nothing front (Some more) = refl

byte : (front : List ℕ) (x : ℕ) (o : Option (List ℕ)) → after_front front (joined (Some (Some x)) o) ≡ after_front (front ++ x ∷ []) o
byte front x None = refl
byte front x (Some more) = ap Some (sym (append_assoc front (x ∷ []) more))

pub decoded_nothing : (text front : List ℕ) (e : Bool) (b : ℕ) (bs : List ℕ) → is_quote e b ≡ false → spelled e b ≡ Some None → Decoded text front e (b ∷ bs) → Decoded text front (escapes e b) bs
decoded_nothing text front e b bs q s d = record { same = sym (ap (after_front front) (at_byte e b bs q) ∙ rw s (nothing front (text_from (escapes e b) bs))) ∙ d.same }

pub decoded_byte : (text front : List ℕ) (e : Bool) (b : ℕ) (bs : List ℕ) (x : ℕ) → is_quote e b ≡ false → spelled e b ≡ Some (Some x) → Decoded text front e (b ∷ bs) → Decoded text (front ++ x ∷ []) (escapes e b) bs
decoded_byte text front e b bs x q s d = record { same = sym (ap (after_front front) (at_byte e b bs q) ∙ rw s (byte front x (text_from (escapes e b) bs))) ∙ d.same }

-- so many bytes so far
pub record Counted (text : List ℕ) (count : ℕ) (escaped : Bool) (rest : List ℕ) : Type 0 where
  pub front : List ℕ
  pub length_is : length front ≡ count
  pub decoded : Decoded text front escaped rest
  pub fits : count + length rest ≤ length text

decoded_more : (text front : List ℕ) (e : Bool) (b : ℕ) (bs : List ℕ) (o : Option ℕ) → is_quote e b ≡ false → spelled e b ≡ Some o → Decoded text front e (b ∷ bs) → Decoded text (front ++ option_to_list o) (escapes e b) bs
decoded_more text front e b bs None q s d = rw (append-nil front) (decoded_nothing text front e b bs q s d)
decoded_more text front e b bs (Some x) q s d = decoded_byte text front e b bs x q s d

pub counted_more : (text : List ℕ) (count : ℕ) (e : Bool) (rest : List ℕ) (b : ℕ) (bs : List ℕ) (o : Option ℕ) → rest ≡ b ∷ bs → is_quote e b ≡ false → spelled e b ≡ Some o → Counted text count e rest → Counted text (count + length (option_to_list o)) (escapes e b) bs
counted_more text count e rest b bs o is q s c =
    let d : Decoded text c.front e (b ∷ bs) = rw (← is) c.decoded in
    record {
      front = c.front ++ option_to_list o;
      length_is = length-append c.front (option_to_list o) ∙ ap (λ (n : ℕ). n + length (option_to_list o)) c.length_is;
      decoded = decoded_more text c.front e b bs o q s d;
      fits = omega (arith, c.fits, ap length is, at_most_one o);
    }
  where
    at_most_one : (o : Option ℕ) → length (option_to_list o) ≤ 1
    at_most_one None = omega arith
    at_most_one (Some x) = omega arith

pub decoded_step : (text front : List ℕ) (e : Bool) (rest : List ℕ) (b : ℕ) (bs : List ℕ) (o : Option ℕ) → rest ≡ b ∷ bs → is_quote e b ≡ false → spelled e b ≡ Some o → Decoded text front e rest → Decoded text (front ++ option_to_list o) (escapes e b) bs
decoded_step text front e rest b bs o is q s c =
    let d : Decoded text front e (b ∷ bs) = rw (← is) c in
    decoded_more text front e b bs o q s d
