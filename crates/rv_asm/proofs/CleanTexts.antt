-- The lines of a text whose bytes are printable or newlines.
use Rattle.std.proofs.Common.{◌≡◌, ℕ, Bool, true, false, List, [], ◌∷◌, drop, refl}
use Rattle.std.specs.Prelude.{◌||◌, ◌&&◌}
use Rattle.text_parts.specs.Lines.{is_newline, is_printable, are_printable, before, from}
use Rattle.rv_asm.specs.Clean.{is_text_byte, is_clean}

both : (a b : Bool) → (a && b) ≡ true → (a ≡ true) × (b ≡ true)
both true b e = (refl, e)
both false b e = absurd cc

not_newline : (p n : Bool) → (p || n) ≡ true → n ≡ false → p ≡ true
not_newline true n e f = refl
not_newline false true e f = absurd cc
not_newline false false e f = absurd cc

pub clean_line : (text : List ℕ) → is_clean text ≡ true → are_printable (before is_newline text) ≡ true
clean_line [] e = refl
clean_line (b ∷ bs) e = by_test (is_newline b) refl (clean_line bs (both (is_text_byte b) (is_clean bs) e).1)
  where
    by_test : (t : Bool) → is_newline b ≡ t → are_printable (before is_newline bs) ≡ true → are_printable (before is_newline (b ∷ bs)) ≡ true
    by_test true f next = rw f refl
    by_test false f next = rw (f, not_newline (is_printable b) (is_newline b) (both (is_text_byte b) (is_clean bs) e).0 f) next

pub clean_rest : (text : List ℕ) → is_clean text ≡ true → is_clean (drop 1 (from is_newline text)) ≡ true
clean_rest [] e = refl
clean_rest (b ∷ bs) e = by_test (is_newline b) refl (clean_rest bs (both (is_text_byte b) (is_clean bs) e).1)
  where
    by_test : (t : Bool) → is_newline b ≡ t → is_clean (drop 1 (from is_newline bs)) ≡ true → is_clean (drop 1 (from is_newline (b ∷ bs))) ≡ true
    by_test true f next = rw f ((both (is_text_byte b) (is_clean bs) e).1)
    by_test false f next = rw f next
