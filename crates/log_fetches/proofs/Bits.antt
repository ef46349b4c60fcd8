-- A page that is put into a set is there, and every other is as it was.
use Rattle.std.proofs.Common.{◌≡◌, ◌≢◌, ℕ, ◌*◌, ◌/◌, ◌%◌, ◌^◌, ◌<◌, refl, sym, ◌∙◌, ap, arith, List, length, Bool, true, false, ◌&&◌, ◌||◌, eqb, eqb-true, eq-eqb, get_or, set, get_or-set_same, get_or-set_other, w64, true≢false}
use Rattle.std.specs.Prelude.{nat_lt, bit_or}
use Rattle.std.specs.Int.{bit_at}
use Rattle.std.proofs.lemmas.Bool.Decides.{nat_tests}
use Rattle.std.proofs.lemmas.Nat.Bits.{bit_at_set_same, bit_at_set_other}
use Rattle.log_fetches.specs.Pages.{has_page}

is_below : (i n : ℕ) → i < n → nat_lt i n ≡ true
is_below i n is = grind (arith, nat_tests)

module _ (pages : List ℕ) (n : ℕ) (four : length pages ≡ 4) (within : n < 256) where
  word : ℕ
  word = get_or pages (n / 64) 0

  abbrev with_bit : ℕ
  with_bit = bit_or (get_or pages (n / 64) 0) (1 * 2 ^ (n % 64) % 18446744073709551616)

  place : n / 64 < length pages
  place = omega (arith, four, within)

  bit : n % 64 < 64
  bit = omega arith

  there : has_page (set pages (n / 64) with_bit) n ≡ true
  there = ap (λ w. eqb (bit_at w (n % 64)) 1) (get_or-set_same pages (n / 64) with_bit 0 place) ∙ ap (λ b. eqb b 1) (bit_at_set_same w64 (get_or pages (n / 64) 0) (n % 64) bit)

  other_bit : (i : ℕ) → i ≢ n → i / 64 ≡ n / 64 → i % 64 ≢ n % 64
  other_bit i other same same_bit = other (omega (arith, same, same_bit))

  elsewhere : (i : ℕ) → i ≢ n → has_page (set pages (n / 64) with_bit) i ≡ has_page pages i
  elsewhere i other = by_word (eqb (i / 64) (n / 64)) refl
    where
      by_word : (b : Bool) → eqb (i / 64) (n / 64) ≡ b → has_page (set pages (n / 64) with_bit) i ≡ has_page pages i
      by_word true is =
          let same : i / 64 ≡ n / 64 = eqb-true (i / 64) (n / 64) is in
          ap (λ m. eqb (bit_at (get_or (set pages (n / 64) with_bit) m 0) (i % 64)) 1) same
          ∙ ap (λ w. eqb (bit_at w (i % 64)) 1) (get_or-set_same pages (n / 64) with_bit 0 place)
          ∙ ap (λ b. eqb b 1) (bit_at_set_other w64 (get_or pages (n / 64) 0) (n % 64) bit (i % 64) (other_bit i other same))
          ∙ ap (λ m. eqb (bit_at (get_or pages m 0) (i % 64)) 1) (sym same)
      by_word false is =
          ap (λ w. eqb (bit_at w (i % 64)) 1) (get_or-set_other pages (n / 64) (i / 64) with_bit 0 (λ same. true≢false (sym (eq-eqb (i / 64) (n / 64) same) ∙ is)))

  pub put_has : (i : ℕ) → has_page (set pages (n / 64) with_bit) i ≡ ((eqb n i && nat_lt i 256) || has_page pages i)
  put_has i = by_test (eqb n i) refl
    where
      by_test : (b : Bool) → eqb n i ≡ b → has_page (set pages (n / 64) with_bit) i ≡ ((b && nat_lt i 256) || has_page pages i)
      by_test true is =
          let same : i ≡ n = sym (eqb-true n i is) in
          ap (has_page (set pages (n / 64) with_bit)) same ∙ there ∙ sym (ap (λ b. b || has_page pages i) (is_below i 256 (omega (arith, same, within))))
      by_test false is = elsewhere i (λ same. true≢false (sym (eq-eqb n i (sym same)) ∙ is))
