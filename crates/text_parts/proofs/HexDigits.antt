-- A table of the two hexadecimal digits of each byte, and the digits of a word by its bytes.
use Rattle.std.proofs.Common.{◌≡◌, ℕ, ◌+◌, ◌*◌, ◌<◌, ◌^◌, ◌/◌, ◌%◌, Bool, true, false, cond, ltb, List, [], ◌∷◌, get_or, map, refl, ap, ◌∙◌, arith}
use Rattle.std.specs.List.{range_with_len}
use Rattle.std.proofs.lemmas.List.FromFn.{get_or-map-range_with_len}
use Rattle.text_parts.specs.Words.{digit_of, spaced}

-- the two digits of a byte as one number
abbrev pub pair : ℕ → ℕ
pair b = digit_of (b / 16) + 256 * digit_of (b % 16)

-- the table in the code
abbrev pub digits_table : List ℕ
digits_table = 12336 ∷ 12592 ∷ 12848 ∷ 13104 ∷ 13360 ∷ 13616 ∷ 13872 ∷ 14128 ∷ 14384 ∷ 14640 ∷ 24880 ∷ 25136 ∷ 25392 ∷ 25648 ∷ 25904 ∷ 26160 ∷ 12337 ∷ 12593 ∷ 12849 ∷ 13105 ∷ 13361 ∷ 13617 ∷ 13873 ∷ 14129 ∷ 14385 ∷ 14641 ∷ 24881 ∷ 25137 ∷ 25393 ∷ 25649 ∷ 25905 ∷ 26161 ∷ 12338 ∷ 12594 ∷ 12850 ∷ 13106 ∷ 13362 ∷ 13618 ∷ 13874 ∷ 14130 ∷ 14386 ∷ 14642 ∷ 24882 ∷ 25138 ∷ 25394 ∷ 25650 ∷ 25906 ∷ 26162 ∷ 12339 ∷ 12595 ∷ 12851 ∷ 13107 ∷ 13363 ∷ 13619 ∷ 13875 ∷ 14131 ∷ 14387 ∷ 14643 ∷ 24883 ∷ 25139 ∷ 25395 ∷ 25651 ∷ 25907 ∷ 26163 ∷ 12340 ∷ 12596 ∷ 12852 ∷ 13108 ∷ 13364 ∷ 13620 ∷ 13876 ∷ 14132 ∷ 14388 ∷ 14644 ∷ 24884 ∷ 25140 ∷ 25396 ∷ 25652 ∷ 25908 ∷ 26164 ∷ 12341 ∷ 12597 ∷ 12853 ∷ 13109 ∷ 13365 ∷ 13621 ∷ 13877 ∷ 14133 ∷ 14389 ∷ 14645 ∷ 24885 ∷ 25141 ∷ 25397 ∷ 25653 ∷ 25909 ∷ 26165 ∷ 12342 ∷ 12598 ∷ 12854 ∷ 13110 ∷ 13366 ∷ 13622 ∷ 13878 ∷ 14134 ∷ 14390 ∷ 14646 ∷ 24886 ∷ 25142 ∷ 25398 ∷ 25654 ∷ 25910 ∷ 26166 ∷ 12343 ∷ 12599 ∷ 12855 ∷ 13111 ∷ 13367 ∷ 13623 ∷ 13879 ∷ 14135 ∷ 14391 ∷ 14647 ∷ 24887 ∷ 25143 ∷ 25399 ∷ 25655 ∷ 25911 ∷ 26167 ∷ 12344 ∷ 12600 ∷ 12856 ∷ 13112 ∷ 13368 ∷ 13624 ∷ 13880 ∷ 14136 ∷ 14392 ∷ 14648 ∷ 24888 ∷ 25144 ∷ 25400 ∷ 25656 ∷ 25912 ∷ 26168 ∷ 12345 ∷ 12601 ∷ 12857 ∷ 13113 ∷ 13369 ∷ 13625 ∷ 13881 ∷ 14137 ∷ 14393 ∷ 14649 ∷ 24889 ∷ 25145 ∷ 25401 ∷ 25657 ∷ 25913 ∷ 26169 ∷ 12385 ∷ 12641 ∷ 12897 ∷ 13153 ∷ 13409 ∷ 13665 ∷ 13921 ∷ 14177 ∷ 14433 ∷ 14689 ∷ 24929 ∷ 25185 ∷ 25441 ∷ 25697 ∷ 25953 ∷ 26209 ∷ 12386 ∷ 12642 ∷ 12898 ∷ 13154 ∷ 13410 ∷ 13666 ∷ 13922 ∷ 14178 ∷ 14434 ∷ 14690 ∷ 24930 ∷ 25186 ∷ 25442 ∷ 25698 ∷ 25954 ∷ 26210 ∷ 12387 ∷ 12643 ∷ 12899 ∷ 13155 ∷ 13411 ∷ 13667 ∷ 13923 ∷ 14179 ∷ 14435 ∷ 14691 ∷ 24931 ∷ 25187 ∷ 25443 ∷ 25699 ∷ 25955 ∷ 26211 ∷ 12388 ∷ 12644 ∷ 12900 ∷ 13156 ∷ 13412 ∷ 13668 ∷ 13924 ∷ 14180 ∷ 14436 ∷ 14692 ∷ 24932 ∷ 25188 ∷ 25444 ∷ 25700 ∷ 25956 ∷ 26212 ∷ 12389 ∷ 12645 ∷ 12901 ∷ 13157 ∷ 13413 ∷ 13669 ∷ 13925 ∷ 14181 ∷ 14437 ∷ 14693 ∷ 24933 ∷ 25189 ∷ 25445 ∷ 25701 ∷ 25957 ∷ 26213 ∷ 12390 ∷ 12646 ∷ 12902 ∷ 13158 ∷ 13414 ∷ 13670 ∷ 13926 ∷ 14182 ∷ 14438 ∷ 14694 ∷ 24934 ∷ 25190 ∷ 25446 ∷ 25702 ∷ 25958 ∷ 26214 ∷ []

table_is_rule : digits_table ≡ map pair (range_with_len 0 256)
table_is_rule = refl

-- the table has the digits of each byte
pub pair_of : (b : ℕ) → b < 256 → get_or digits_table b 0 ≡ pair b
pair_of b within = ap (λ (l : List ℕ). get_or l b 0) table_is_rule ∙ get_or-map-range_with_len pair 0 256 b b 0 within (omega arith)

-- a digit is a byte
hex_small : (d : ℕ) → d < 16 → digit_of d < 256
hex_small d within = by_size (ltb d 10)
  where
    by_size : (b : Bool) → cond b (48 + d) (87 + d) < 256
    by_size true = omega (arith, within)
    by_size false = omega (arith, within)

-- the two digits are got back from their number
pub upper_of : (b : ℕ) → b < 256 → pair b % 256 ≡ digit_of (b / 16)
upper_of b within = parts (digit_of (b / 16)) (digit_of (b % 16)) (hex_small (b / 16) (omega (arith, within)))
  where
    parts : (h l : ℕ) → h < 256 → (h + 256 * l) % 256 ≡ h
    parts h l small = omega (arith, small)

pub lower_of : (b : ℕ) → b < 256 → pair b / 256 ≡ digit_of (b % 16)
lower_of b within = parts (digit_of (b / 16)) (digit_of (b % 16)) (hex_small (b / 16) (omega (arith, within)))
  where
    parts : (h l : ℕ) → h < 256 → (h + 256 * l) / 256 ≡ l
    parts h l small = omega (arith, small)

-- ---- the digits of a word

top_digit : (w : ℕ) → w < 2 ^ 32 → w / 16777216 / 16 ≡ w / 2 ^ 28 % 16
top_digit w within = omega arith

third_digit : (w : ℕ) → (w / 65536 % 256) / 16 ≡ w / 2 ^ 20 % 16
third_digit w = omega arith

fourth_digit : (w : ℕ) → (w / 65536 % 256) % 16 ≡ w / 2 ^ 16 % 16
fourth_digit w = omega arith

fifth_digit : (w : ℕ) → (w / 256 % 256) / 16 ≡ w / 2 ^ 12 % 16
fifth_digit w = omega arith

sixth_digit : (w : ℕ) → (w / 256 % 256) % 16 ≡ w / 2 ^ 8 % 16
sixth_digit w = omega arith

seventh_digit : (w : ℕ) → (w % 256) / 16 ≡ w / 2 ^ 4 % 16
seventh_digit w = omega arith

last_digit : (w : ℕ) → (w % 256) % 16 ≡ w % 16
last_digit w = omega arith

by_digits : (w : ℕ) → w < 2 ^ 32 → 32 ∷ digit_of (w / 16777216 / 16) ∷ digit_of (w / 16777216 % 16) ∷ digit_of ((w / 65536 % 256) / 16) ∷ digit_of ((w / 65536 % 256) % 16) ∷ digit_of ((w / 256 % 256) / 16) ∷ digit_of ((w / 256 % 256) % 16) ∷ digit_of ((w % 256) / 16) ∷ digit_of ((w % 256) % 16) ∷ [] ≡ spaced w
by_digits w within = rw (top_digit w within, third_digit w, fourth_digit w, fifth_digit w, sixth_digit w, seventh_digit w, last_digit w) refl

-- the bytes of a word as the code takes them off the table
pub by_bytes : (w : ℕ) → w < 2 ^ 32 → 32 ∷ pair (w / 16777216) % 256 ∷ pair (w / 16777216) / 256 ∷ pair (w / 65536 % 256) % 256 ∷ pair (w / 65536 % 256) / 256 ∷ pair (w / 256 % 256) % 256 ∷ pair (w / 256 % 256) / 256 ∷ pair (w % 256) % 256 ∷ pair (w % 256) / 256 ∷ [] ≡ spaced w
by_bytes w within =
    rw (upper_of (w / 16777216) (omega (arith, within)), lower_of (w / 16777216) (omega (arith, within)), upper_of (w / 65536 % 256) (omega arith), lower_of (w / 65536 % 256) (omega arith), upper_of (w / 256 % 256) (omega arith), lower_of (w / 256 % 256) (omega arith), upper_of (w % 256) (omega arith), lower_of (w % 256) (omega arith)) (by_digits w within)
