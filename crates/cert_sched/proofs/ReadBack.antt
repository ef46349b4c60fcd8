-- Items are read again as they are printed.
use Rattle.std.proofs.Common.{eqb, ◌≡◌, ℕ, suc, ◌+◌, ◌^◌, ◌<◌, false, List, [], ◌∷◌, ◌++◌, length, map, codes, Some, Ok, refl, ap, ◌∙◌, arith, append_assoc, All}
use Rattle.std.specs.Option.{option_and_then}
use Rattle.std.specs.Fmt.{decimal}
use Rattle.std.proofs.lemmas.Bool.{lt-ltb, eqb-true, false_from_ne_true}
use Rattle.text_parts.specs.Lines.{is_newline, is_space, lines_of, fields_of}
use Rattle.text_parts.proofs.Numerals.{number_of-decimal}
use Rattle.plain_kernel.specs.declared.item.Item.{Item}
use Rattle.plain_kernel.specs.declared.item.Item.TheVariants.{Run, Fork, Take}
use Rattle.cert_sched.specs.Lines.{is_skipped, kept_lines}
use Rattle.cert_sched.specs.ItemLine.{if_small, small_number, item_of, count_of}
use Rattle.cert_sched.specs.Printing.{spaced, item_line, ended, item_lines, first_line_of, items_text_of, IsCarried}
use Rattle.cert_sched.specs.Reading.{header_of, with_item, reading_from, reading_after, reading_of}
use Rattle.cert_sched.proofs.Keeping.{kept_first}
use Rattle.cert_sched.proofs.Parted.{Without, without-append, line_ended, field_spaced, field_last, number_without_space, number_without_newline, number_some}

-- ---- one line

-- the fields of a word and a number, and of a word and two numbers
one_after : (word : List ℕ) (n : ℕ) → 0 < length word → Without is_space word → n < 2 ^ 32 → fields_of (word ++ spaced n) ≡ word ∷ decimal n ∷ []
one_after word n some clean lt =
    let wide : n < 2 ^ 64 = omega arith in
    field_spaced word (decimal n) some clean ∙ ap (λ (fs : List (List ℕ)). word ∷ fs) (field_last (decimal n) (number_some n wide) (number_without_space n wide))

two_after : (word : List ℕ) (a b : ℕ) → 0 < length word → Without is_space word → a < 2 ^ 32 → b < 2 ^ 32 → fields_of (word ++ (spaced a ++ spaced b)) ≡ word ∷ decimal a ∷ decimal b ∷ []
two_after word a b some clean lt lt' =
    let wide : a < 2 ^ 64 = omega arith in
    let wide' : b < 2 ^ 64 = omega arith in
    field_spaced word (decimal a ++ spaced b) some clean
    ∙ ap (λ (fs : List (List ℕ)). word ∷ fs) (field_spaced (decimal a) (decimal b) (number_some a wide) (number_without_space a wide) ∙ ap (λ (fs : List (List ℕ)). decimal a ∷ fs) (field_last (decimal b) (number_some b wide') (number_without_space b wide')))

small-decimal : (n : ℕ) → n < 2 ^ 32 → small_number (decimal n) ≡ Some n
small-decimal n lt = ap (option_and_then if_small) (number_of-decimal n (omega arith)) ∙ rw (lt-ltb n (2 ^ 32) lt) refl

spaced_without : (n : ℕ) → n < 2 ^ 32 → Without is_newline (spaced n)
spaced_without n lt = (refl, number_without_newline n (omega arith))

not-zero : (n : ℕ) → 0 < n → eqb n 0 ≡ false
not-zero n lt = false_from_ne_true (eqb n 0) (λ e. omega (arith, eqb-true n 0 e, lt))

-- what is to be known of a line: it has no newline, its fields, that it is not skipped, and the item that it is
pub record IsLineOf (item : Item) : Type 0 where
  pub clean : Without is_newline (item_line item)
  pub kept : is_skipped (fields_of (item_line item)) ≡ false
  pub read : item_of (fields_of (item_line item)) ≡ Some item

pub line_of_item : (item : Item) → IsCarried item → IsLineOf item
line_of_item (Run p n) h =
    let fields = two_after (codes "run") p.0 n (omega arith) (refl, (refl, (refl, tt))) h.0 h.2 in
    record {
      clean = (refl, (refl, (refl, without-append is_newline (spaced p.0) (spaced n) (spaced_without p.0 h.0) (spaced_without n h.2))));
      kept = ap is_skipped fields;
      read = ap item_of fields ∙ rw (small-decimal p.0 h.0, small-decimal n h.2) (rw (not-zero n h.1) refl);
    }
line_of_item (Fork p c) h =
    let fields = two_after (codes "fork") p.0 c.0 (omega arith) (refl, (refl, (refl, (refl, tt)))) h.0 h.1 in
    record {
      clean = (refl, (refl, (refl, (refl, without-append is_newline (spaced p.0) (spaced c.0) (spaced_without p.0 h.0) (spaced_without c.0 h.1)))));
      kept = ap is_skipped fields;
      read = ap item_of fields ∙ rw (small-decimal p.0 h.0, small-decimal c.0 h.1) refl;
    }
line_of_item (Take p) h =
    let fields = one_after (codes "take") p.0 (omega arith) (refl, (refl, (refl, (refl, tt)))) h in
    record {
      clean = (refl, (refl, (refl, (refl, spaced_without p.0 h))));
      kept = ap is_skipped fields;
      read = ap item_of fields ∙ rw (small-decimal p.0 h) refl;
    }

-- ---- all lines

-- a line that is kept, its end, and what follows
kept_ended : (line more : List ℕ) → Without is_newline line → is_skipped (fields_of line) ≡ false → kept_lines (ended line ++ more) ≡ fields_of line ∷ kept_lines more
kept_ended line more clean kept =
    kept_first (ended line ++ more) line more (ap lines_of (append_assoc line (10 ∷ []) more) ∙ line_ended line more clean) kept

carried_first : (item : Item) (items : List Item) → All IsCarried (item ∷ items) → IsCarried item
carried_first item items h = h 0 item (omega arith)

carried_rest : (item : Item) (items : List Item) → All IsCarried (item ∷ items) → All IsCarried items
carried_rest item items h = λ k d lt. h (suc k) d (omega arith)

-- the fields of the lines of items
abbrev lines_of_items : List Item → List (List (List ℕ))
lines_of_items items = map (λ item. fields_of (item_line item)) items

kept_items : (items : List Item) → All IsCarried items → kept_lines (item_lines items) ≡ lines_of_items items
kept_items [] h = refl
kept_items (item ∷ items) h =
    let line = line_of_item item (carried_first item items h) in
    kept_ended (item_line item) (item_lines items) line.clean line.kept ∙ ap (λ (ls : List (List (List ℕ))). fields_of (item_line item) ∷ ls) (kept_items items (carried_rest item items h))

read_items : (items : List Item) (index : ℕ) → All IsCarried items → reading_from index (length items) (lines_of_items items) ≡ Ok items
read_items [] index h = refl
read_items (item ∷ items) index h =
    let line = line_of_item item (carried_first item items h) in
    rw line.read (ap (with_item index (Some item)) (read_items items (index + 1) (carried_rest item items h)))

pub read_back : (items : List Item) → All IsCarried items → length items < 2 ^ 32 → reading_of (items_text_of items) ≡ Ok items
read_back items h lt =
    let count = length items in
    let fields = one_after (codes "schedule") count (omega arith) (refl, (refl, (refl, (refl, (refl, (refl, (refl, (refl, tt)))))))) lt in
    let clean : Without is_newline (first_line_of count) = (refl, (refl, (refl, (refl, (refl, (refl, (refl, (refl, spaced_without count lt)))))))) in
    let told : count_of (fields_of (first_line_of count)) ≡ Some count = ap count_of fields ∙ small-decimal count lt in
    let kept : kept_lines (items_text_of items) ≡ fields_of (first_line_of count) ∷ lines_of_items items = kept_ended (first_line_of count) (item_lines items) clean (ap is_skipped fields) ∙ ap (λ (ls : List (List (List ℕ))). fields_of (first_line_of count) ∷ ls) (kept_items items h) in
    ap (λ (ls : List (List (List ℕ))). reading_after (header_of ls)) kept ∙ rw told (read_items items 0 h)
