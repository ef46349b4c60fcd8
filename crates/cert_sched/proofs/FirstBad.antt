-- What the reading says of a text: its items, or the first item that is bad.
use Rattle.std.proofs.Common.{ltb, ◌≡◌, ℕ, zero, suc, ◌+◌, ◌<◌, true, false, List, [], ◌∷◌, length, map, Option, Some, None, Result, Ok, Err, refl, sym, ap, ◌∙◌, arith, inl, inr}
use Rattle.std.specs.List.{slice_get}
use Rattle.std.specs.Prelude.{IfOk, IfErr}
use Rattle.std.specs.Option.{option_map, option_and_then}
use Rattle.std.proofs.lemmas.Bool.{cases_lt, lt-ltb, le-ltb}
use Rattle.plain_kernel.specs.declared.item.Item.{Item}
use Rattle.cert_sched.specs.declared.refusal.ItemsRefused.{ItemsRefused}
use Rattle.cert_sched.specs.declared.refusal.ItemsRefused.TheVariants.{BadItem, NoMemory}
use Rattle.cert_sched.specs.Lines.{kept_lines}
use Rattle.cert_sched.specs.ItemLine.{item_of, count_of}
use Rattle.cert_sched.specs.Reading.{HasItems, header_of, is_bad, is_bad_after, IsFirstBad, HasCause, with_item, reading_from, reading_after, reading_of, Answers}

-- ---- the items

pub record AllRead (left : ℕ) (lines : List (List (List ℕ))) (items : List Item) : Type 0 where
  pub count : left ≡ length items
  pub items_are : map item_of lines ≡ map Some items

item_then : (index left : ℕ) (line : List (List ℕ)) (lines : List (List (List ℕ))) (items : List Item) (o : Option Item) (r : Result (List Item) ℕ)
    → item_of line ≡ o → ((more : List Item) → r ≡ Ok more → AllRead left lines more) → with_item index o r ≡ Ok items → AllRead (suc left) (line ∷ lines) items
item_then index left line lines items None r is rest e = absurd cc
item_then index left line lines items (Some item) (Err bad) is rest e = absurd cc
item_then index left line lines [] (Some item) (Ok more) is rest e = absurd cc
item_then index left line lines (i ∷ items) (Some item) (Ok more) is rest e =
    let same : item ≡ i = cc in
    let same_rest : more ≡ items = cc in
    let all = rest more refl in
    record {
      count = ap suc (all.count ∙ ap length same_rest);
      items_are = rw (is, all.items_are, same, same_rest) refl;
    }

all_read : (index left : ℕ) (lines : List (List (List ℕ))) (items : List Item) → reading_from index left lines ≡ Ok items → AllRead left lines items
all_read index zero [] [] e = record { count = refl; items_are = refl }
all_read index zero [] (i ∷ items) e = absurd cc
all_read index zero (line ∷ lines) items e = absurd cc
all_read index (suc left) [] items e = absurd cc
all_read index (suc left) (line ∷ lines) items e =
    item_then index left line lines items (item_of line) (reading_from (index + 1) left lines) refl (λ more f. all_read (index + 1) left lines more f) e

has_items_under : (text : List ℕ) (items : List Item) (header : List (List ℕ)) (lines : List (List (List ℕ))) (o : Option ℕ) → kept_lines text ≡ header ∷ lines → count_of header ≡ o
    → reading_after (option_map (λ (count : ℕ). (count, lines)) o) ≡ Ok items → HasItems text items
has_items_under text items header lines None kept told e = absurd cc
has_items_under text items header lines (Some count) kept told e =
    let all = all_read 0 count lines items e in
    record { header = header; lines = lines; lines_are = kept; count = told ∙ ap Some all.count; items_are = all.items_are }

has_items_of : (text : List ℕ) (items : List Item) (lines : List (List (List ℕ))) → kept_lines text ≡ lines → reading_after (header_of lines) ≡ Ok items → HasItems text items
has_items_of text items [] kept e = absurd cc
has_items_of text items (header ∷ lines) kept e = has_items_under text items header lines (count_of header) kept refl e

pub has_items : (text : List ℕ) (items : List Item) → reading_of text ≡ Ok items → HasItems text items
has_items text items e = has_items_of text items (kept_lines text) refl e

-- ---- the first bad item

ltb-suc : (a b : ℕ) → ltb (suc a) (suc b) ≡ ltb a b
ltb-suc a b =
    elim (cases_lt a b) [
      | inl lt ↦ lt-ltb (suc a) (suc b) (omega arith) ∙ sym (lt-ltb a b lt)
      | inr le ↦ le-ltb (suc a) (suc b) (omega arith) ∙ sym (le-ltb a b le)
    ]

bad-suc : (left : ℕ) (line : List (List ℕ)) (lines : List (List (List ℕ))) (i : ℕ) → is_bad (suc left) (line ∷ lines) (suc i) ≡ is_bad left lines i
bad-suc left line lines i = rw (ltb-suc i left, ltb-suc i (length lines)) refl

bad-here : (left : ℕ) (lines : List (List (List ℕ))) → option_and_then item_of (slice_get lines 0) ≡ None → is_bad (suc left) lines 0 ≡ true
bad-here left lines e = rw (lt-ltb 0 (suc left) (omega arith), e) refl

good-here : (left : ℕ) (line : List (List ℕ)) (lines : List (List (List ℕ))) (item : Item) → item_of line ≡ Some item → is_bad (suc left) (line ∷ lines) 0 ≡ false
good-here left line lines item e = rw (lt-ltb 0 (suc left) (omega arith), e) refl

bad-further : (line : List (List ℕ)) (lines : List (List (List ℕ))) → is_bad 0 (line ∷ lines) 0 ≡ true
bad-further line lines = lt-ltb 0 (suc (length lines)) (omega arith)

-- the bad item is the first bad one of these lines, whose first has the index
pub record FirstAfter (index left : ℕ) (lines : List (List (List ℕ))) (bad : ℕ) : Type 0 where
  pub before : ℕ
  pub place : bad ≡ index + before
  pub is : is_bad left lines before ≡ true
  pub first : (i : ℕ) → i < before → is_bad left lines i ≡ false

at_once : (index left : ℕ) (lines : List (List (List ℕ))) (bad : ℕ) → bad ≡ index → is_bad left lines 0 ≡ true → FirstAfter index left lines bad
at_once index left lines bad same is = record { before = 0; place = omega arith; is = is; first = λ i lt. absurd (omega arith) }

later : (index left : ℕ) (line : List (List ℕ)) (lines : List (List (List ℕ))) (bad : ℕ) (item : Item) → item_of line ≡ Some item → FirstAfter (index + 1) left lines bad → FirstAfter index (suc left) (line ∷ lines) bad
later index left line lines bad item e rest = record {
  before = suc rest.before;
  place = omega (arith, rest.place);
  is = bad-suc left line lines rest.before ∙ rest.is;
  first = first_by;
}
  where
    first_by : (i : ℕ) → i < suc rest.before → is_bad (suc left) (line ∷ lines) i ≡ false
    first_by zero lt = good-here left line lines item e
    first_by (suc i) lt = bad-suc left line lines i ∙ rest.first i (omega arith)

bad_then : (index left : ℕ) (line : List (List ℕ)) (lines : List (List (List ℕ))) (bad : ℕ) (o : Option Item) (r : Result (List Item) ℕ)
    → item_of line ≡ o → (r ≡ Err bad → FirstAfter (index + 1) left lines bad) → with_item index o r ≡ Err bad → FirstAfter index (suc left) (line ∷ lines) bad
bad_then index left line lines bad None r is rest e = let same : bad ≡ index = cc in at_once index (suc left) (line ∷ lines) bad same (bad-here left (line ∷ lines) is)
bad_then index left line lines bad (Some item) (Ok more) is rest e = absurd cc
bad_then index left line lines bad (Some item) (Err b) is rest e = later index left line lines bad item is (rest e)

first_after : (index left : ℕ) (lines : List (List (List ℕ))) (bad : ℕ) → reading_from index left lines ≡ Err bad → FirstAfter index left lines bad
first_after index zero [] bad e = absurd cc
first_after index zero (line ∷ lines) bad e = let same : bad ≡ index = cc in at_once index 0 (line ∷ lines) bad same (bad-further line lines)
first_after index (suc left) [] bad e = let same : bad ≡ index = cc in at_once index (suc left) [] bad same (bad-here left [] refl)
first_after index (suc left) (line ∷ lines) bad e =
    bad_then index left line lines bad (item_of line) (reading_from (index + 1) left lines) refl (λ f. first_after (index + 1) left lines bad f) e

pub record FirstOf (header : Option (ℕ × List (List (List ℕ)))) (bad : ℕ) : Type 0 where
  pub is : is_bad_after header bad ≡ true
  pub first : (i : ℕ) → i < bad → is_bad_after header i ≡ false

first_of_header : (header : Option (ℕ × List (List (List ℕ)))) (bad : ℕ) → reading_after header ≡ Err bad → FirstOf header bad
first_of_header None bad e = let same : bad ≡ 0 = cc in record { is = refl; first = λ i lt. absurd (omega (arith, same)) }
first_of_header (Some header) bad e =
    let found = first_after 0 header.0 header.1 bad e in
    let same : bad ≡ found.before = omega (arith, found.place) in
    record { is = rw same found.is; first = λ i lt. found.first i (omega (arith, same)) }

pub first_bad : (text : List ℕ) (bad : ℕ) → reading_of text ≡ Err bad → IsFirstBad text bad
first_bad text bad e = let found = first_of_header (header_of (kept_lines text)) bad e in record { bad = found.is; first = found.first }

-- ---- an answer

pub items_from_answer : (text : List ℕ) (answer : Result (List Item) ItemsRefused) → Answers answer (reading_of text) → IfOk answer (HasItems text)
items_from_answer text (Ok items) e = has_items text items e
items_from_answer text (Err refused) e = tt

pub cause_from_answer : (text : List ℕ) (answer : Result (List Item) ItemsRefused) → Answers answer (reading_of text) → IfErr answer (HasCause text)
cause_from_answer text (Ok items) e = tt
cause_from_answer text (Err (BadItem index)) e = first_bad text index e
cause_from_answer text (Err NoMemory) e = tt
