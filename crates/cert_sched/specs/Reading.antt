-- The items of a schedule section, or the first of them that cannot be read.
use Rattle.std.specs.Prelude.{◌≡◌, ℕ, zero, suc, ◌+◌, ◌<◌, Bool, true, false, nat_lt, if◌then◌else◌, List, [], ◌∷◌, length, map, slice_get, Option, Some, None, option_and_then, Result, Ok, Err}
use Rattle.std.specs.Option.{option_map, is_none}
use Rattle.plain_kernel.specs.declared.item.Item.{Item}
use Rattle.cert_sched.specs.declared.refusal.ItemsRefused.{ItemsRefused}
use Rattle.cert_sched.specs.declared.refusal.ItemsRefused.TheVariants.{BadItem, NoMemory}
use Rattle.cert_sched.specs.Lines.{kept_lines}
use Rattle.cert_sched.specs.ItemLine.{item_of, count_of}

-- ---- which items the text has

-- The first line tells how many items there are, and each line after it is one of them.
pub record HasItems (text : List ℕ) (items : List Item) : Type 0 where
  pub header : List (List ℕ)
  pub lines : List (List (List ℕ))
  pub lines_are : kept_lines text ≡ header ∷ lines
  pub count : count_of header ≡ Some (length items)
  pub items_are : map item_of lines ≡ map Some items

-- ---- which item is refused

-- the number of items that the first line tells, and the lines after it
abbrev pub header_of : List (List (List ℕ)) → Option (ℕ × List (List (List ℕ)))
header_of [] = None
header_of (header ∷ lines) = option_map (λ count. (count, lines)) (count_of header)

-- an item of so many is bad where its line is malformed or missing, and one more where a line stands there
abbrev pub is_bad : ℕ → List (List (List ℕ)) → ℕ → Bool
is_bad count lines index = if nat_lt index count then is_none (option_and_then item_of (slice_get lines index)) else nat_lt index (length lines)

-- where the first line is malformed or missing, every item is bad
abbrev pub is_bad_after : Option (ℕ × List (List (List ℕ))) → ℕ → Bool
is_bad_after None index = true
is_bad_after (Some header) index = is_bad header.0 header.1 index

abbrev pub is_bad_item : List ℕ → ℕ → Bool
is_bad_item text index = is_bad_after (header_of (kept_lines text)) index

-- the refused item is the first bad one
pub record IsFirstBad (text : List ℕ) (index : ℕ) : Type 0 where
  pub bad : is_bad_item text index ≡ true
  pub first : (before : ℕ) → before < index → is_bad_item text before ≡ false

abbrev pub HasCause : List ℕ → ItemsRefused → Type 0
HasCause text (BadItem index) = IsFirstBad text index
HasCause text NoMemory = Unit {0}

-- ---- the same answer, computed

-- an item before those that were read, or the bad one with this index
abbrev pub with_item : ℕ → Option Item → Result (List Item) ℕ → Result (List Item) ℕ
with_item index None rest = Err index
with_item index (Some item) (Ok items) = Ok (item ∷ items)
with_item index (Some item) (Err bad) = Err bad

-- the item of the first line, and the lines after it
abbrev pub next_item : List (List (List ℕ)) → Option (Item × List (List (List ℕ)))
next_item [] = None
next_item (line ∷ lines) = option_map (λ item. (item, lines)) (item_of line)

-- so many items in these lines, where the first has this index
abbrev pub reading_from : ℕ → ℕ → List (List (List ℕ)) → Result (List Item) ℕ
reading_from index zero [] = Ok []
reading_from index zero (line ∷ lines) = Err index
reading_from index (suc left) [] = Err index
reading_from index (suc left) (line ∷ lines) = with_item index (item_of line) (reading_from (index + 1) left lines)

abbrev pub reading_after : Option (ℕ × List (List (List ℕ))) → Result (List Item) ℕ
reading_after None = Err 0
reading_after (Some header) = reading_from 0 header.0 header.1

-- the items of a text, or the index of the first bad one
abbrev pub reading_of : List ℕ → Result (List Item) ℕ
reading_of text = reading_after (header_of (kept_lines text))

-- an answer is that reading; nothing is said of want of memory
abbrev pub Answers : Result (List Item) ItemsRefused → Result (List Item) ℕ → Type 0
Answers (Ok items) reading = reading ≡ Ok items
Answers (Err (BadItem index)) reading = reading ≡ Err index
Answers (Err NoMemory) reading = Unit {0}
