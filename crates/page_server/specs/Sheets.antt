-- How a disk in memory keeps its pages: eight slots that are 16777216 apart, each from the one before it, lie in one row, and
-- a sheet has the rows of 64 neighbours.
use Rattle.std.specs.Prelude.{ℕ, ◌+◌, ◌*◌, ◌/◌, ◌%◌, List, [], get_or, Option, None, Some}
use Rattle.std.specs.BTreeMap.{BTreeMap, get}
use Rattle.std.specs.Ordering.{nat_cmp}
use Rattle.page_server.specs.Disk.{Slots}

-- the pages of a row
abbrev pub in_row : List (Option (List ℕ)) → Slots
in_row row at = get_or row at None

abbrev pub Rows : Type 0
Rows = List (List (Option (List ℕ)))

-- the pages of a sheet
abbrev pub lying : Rows → Slots
lying rows at = in_row (get_or rows (at / 8) []) (at % 8)

abbrev pub in_sheet : Option Rows → Slots
in_sheet None = λ _. None
in_sheet (Some rows) = lying rows

-- the sheet of a slot, and its place there
abbrev pub sheet_of : ℕ → ℕ
sheet_of slot = slot % 16777216 / 64

abbrev pub place_of : ℕ → ℕ
place_of slot = (slot / 134217728 * 64 + slot % 64) * 8 + slot / 16777216 % 8

-- the pages of a disk, by slot
abbrev pub pages_of : BTreeMap ℕ Rows → Slots
pages_of sheets slot = in_sheet (get nat_cmp sheets (sheet_of slot)) (place_of slot)
