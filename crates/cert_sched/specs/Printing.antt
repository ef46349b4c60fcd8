-- Items as a schedule section.
use Rattle.std.specs.Prelude.{ℕ, ◌^◌, ◌<◌, List, [], ◌∷◌, ◌++◌, length, codes}
use Rattle.std.specs.List.{flat_map}
use Rattle.std.specs.Fmt.{decimal}
use Rattle.plain_kernel.specs.declared.item.Item.{Item}
use Rattle.plain_kernel.specs.declared.item.Item.TheVariants.{Run, Fork, Take}

-- a space and a number
abbrev pub spaced : ℕ → List ℕ
spaced n = 32 ∷ decimal n

-- the line of an item, without its end
abbrev pub item_line : Item → List ℕ
item_line (Run p n) = codes "run" ++ spaced p.0 ++ spaced n
item_line (Fork p c) = codes "fork" ++ spaced p.0 ++ spaced c.0
item_line (Take p) = codes "take" ++ spaced p.0

-- a line and its end
abbrev pub ended : List ℕ → List ℕ
ended line = line ++ 10 ∷ []

abbrev pub item_lines : List Item → List ℕ
item_lines items = flat_map (λ item. ended (item_line item)) items

abbrev pub first_line_of : ℕ → List ℕ
first_line_of count = codes "schedule" ++ spaced count

-- the number of items, and a line for each
abbrev pub items_text_of : List Item → List ℕ
items_text_of items = ended (first_line_of (length items)) ++ item_lines items

-- an item that a schedule section can carry: its numbers are below 2^32, and a run has at least one step
abbrev pub IsCarried : Item → Type 0
IsCarried (Run p n) = (p.0 < 2 ^ 32) × (0 < n) × (n < 2 ^ 32)
IsCarried (Fork p c) = (p.0 < 2 ^ 32) × (c.0 < 2 ^ 32)
IsCarried (Take p) = p.0 < 2 ^ 32
