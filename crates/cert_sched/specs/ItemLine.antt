-- The lines of a schedule section: the first one, and those of the items.
use Rattle.std.specs.Prelude.{ℕ, ◌^◌, ◌==◌, nat_lt, if◌then◌else◌, List, [], ◌∷◌, codes, Option, Some, None, option_and_then}
use Rattle.std.specs.Option.{option_map}
use Rattle.std.specs.Str.{bytes_eq}
use Rattle.text_parts.specs.Numbers.{number_of}
use Rattle.t32_base.specs.declared.process.Pid.{Pid}
use Rattle.plain_kernel.specs.declared.item.Item.{Item}
use Rattle.plain_kernel.specs.declared.item.Item.TheVariants.{Run, Fork, Take}

-- a number, as it is where it is below 2^32
abbrev pub if_small : ℕ → Option ℕ
if_small n = if nat_lt n (2 ^ 32) then Some n else None

-- a field that is a number below 2^32
abbrev pub small_number : List ℕ → Option ℕ
small_number field = option_and_then if_small (number_of field)

-- one such field and no other
abbrev pub one_number : List (List ℕ) → Option ℕ
one_number [] = None
one_number (a ∷ []) = small_number a
one_number (a ∷ b ∷ more) = None

abbrev pub both : Option ℕ → Option ℕ → Option (ℕ × ℕ)
both None b = None
both (Some a) b = option_map (λ b. (a, b)) b

-- two such fields and no other
abbrev pub two_numbers : List (List ℕ) → Option (ℕ × ℕ)
two_numbers [] = None
two_numbers (a ∷ []) = None
two_numbers (a ∷ b ∷ []) = both (small_number a) (small_number b)
two_numbers (a ∷ b ∷ c ∷ more) = None

abbrev pub pid_of : ℕ → Pid
pid_of p = record { 0 = p }

-- a run has at least one step
abbrev pub run_of : ℕ × ℕ → Option Item
run_of n = if n.1 == 0 then None else Some (Run (pid_of n.0) n.1)

abbrev pub fork_of : ℕ × ℕ → Item
fork_of n = Fork (pid_of n.0) (pid_of n.1)

abbrev pub take_of : ℕ → Item
take_of p = Take (pid_of p)

-- the item that a line with these fields is: `run P N`, `fork P C` or `take P`
abbrev pub item_of : List (List ℕ) → Option Item
item_of [] = None
item_of (word ∷ fields) =
    if bytes_eq word (codes "run") then option_and_then run_of (two_numbers fields)
    else if bytes_eq word (codes "fork") then option_map fork_of (two_numbers fields)
    else if bytes_eq word (codes "take") then option_map take_of (one_number fields)
    else None

-- the number of items that the first line tells: `schedule N`
abbrev pub count_of : List (List ℕ) → Option ℕ
count_of [] = None
count_of (word ∷ fields) = if bytes_eq word (codes "schedule") then one_number fields else None
