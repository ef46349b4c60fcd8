-- The numbers of letters that wait.
use Rattle.std.specs.Prelude.{ℕ, Bool, true, nat_lt, ◌&&◌, List, [], ◌∷◌}
use Rattle.std.specs.List.{list_all}
use Rattle.t32_base.specs.declared.letter.Arrived.{Arrived}

-- each letter has a number below n
abbrev pub are_below : ℕ → List Arrived → Bool
are_below n letters = list_all (λ (a : Arrived). nat_lt a.number n) letters

-- each has a number above n
abbrev pub are_above : ℕ → List Arrived → Bool
are_above n letters = list_all (λ (a : Arrived). nat_lt n a.number) letters

-- their numbers rise
abbrev pub are_in_order : List Arrived → Bool
are_in_order [] = true
are_in_order (a ∷ rest) = are_above a.number rest && are_in_order rest

-- their numbers rise, and are below the next one
abbrev pub are_numbered : ℕ → List Arrived → Bool
are_numbered next letters = are_in_order letters && are_below next letters
