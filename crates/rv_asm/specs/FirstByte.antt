-- The first byte of a name.
use Rattle.std.specs.Prelude.{ℕ, List, [], ◌∷◌}

-- 0 where there is none
abbrev pub first_byte : List ℕ → ℕ
first_byte [] = 0
first_byte (b ∷ bs) = b
