-- The names of the registers.
use Rattle.std.specs.Prelude.{ℕ, ◌+◌, ◌/◌, ◌%◌, List, [], ◌∷◌, codes, Option, nat_lt, if◌then◌else◌}
use Rattle.text_parts.specs.Table.{lookup}

infix 20 ◌is◌
abbrev ◌is◌ : List ℕ → ℕ → List ℕ × ℕ
name is number = (name, number)

-- the names of x0 to x31 by their use, and these themselves
abbrev pub registers : List (List ℕ × ℕ)
registers =
    (codes "a0" is 10) ∷ (codes "a1" is 11) ∷ (codes "a2" is 12) ∷ (codes "a3" is 13) ∷ (codes "a4" is 14) ∷
    (codes "a5" is 15) ∷ (codes "a6" is 16) ∷ (codes "a7" is 17) ∷ (codes "t0" is 5) ∷ (codes "t1" is 6) ∷
    (codes "t2" is 7) ∷ (codes "t3" is 28) ∷ (codes "t4" is 29) ∷ (codes "t5" is 30) ∷ (codes "t6" is 31) ∷
    (codes "zero" is 0) ∷ (codes "sp" is 2) ∷ (codes "ra" is 1) ∷ (codes "s0" is 8) ∷ (codes "s1" is 9) ∷
    (codes "s2" is 18) ∷ (codes "s3" is 19) ∷ (codes "s4" is 20) ∷ (codes "s5" is 21) ∷ (codes "s6" is 22) ∷
    (codes "s7" is 23) ∷ (codes "s8" is 24) ∷ (codes "s9" is 25) ∷ (codes "s10" is 26) ∷ (codes "s11" is 27) ∷
    (codes "fp" is 8) ∷ (codes "gp" is 3) ∷ (codes "tp" is 4) ∷ (codes "x0" is 0) ∷ (codes "x1" is 1) ∷
    (codes "x2" is 2) ∷ (codes "x3" is 3) ∷ (codes "x4" is 4) ∷ (codes "x5" is 5) ∷ (codes "x6" is 6) ∷
    (codes "x7" is 7) ∷ (codes "x8" is 8) ∷ (codes "x9" is 9) ∷ (codes "x10" is 10) ∷ (codes "x11" is 11) ∷
    (codes "x12" is 12) ∷ (codes "x13" is 13) ∷ (codes "x14" is 14) ∷ (codes "x15" is 15) ∷ (codes "x16" is 16) ∷
    (codes "x17" is 17) ∷ (codes "x18" is 18) ∷ (codes "x19" is 19) ∷ (codes "x20" is 20) ∷ (codes "x21" is 21) ∷
    (codes "x22" is 22) ∷ (codes "x23" is 23) ∷ (codes "x24" is 24) ∷ (codes "x25" is 25) ∷ (codes "x26" is 26) ∷
    (codes "x27" is 27) ∷ (codes "x28" is 28) ∷ (codes "x29" is 29) ∷ (codes "x30" is 30) ∷ (codes "x31" is 31) ∷ []

-- the number of the register of this name
abbrev pub register_of : List ℕ → Option ℕ
register_of name = lookup registers name

-- the digits of a number below 100
abbrev pub numeral : ℕ → List ℕ
numeral n = if nat_lt n 10 then (48 + n) ∷ [] else (48 + n / 10) ∷ (48 + n % 10) ∷ []
