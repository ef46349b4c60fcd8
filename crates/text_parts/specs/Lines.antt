-- The lines of a text and the fields of a line.
use Rattle.std.specs.Prelude.{ℕ, Bool, true, false, not, List, [], ◌∷◌, reverse, ◌==◌, nat_le, ◌&&◌, if◌then◌else◌}
use Rattle.std.specs.List.{onto_first, slice_split, filter, list_all}

abbrev pub is_newline : ℕ → Bool
is_newline b = b == 10

abbrev pub is_space : ℕ → Bool
is_space b = b == 32

-- a byte from 0x20 to 0x7E
abbrev pub is_printable : ℕ → Bool
is_printable b = nat_le 0x20 b && nat_le b 0x7E

abbrev pub are_printable : List ℕ → Bool
are_printable line = list_all is_printable line

abbrev pub is_empty : List ℕ → Bool
is_empty [] = true
is_empty (b ∷ bs) = false

-- the lines of a text: each ends with byte 0x0A, which the last one may lack
abbrev pub lines_of : List ℕ → List (List ℕ)
lines_of [] = []
lines_of (b ∷ bs) = if is_newline b then [] ∷ lines_of bs else onto_first b (lines_of bs)

-- the fields of a line: what stands between spaces, and is not empty
abbrev pub fields_of : List ℕ → List (List ℕ)
fields_of line = filter (λ part. not (is_empty part)) (slice_split is_space line)

-- what stands before the first byte that passes
abbrev pub before : (ℕ → Bool) → List ℕ → List ℕ
before p [] = []
before p (b ∷ bs) = if p b then [] else b ∷ before p bs

-- and from it on; nothing where none passes
abbrev pub from : (ℕ → Bool) → List ℕ → List ℕ
from p [] = []
from p (b ∷ bs) = if p b then b ∷ bs else from p bs

-- the text without spaces at its front
abbrev pub trim_start : List ℕ → List ℕ
trim_start text = from (λ b. not (is_space b)) text

-- the text without spaces at its end
abbrev pub trim_end : List ℕ → List ℕ
trim_end text = reverse (trim_start (reverse text))

abbrev pub trim : List ℕ → List ℕ
trim text = trim_end (trim_start text)
