-- The letters that a backup saves for a process until a synchronisation says which of them it has read.
use Rattle.std.specs.Prelude.{ℕ, Bool, not, ◌==◌, List, [], ◌∷◌, ◌++◌, filter}
use Rattle.std.specs.List.{list_any}
use Rattle.t32_base.specs.declared.letter.Arrived.{Arrived}
use Rattle.t32_base.specs.declared.letter.Letter.{Letter}

-- the saved letters and, last, one more with its arrival number
abbrev pub saved_with : List Arrived → Letter → ℕ → List Arrived
saved_with saved letter number = saved ++ record { number = number; letter = letter } ∷ []

-- its arrival number is none of those that were read
abbrev pub is_unread : List ℕ → Arrived → Bool
is_unread read arrived = not (list_any (λ number. number == arrived.number) read)

-- the saved letters that were not read, in their order
abbrev pub unread : List ℕ → List Arrived → List Arrived
unread read saved = filter (is_unread read) saved
