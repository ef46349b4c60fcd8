-- The numbers of letters.
use Rattle.std.specs.Prelude.{ℕ, ◌-◌, ◌==◌, Bool, false, if◌then◌else◌, List, [], ◌∷◌, map, slice_get}
use Rattle.std.specs.List.{range_with_len}
use Rattle.std.specs.Option.{option_map_or}
use Rattle.t32_base.specs.declared.letter.Arrived.{Arrived}

abbrev pub numbers_of : List Arrived → List ℕ
numbers_of letters = map (λ (a : Arrived). a.number) letters

-- from one number up to another
abbrev pub numbers_from : ℕ → ℕ → List ℕ
numbers_from first next = range_with_len first (next - first)

-- the number stands at this place
abbrev pub stands_at : List ℕ → ℕ → ℕ → Bool
stands_at numbers place n = option_map_or (λ m. m == n) (slice_get numbers place) false

-- numbers without others that stand among them in the same order
abbrev pub without : List ℕ → List ℕ → List ℕ
without [] ms = []
without (n ∷ ns) [] = n ∷ ns
without (n ∷ ns) (m ∷ ms) = if n == m then without ns ms else n ∷ without ns (m ∷ ms)
