-- The keys by which the processes of a placement are found.
use Rattle.std.specs.Prelude.{◌≡◌, ℕ, List, map, nat_eq}
use Rattle.std.specs.List.{IsDistinct}
use Rattle.std.specs.Map.{keys_of, values_of}
use Rattle.bus_msg.specs.declared.placed.Placed.{Placed}

abbrev pub number_of : Placed → ℕ
number_of q = (q.pid).0

-- each entry's key is the number of its process
abbrev pub IsKeyed : List (ℕ × Placed) → Type 0
IsKeyed es = keys_of es ≡ map number_of (values_of es)

-- and no two entries have one key
pub record IsTable (es : List (ℕ × Placed)) : Type 0 where
  pub keyed : IsKeyed es
  pub distinct : IsDistinct nat_eq (keys_of es)
