-- What bytes are kept: short ones at the start of a place for them, longer ones shared.
use Rattle.std.specs.Prelude.{ℕ, ◌≤◌, List, take, ⊤}
use Rattle.std.specs.Arc.{arc_slice_items}
use Rattle.t32_base.specs.declared.shared_bytes.Kept.{Kept}
use Rattle.t32_base.specs.declared.shared_bytes.Kept.TheVariants.{Short, Long}

abbrev pub bytes_kept : Kept → List ℕ
bytes_kept (Short len bytes) = take len bytes
bytes_kept (Long shared) = arc_slice_items shared

-- what stands in place has room there
abbrev pub IsKept : Kept → Type 0
IsKept (Short len bytes) = len ≤ 14
IsKept (Long shared) = ⊤
