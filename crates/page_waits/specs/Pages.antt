-- The pages of a process, of which some have come.
use Rattle.std.specs.Prelude.{ℕ, ◌≡◌, ◌*◌, ◌<◌, List, [], ◌∷◌, ◌++◌, length, slice_get, Option, Some, None}
use Rattle.rv_mem.specs.Memory.{page_at}

-- the pages one after the other: the memory that they make where all have come
abbrev pub memory_of : List (Option (List ℕ)) → List ℕ
memory_of [] = []
memory_of (None ∷ pages) = memory_of pages
memory_of (Some page ∷ pages) = page ++ memory_of pages

-- each page of this memory has come
pub record AreAllPages (memory : List ℕ) (come : List (Option (List ℕ))) : Type 0 where
  pub size : length memory ≡ 256 * length come
  pub each : (i : ℕ) → i < length come → slice_get come i ≡ Some (Some (page_at memory i))
