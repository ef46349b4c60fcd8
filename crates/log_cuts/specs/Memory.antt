-- Whether an account is a memory.
use Rattle.std.specs.Prelude.{ℕ, ◌/◌, Bool, false, List, length}
use Rattle.std.specs.List.{list_all, range_with_len}
use Rattle.std.specs.Option.{option_map_or}
use Rattle.std.specs.Str.{bytes_eq}
use Rattle.t32_base.specs.Account.{page_in}
use Rattle.rv_mem.specs.Memory.{page_at}

-- page i of the memory is there as it is
abbrev pub is_put : List (ℕ × List ℕ) → List ℕ → ℕ → Bool
is_put pages bytes i = option_map_or (λ (page : List ℕ). bytes_eq page (page_at bytes i)) (page_in pages i) false

-- each page of the memory is
abbrev pub is_memory : List (ℕ × List ℕ) → List ℕ → Bool
is_memory pages bytes = list_all (is_put pages bytes) (range_with_len 0 (length bytes / 256))
