-- Sets of pages of a process: numbers below 256, a bit for each, in words of 64.
use Rattle.std.specs.Prelude.{ℕ, ◌/◌, ◌%◌, ◌==◌, nat_lt, Bool, List, slice_index}
use Rattle.std.specs.Int.{bit_at}

-- a process has at most so many pages
abbrev pub is_page_no : ℕ → Bool
is_page_no i = nat_lt i 256

-- the page is in the set
abbrev pub has_page : List ℕ → ℕ → Bool
has_page pages i = bit_at (slice_index pages (i / 64)) (i % 64) == 1
