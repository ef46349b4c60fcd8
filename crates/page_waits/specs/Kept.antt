-- A process that waits for its pages, as its code keeps it: a memory for all pages, where its record has a state, and a mark for each that has come.
use Rattle.std.specs.Prelude.{ℕ, ◌≡◌, ◌+◌, ◌*◌, ◌≤◌, Bool, true, false, not, if◌then◌else◌, List, [], ◌∷◌, length, replicate, count_by, take, drop, Option, Some, None, is_some, option_map, slice_set}
use Rattle.std.specs.Option.{option_map_or}
use Rattle.t32_base.specs.declared.letter.BackRec.{BackRec}
use Rattle.rv_mem.specs.Memory.{Memory, with_bytes}
use Rattle.page_waits.specs.Waiting.{page_count}

-- the bytes of a memory, and the marks of its dirty pages: none where there is no memory
abbrev pub bytes_in : Option Memory → List ℕ
bytes_in ram = option_map_or (λ (m : Memory). m.bytes) ram []

abbrev pub dirty_in : Option Memory → List Bool
dirty_in ram = option_map_or (λ (m : Memory). m.dirty) ram []

-- the memory with a page put in its place, which is not dirty then
abbrev pub with_page_in : ℕ → List ℕ → Option Memory → Option Memory
with_page_in i page ram = option_map (λ (m : Memory). record { bytes = with_bytes m.bytes (65536 + 256 * i) page; dirty = slice_set m.dirty i false }) ram

-- the pages of the memory, each where its mark is set
abbrev pub pages_come : List Bool → List ℕ → List (Option (List ℕ))
pages_come [] bytes = []
pages_come (mark ∷ marks) bytes = (if mark then Some (take 256 bytes) else None) ∷ pages_come marks (drop 256 bytes)

-- how many pages have not come
abbrev pub missing : List Bool → ℕ
missing marks = count_by not marks

-- There is a memory exactly where the record has a state, and then a page at least. There is a mark for each page of the record and of the memory, none of which is dirty; so many lack as have no mark; and no more were asked for than there are.
pub record IsKept (kept : BackRec) (ram : Option Memory) (marks : List Bool) (lacking asked : ℕ) : Type 0 where
  pub stated : is_some ram ≡ is_some kept.state
  pub some : is_some ram ≡ true → 1 ≤ length marks
  pub at_most : length marks ≤ 256
  pub pages : page_count kept ≡ length marks
  pub size : length (bytes_in ram) ≡ 256 * length marks
  pub clean : dirty_in ram ≡ replicate (length marks) false
  pub unmarked : lacking ≡ missing marks
  pub within : asked ≤ length marks
