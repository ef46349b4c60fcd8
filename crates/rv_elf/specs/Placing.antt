-- What the loader keeps as it places the segments, the last first.
use Rattle.std.specs.Prelude.{ℕ, ◌≡◌, ◌≤◌, ◌<◌, ◌+◌, Bool, true, false, ◌&&◌, List, length, get_or, slice_get, Some}
use Rattle.std.specs.List.{list_any}
use Rattle.rv_elf.specs.declared.headers.Header.{Header}
use Rattle.rv_elf.specs.Loaded.{is_segment, is_among, byte_at}

-- an address is one of a segment
abbrev pub takes : ℕ → Header → Bool
takes address header = is_segment header && is_among header.address header.memory_size address

-- each mark says whether one of the segments has its address
abbrev pub Marks : List Bool → List Header → Type 0
Marks taken headers = (k : ℕ) → k < length taken → get_or taken k false ≡ list_any (takes (0x10000 + k)) headers

-- each byte is the one that the segments put there
abbrev pub Holds : List ℕ → List ℕ → List Header → Type 0
Holds bytes file headers = (k : ℕ) → k < length bytes → get_or bytes k 0 ≡ byte_at file headers (0x10000 + k)

-- some mark of a part is set
pub record IsTaken (taken : List Bool) (first end : ℕ) : Type 0 where
  pub place : ℕ
  pub from : first ≤ place
  pub below : place < end
  pub marked : get_or taken place false ≡ true

-- no mark of a part is set
abbrev pub IsFree : List Bool → (first end : ℕ) → Type 0
IsFree taken first end = (k : ℕ) → first ≤ k → k < end → get_or taken k false ≡ false

-- a segment keeps the rules on its bytes in a file of so many bytes, and lies in a memory of so many
pub record IsSound (file_length memory_length : ℕ) (header : Header) : Type 0 where
  pub bytes : header.file_size ≤ header.memory_size
  pub there : 0 < header.file_size → header.offset + header.file_size ≤ file_length
  pub from : 0 < header.memory_size → 0x10000 ≤ header.address
  pub upto : 0 < header.memory_size → header.address + header.memory_size ≤ 0x10000 + memory_length

-- each segment of these headers does
abbrev pub AreSound : (file_length memory_length : ℕ) → List Header → Type 0
AreSound file_length memory_length headers =
    (i : ℕ) (header : Header) → slice_get headers i ≡ Some header → is_segment header ≡ true → IsSound file_length memory_length header
