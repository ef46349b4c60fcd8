-- The memory that a file describes (System V ABI, chapter 5, "Program Loading").
use Rattle.std.specs.Prelude.{ℕ, ◌+◌, ◌-◌, ◌*◌, Bool, ◌&&◌, ◌==◌, nat_le, nat_lt, List, [], ◌∷◌, map, get_or, if◌then◌else◌}
use Rattle.std.specs.List.{range_with_len}
use Rattle.rv_elf.specs.declared.headers.Header.{Header}
use Rattle.rv_elf.specs.File.{headers}

-- a segment is loaded: PT_LOAD
abbrev pub is_segment : Header → Bool
is_segment header = header.kind == 1

-- an address is one of size from the first on
abbrev pub is_among : (first size address : ℕ) → Bool
is_among first size address = nat_le first address && nat_lt address (first + size)

-- the file has the byte of the segment at an address
abbrev pub gives : Header → ℕ → Bool
gives header address = is_segment header && is_among header.address header.file_size address

-- the byte at an address: that of the file where a segment has one there, and 0 everywhere else
abbrev pub byte_at : List ℕ → List Header → ℕ → ℕ
byte_at file [] address = 0
byte_at file (header ∷ headers) address =
    if gives header address then get_or file (header.offset + address - header.address) 0 else byte_at file headers address

-- a memory of so many bytes, from 0x10000 on
abbrev pub memory_of : List ℕ → List Header → (size : ℕ) → List ℕ
memory_of file headers size = map (λ k. byte_at file headers (0x10000 + k)) (range_with_len 0 size)

-- the memory of so many pages
abbrev pub loaded : List ℕ → (pages : ℕ) → List ℕ
loaded file pages = memory_of file (headers file) (256 * pages)
