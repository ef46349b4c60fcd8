-- The fields of an ELF32 file, by their places (System V ABI, chapter 4, "ELF Header"; chapter 5, "Program Header").
use Rattle.std.specs.Prelude.{ℕ, zero, suc, ◌+◌, ◌*◌, List, [], ◌∷◌, ◌++◌, drop, get_or}
use Rattle.byteorder.specs.Endian.{little_number}
use Rattle.rv_elf.specs.declared.headers.Header.{Header}

abbrev pub byte : List ℕ → ℕ → ℕ
byte file at = get_or file at 0

-- the number in the two bytes at a place, lowest first
abbrev pub half : List ℕ → ℕ → ℕ
half file at = little_number 2 (drop at file)

-- the number in the four bytes at a place, lowest first
abbrev pub word : List ℕ → ℕ → ℕ
word file at = little_number 4 (drop at file)

-- ---- the file header

-- e_ident begins with 7F 45 4C 46
abbrev pub magic : List ℕ → ℕ
magic file = word file 0

-- EI_CLASS and EI_DATA
abbrev pub class : List ℕ → ℕ
class file = byte file 4

abbrev pub order : List ℕ → ℕ
order file = byte file 5

-- e_type, e_machine, e_entry, e_phoff, e_flags, e_phentsize and e_phnum
abbrev pub type_of : List ℕ → ℕ
type_of file = half file 16

abbrev pub machine : List ℕ → ℕ
machine file = half file 18

abbrev pub entry : List ℕ → ℕ
entry file = word file 24

abbrev pub table : List ℕ → ℕ
table file = word file 28

abbrev pub flags : List ℕ → ℕ
flags file = word file 36

abbrev pub row_size : List ℕ → ℕ
row_size file = half file 42

abbrev pub count : List ℕ → ℕ
count file = half file 44

-- ---- the program headers

-- p_type, p_offset, p_vaddr, p_filesz and p_memsz of the header at a place
abbrev pub header_at : List ℕ → ℕ → Header
header_at file at = record {
  kind = word file at;
  offset = word file (at + 4);
  address = word file (at + 8);
  file_size = word file (at + 16);
  memory_size = word file (at + 20);
}

-- the first so many headers of the table at a place
abbrev pub headers_to : List ℕ → (table count : ℕ) → List Header
headers_to file table zero = []
headers_to file table (suc n) = headers_to file table n ++ header_at file (table + 32 * n) ∷ []

-- the headers of a file
abbrev pub headers : List ℕ → List Header
headers file = headers_to file (table file) (count file)
