-- The rules for a file, each by itself.
use Rattle.std.specs.Prelude.{ℕ, ◌+◌, ◌*◌, ◌%◌, Bool, false, not, ◌&&◌, ◌||◌, ◌==◌, nat_le, nat_lt, List, [], ◌∷◌, ◌++◌, length, Option}
use Rattle.std.specs.List.{find, list_any}
use Rattle.rv_elf.specs.declared.headers.Header.{Header}
use Rattle.rv_elf.specs.declared.refusal.Rule.{Rule}
use Rattle.rv_elf.specs.declared.refusal.Rule.TheVariants.{NoElf, Class, Machine, Compressed, Table, Dynamic, FileBytes, Outside, Overlap, Entry}
use Rattle.rv_elf.specs.File.{magic, class, order, type_of, machine, entry, flags, table, row_size, count, headers}
use Rattle.rv_elf.specs.Loaded.{is_segment}

-- PT_DYNAMIC and PT_INTERP
abbrev pub is_dynamic : Header → Bool
is_dynamic header = header.kind == 2 || header.kind == 3

-- the bytes of a segment are no more than its memory, and each is in a file of so many bytes
abbrev pub lies_in_file : (size : ℕ) → Header → Bool
lies_in_file size header =
    nat_le header.file_size header.memory_size && (header.file_size == 0 || nat_le (header.offset + header.file_size) size)

-- so many bytes from an address on lie in a memory of so many pages
abbrev pub lies_within : (pages address size : ℕ) → Bool
lies_within pages address size = nat_le 0x10000 address && nat_le (address + size) (0x10000 + 256 * pages)

-- the memory of a segment is memory of the process; that of no bytes is
abbrev pub lies_in_memory : (pages : ℕ) → Header → Bool
lies_in_memory pages header = header.memory_size == 0 || lies_within pages header.address header.memory_size

-- some address is one of both segments
abbrev pub share : Header → Header → Bool
share a b =
    is_segment a && is_segment b && not (a.memory_size == 0) && not (b.memory_size == 0)
    && nat_lt a.address (b.address + b.memory_size) && nat_lt b.address (a.address + a.memory_size)

-- two of the segments share an address
abbrev pub overlap : List Header → Bool
overlap [] = false
overlap (header ∷ headers) = list_any (share header) headers || overlap headers

-- a segment breaks a rule for each
abbrev pub goes_beyond : (size : ℕ) → Header → Bool
goes_beyond size header = is_segment header && not (lies_in_file size header)

abbrev pub goes_outside : (pages : ℕ) → Header → Bool
goes_outside pages header = is_segment header && not (lies_in_memory pages header)

-- the headers of a file of so many bytes break a rule
abbrev pub break_as : (size pages : ℕ) → List Header → Rule → Bool
break_as size pages headers Dynamic = list_any is_dynamic headers
break_as size pages headers FileBytes = list_any (goes_beyond size) headers
break_as size pages headers Outside = list_any (goes_outside pages) headers
break_as size pages headers Overlap = overlap headers
break_as size pages headers rule = false

-- the table of the headers is not in the file, or has rows of another size
abbrev pub lacks_table : List ℕ → Bool
lacks_table file = not (count file == 0) && (not (row_size file == 32) || nat_lt (length file) (table file + 32 * count file))

-- the file breaks a rule
abbrev pub breaks : List ℕ → (pages : ℕ) → Rule → Bool
breaks file pages NoElf = nat_lt (length file) 52 || not (magic file == 0x464c457f)
breaks file pages Class = not (class file == 1) || not (order file == 1)
breaks file pages Machine = not (type_of file == 2) || not (machine file == 243)
breaks file pages Compressed = not (flags file % 2 == 0)
breaks file pages Table = lacks_table file
breaks file pages Entry = not (entry file % 4 == 0) || not (lies_within pages (entry file) 4)
breaks file pages rule = break_as (length file) pages (headers file) rule

-- the rules from the lowest on: of the file header, of each program header, and the last two
abbrev pub front_rules : List Rule
front_rules = NoElf ∷ Class ∷ Machine ∷ Compressed ∷ Table ∷ []

abbrev pub header_rules : List Rule
header_rules = Dynamic ∷ FileBytes ∷ Outside ∷ []

abbrev pub late_rules : List Rule
late_rules = header_rules ++ Overlap ∷ Entry ∷ []

abbrev pub rules : List Rule
rules = front_rules ++ late_rules

-- the lowest rule that the file breaks
abbrev pub broken : List ℕ → (pages : ℕ) → Option Rule
broken file pages = find (breaks file pages) rules
