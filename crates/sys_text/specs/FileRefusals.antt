-- The end of the block of a file: what is read from the file, and the rules that it breaks.
use Rattle.std.specs.Prelude.{◌≡◌, ℕ, ◌+◌, ◌≤◌}
use Rattle.std.specs.Option.{option_map}
use Rattle.rv_elf.specs.declared.refusal.ElfRefused.{ElfRefused}
use Rattle.rv_elf.specs.declared.refusal.ElfRefused.TheVariants as elf_refusals
use Rattle.sys_text.specs.declared.refusal.SystemRefused.{SystemRefused}
use Rattle.sys_text.specs.declared.refusal.SystemRefused.TheVariants as refusals
use Rattle.sys_text.specs.declared.state.Reader.{Reader}
use Rattle.sys_text.specs.Files.{described}

-- the number is that of a rule for files
abbrev pub IsOfFile : ElfRefused → Type 0
IsOfFile (elf_refusals.Rule rule) = rule ≤ 10
IsOfFile elf_refusals.NoMemory = Unit {0}

-- line n is refused by rule 10 + r, where its file is by rule r
abbrev pub RefusesFile : SystemRefused → (n : ℕ) → ElfRefused → Type 0
RefusesFile (refusals.BadLine line rule) n (elf_refusals.Rule elf_rule) = (line ≡ n) × (rule ≡ 10 + elf_rule)
RefusesFile (refusals.BadLine line rule) n elf_refusals.NoMemory = ⊥
RefusesFile refusals.NoMemory n refused = Unit {0}

-- the open block has the image of its file, where it is the block of one
abbrev pub with_file_loaded : Reader → Reader
with_file_loaded reader = record reader { state = record reader.state { block = option_map (described reader.state.file) reader.state.block } }
