-- What the loader answers.
use Rattle.std.specs.Prelude.{◌≡◌, ℕ, ◌<◌, ◌+◌, ◌-◌, ◌*◌, true, false, List, length, get_or, slice_get, Option, Some, None, Result, Ok, Err}
use Rattle.rv_elf.specs.declared.headers.Header.{Header}
use Rattle.rv_elf.specs.declared.loading.Loaded.{Loaded}
use Rattle.rv_elf.specs.declared.refusal.ElfRefused.{ElfRefused}
use Rattle.rv_elf.specs.declared.refusal.ElfRefused.TheVariants as refusals
use Rattle.rv_elf.specs.declared.refusal.Rule.{Rule}
use Rattle.rv_elf.specs.Refusal.{number_of_rule}
use Rattle.rv_elf.specs.File.{headers, entry}
use Rattle.rv_elf.specs.Loaded.{loaded, is_segment, gives}
use Rattle.rv_elf.specs.Rules.{breaks, broken}

-- the number is that of a rule that was found; nothing is said of want of memory
abbrev pub Refuses : ElfRefused → Option Rule → Type 0
Refuses (refusals.Rule number) found = (rule : Rule) × (found ≡ Some rule) × (number ≡ number_of_rule rule)
Refuses refusals.NoMemory found = Unit {0}

-- the memory and the entry of the file where no rule was found, or the number of the one that was
abbrev pub AnswersBy : List ℕ → (pages : ℕ) → Option Rule → Result Loaded ElfRefused → Type 0
AnswersBy file pages found (Ok image) = (found ≡ None) × (image ≡ record { bytes = loaded file pages; entry = entry file })
AnswersBy file pages found (Err refused) = Refuses refused found

-- the same of the lowest rule that the file breaks
abbrev pub Answers : List ℕ → (pages : ℕ) → Result Loaded ElfRefused → Type 0
Answers file pages result = AnswersBy file pages (broken file pages) result

-- what is refused is a rule that the file breaks, and no lower one
abbrev pub HasCause : List ℕ → (pages : ℕ) → ElfRefused → Type 0
HasCause file pages (refusals.Rule number) =
    (rule : Rule) × (number ≡ number_of_rule rule) × (breaks file pages rule ≡ true)
    × ((lower : Rule) → number_of_rule lower < number_of_rule rule → breaks file pages lower ≡ false)
HasCause file pages refusals.NoMemory = Unit {0}

-- No rule is broken, each segment has the file's bytes in memory, and every other byte is 0.
pub record IsImageOf (file : List ℕ) (pages : ℕ) (image : Loaded) : Type 0 where
  pub kept : (rule : Rule) → breaks file pages rule ≡ false
  pub size : length image.bytes ≡ 256 * pages
  pub segments : (j : ℕ) (header : Header) (i : ℕ) → slice_get (headers file) j ≡ Some header → is_segment header ≡ true
      → i < header.file_size → get_or image.bytes (header.address - 0x10000 + i) 0 ≡ get_or file (header.offset + i) 0
  pub zeros : (k : ℕ) → k < 256 * pages
      → ((j : ℕ) (header : Header) → slice_get (headers file) j ≡ Some header → gives header (0x10000 + k) ≡ false)
      → get_or image.bytes k 0 ≡ 0
  pub entry_is : image.entry ≡ entry file
