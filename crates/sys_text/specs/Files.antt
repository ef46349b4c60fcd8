-- The file of an `elf` block, and the image that it gives.
use Rattle.std.specs.Prelude.{ℕ, ◌==◌, Bool, false, List, [], ◌∷◌, take, Option, Some, None, if◌then◌else◌}
use Rattle.byteorder.specs.Endian.{little_number}
use Rattle.rv_elf.specs.declared.refusal.Rule.{Rule as ElfRule}
use Rattle.rv_elf.specs.File.{entry}
use Rattle.rv_elf.specs.Loaded.{loaded}
use Rattle.rv_elf.specs.Rules.{breaks, broken}
use Rattle.sys_text.specs.declared.system.Image.{Image}
use Rattle.sys_text.specs.Boot.{bytes_of_words}

-- the file of so many bytes in these words, lowest byte first; what fills up the last word is no part of it
abbrev pub file_of : (size : ℕ) → List ℕ → List ℕ
file_of size words = take size (bytes_of_words words)

-- the words of bytes, four each, lowest byte first
abbrev pub words_of_bytes : List ℕ → List ℕ
words_of_bytes (a ∷ b ∷ c ∷ d ∷ rest) = little_number 4 (a ∷ b ∷ c ∷ d ∷ []) ∷ words_of_bytes rest
words_of_bytes bytes = []

-- a word before others of which the last is not zero
abbrev pub before_trimmed : ℕ → List ℕ → List ℕ
before_trimmed word [] = if word == 0 then [] else word ∷ []
before_trimmed word (next ∷ words) = word ∷ next ∷ words

-- words without the zeros at their end
abbrev pub trimmed : List ℕ → List ℕ
trimmed [] = []
trimmed (word ∷ words) = before_trimmed word (trimmed words)

-- what the file of so many bytes in these words gives to its image: the loaded memory of so many pages without the zero words at its end, and the entry
unfoldable pub words_loaded : (size : ℕ) → List ℕ → (pages : ℕ) → List ℕ
words_loaded size words pages = trimmed (words_of_bytes (loaded (file_of size words) pages))

unfoldable pub entry_loaded : (size : ℕ) → List ℕ → ℕ
entry_loaded size words = entry (file_of size words)

-- the image of a file
abbrev pub image_of_file : (size : ℕ) → Image → Image
image_of_file size image = record image { entry = entry_loaded size image.words; words = words_loaded size image.words image.pages }

-- the image that a block describes, where its words are those of a file of so many bytes, or its own
abbrev pub described : (file : Option ℕ) → Image → Image
described None image = image
described (Some size) image = image_of_file size image

-- the file breaks the rule
unfoldable pub breaks_in : (size : ℕ) → List ℕ → (pages : ℕ) → ElfRule → Bool
breaks_in size words pages rule = breaks (file_of size words) pages rule

-- the lowest rule that it breaks
unfoldable pub broken_in : (size : ℕ) → List ℕ → (pages : ℕ) → Option ElfRule
broken_in size words pages = broken (file_of size words) pages

-- the open block is that of a file, which breaks the rule
abbrev pub file_breaks : (file : Option ℕ) → Option Image → ElfRule → Bool
file_breaks None block rule = false
file_breaks (Some size) None rule = false
file_breaks (Some size) (Some image) rule = breaks_in size image.words image.pages rule
