-- The key of a word from one number, for the decoder's one jump.
use Rattle.std.specs.Prelude.{ℕ, ◌+◌, ◌-◌, ◌*◌, ◌/◌, ◌%◌, ◌^◌}
use Rattle.rv_insn.specs.Word.{bits, funct7}
use Rattle.rv_insn.specs.Table.{Key}

-- 32 bits with the lowest two at the top
abbrev pub turned : ℕ → ℕ
turned n = n / 2 ^ 2 + n % 2 ^ 2 * 2 ^ 30

-- the 32 bits of a word less three, which end in two zeros where the word ends in two ones
abbrev pub less_three : ℕ → ℕ
less_three word = (word + (2 ^ 32 - 3)) % 2 ^ 32

-- of these: the upper five bits of the opcode, above them funct3, and, far above, the lowest two bits
abbrev pub number_of : ℕ → ℕ
number_of word = bits (less_three word) 6 2 + bits (less_three word) 14 12 * 32 + bits (less_three word) 1 0 * 2 ^ 25

-- the key by this number: from 256 on it is that of no row
abbrev pub key_at : ℕ → ℕ → Key
key_at number word = record { opcode = number % 32 * 4 + 3 + number / 256 * 128; funct3 = number / 32; funct7 = funct7 word; word = word }
