use Rattle.std.proofs.Common.{◌≡◌, ◌+◌, ◌-◌, ◌*◌, ◌/◌, ◌%◌, ◌^◌, ◌<◌, ◌≤◌, ◌∙◌, ℕ, false, None, eqb, sym, ap, refl, inl, inr, arith}
use Rattle.std.proofs.lemmas.Bool.{ne_eqb}
use Rattle.std.proofs.lemmas.Bool.Decides.{eqb_tells}
use Rattle.rv_insn.specs.Word.{bits, opcode, funct3, funct7}
use Rattle.rv_insn.specs.Table.{decoded, picked}
use Rattle.rv_insn.specs.Keys.{key_at, number_of, less_three}
use Rattle.rv_insn.proofs.row_of.Goals as goal

-- the number of a word that ends in two ones gives its key
picks : (word number : ℕ) → number ≡ bits word 6 2 + bits word 14 12 * 32 → bits word 1 0 ≡ 3 → picked (key_at number word) word ≡ decoded word
picks word number is ones =
    let op : number % 32 * 4 + 3 + number / 256 * 128 ≡ opcode word = omega arith in
    let f3 : number / 32 ≡ funct3 word = omega arith in
    ap (λ (k : ℕ). picked (record { opcode = k; funct3 = number / 32; funct7 = funct7 word; word = word }) word) op
    ∙ ap (λ (k : ℕ). picked (record { opcode = opcode word; funct3 = k; funct7 = funct7 word; word = word }) word) f3

-- no row takes an opcode that is none of seven bits which end in two ones
no_row : (op f3 f7 word : ℕ) → ((n : ℕ) → n < 128 → n % 4 ≡ 3 → eqb op n ≡ false) → ((n : ℕ) → n % 4 ≡ 3 → eqb word n ≡ false) → picked (record { opcode = op; funct3 = f3; funct7 = f7; word = word }) word ≡ None
no_row op f3 f7 word other not_this =
    rw (
      other 0x37 (omega arith) refl,
      other 0x17 (omega arith) refl,
      other 0x6f (omega arith) refl,
      other 0x67 (omega arith) refl,
      other 0x63 (omega arith) refl,
      other 0x03 (omega arith) refl,
      other 0x23 (omega arith) refl,
      other 0x13 (omega arith) refl,
      other 0x33 (omega arith) refl,
      other 0x0f (omega arith) refl,
      not_this 0x00000073 refl,
      not_this 0x00100073 refl,
    ) refl

-- the number of any other word is that of no row
none_picked : (word number : ℕ) → 256 ≤ number → (bits word 1 0 ≡ 3 → ⊥) → picked (key_at number word) word ≡ decoded word
none_picked word number large other =
    no_row (number % 32 * 4 + 3 + number / 256 * 128) (number / 32) (funct7 word) word (λ n below ones. ne_eqb _ n (λ same. absurd (omega arith))) (λ n ones. ne_eqb word n (λ same. other (omega arith)))
    ∙ sym (no_row (opcode word) (funct3 word) (funct7 word) word (λ n below ones. ne_eqb (opcode word) n (λ same. other (omega arith))) (λ n ones. ne_eqb word n (λ same. other (omega arith))))

-- less three, a word that ends in two ones has the same bits above them, and any other does not end in two zeros
same_number : (word : ℕ) → bits word 1 0 ≡ 3 → number_of word ≡ bits word 6 2 + bits word 14 12 * 32
same_number word ones = let less : less_three word % 2 ^ 15 ≡ word % 2 ^ 15 - 3 = omega arith in omega arith

large_number : (word : ℕ) → word < 2 ^ 32 → (bits word 1 0 ≡ 3 → ⊥) → 256 ≤ number_of word
large_number word fits other = omega arith

number_picks : (word : ℕ) → word < 2 ^ 32 → picked (key_at (number_of word) word) word ≡ decoded word
number_picks word fits =
    elim (eqb_tells (bits word 1 0) 3) [
      | inl ones ↦ picks word (number_of word) (same_number word ones.1) ones.1
      | inr other ↦ none_picked word (number_of word) (large_number word fits other.1) other.1
    ]

-- the bits of the turned number
turned_number : (word turned low middle high : ℕ) → turned ≡ less_three word / 2 ^ 2 + less_three word % 2 ^ 2 * 2 ^ 30 → low ≡ bits turned 4 0 → middle ≡ bits turned 12 10 → high ≡ bits turned 31 30 → low + (middle * 32 + high * 2 ^ 25) ≡ number_of word
turned_number word turned low middle high is l m h = omega arith

pub returns : goal.returns
returns c =
    let same = turned_number c.args.word c.turned-turned.result c.bits-3.result c.bits.result c.bits-2.result c.turned-turned.ensures c.bits-3.ensures.value c.bits.ensures.value c.bits-2.ensures.value in
    c.row_at.ensures ∙ ap (λ n. picked (key_at n c.args.word) c.args.word) same ∙ number_picks c.args.word c.ranges.word.fits
