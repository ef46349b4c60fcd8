-- The word of an instruction is read back as that instruction: the fields of a packed word, then format by format.
use Rattle.std.proofs.Common.{◌≡◌, ℕ, ◌+◌, ◌*◌, ◌%◌, ◌^◌, ◌<◌, ℤ, pos, Some, inl, inr, refl, ap, ap₂, ◌∙◌, arith, w32}
use Rattle.std.specs.Int.{cast_unsigned}
use Rattle.std.proofs.lemmas.Int.{ints}
use Rattle.std.proofs.lemmas.Nat.{pow_pos, mod_below}
use Rattle.std.proofs.lemmas.Bool.{cases_lt, lt-ltb, le-ltb}
use Rattle.rv_insn.specs.declared.Insn.{Insn}
use Rattle.rv_insn.specs.declared.Insn.TheVariants.{Lui, Auipc, Jal, Jalr, Beq, Bne, Blt, Bge, Bltu, Bgeu, Lb, Lh, Lw, Lbu, Lhu, Sb, Sh, Sw, Addi, Slti, Sltiu, Xori, Ori, Andi, Slli, Srli, Srai, Add, Sub, Sll, Slt, Sltu, Xor, Srl, Sra, Or, And, Fence, Ecall, Ebreak}
use Rattle.rv_insn.specs.Word.{bits, sign_extended, opcode, rd, funct3, rs1, rs2, funct7, imm_i, imm_s, imm_b, imm_u, imm_j, shamt}
use Rattle.rv_insn.specs.Table.{picked, decoded}
use Rattle.rv_insn.specs.Encoding.{IsEncodable, IsRegister, IsSigned, IsEven, IsUpper, IsR, IsI, IsS, IsB, IsShifted, packed, low, word_r, word_i, word_s, word_b, word_u, word_j, word_shift, encoded}
use Rattle.rv_insn.proofs.Fields.{bits_below}

-- the low bits of a signed number, their sign extended, are that number
back_12 : (imm : ℤ) → IsSigned 12 imm → sign_extended 12 (low 12 imm) ≡ imm
back_12 imm h =
    elim (cases_lt (low 12 imm) 2048) [
      | inl l ↦ (let e = lt-ltb (low 12 imm) 2048 l in rw e (omega (arith, ints)))
      | inr l ↦ (let e = le-ltb (low 12 imm) 2048 l in rw e (omega (arith, ints)))
    ]

back_13 : (imm : ℤ) → IsSigned 13 imm → sign_extended 13 (low 13 imm) ≡ imm
back_13 imm h =
    elim (cases_lt (low 13 imm) 4096) [
      | inl l ↦ (let e = lt-ltb (low 13 imm) 4096 l in rw e (omega (arith, ints)))
      | inr l ↦ (let e = le-ltb (low 13 imm) 4096 l in rw e (omega (arith, ints)))
    ]

back_21 : (imm : ℤ) → IsSigned 21 imm → sign_extended 21 (low 21 imm) ≡ imm
back_21 imm h =
    elim (cases_lt (low 21 imm) 1048576) [
      | inl l ↦ (let e = lt-ltb (low 21 imm) 1048576 l in rw e (omega (arith, ints)))
      | inr l ↦ (let e = le-ltb (low 21 imm) 1048576 l in rw e (omega (arith, ints)))
    ]

back_32 : (imm : ℤ) → IsSigned 32 imm → sign_extended 32 (low 32 imm) ≡ imm
back_32 imm h =
    elim (cases_lt (low 32 imm) 2147483648) [
      | inl l ↦ (let e = lt-ltb (low 32 imm) 2147483648 l in rw e (omega (arith, ints)))
      | inr l ↦ (let e = le-ltb (low 32 imm) 2147483648 l in rw e (omega (arith, ints)))
    ]

-- the fields of a packed word
record Packed (word op d f3 s1 s2 f7 : ℕ) : Type 0 where
  op_is : opcode word ≡ op
  d_is : rd word ≡ d
  f3_is : funct3 word ≡ f3
  s1_is : rs1 word ≡ s1
  s2_is : rs2 word ≡ s2
  f7_is : funct7 word ≡ f7

is_packed : (op d f3 s1 s2 f7 : ℕ) → op < 128 → d < 32 → f3 < 8 → s1 < 32 → s2 < 32 → f7 < 128 → Packed (packed op d f3 s1 s2 f7) op d f3 s1 s2 f7
is_packed op d f3 s1 s2 f7 o h f g k q = record {
  op_is = omega arith;
  d_is = omega arith;
  f3_is = omega arith;
  s1_is = omega arith;
  s2_is = omega arith;
  f7_is = omega arith;
}

-- the instruction of a word whose opcode, funct3 and funct7 are known
by_all : (word op f3 f7 : ℕ) → opcode word ≡ op → funct3 word ≡ f3 → funct7 word ≡ f7 → decoded word ≡ picked (record { opcode = op; funct3 = f3; funct7 = f7; word = word }) word
by_all word op f3 f7 o f g =
    ap (λ (k : ℕ). picked (record { opcode = k; funct3 = funct3 word; funct7 = funct7 word; word = word }) word) o
    ∙ ap (λ (k : ℕ). picked (record { opcode = op; funct3 = k; funct7 = funct7 word; word = word }) word) f
    ∙ ap (λ (k : ℕ). picked (record { opcode = op; funct3 = f3; funct7 = k; word = word }) word) g

by_row : (word op f3 : ℕ) → opcode word ≡ op → funct3 word ≡ f3 → decoded word ≡ picked (record { opcode = op; funct3 = f3; funct7 = funct7 word; word = word }) word
by_row word op f3 o f = by_all word op f3 (funct7 word) o f refl

by_opcode : (word op : ℕ) → opcode word ≡ op → decoded word ≡ picked (record { opcode = op; funct3 = funct3 word; funct7 = funct7 word; word = word }) word
by_opcode word op o = by_all word op (funct3 word) (funct7 word) o refl refl

same_3 : {A B C : Type 0} (make : A → B → C → Insn) (a a' : A) (b b' : B) (c c' : C) → a ≡ a' → b ≡ b' → c ≡ c' → Some (make a b c) ≡ Some (make a' b' c')
same_3 make a a' b b' c c' p q r = cc

same_2 : {A B : Type 0} (make : A → B → Insn) (a a' : A) (b b' : B) → a ≡ a' → b ≡ b' → Some (make a b) ≡ Some (make a' b')
same_2 make a a' b b' p q = cc

-- the immediates of each format, from the parts that the word has of their low bits
low_below : (size : ℕ) (imm : ℤ) → low size imm < 2 ^ size
low_below size imm = mod_below (cast_unsigned w32 imm) (2 ^ size) (pow_pos size)

joined_i : (op d f3 s1 n : ℕ) → op < 128 → d < 32 → f3 < 8 → s1 < 32 → n < 4096 → bits (packed op d f3 s1 (bits n 4 0) (bits n 11 5)) 31 20 ≡ n
joined_i op d f3 s1 n o h f g k = omega arith

joined_s : (op f3 s1 s2 n : ℕ) → op < 128 → f3 < 8 → s1 < 32 → s2 < 32 → n < 4096 → bits (packed op (bits n 4 0) f3 s1 s2 (bits n 11 5)) 31 25 * 2 ^ 5 + bits (packed op (bits n 4 0) f3 s1 s2 (bits n 11 5)) 11 7 ≡ n
joined_s op f3 s1 s2 n o f g h k =
    let p = is_packed op (bits n 4 0) f3 s1 s2 (bits n 11 5) o (bits_below n 4 0) f g h (bits_below n 11 5) in
    ap₂ (λ (a b : ℕ). a * 2 ^ 5 + b) p.f7_is p.d_is ∙ omega arith

-- the parts of a branch's immediate, from rd and funct7
parts_b : (word n : ℕ) → n < 8192 → n % 2 ≡ 0 → rd word ≡ bits n 4 1 * 2 + bits n 11 11 → funct7 word ≡ bits n 12 12 * 2 ^ 6 + bits n 10 5 → bits word 31 31 * 2 ^ 12 + bits word 7 7 * 2 ^ 11 + bits word 30 25 * 2 ^ 5 + bits word 11 8 * 2 ≡ n
parts_b word n k e d f =
    let top : bits word 31 31 ≡ bits n 12 12 = omega arith in
    let middle : bits word 30 25 ≡ bits n 10 5 = omega arith in
    let first : bits word 7 7 ≡ bits n 11 11 = omega arith in
    let rest : bits word 11 8 ≡ bits n 4 1 = omega arith in
    omega arith

joined_u : (op d n : ℕ) → op < 128 → d < 32 → n < 4294967296 → n % 4096 ≡ 0 → bits (op + d * 2 ^ 7 + bits n 31 12 * 2 ^ 12) 31 12 * 2 ^ 12 ≡ n
joined_u op d n o h k e = omega arith

-- the word of a jump, its parts as plain numbers
module _ (op d a b c s : ℕ) (o : op < 128) (h : d < 32) (a_fits : a < 256) (b_fits : b < 2) (c_fits : c < 1024) (s_fits : s < 2) where
  abbrev word_of_parts : ℕ
  word_of_parts = op + d * 2 ^ 7 + a * 2 ^ 12 + b * 2 ^ 20 + c * 2 ^ 21 + s * 2 ^ 31

  jump_op : opcode word_of_parts ≡ op
  jump_op = omega arith

  jump_d : rd word_of_parts ≡ d
  jump_d = omega arith

  jump_imm : bits word_of_parts 31 31 * 2 ^ 20 + bits word_of_parts 19 12 * 2 ^ 12 + bits word_of_parts 20 20 * 2 ^ 11 + bits word_of_parts 30 21 * 2 ≡ s * 2 ^ 20 + a * 2 ^ 12 + b * 2 ^ 11 + c * 2
  jump_imm = omega arith

joined_j : (n : ℕ) → n < 2097152 → n % 2 ≡ 0 → bits n 20 20 * 2 ^ 20 + bits n 19 12 * 2 ^ 12 + bits n 11 11 * 2 ^ 11 + bits n 10 1 * 2 ≡ n
joined_j n k e = omega arith

-- format by format, where the table makes of such a word what `make` makes of its fields
back_r : (op f3 f7 d s1 s2 : ℕ) (make : ℕ → ℕ → ℕ → Insn) → op < 128 → f3 < 8 → f7 < 128 → IsR d s1 s2 → ((w : ℕ) → picked (record { opcode = op; funct3 = f3; funct7 = f7; word = w }) w ≡ Some (make (rd w) (rs1 w) (rs2 w))) → decoded (word_r op f3 f7 d s1 s2) ≡ Some (make d s1 s2)
back_r op f3 f7 d s1 s2 make o f g h row =
    let w : ℕ = word_r op f3 f7 d s1 s2 in
    let p = is_packed op d f3 s1 s2 f7 o h.0 f h.1 h.2 g in
    by_all w op f3 f7 p.op_is p.f3_is p.f7_is ∙ row w ∙ same_3 make (rd w) d (rs1 w) s1 (rs2 w) s2 p.d_is p.s1_is p.s2_is

back_shift : (op f3 f7 d s1 : ℕ) (imm : ℤ) (make : ℕ → ℕ → ℤ → Insn) → op < 128 → f3 < 8 → f7 < 128 → IsShifted d s1 imm → ((w : ℕ) → picked (record { opcode = op; funct3 = f3; funct7 = f7; word = w }) w ≡ Some (make (rd w) (rs1 w) (shamt w))) → decoded (word_shift op f3 f7 d s1 imm) ≡ Some (make d s1 imm)
back_shift op f3 f7 d s1 imm make o f g h row =
    let w : ℕ = word_shift op f3 f7 d s1 imm in
    let p = is_packed op d f3 s1 (low 5 imm) f7 o h.0 f h.1 (low_below 5 imm) g in
    let same : pos (low 5 imm) ≡ imm = (let least = h.2.0 in let most = h.2.1 in omega (arith, ints)) in
    by_all w op f3 f7 p.op_is p.f3_is p.f7_is ∙ row w ∙ same_3 make (rd w) d (rs1 w) s1 (shamt w) imm p.d_is p.s1_is (ap pos p.s2_is ∙ same)

back_i : (op f3 d s1 : ℕ) (imm : ℤ) (make : ℕ → ℕ → ℤ → Insn) → op < 128 → f3 < 8 → IsI d s1 imm → ((w : ℕ) → picked (record { opcode = op; funct3 = f3; funct7 = funct7 w; word = w }) w ≡ Some (make (rd w) (rs1 w) (imm_i w))) → decoded (word_i op f3 d s1 imm) ≡ Some (make d s1 imm)
back_i op f3 d s1 imm make o f h row =
    let w : ℕ = word_i op f3 d s1 imm in
    let n : ℕ = low 12 imm in
    let p = is_packed op d f3 s1 (bits n 4 0) (bits n 11 5) o h.0 f h.1 (bits_below n 4 0) (bits_below n 11 5) in
    let same = ap (sign_extended 12) (joined_i op d f3 s1 n o h.0 f h.1 (low_below 12 imm)) ∙ back_12 imm h.2 in
    by_row w op f3 p.op_is p.f3_is ∙ row w ∙ same_3 make (rd w) d (rs1 w) s1 (imm_i w) imm p.d_is p.s1_is same

back_s : (op f3 s1 s2 : ℕ) (imm : ℤ) (make : ℕ → ℕ → ℤ → Insn) → op < 128 → f3 < 8 → IsS s1 s2 imm → ((w : ℕ) → picked (record { opcode = op; funct3 = f3; funct7 = funct7 w; word = w }) w ≡ Some (make (rs1 w) (rs2 w) (imm_s w))) → decoded (word_s op f3 s1 s2 imm) ≡ Some (make s1 s2 imm)
back_s op f3 s1 s2 imm make o f h row =
    let w : ℕ = word_s op f3 s1 s2 imm in
    let n : ℕ = low 12 imm in
    let p = is_packed op (bits n 4 0) f3 s1 s2 (bits n 11 5) o (bits_below n 4 0) f h.0 h.1 (bits_below n 11 5) in
    let same = ap (sign_extended 12) (joined_s op f3 s1 s2 n o f h.0 h.1 (low_below 12 imm)) ∙ back_12 imm h.2 in
    by_row w op f3 p.op_is p.f3_is ∙ row w ∙ same_3 make (rs1 w) s1 (rs2 w) s2 (imm_s w) imm p.s1_is p.s2_is same

back_b : (op f3 s1 s2 : ℕ) (imm : ℤ) (make : ℕ → ℕ → ℤ → Insn) → op < 128 → f3 < 8 → IsB s1 s2 imm → ((w : ℕ) → picked (record { opcode = op; funct3 = f3; funct7 = funct7 w; word = w }) w ≡ Some (make (rs1 w) (rs2 w) (imm_b w))) → decoded (word_b op f3 s1 s2 imm) ≡ Some (make s1 s2 imm)
back_b op f3 s1 s2 imm make o f h row =
    let w : ℕ = word_b op f3 s1 s2 imm in
    let n : ℕ = low 13 imm in
    let d_fits : bits n 4 1 * 2 + bits n 11 11 < 32 = omega (arith, bits_below n 4 1, bits_below n 11 11) in
    let f7_fits : bits n 12 12 * 2 ^ 6 + bits n 10 5 < 128 = omega (arith, bits_below n 12 12, bits_below n 10 5) in
    let p = is_packed op (bits n 4 1 * 2 + bits n 11 11) f3 s1 s2 (bits n 12 12 * 2 ^ 6 + bits n 10 5) o d_fits f h.0 h.1 f7_fits in
    let even : n % 2 ≡ 0 = (let e = h.2.1 in omega arith) in
    let same = ap (sign_extended 13) (parts_b w n (low_below 13 imm) even p.d_is p.f7_is) ∙ back_13 imm h.2.0 in
    by_row w op f3 p.op_is p.f3_is ∙ row w ∙ same_3 make (rs1 w) s1 (rs2 w) s2 (imm_b w) imm p.s1_is p.s2_is same

back_u : (op d : ℕ) (imm : ℤ) (make : ℕ → ℤ → Insn) → op < 128 → IsRegister d → IsUpper imm → ((w : ℕ) → picked (record { opcode = op; funct3 = funct3 w; funct7 = funct7 w; word = w }) w ≡ Some (make (rd w) (imm_u w))) → decoded (word_u op d imm) ≡ Some (make d imm)
back_u op d imm make o h upper row =
    let w : ℕ = word_u op d imm in
    let n : ℕ = low 32 imm in
    let op_is : opcode w ≡ op = omega arith in
    let d_is : rd w ≡ d = omega arith in
    let whole : n % 4096 ≡ 0 = (let e = upper.1 in omega arith) in
    let same = ap (sign_extended 32) (joined_u op d n o h (low_below 32 imm) whole) ∙ back_32 imm upper.0 in
    by_opcode w op op_is ∙ row w ∙ same_2 make (rd w) d (imm_u w) imm d_is same

back_j : (op d : ℕ) (imm : ℤ) (make : ℕ → ℤ → Insn) → op < 128 → IsRegister d → IsEven 21 imm → ((w : ℕ) → picked (record { opcode = op; funct3 = funct3 w; funct7 = funct7 w; word = w }) w ≡ Some (make (rd w) (imm_j w))) → decoded (word_j op d imm) ≡ Some (make d imm)
back_j op d imm make o h even row =
    let w : ℕ = word_j op d imm in
    let n : ℕ = low 21 imm in
    let a = bits_below n 19 12 in
    let b = bits_below n 11 11 in
    let c = bits_below n 10 1 in
    let s = bits_below n 20 20 in
    let op_is : opcode w ≡ op = jump_op op d (bits n 19 12) (bits n 11 11) (bits n 10 1) (bits n 20 20) o h a b c s in
    let d_is : rd w ≡ d = jump_d op d (bits n 19 12) (bits n 11 11) (bits n 10 1) (bits n 20 20) o h a b c s in
    let whole : n % 2 ≡ 0 = (let e = even.1 in omega arith) in
    let same = ap (sign_extended 21) (jump_imm op d (bits n 19 12) (bits n 11 11) (bits n 10 1) (bits n 20 20) o h a b c s ∙ joined_j n (low_below 21 imm) whole) ∙ back_21 imm even.0 in
    by_opcode w op op_is ∙ row w ∙ same_2 make (rd w) d (imm_j w) imm d_is same

pub reads_back : (i : Insn) → IsEncodable i → decoded (encoded i) ≡ Some i
reads_back (Lui d imm) h = back_u 0x37 d imm Lui (omega arith) h.0 h.1 (λ w. refl)
reads_back (Auipc d imm) h = back_u 0x17 d imm Auipc (omega arith) h.0 h.1 (λ w. refl)
reads_back (Jal d imm) h = back_j 0x6f d imm Jal (omega arith) h.0 h.1 (λ w. refl)
reads_back (Jalr d s1 imm) h = back_i 0x67 0 d s1 imm Jalr (omega arith) (omega arith) h (λ w. refl)
reads_back (Beq s1 s2 imm) h = back_b 0x63 0 s1 s2 imm Beq (omega arith) (omega arith) h (λ w. refl)
reads_back (Bne s1 s2 imm) h = back_b 0x63 1 s1 s2 imm Bne (omega arith) (omega arith) h (λ w. refl)
reads_back (Blt s1 s2 imm) h = back_b 0x63 4 s1 s2 imm Blt (omega arith) (omega arith) h (λ w. refl)
reads_back (Bge s1 s2 imm) h = back_b 0x63 5 s1 s2 imm Bge (omega arith) (omega arith) h (λ w. refl)
reads_back (Bltu s1 s2 imm) h = back_b 0x63 6 s1 s2 imm Bltu (omega arith) (omega arith) h (λ w. refl)
reads_back (Bgeu s1 s2 imm) h = back_b 0x63 7 s1 s2 imm Bgeu (omega arith) (omega arith) h (λ w. refl)
reads_back (Lb d s1 imm) h = back_i 0x03 0 d s1 imm Lb (omega arith) (omega arith) h (λ w. refl)
reads_back (Lh d s1 imm) h = back_i 0x03 1 d s1 imm Lh (omega arith) (omega arith) h (λ w. refl)
reads_back (Lw d s1 imm) h = back_i 0x03 2 d s1 imm Lw (omega arith) (omega arith) h (λ w. refl)
reads_back (Lbu d s1 imm) h = back_i 0x03 4 d s1 imm Lbu (omega arith) (omega arith) h (λ w. refl)
reads_back (Lhu d s1 imm) h = back_i 0x03 5 d s1 imm Lhu (omega arith) (omega arith) h (λ w. refl)
reads_back (Sb s1 s2 imm) h = back_s 0x23 0 s1 s2 imm Sb (omega arith) (omega arith) h (λ w. refl)
reads_back (Sh s1 s2 imm) h = back_s 0x23 1 s1 s2 imm Sh (omega arith) (omega arith) h (λ w. refl)
reads_back (Sw s1 s2 imm) h = back_s 0x23 2 s1 s2 imm Sw (omega arith) (omega arith) h (λ w. refl)
reads_back (Addi d s1 imm) h = back_i 0x13 0 d s1 imm Addi (omega arith) (omega arith) h (λ w. refl)
reads_back (Slti d s1 imm) h = back_i 0x13 2 d s1 imm Slti (omega arith) (omega arith) h (λ w. refl)
reads_back (Sltiu d s1 imm) h = back_i 0x13 3 d s1 imm Sltiu (omega arith) (omega arith) h (λ w. refl)
reads_back (Xori d s1 imm) h = back_i 0x13 4 d s1 imm Xori (omega arith) (omega arith) h (λ w. refl)
reads_back (Ori d s1 imm) h = back_i 0x13 6 d s1 imm Ori (omega arith) (omega arith) h (λ w. refl)
reads_back (Andi d s1 imm) h = back_i 0x13 7 d s1 imm Andi (omega arith) (omega arith) h (λ w. refl)
reads_back (Slli d s1 imm) h = back_shift 0x13 1 0x00 d s1 imm Slli (omega arith) (omega arith) (omega arith) h (λ w. refl)
reads_back (Srli d s1 imm) h = back_shift 0x13 5 0x00 d s1 imm Srli (omega arith) (omega arith) (omega arith) h (λ w. refl)
reads_back (Srai d s1 imm) h = back_shift 0x13 5 0x20 d s1 imm Srai (omega arith) (omega arith) (omega arith) h (λ w. refl)
reads_back (Add d s1 s2) h = back_r 0x33 0 0x00 d s1 s2 Add (omega arith) (omega arith) (omega arith) h (λ w. refl)
reads_back (Sub d s1 s2) h = back_r 0x33 0 0x20 d s1 s2 Sub (omega arith) (omega arith) (omega arith) h (λ w. refl)
reads_back (Sll d s1 s2) h = back_r 0x33 1 0x00 d s1 s2 Sll (omega arith) (omega arith) (omega arith) h (λ w. refl)
reads_back (Slt d s1 s2) h = back_r 0x33 2 0x00 d s1 s2 Slt (omega arith) (omega arith) (omega arith) h (λ w. refl)
reads_back (Sltu d s1 s2) h = back_r 0x33 3 0x00 d s1 s2 Sltu (omega arith) (omega arith) (omega arith) h (λ w. refl)
reads_back (Xor d s1 s2) h = back_r 0x33 4 0x00 d s1 s2 Xor (omega arith) (omega arith) (omega arith) h (λ w. refl)
reads_back (Srl d s1 s2) h = back_r 0x33 5 0x00 d s1 s2 Srl (omega arith) (omega arith) (omega arith) h (λ w. refl)
reads_back (Sra d s1 s2) h = back_r 0x33 5 0x20 d s1 s2 Sra (omega arith) (omega arith) (omega arith) h (λ w. refl)
reads_back (Or d s1 s2) h = back_r 0x33 6 0x00 d s1 s2 Or (omega arith) (omega arith) (omega arith) h (λ w. refl)
reads_back (And d s1 s2) h = back_r 0x33 7 0x00 d s1 s2 And (omega arith) (omega arith) (omega arith) h (λ w. refl)
reads_back Fence h = refl
reads_back Ecall h = refl
reads_back Ebreak h = refl
