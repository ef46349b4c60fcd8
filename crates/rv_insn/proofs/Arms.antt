-- What an arm of the decoder makes is what the table makes.
use Rattle.std.proofs.Common.{◌≡◌, ◌∙◌, ℕ, ◌+◌, ◌*◌, ◌^◌, ℤ, Some, FitsSigned, sym, ap, w32, to_z, of_z, arith}
use Rattle.std.proofs.lemmas.Int.{to_z-of_z}
use Rattle.rv_insn.specs.declared.Insn.{Insn}
use Rattle.rv_insn.specs.Word.{bits, rd, rs1, rs2, imm_i, imm_s, imm_b}
use Rattle.rv_insn.specs.Table.{picked}
use Rattle.rv_insn.specs.Keys.{key_at}
use Rattle.rv_insn.proofs.Fields.{bits_below, sign_extended_fits}

-- the immediates are numbers of 32 bits
imm_i_fits : (word : ℕ) → FitsSigned w32 (imm_i word)
imm_i_fits word = sign_extended_fits 12 (bits word 31 20) 20 (omega arith) (omega arith) (bits_below word 31 20)

imm_s_fits : (word : ℕ) → FitsSigned w32 (imm_s word)
imm_s_fits word = sign_extended_fits 12 (bits word 31 25 * 2 ^ 5 + bits word 11 7) 20 (omega arith) (omega arith) (omega (arith, bits_below word 31 25, bits_below word 11 7))

imm_b_fits : (word : ℕ) → FitsSigned w32 (imm_b word)
imm_b_fits word =
    sign_extended_fits 13 (bits word 31 31 * 2 ^ 12 + bits word 7 7 * 2 ^ 11 + bits word 30 25 * 2 ^ 5 + bits word 11 8 * 2) 19 (omega arith) (omega arith)
    (omega (arith, bits_below word 31 31, bits_below word 7 7, bits_below word 30 25, bits_below word 11 8))

made : (make : ℕ → ℕ → ℤ → Insn) (a a' b b' : ℕ) (z z' : ℤ) → a ≡ a' → b ≡ b' → z ≡ z' → FitsSigned w32 z' → Some (make a b (to_z w32 (of_z w32 z))) ≡ Some (make a' b' z')
made make a a' b b' z z' p q r fits =
    let same : to_z w32 (of_z w32 z) ≡ z' = ap (λ (y : ℤ). to_z w32 (of_z w32 y)) r ∙ to_z-of_z w32 z' fits in
    ap (λ (y : ℤ). Some (make a b y)) same ∙ ap (λ (d : ℕ). Some (make d b z')) p ∙ ap (λ (d : ℕ). Some (make a' d z')) q

pub arm_i : (make : ℕ → ℕ → ℤ → Insn) (n key word a b : ℕ) (z : ℤ) → key ≡ n → a ≡ rd word → b ≡ rs1 word → z ≡ imm_i word → Some (make (rd word) (rs1 word) (imm_i word)) ≡ picked (key_at n word) word → Some (make a b (to_z w32 (of_z w32 z))) ≡ picked (key_at key word) word
arm_i make n key word a b z is p q r at =
    made make a (rd word) b (rs1 word) z (imm_i word) p q r (imm_i_fits word) ∙ at ∙ ap (λ (k : ℕ). picked (key_at k word) word) (sym is)

pub arm_s : (make : ℕ → ℕ → ℤ → Insn) (n key word a b : ℕ) (z : ℤ) → key ≡ n → a ≡ rs1 word → b ≡ rs2 word → z ≡ imm_s word → Some (make (rs1 word) (rs2 word) (imm_s word)) ≡ picked (key_at n word) word → Some (make a b (to_z w32 (of_z w32 z))) ≡ picked (key_at key word) word
arm_s make n key word a b z is p q r at =
    made make a (rs1 word) b (rs2 word) z (imm_s word) p q r (imm_s_fits word) ∙ at ∙ ap (λ (k : ℕ). picked (key_at k word) word) (sym is)

pub arm_b : (make : ℕ → ℕ → ℤ → Insn) (n key word a b : ℕ) (z : ℤ) → key ≡ n → a ≡ rs1 word → b ≡ rs2 word → z ≡ imm_b word → Some (make (rs1 word) (rs2 word) (imm_b word)) ≡ picked (key_at n word) word → Some (make a b (to_z w32 (of_z w32 z))) ≡ picked (key_at key word) word
arm_b make n key word a b z is p q r at =
    made make a (rs1 word) b (rs2 word) z (imm_b word) p q r (imm_b_fits word) ∙ at ∙ ap (λ (k : ℕ). picked (key_at k word) word) (sym is)
