-- An instruction leaves words in the registers and bytes in the memory.
use Rattle.std.proofs.Common.{◌≡◌, ℕ, ◌+◌, ◌*◌, ◌-◌, ◌/◌, ◌%◌, ◌^◌, ◌<◌, ◌≤◌, refl, subst, arith, List, [], ◌∷◌, ◌++◌, length, take, drop, slice_set, Bool, true, false, cond, eqb, ltb, pos, negsuc, Option, Some, None}
use Rattle.std.specs.Prelude.{ℤ, ⊤, find, nat_lt, option_map, int_lt, bit_and}
use Rattle.std.specs.Int.{int_shr}
use Rattle.std.proofs.lemmas.Bool.Decides.{nat_tests}
use Rattle.std.proofs.lemmas.Option.{same_Some}
use Rattle.std.proofs.lemmas.Nat.{and_le_l, or_of_32, shr_le, xor_of_32}
use Rattle.t32_base.specs.Registers.{Registers}
use Rattle.rv_insn.specs.declared.Insn.{Insn}
use Rattle.rv_insn.specs.declared.Insn.TheVariants.{Lui, Auipc, Jal, Jalr, Beq, Bne, Blt, Bge, Bltu, Bgeu, Lb, Lh, Lw, Lbu, Lhu, Sb, Sh, Sw, Addi, Slti, Sltiu, Xori, Ori, Andi, Slli, Srli, Srai, Add, Sub, Sll, Slt, Sltu, Xor, Srl, Sra, Or, And, Fence, Ecall, Ebreak}
use Rattle.rv_insn.specs.Word.{sign_extended, imm_i, imm_u}
use Rattle.rv_insn.specs.Table.{Key, Row, decoded, key_of, rows}
use Rattle.rv_mem.specs.declared.BadAddr.{BadAddr}
use Rattle.rv_mem.specs.declared.BadAddr.TheVariants.{Misaligned, OutOfRange}
use Rattle.rv_mem.specs.Memory.{number_at, refusal, with_bytes}
use Rattle.byteorder.specs.Endian.{little_bytes}
use Rattle.rv_cpu.specs.Exec.{Executed, Steps, Calls, Traps, branches, exec, exec_decoded, exec_fetched, executed, fetched, jumps, loads, minus, one_if, onward, plus, puts, reg, set_reg, signed, stores, to_target, unless_refused, widened, word}
use Rattle.state_numbers.specs.Fits.{AllBelow, AreBytes, IsWord}
use Rattle.state_numbers.proofs.Below.{below_append, below_drop, below_index, below_set, below_take, four_bytes, little_below, one_byte, two_bytes}

-- ---- numbers

plus_below : (a b : ℕ) → IsWord (plus a b)
plus_below a b = omega arith

minus_below : (a b : ℕ) → IsWord (minus a b)
minus_below a b = omega arith

cut_below : (n : ℕ) → IsWord (n % 2 ^ 32)
cut_below n = omega arith

and_below : (a b : ℕ) → IsWord a → IsWord (bit_and a b)
and_below a b less = let le = and_le_l a b in omega (arith, le, less)

one_below : (b : Bool) → IsWord (one_if b)
one_below true = omega arith
one_below false = omega arith

-- a number that is not negative is below 2^32
abbrev IsSmall : ℤ → Type 0
IsSmall (pos n) = IsWord n
IsSmall (negsuc n) = ⊤

word_below : (z : ℤ) → IsSmall z → IsWord (word z)
word_below (pos n) small = small
word_below (negsuc n) small = omega arith

signed_small : (a : ℕ) → IsWord a → IsSmall (signed a)
signed_small a less = by_sign (ltb a (2 ^ 31)) refl
  where
    by_sign : (b : Bool) → ltb a (2 ^ 31) ≡ b → IsSmall (signed a)
    by_sign true is = rw is less
    by_sign false is = rw is tt

shifted_small : (z : ℤ) (k : ℕ) → IsSmall z → IsSmall (int_shr z k)
shifted_small (pos n) k small = let le = shr_le n k in omega (arith, le, small)
shifted_small (negsuc n) k small = tt

-- the immediate of a row, from so many bits
extended_small : (size n : ℕ) → 2 ^ (size - 1) ≤ 2 ^ 32 → IsSmall (sign_extended size n)
extended_small size n low = by_sign (ltb n (2 ^ (size - 1))) refl
  where
    by_sign : (b : Bool) → ltb n (2 ^ (size - 1)) ≡ b → IsSmall (cond b (pos n) (negsuc (2 ^ size - (n + 1))))
    by_sign true is = let less = is_below n (2 ^ (size - 1)) is in omega (arith, less, low)
      where
        is_below : (a b : ℕ) → ltb a b ≡ true → a < b
        is_below a b h = grind (arith, nat_tests)
    by_sign false is = tt

-- of the immediates that are no part of a sum, a shift or an address
abbrev HasSmall : Insn → Type 0
HasSmall (Lui rd imm) = IsSmall imm
HasSmall (Xori rd rs1 imm) = IsSmall imm
HasSmall (Ori rd rs1 imm) = IsSmall imm
HasSmall i = ⊤

abbrev AllSmall : List Row → Type 0
AllSmall [] = ⊤
AllSmall (r ∷ rs) = ((w : ℕ) → HasSmall (r.insn w)) × AllSmall rs

imm_i_small : (w : ℕ) → IsSmall (imm_i w)
imm_i_small w = extended_small 12 _ (omega arith)

imm_u_small : (w : ℕ) → IsSmall (imm_u w)
imm_u_small w = extended_small 32 _ (omega arith)

none : (w : ℕ) → ⊤
none w = tt

rows_small : AllSmall rows
rows_small = (imm_u_small, (none, (none, (none, (none, (none, (none, (none, (none, (none, (none, (none, (none, (none, (none, (none, (none, (none, (none, (none, (none, (imm_i_small, (imm_i_small, (none, (none, (none, (none, (none, (none, (none, (none, (none, (none, (none, (none, (none, (none, (none, (none, (none, tt))))))))))))))))))))))))))))))))))))))))

picked_small : (rs : List Row) (k : Key) (w : ℕ) (i : Insn) → AllSmall rs → option_map (λ (row : Row). row.insn w) (find (λ (row : Row). row.takes k) rs) ≡ Some i → HasSmall i
picked_small [] k w i all is = cc
picked_small (r ∷ rs) k w i all is = by_test (r.takes k) is (picked_small rs k w i all.1)
  where
    by_test : (b : Bool) → option_map (λ (row : Row). row.insn w) (cond b (Some r) (find (λ (row : Row). row.takes k) rs)) ≡ Some i
        → (option_map (λ (row : Row). row.insn w) (find (λ (row : Row). row.takes k) rs) ≡ Some i → HasSmall i) → HasSmall i
    by_test true is more = subst HasSmall (same_Some (r.insn w) i is) (all.0 w)
    by_test false is more = more is

-- ---- what it leaves

abbrev pub ExecFits : Executed → Type 0
ExecFits (Steps regs bytes) = AllBelow (2 ^ 32) regs.x × AreBytes bytes
ExecFits Calls = ⊤
ExecFits (Traps code) = IsWord code

pub set_fits : (r : Registers) (i v : ℕ) → IsWord v → AllBelow (2 ^ 32) r.x → AllBelow (2 ^ 32) (set_reg r i v).x
set_fits r i v less regs = by_zero (eqb i 0)
  where
    by_zero : (b : Bool) → AllBelow (2 ^ 32) (cond b r.x (slice_set r.x i v))
    by_zero true = regs
    by_zero false = below_set (2 ^ 32) r.x i v less regs

module _ (r : Registers) (m : List ℕ) (regs : AllBelow (2 ^ 32) r.x) (bytes : AreBytes m) where
  reg_below : (i : ℕ) → IsWord (reg r i)
  reg_below i = below_index (2 ^ 32) r.x i (omega arith) regs

  puts_fit : (rd v : ℕ) → IsWord v → ExecFits (puts r m rd v)
  puts_fit rd v less = (set_fits r rd v less regs, bytes)

  target_fits : (q : Registers) (target : ℕ) → AllBelow (2 ^ 32) q.x → ExecFits (to_target q m target)
  target_fits q target all = by_test (eqb (target % 4) 0)
    where
      by_test : (b : Bool) → ExecFits (cond b (Steps (record q { pc = target }) m) (Traps 0))
      by_test true = (all, bytes)
      by_test false = omega arith

  jumps_fit : (rd target : ℕ) → ExecFits (jumps r m rd target)
  jumps_fit rd target = target_fits (set_reg r rd (plus r.pc 4)) target (set_fits r rd (plus r.pc 4) (plus_below r.pc 4) regs)

  branches_fit : (b : Bool) (imm : ℤ) → ExecFits (branches r m b imm)
  branches_fit true imm = target_fits r (plus r.pc (word imm)) regs
  branches_fit false imm = (regs, bytes)

  unless_fits : (o : Option BadAddr) (misaligned outside : ℕ) (done : Executed) → IsWord misaligned → IsWord outside → ExecFits done → ExecFits (unless_refused o misaligned outside done)
  unless_fits None misaligned outside done mis out fits = fits
  unless_fits (Some (Misaligned a)) misaligned outside done mis out fits = mis
  unless_fits (Some (OutOfRange a)) misaligned outside done mis out fits = out

  loads_fit : (size : ℕ) (wide : ℕ → ℕ) (rd addr : ℕ) → IsWord (wide (number_at m addr size)) → ExecFits (loads r m size wide rd addr)
  loads_fit size wide rd addr less = unless_fits (refusal m addr size) 4 5 (puts r m rd (wide (number_at m addr size))) (omega arith) (omega arith) (puts_fit rd (wide (number_at m addr size)) less)

  pub with_bytes_fit : (addr : ℕ) (new : List ℕ) → AreBytes new → AreBytes (with_bytes m addr new)
  with_bytes_fit addr new all = below_append 256 (take (addr - 0x10000) m ++ new) (drop (addr - 0x10000 + length new) m) (below_append 256 (take (addr - 0x10000) m) new (below_take 256 (addr - 0x10000) m bytes) all) (below_drop 256 (addr - 0x10000 + length new) m bytes)

  stores_fit : (size v addr : ℕ) → ExecFits (stores r m size v addr)
  stores_fit size v addr = unless_fits (refusal m addr size) 6 7 (Steps (onward r) (with_bytes m addr (little_bytes size v))) (omega arith) (omega arith) (regs, with_bytes_fit addr (little_bytes size v) (little_below size v))

  shifted_down : (a k : ℕ) → IsWord a → IsWord (a / 2 ^ k)
  shifted_down a k less = let le = shr_le a k in omega (arith, le, less)

  signed_down : (a k : ℕ) → IsWord a → IsWord (word (int_shr (signed a) k))
  signed_down a k less = word_below (int_shr (signed a) k) (shifted_small (signed a) k (signed_small a less))

  executed_fits : (i : Insn) → HasSmall i → ExecFits (executed i r m)
  executed_fits (Lui rd imm) small = puts_fit rd (word imm) (word_below imm small)
  executed_fits (Auipc rd imm) small = puts_fit rd (plus r.pc (word imm)) (plus_below r.pc (word imm))
  executed_fits (Jal rd imm) small = jumps_fit rd (plus r.pc (word imm))
  executed_fits (Jalr rd rs1 imm) small = jumps_fit rd _
  executed_fits (Beq rs1 rs2 imm) small = branches_fit _ imm
  executed_fits (Bne rs1 rs2 imm) small = branches_fit _ imm
  executed_fits (Blt rs1 rs2 imm) small = branches_fit _ imm
  executed_fits (Bge rs1 rs2 imm) small = branches_fit _ imm
  executed_fits (Bltu rs1 rs2 imm) small = branches_fit _ imm
  executed_fits (Bgeu rs1 rs2 imm) small = branches_fit _ imm
  executed_fits (Lb rd rs1 imm) small = loads_fit 1 (widened 8) rd (plus (reg r rs1) (word imm)) (word_below (sign_extended 8 (number_at m (plus (reg r rs1) (word imm)) 1)) (extended_small 8 (number_at m (plus (reg r rs1) (word imm)) 1) (omega arith)))
  executed_fits (Lh rd rs1 imm) small = loads_fit 2 (widened 16) rd (plus (reg r rs1) (word imm)) (word_below (sign_extended 16 (number_at m (plus (reg r rs1) (word imm)) 2)) (extended_small 16 (number_at m (plus (reg r rs1) (word imm)) 2) (omega arith)))
  executed_fits (Lw rd rs1 imm) small = loads_fit 4 (λ n. n) rd (plus (reg r rs1) (word imm)) (four_bytes (drop (plus (reg r rs1) (word imm) - 65536) m) (below_drop 256 (plus (reg r rs1) (word imm) - 65536) m bytes))
  executed_fits (Lbu rd rs1 imm) small = loads_fit 1 (λ n. n) rd (plus (reg r rs1) (word imm)) (one_byte (drop (plus (reg r rs1) (word imm) - 65536) m) (below_drop 256 (plus (reg r rs1) (word imm) - 65536) m bytes))
  executed_fits (Lhu rd rs1 imm) small = loads_fit 2 (λ n. n) rd (plus (reg r rs1) (word imm)) (two_bytes (drop (plus (reg r rs1) (word imm) - 65536) m) (below_drop 256 (plus (reg r rs1) (word imm) - 65536) m bytes))
  executed_fits (Sb rs1 rs2 imm) small = stores_fit 1 (reg r rs2) (plus (reg r rs1) (word imm))
  executed_fits (Sh rs1 rs2 imm) small = stores_fit 2 (reg r rs2) (plus (reg r rs1) (word imm))
  executed_fits (Sw rs1 rs2 imm) small = stores_fit 4 (reg r rs2) (plus (reg r rs1) (word imm))
  executed_fits (Addi rd rs1 imm) small = puts_fit rd _ (plus_below (reg r rs1) (word imm))
  executed_fits (Slti rd rs1 imm) small = puts_fit rd _ (one_below (int_lt (signed (reg r rs1)) imm))
  executed_fits (Sltiu rd rs1 imm) small = puts_fit rd _ (one_below (nat_lt (reg r rs1) (word imm)))
  executed_fits (Xori rd rs1 imm) small = puts_fit rd _ (xor_of_32 (reg r rs1) (word imm) (reg_below rs1) (word_below imm small))
  executed_fits (Ori rd rs1 imm) small = puts_fit rd _ (or_of_32 (reg r rs1) (word imm) (reg_below rs1) (word_below imm small))
  executed_fits (Andi rd rs1 imm) small = puts_fit rd _ (and_below (reg r rs1) (word imm) (reg_below rs1))
  executed_fits (Slli rd rs1 imm) small = puts_fit rd _ (cut_below (reg r rs1 * 2 ^ word imm))
  executed_fits (Srli rd rs1 imm) small = puts_fit rd _ (shifted_down (reg r rs1) (word imm) (reg_below rs1))
  executed_fits (Srai rd rs1 imm) small = puts_fit rd _ (signed_down (reg r rs1) (word imm) (reg_below rs1))
  executed_fits (Add rd rs1 rs2) small = puts_fit rd _ (plus_below (reg r rs1) (reg r rs2))
  executed_fits (Sub rd rs1 rs2) small = puts_fit rd _ (minus_below (reg r rs1) (reg r rs2))
  executed_fits (Sll rd rs1 rs2) small = puts_fit rd _ (cut_below (reg r rs1 * 2 ^ (reg r rs2 % 32)))
  executed_fits (Slt rd rs1 rs2) small = puts_fit rd _ (one_below (int_lt (signed (reg r rs1)) (signed (reg r rs2))))
  executed_fits (Sltu rd rs1 rs2) small = puts_fit rd _ (one_below (nat_lt (reg r rs1) (reg r rs2)))
  executed_fits (Xor rd rs1 rs2) small = puts_fit rd _ (xor_of_32 (reg r rs1) (reg r rs2) (reg_below rs1) (reg_below rs2))
  executed_fits (Srl rd rs1 rs2) small = puts_fit rd _ (shifted_down (reg r rs1) (reg r rs2 % 32) (reg_below rs1))
  executed_fits (Sra rd rs1 rs2) small = puts_fit rd _ (signed_down (reg r rs1) (reg r rs2 % 32) (reg_below rs1))
  executed_fits (Or rd rs1 rs2) small = puts_fit rd _ (or_of_32 (reg r rs1) (reg r rs2) (reg_below rs1) (reg_below rs2))
  executed_fits (And rd rs1 rs2) small = puts_fit rd _ (and_below (reg r rs1) (reg r rs2) (reg_below rs1))
  executed_fits Fence small = (regs, bytes)
  executed_fits Ecall small = tt
  executed_fits Ebreak small = omega arith

  pub exec_fits : ExecFits (exec r m)
  exec_fits = by_word (fetched r m)
    where
      by_insn : (w : ℕ) (o : Option Insn) → decoded w ≡ o → ExecFits (exec_decoded o r m)
      by_insn w None is = omega arith
      by_insn w (Some i) is = executed_fits i (picked_small rows (key_of w) w i rows_small is)

      by_word : (o : Option ℕ) → ExecFits (exec_fetched o r m)
      by_word None = omega arith
      by_word (Some w) = by_insn w (decoded w) refl
