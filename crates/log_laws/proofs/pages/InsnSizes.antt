-- An instruction leaves as many bytes of memory as there were.
use Rattle.std.proofs.Common.{◌≡◌, ℕ, ◌+◌, ◌-◌, ◌%◌, arith, Bool, true, false, cond, not, eqb, List, [], ◌∷◌, ◌++◌, length, take, drop, Option, Some, None, refl, ap, ◌∙◌}
use Rattle.std.proofs.lemmas.List.{length-append, length-take, length-drop}
use Rattle.t32_base.specs.Registers.{Registers}
use Rattle.byteorder.specs.Endian.{little_bytes}
use Rattle.rv_mem.specs.declared.BadAddr.{BadAddr}
use Rattle.rv_mem.specs.declared.BadAddr.TheVariants.{Misaligned, OutOfRange}
use Rattle.rv_mem.specs.Memory.{is_inside, refusal, with_bytes}
use Rattle.rv_mem.proofs.Views.{inside_bounds, length-with_bytes}
use Rattle.rv_insn.specs.declared.Insn.{Insn}
use Rattle.rv_insn.specs.declared.Insn.TheVariants.{Jal, Jalr, Beq, Bne, Blt, Bge, Bltu, Bgeu, Lb, Lh, Lw, Lbu, Lhu, Sb, Sh, Sw}
use Rattle.rv_insn.specs.Table.{decoded}
use Rattle.rv_cpu.specs.Exec.{Executed, Steps, Traps, branches, bytes_after, exec, exec_decoded, exec_fetched, executed, fetched, loads, onward, plus, reg, set_reg, stores, to_target, unless_refused, widened, word}

-- what an outcome leaves has as many bytes
abbrev pub SizeAfter : Executed → List ℕ → Type 0
SizeAfter x m = length (bytes_after x m) ≡ length m

target_size : (r : Registers) (m : List ℕ) (target : ℕ) → SizeAfter (to_target r m target) m
target_size r m target = by_test (eqb (target % 4) 0)
  where
    by_test : (b : Bool) → SizeAfter (cond b (Steps (record r { pc = target }) m) (Traps 0)) m
    by_test true = refl
    by_test false = refl

branch_size : (r : Registers) (m : List ℕ) (b : Bool) (imm : _) → SizeAfter (branches r m b imm) m
branch_size r m true imm = target_size r m (plus r.pc (word imm))
branch_size r m false imm = refl

load_size : (r : Registers) (m : List ℕ) (size : ℕ) (wide : ℕ → ℕ) (rd addr : ℕ) → SizeAfter (loads r m size wide rd addr) m
load_size r m size wide rd addr = by_refusal _ (refusal m addr size)
  where
    by_refusal : (r : Registers) (o : Option BadAddr) → SizeAfter (unless_refused o 4 5 (Steps r m)) m
    by_refusal r None = refl
    by_refusal r (Some (Misaligned a)) = refl
    by_refusal r (Some (OutOfRange a)) = refl

-- bytes that are put where they lie in memory leave its size
pub put_size : (m : List ℕ) (addr : ℕ) (new : List ℕ) → is_inside m addr (length new) ≡ true → length (with_bytes m addr new) ≡ length m
put_size m addr [] inside =
    omega (arith, length-append (take (addr - 65536) m ++ []) (drop (addr - 65536 + 0) m), length-append {A = ℕ} (take (addr - 65536) m) [], length-take (addr - 65536) m, length-drop (addr - 65536 + 0) m)
put_size m addr (b ∷ new) inside =
    let bounds = inside_bounds m addr (length (b ∷ new)) (omega arith) inside in
    length-with_bytes m addr (b ∷ new) (omega (arith, bounds.0, bounds.1))

refusal_inside : (m : List ℕ) (addr size : ℕ) → refusal m addr size ≡ None → is_inside m addr size ≡ true
refusal_inside m addr size = by_tests (eqb (addr % size) 0) (is_inside m addr size)
  where
    by_tests : (a b : Bool) → cond (not a) (Some (Misaligned addr)) (cond (not b) (Some (OutOfRange addr)) None) ≡ None → b ≡ true
    by_tests true true is = refl
    by_tests true false is = cc
    by_tests false b is = cc

store_size : (r : Registers) (m : List ℕ) (size v addr : ℕ) → length (little_bytes size v) ≡ size → SizeAfter (stores r m size v addr) m
store_size r m size v addr len = by_refusal (refusal m addr size) refl
  where
    by_refusal : (o : Option BadAddr) → refusal m addr size ≡ o → SizeAfter (unless_refused o 6 7 (Steps (onward r) (with_bytes m addr (little_bytes size v)))) m
    by_refusal None is = put_size m addr (little_bytes size v) (ap (is_inside m addr) len ∙ refusal_inside m addr size is)
    by_refusal (Some (Misaligned a)) is = refl
    by_refusal (Some (OutOfRange a)) is = refl

insn_size : (i : Insn) (r : Registers) (m : List ℕ) → SizeAfter (executed i r m) m
insn_size (Sb rs1 rs2 imm) r m = store_size r m 1 (reg r rs2) (plus (reg r rs1) (word imm)) refl
insn_size (Sh rs1 rs2 imm) r m = store_size r m 2 (reg r rs2) (plus (reg r rs1) (word imm)) refl
insn_size (Sw rs1 rs2 imm) r m = store_size r m 4 (reg r rs2) (plus (reg r rs1) (word imm)) refl
insn_size (Jal rd imm) r m = target_size (set_reg r rd (plus r.pc 4)) m _
insn_size (Jalr rd rs1 imm) r m = target_size (set_reg r rd (plus r.pc 4)) m _
insn_size (Beq rs1 rs2 imm) r m = branch_size r m _ imm
insn_size (Bne rs1 rs2 imm) r m = branch_size r m _ imm
insn_size (Blt rs1 rs2 imm) r m = branch_size r m _ imm
insn_size (Bge rs1 rs2 imm) r m = branch_size r m _ imm
insn_size (Bltu rs1 rs2 imm) r m = branch_size r m _ imm
insn_size (Bgeu rs1 rs2 imm) r m = branch_size r m _ imm
insn_size (Lb rd rs1 imm) r m = load_size r m 1 (widened 8) rd (plus (reg r rs1) (word imm))
insn_size (Lh rd rs1 imm) r m = load_size r m 2 (widened 16) rd (plus (reg r rs1) (word imm))
insn_size (Lw rd rs1 imm) r m = load_size r m 4 (λ n. n) rd (plus (reg r rs1) (word imm))
insn_size (Lbu rd rs1 imm) r m = load_size r m 1 (λ n. n) rd (plus (reg r rs1) (word imm))
insn_size (Lhu rd rs1 imm) r m = load_size r m 2 (λ n. n) rd (plus (reg r rs1) (word imm))
insn_size i r m = refl

decoded_size : (o : Option Insn) (r : Registers) (m : List ℕ) → SizeAfter (exec_decoded o r m) m
decoded_size None r m = refl
decoded_size (Some i) r m = insn_size i r m

fetched_size : (o : Option ℕ) (r : Registers) (m : List ℕ) → SizeAfter (exec_fetched o r m) m
fetched_size None r m = refl
fetched_size (Some w) r m = decoded_size (decoded w) r m

-- one instruction
pub exec_size : (r : Registers) (m : List ℕ) → SizeAfter (exec r m) m
exec_size r m = fetched_size (fetched r m) r m
