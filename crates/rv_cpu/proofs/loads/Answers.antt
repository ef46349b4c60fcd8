use Rattle.std.proofs.Common.{◌≡◌, ℕ, ℤ, w32, of_z, FitsSigned, Err, sym, ap, ◌∙◌, rules}
use Rattle.std.proofs.lemmas.Int.{to_z-of_z}
use Rattle.rv_cpu.specs.Exec.{Executed, did_of, plus, reg, regs_after, word}
use Rattle.rv_cpu.proofs.Access.{load_misaligned, load_outside, loaded}
use Rattle.rv_cpu.proofs.loads.Goals as goal

pub returns-in-Ok-clause-did : goal.returns-in-Ok-clause-did
returns-in-Ok-clause-did c =
    let fits : FitsSigned w32 c.args.imm = search rules in
    let same : c.wrapping_add_signed-addr.result ≡ plus (reg c.args.regs.now c.args.rs1) (word c.args.imm) =
    c.wrapping_add_signed-addr.ensures ∙ ap (λ (z : ℤ). plus c.read.result (of_z w32 z)) (to_z-of_z w32 c.args.imm fits) ∙ ap (λ (a : ℕ). plus a (word c.args.imm)) c.read.ensures in
    c.puts.ensures.did ∙ sym (ap did_of (loaded c.args.regs.now c.args.ram.now.bytes c.args.width c.args.rd c.wrapping_add_signed-addr.result (plus (reg c.args.regs.now c.args.rs1) (word c.args.imm)) c.in-Ok.number (λ n. n) same (sym c.in-Ok.is ∙ c.load.ensures.answer)))

pub returns-in-Ok-clause-regs : goal.returns-in-Ok-clause-regs
returns-in-Ok-clause-regs c =
    let fits : FitsSigned w32 c.args.imm = search rules in
    let same : c.wrapping_add_signed-addr.result ≡ plus (reg c.args.regs.now c.args.rs1) (word c.args.imm) =
    c.wrapping_add_signed-addr.ensures ∙ ap (λ (z : ℤ). plus c.read.result (of_z w32 z)) (to_z-of_z w32 c.args.imm fits) ∙ ap (λ (a : ℕ). plus a (word c.args.imm)) c.read.ensures in
    c.puts.ensures.regs ∙ sym (ap (λ (e : Executed). regs_after e c.args.regs.now) (loaded c.args.regs.now c.args.ram.now.bytes c.args.width c.args.rd c.wrapping_add_signed-addr.result (plus (reg c.args.regs.now c.args.rs1) (word c.args.imm)) c.in-Ok.number (λ n. n) same (sym c.in-Ok.is ∙ c.load.ensures.answer)))

pub returns-in-Err-Misaligned-clause-did : goal.returns-in-Err-Misaligned-clause-did
returns-in-Err-Misaligned-clause-did c =
    let fits : FitsSigned w32 c.args.imm = search rules in
    let same : c.wrapping_add_signed-addr.result ≡ plus (reg c.args.regs.now c.args.rs1) (word c.args.imm) =
    c.wrapping_add_signed-addr.ensures ∙ ap (λ (z : ℤ). plus c.read.result (of_z w32 z)) (to_z-of_z w32 c.args.imm fits) ∙ ap (λ (a : ℕ). plus a (word c.args.imm)) c.read.ensures in
    sym (ap did_of (load_misaligned c.args.regs.now c.args.ram.now.bytes c.args.width c.args.rd c.wrapping_add_signed-addr.result (plus (reg c.args.regs.now c.args.rs1) (word c.args.imm)) _ (λ n. n) same (sym (c.in-Err-Misaligned.is ∙ ap Err c.in-Err-Misaligned.field-0-is) ∙ c.load.ensures.answer)))

pub returns-in-Err-Misaligned-clause-regs : goal.returns-in-Err-Misaligned-clause-regs
returns-in-Err-Misaligned-clause-regs c =
    let fits : FitsSigned w32 c.args.imm = search rules in
    let same : c.wrapping_add_signed-addr.result ≡ plus (reg c.args.regs.now c.args.rs1) (word c.args.imm) =
    c.wrapping_add_signed-addr.ensures ∙ ap (λ (z : ℤ). plus c.read.result (of_z w32 z)) (to_z-of_z w32 c.args.imm fits) ∙ ap (λ (a : ℕ). plus a (word c.args.imm)) c.read.ensures in
    sym (ap (λ (e : Executed). regs_after e c.args.regs.now) (load_misaligned c.args.regs.now c.args.ram.now.bytes c.args.width c.args.rd c.wrapping_add_signed-addr.result (plus (reg c.args.regs.now c.args.rs1) (word c.args.imm)) _ (λ n. n) same (sym (c.in-Err-Misaligned.is ∙ ap Err c.in-Err-Misaligned.field-0-is) ∙ c.load.ensures.answer)))

pub returns-in-Err-OutOfRange-clause-did : goal.returns-in-Err-OutOfRange-clause-did
returns-in-Err-OutOfRange-clause-did c =
    let fits : FitsSigned w32 c.args.imm = search rules in
    let same : c.wrapping_add_signed-addr.result ≡ plus (reg c.args.regs.now c.args.rs1) (word c.args.imm) =
    c.wrapping_add_signed-addr.ensures ∙ ap (λ (z : ℤ). plus c.read.result (of_z w32 z)) (to_z-of_z w32 c.args.imm fits) ∙ ap (λ (a : ℕ). plus a (word c.args.imm)) c.read.ensures in
    sym (ap did_of (load_outside c.args.regs.now c.args.ram.now.bytes c.args.width c.args.rd c.wrapping_add_signed-addr.result (plus (reg c.args.regs.now c.args.rs1) (word c.args.imm)) _ (λ n. n) same (sym (c.in-Err-OutOfRange.is ∙ ap Err c.in-Err-OutOfRange.field-0-is) ∙ c.load.ensures.answer)))

pub returns-in-Err-OutOfRange-clause-regs : goal.returns-in-Err-OutOfRange-clause-regs
returns-in-Err-OutOfRange-clause-regs c =
    let fits : FitsSigned w32 c.args.imm = search rules in
    let same : c.wrapping_add_signed-addr.result ≡ plus (reg c.args.regs.now c.args.rs1) (word c.args.imm) =
    c.wrapping_add_signed-addr.ensures ∙ ap (λ (z : ℤ). plus c.read.result (of_z w32 z)) (to_z-of_z w32 c.args.imm fits) ∙ ap (λ (a : ℕ). plus a (word c.args.imm)) c.read.ensures in
    sym (ap (λ (e : Executed). regs_after e c.args.regs.now) (load_outside c.args.regs.now c.args.ram.now.bytes c.args.width c.args.rd c.wrapping_add_signed-addr.result (plus (reg c.args.regs.now c.args.rs1) (word c.args.imm)) _ (λ n. n) same (sym (c.in-Err-OutOfRange.is ∙ ap Err c.in-Err-OutOfRange.field-0-is) ∙ c.load.ensures.answer)))
