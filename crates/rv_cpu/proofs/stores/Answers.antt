use Rattle.std.proofs.Common.{◌≡◌, ℕ, ℤ, w32, of_z, FitsSigned, Err, sym, ap, ◌∙◌, rules}
use Rattle.std.proofs.lemmas.Int.{to_z-of_z}
use Rattle.rv_mem.specs.Marks.{Memory}
use Rattle.rv_cpu.specs.Exec.{Executed, bytes_after, did_of, plus, reg, regs_after, word}
use Rattle.rv_cpu.proofs.Access.{store_misaligned, store_outside, stored}
use Rattle.rv_cpu.proofs.stores.Goals as goal

pub returns-in-Ok-clause-did : goal.returns-in-Ok-clause-did
returns-in-Ok-clause-did c =
    let fits : FitsSigned w32 c.args.imm = search rules in
    let same : c.wrapping_add_signed-addr.result ≡ plus (reg c.args.regs.now c.args.rs1) (word c.args.imm) =
    c.wrapping_add_signed-addr.ensures ∙ ap (λ (z : ℤ). plus c.read.result (of_z w32 z)) (to_z-of_z w32 c.args.imm fits) ∙ ap (λ (a : ℕ). plus a (word c.args.imm)) c.read.ensures in
    sym (ap did_of (stored c.args.regs.now c.args.ram.now.bytes c.args.width (reg c.args.regs.now c.args.rs2) c.wrapping_add_signed-addr.result (plus (reg c.args.regs.now c.args.rs1) (word c.args.imm)) same (sym c.in-Ok.is ∙ c.store.ensures.answer)))

pub returns-in-Err-Misaligned-clause-did : goal.returns-in-Err-Misaligned-clause-did
returns-in-Err-Misaligned-clause-did c =
    let fits : FitsSigned w32 c.args.imm = search rules in
    let same : c.wrapping_add_signed-addr.result ≡ plus (reg c.args.regs.now c.args.rs1) (word c.args.imm) =
    c.wrapping_add_signed-addr.ensures ∙ ap (λ (z : ℤ). plus c.read.result (of_z w32 z)) (to_z-of_z w32 c.args.imm fits) ∙ ap (λ (a : ℕ). plus a (word c.args.imm)) c.read.ensures in
    sym (ap did_of (store_misaligned _ c.args.regs.now c.args.ram.now.bytes c.args.width (reg c.args.regs.now c.args.rs2) c.wrapping_add_signed-addr.result (plus (reg c.args.regs.now c.args.rs1) (word c.args.imm)) _ same (sym (c.in-Err-Misaligned.is ∙ ap Err c.in-Err-Misaligned.field-0-is) ∙ c.store.ensures.answer)))

pub returns-in-Err-Misaligned-clause-regs : goal.returns-in-Err-Misaligned-clause-regs
returns-in-Err-Misaligned-clause-regs c =
    let fits : FitsSigned w32 c.args.imm = search rules in
    let same : c.wrapping_add_signed-addr.result ≡ plus (reg c.args.regs.now c.args.rs1) (word c.args.imm) =
    c.wrapping_add_signed-addr.ensures ∙ ap (λ (z : ℤ). plus c.read.result (of_z w32 z)) (to_z-of_z w32 c.args.imm fits) ∙ ap (λ (a : ℕ). plus a (word c.args.imm)) c.read.ensures in
    sym (ap (λ (e : Executed). regs_after e c.args.regs.now) (store_misaligned _ c.args.regs.now c.args.ram.now.bytes c.args.width (reg c.args.regs.now c.args.rs2) c.wrapping_add_signed-addr.result (plus (reg c.args.regs.now c.args.rs1) (word c.args.imm)) _ same (sym (c.in-Err-Misaligned.is ∙ ap Err c.in-Err-Misaligned.field-0-is) ∙ c.store.ensures.answer)))

pub returns-in-Err-Misaligned-clause-bytes : goal.returns-in-Err-Misaligned-clause-bytes
returns-in-Err-Misaligned-clause-bytes c =
    let fits : FitsSigned w32 c.args.imm = search rules in
    let same : c.wrapping_add_signed-addr.result ≡ plus (reg c.args.regs.now c.args.rs1) (word c.args.imm) =
    c.wrapping_add_signed-addr.ensures ∙ ap (λ (z : ℤ). plus c.read.result (of_z w32 z)) (to_z-of_z w32 c.args.imm fits) ∙ ap (λ (a : ℕ). plus a (word c.args.imm)) c.read.ensures in
    ap (λ (s : Memory). s.bytes) c.in-Err-Misaligned.ensures.err ∙ sym (ap (λ (e : Executed). bytes_after e c.args.ram.now.bytes) (store_misaligned _ c.args.regs.now c.args.ram.now.bytes c.args.width (reg c.args.regs.now c.args.rs2) c.wrapping_add_signed-addr.result (plus (reg c.args.regs.now c.args.rs1) (word c.args.imm)) _ same (sym (c.in-Err-Misaligned.is ∙ ap Err c.in-Err-Misaligned.field-0-is) ∙ c.store.ensures.answer)))

pub returns-in-Err-OutOfRange-clause-did : goal.returns-in-Err-OutOfRange-clause-did
returns-in-Err-OutOfRange-clause-did c =
    let fits : FitsSigned w32 c.args.imm = search rules in
    let same : c.wrapping_add_signed-addr.result ≡ plus (reg c.args.regs.now c.args.rs1) (word c.args.imm) =
    c.wrapping_add_signed-addr.ensures ∙ ap (λ (z : ℤ). plus c.read.result (of_z w32 z)) (to_z-of_z w32 c.args.imm fits) ∙ ap (λ (a : ℕ). plus a (word c.args.imm)) c.read.ensures in
    sym (ap did_of (store_outside _ c.args.regs.now c.args.ram.now.bytes c.args.width (reg c.args.regs.now c.args.rs2) c.wrapping_add_signed-addr.result (plus (reg c.args.regs.now c.args.rs1) (word c.args.imm)) _ same (sym (c.in-Err-OutOfRange.is ∙ ap Err c.in-Err-OutOfRange.field-0-is) ∙ c.store.ensures.answer)))

pub returns-in-Err-OutOfRange-clause-regs : goal.returns-in-Err-OutOfRange-clause-regs
returns-in-Err-OutOfRange-clause-regs c =
    let fits : FitsSigned w32 c.args.imm = search rules in
    let same : c.wrapping_add_signed-addr.result ≡ plus (reg c.args.regs.now c.args.rs1) (word c.args.imm) =
    c.wrapping_add_signed-addr.ensures ∙ ap (λ (z : ℤ). plus c.read.result (of_z w32 z)) (to_z-of_z w32 c.args.imm fits) ∙ ap (λ (a : ℕ). plus a (word c.args.imm)) c.read.ensures in
    sym (ap (λ (e : Executed). regs_after e c.args.regs.now) (store_outside _ c.args.regs.now c.args.ram.now.bytes c.args.width (reg c.args.regs.now c.args.rs2) c.wrapping_add_signed-addr.result (plus (reg c.args.regs.now c.args.rs1) (word c.args.imm)) _ same (sym (c.in-Err-OutOfRange.is ∙ ap Err c.in-Err-OutOfRange.field-0-is) ∙ c.store.ensures.answer)))

pub returns-in-Err-OutOfRange-clause-bytes : goal.returns-in-Err-OutOfRange-clause-bytes
returns-in-Err-OutOfRange-clause-bytes c =
    let fits : FitsSigned w32 c.args.imm = search rules in
    let same : c.wrapping_add_signed-addr.result ≡ plus (reg c.args.regs.now c.args.rs1) (word c.args.imm) =
    c.wrapping_add_signed-addr.ensures ∙ ap (λ (z : ℤ). plus c.read.result (of_z w32 z)) (to_z-of_z w32 c.args.imm fits) ∙ ap (λ (a : ℕ). plus a (word c.args.imm)) c.read.ensures in
    ap (λ (s : Memory). s.bytes) c.in-Err-OutOfRange.ensures.err ∙ sym (ap (λ (e : Executed). bytes_after e c.args.ram.now.bytes) (store_outside _ c.args.regs.now c.args.ram.now.bytes c.args.width (reg c.args.regs.now c.args.rs2) c.wrapping_add_signed-addr.result (plus (reg c.args.regs.now c.args.rs1) (word c.args.imm)) _ same (sym (c.in-Err-OutOfRange.is ∙ ap Err c.in-Err-OutOfRange.field-0-is) ∙ c.store.ensures.answer)))
