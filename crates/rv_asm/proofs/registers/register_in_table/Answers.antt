use Rattle.std.proofs.Common.{eqb, ℕ, sym, ◌∙◌}
use Rattle.std.proofs.lemmas.Bool.{eq-eqb}
use Rattle.rv_asm.specs.FirstByte.{first_byte}
use Rattle.rv_asm.specs.Registers.{registers}
use Rattle.rv_asm.proofs.PartedTables.{parted}
use Rattle.rv_asm.proofs.registers.register_in_table.Goals as goal

pub returns-then-first-eq120 : goal.returns-then-first-eq120
returns-then-first-eq120 c = c.lookup-then-first-eq120.ensures ∙ parted (λ (b : ℕ). eqb b 120) registers c.args.name.now (eq-eqb (first_byte c.args.name.now) 120 (sym c.first_byte-first.ensures ∙ c.if-first-eq120.true))
