use Rattle.std.proofs.Common.{refl, ltb}
use Rattle.rv_asm.specs.Registers.{registers}
use Rattle.text_parts.proofs.Tables.{found_passes, below_from_test}
use Rattle.rv_asm.proofs.registers.register.Goals as goal

pub returns-clause-small : goal.returns-clause-small
returns-clause-small c = below_from_test 32 c.register_named.result (found_passes (λ n. ltb n 32) registers c.args.name.now c.register_named.result refl c.register_named.ensures)
