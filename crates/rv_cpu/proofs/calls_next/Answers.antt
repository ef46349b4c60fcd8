use Rattle.std.proofs.Common.{◌∙◌, ap, sym}
use Rattle.rv_insn.specs.Table.{decoded}
use Rattle.rv_cpu.specs.Exec.{exec_fetched, is_call, is_ecall}
use Rattle.rv_cpu.proofs.CallsNext.{decoded_calls}
use Rattle.rv_cpu.proofs.calls_next.Goals as goal

pub returns-in-Some : goal.returns-in-Some
returns-in-Some c =
    c.is_ecall.ensures
    ∙ ap is_ecall c.decode.ensures.value
    ∙ decoded_calls (decoded c.in-Some.word) c.args.regs.now c.args.ram.now.bytes
    ∙ ap (λ o. is_call (exec_fetched o c.args.regs.now c.args.ram.now.bytes)) (sym c.in-Some.is ∙ c.fetch.ensures)
