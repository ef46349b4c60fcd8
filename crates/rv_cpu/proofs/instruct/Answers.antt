use Rattle.std.proofs.Common.{length, ap, ◌∙◌}
use Rattle.rv_cpu.specs.Exec.{executed}
use Rattle.rv_cpu.proofs.Marks.{length-marks_after}
use Rattle.rv_cpu.proofs.instruct.Goals as goal

pub returns-in-Some-decode-clause-marks : goal.returns-in-Some-decode-clause-marks
returns-in-Some-decode-clause-marks c =
    ap length c.execute.ensures.dirty
    ∙ length-marks_after (executed c.in-Some-decode.insn c.args.regs.now c.args.ram.now.bytes) c.in-Some-decode.insn c.args.regs.now c.args.ram.now.dirty
