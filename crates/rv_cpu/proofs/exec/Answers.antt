use Rattle.rv_cpu.proofs.Single.{single}
use Rattle.rv_cpu.proofs.exec.Goals as goal

pub returns-clause-did : goal.returns-clause-did
returns-clause-did c = (single c.run.result.0 c.run.result.1 c.args.regs.now c.args.ram.now c.run.new.regs c.run.new.ram c.run.ensures.made c.run.ensures.ran c.run.ensures.stops c.run.ensures.all).did

pub returns-clause-regs : goal.returns-clause-regs
returns-clause-regs c = (single c.run.result.0 c.run.result.1 c.args.regs.now c.args.ram.now c.run.new.regs c.run.new.ram c.run.ensures.made c.run.ensures.ran c.run.ensures.stops c.run.ensures.all).regs

pub returns-clause-bytes : goal.returns-clause-bytes
returns-clause-bytes c = (single c.run.result.0 c.run.result.1 c.args.regs.now c.args.ram.now c.run.new.regs c.run.new.ram c.run.ensures.made c.run.ensures.ran c.run.ensures.stops c.run.ensures.all).bytes

pub returns-clause-dirty : goal.returns-clause-dirty
returns-clause-dirty c = (single c.run.result.0 c.run.result.1 c.args.regs.now c.args.ram.now c.run.new.regs c.run.new.ram c.run.ensures.made c.run.ensures.ran c.run.ensures.stops c.run.ensures.all).dirty
