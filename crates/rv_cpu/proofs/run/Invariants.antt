use Rattle.std.proofs.Common.{◌≡◌, length, Some}
use Rattle.rv_cpu.specs.Run.{machine_of, ran}
use Rattle.rv_cpu.proofs.run.Given as goal

abbrev pub invariant-loop-made : goal.invariant-loop-made
invariant-loop-made l = record {
  so_far : ran l.made (machine_of l.initial.regs l.initial.ram) ≡ Some (machine_of l.regs l.ram);
  marks : length l.ram.dirty ≡ length l.initial.ram.dirty;
}
