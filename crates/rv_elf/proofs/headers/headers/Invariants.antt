use Rattle.std.proofs.Common.{◌≡◌}
use Rattle.rv_elf.specs.File.{headers_to}
use Rattle.rv_elf.proofs.headers.headers.Given as goal

abbrev pub invariant-loop-i : goal.invariant-loop-i
invariant-loop-i l = l.headers.items ≡ headers_to l.file l.table l.i
