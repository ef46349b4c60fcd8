use Rattle.std.proofs.Common.{◌≡◌, ◌++◌, true, length}
use Rattle.text_parts.specs.Lines.{lines_of}
use Rattle.rv_asm.specs.Clean.{is_clean}
use Rattle.rv_asm.specs.Parsed.{texts_of}
use Rattle.rv_asm.proofs.program.parse_lines.Given as goal

abbrev pub invariant-loop-rest : goal.invariant-loop-rest
invariant-loop-rest l = record {
  lines : texts_of l.lines.items ++ lines_of l.rest ≡ lines_of l.text;
  clean : is_clean l.text ≡ true → is_clean l.rest ≡ true;
}

abbrev pub decreases-loop-rest : goal.decreases-loop-rest
decreases-loop-rest l = length l.rest
