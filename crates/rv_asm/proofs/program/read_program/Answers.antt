use Rattle.std.proofs.Common.{ℕ, List, ap, subst, ◌∙◌}
use Rattle.rv_asm.specs.Answers.{Answers}
use Rattle.rv_asm.specs.Parsed.{texts_of}
use Rattle.rv_asm.specs.Program.{reading_of_lines}
use Rattle.rv_asm.proofs.program.read_program.Goals as goal

pub returns : goal.returns
returns c = subst (λ (lines : List (List ℕ)). Answers c.read_lines.result (reading_of_lines lines)) (ap texts_of c.deref.ensures.value ∙ c.in_ok-lines.ensures.lines) c.read_lines.ensures
