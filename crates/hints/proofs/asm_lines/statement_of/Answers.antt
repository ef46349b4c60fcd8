use Rattle.hints.proofs.asm_lines.statement_of.Goals as goal

pub returns : goal.returns
returns c = rw (c.cut_at.ensures.before, c.cut_at.ensures.from, c.trim_start-text.ensures) at c.behind_colon.ensures
