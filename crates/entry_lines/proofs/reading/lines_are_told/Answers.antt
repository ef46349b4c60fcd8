use Rattle.entry_lines.proofs.Printed.{line_told}
use Rattle.entry_lines.proofs.reading.lines_are_told.Goals as goal

pub returns : goal.returns
returns c = line_told
