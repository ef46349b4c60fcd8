use Rattle.entry_lines.proofs.ReadBack.{same_told}
use Rattle.entry_lines.proofs.reading.texts_differ.Goals as goal

pub returns : goal.returns
returns c = same_told
