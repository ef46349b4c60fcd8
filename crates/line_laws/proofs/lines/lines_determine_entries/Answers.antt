use Rattle.line_laws.proofs.Meaning.{entry_is_meant}
use Rattle.line_laws.proofs.Determined.{same_entries}
use Rattle.line_laws.proofs.lines.lines_determine_entries.Goals as goal

pub returns-clause-meant : goal.returns-clause-meant
returns-clause-meant c = entry_is_meant

pub returns-clause-same : goal.returns-clause-same
returns-clause-same c = same_entries
