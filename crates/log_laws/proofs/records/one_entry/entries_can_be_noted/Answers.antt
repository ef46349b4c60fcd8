use Rattle.log_laws.proofs.records.Noted.{can_note}
use Rattle.log_laws.proofs.records.Counts.{next_fits}
use Rattle.log_laws.proofs.records.KeptLaws.{counted_below}
use Rattle.log_laws.proofs.records.one_entry.entries_can_be_noted.Goals as goal

pub returns-clause-room : goal.returns-clause-room
returns-clause-room c = next_fits

pub returns-clause-counts : goal.returns-clause-counts
returns-clause-counts c = counted_below

pub returns-clause-legal : goal.returns-clause-legal
returns-clause-legal c = can_note
