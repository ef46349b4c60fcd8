use Rattle.std.proofs.Common.{ap, sym, ◌∙◌}
use Rattle.backup_records.specs.Records.{are_rising}
use Rattle.backup_records.proofs.ByPidLaws.{rising}
use Rattle.backup_records.proofs.records.Records.len.Goals as goal

pub returns-clause-rising : goal.returns-clause-rising
returns-clause-rising c = ap are_rising (sym c.self.view_is) ∙ rising c.self.inside.by_pid.entries c.self.invariant
