use Rattle.std.proofs.Common.{◌∙◌, sym, ap}
use Rattle.channel_table.specs.Changes.{pids_differ}
use Rattle.channel_table.proofs.KeyLaws.{pids_differ-table}
use Rattle.channel_table.proofs.processes.Processes.len.Goals as goal

pub returns-clause-different : goal.returns-clause-different
returns-clause-different c =
    ap pids_differ (sym c.self.view_is) ∙ pids_differ-table c.self.inside.map.entries c.self.invariant.keyed c.self.invariant.distinct
