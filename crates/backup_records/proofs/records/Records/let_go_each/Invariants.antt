use Rattle.std.proofs.Common.{◌≡◌, take}
use Rattle.backup_records.specs.Records.{without_each}
use Rattle.backup_records.proofs.records.Records.let_go_each.Given as goal

abbrev pub invariant-loop-rec : goal.invariant-loop-rec
invariant-loop-rec l = l.self ≡ without_each (take l.rec-index l.recs) l.fn.self
