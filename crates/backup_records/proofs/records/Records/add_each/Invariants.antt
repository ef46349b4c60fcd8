use Rattle.std.proofs.Common.{◌≡◌, take}
use Rattle.backup_records.specs.Records.{with_records}
use Rattle.backup_records.proofs.records.Records.add_each.Given as goal

abbrev pub invariant-loop-rec : goal.invariant-loop-rec
invariant-loop-rec l = l.self ≡ with_records (take l.rec-index l.recs) l.fn.self
