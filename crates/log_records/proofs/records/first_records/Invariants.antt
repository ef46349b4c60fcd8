use Rattle.std.proofs.Common.{take}
use Rattle.log_records.specs.Records.{AreFirstOf}
use Rattle.log_records.proofs.records.first_records.Given as goal

-- those before the index
abbrev pub invariant-loop-index : goal.invariant-loop-index
invariant-loop-index l = AreFirstOf (take l.index l.placed.placed) l.starts.entries l.records
