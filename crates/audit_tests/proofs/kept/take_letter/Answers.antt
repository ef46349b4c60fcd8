use Rattle.std.proofs.Common.{subst}
use Rattle.backup_records.specs.Records.{CanCount, CanSave}
use Rattle.audit_tests.proofs.kept.take_letter.Goals as goal

pub take-requires : goal.take-requires
take-requires c = (
  subst (CanSave c.letter-letter.result) c.records.ensures (c.can_save.ensures c.if-can_save.true),
  subst (CanCount c.letter-letter.result) c.records-then-can_save.ensures (c.can_count.ensures c.if-can_count.true),
)
