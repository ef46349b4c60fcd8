use Rattle.std.proofs.Common.{◌≡◌}
use Rattle.backup_tests.proofs.records.records.can_note.Goals as goal

pub returns-then-can_save : goal.returns-then-can_save
returns-then-can_save c = rw c.in-Mail.is (λ counted. (c.can_save.ensures c.if-can_save.true, c.can_count.ensures counted))
