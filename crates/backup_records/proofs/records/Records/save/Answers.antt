use Rattle.std.proofs.Common.{sym}
use Rattle.backup_records.proofs.RecordLaws.{is_for, none_saved}
use Rattle.backup_records.proofs.records.Records.save.Goals as goal

pub returns-in-Tty-clause-ok : goal.returns-in-Tty-clause-ok
returns-in-Tty-clause-ok c = sym (none_saved c.args.letter.now (c.args.letter.now).to c.in-Tty.field-0 c.args.self.now c.in-Tty.is)

pub save_for-requires : goal.save_for-requires
save_for-requires c = λ r found. c.requires c.in-Proc.pid r (is_for c.in-Proc.pid c.in-Proc.field-1 (c.args.letter.now).to c.in-Proc.is) found
