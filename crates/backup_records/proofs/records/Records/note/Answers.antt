use Rattle.std.proofs.Common.{ℕ, List, subst, sym}
use Rattle.bus_msg.specs.declared.entry.What.{What}
use Rattle.backup_records.specs.Records.{CanCut, CanNote}
use Rattle.backup_records.proofs.records.Records.note.Goals as goal

pub note_letter-requires-clause-saved : goal.note_letter-requires-clause-saved
note_letter-requires-clause-saved c = (subst (λ (w : What). CanNote w c.args.self.now) c.in-Mail.is c.requires).0

pub note_letter-requires-clause-counted : goal.note_letter-requires-clause-counted
note_letter-requires-clause-counted c = (subst (λ (w : What). CanNote w c.args.self.now) c.in-Mail.is c.requires).1

pub cut-requires : goal.cut-requires
cut-requires c =
    subst (λ (read : List ℕ). CanCut c.in-Sync.pid read c.args.self.now) (sym c.as_slice.ensures) (subst (λ (w : What). CanNote w c.args.self.now) c.in-Sync.is c.requires)
