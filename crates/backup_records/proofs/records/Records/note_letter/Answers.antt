use Rattle.std.proofs.Common.{List, ap, map, subst, sym, ◌∙◌}
use Rattle.t32_base.specs.declared.letter.BackRec.{BackRec}
use Rattle.backup_records.specs.Records.{CanCount, counted_by_sender, saved_by_receiver}
use Rattle.backup_records.proofs.RecordLaws.{can_still_count, twice}
use Rattle.backup_records.proofs.records.Records.note_letter.Goals as goal

pub count-requires : goal.count-requires
count-requires c = subst (CanCount c.args.letter.now) (sym c.in_ok-save.ensures.ok) (can_still_count c.args.letter.now c.args.self.now c.requires.counted)

pub returns-clause-ok : goal.returns-clause-ok
returns-clause-ok c =
    c.count.ensures
    ∙ ap (λ (recs : List BackRec). map (counted_by_sender c.args.letter.now) recs) c.in_ok-save.ensures.ok
    ∙ twice (saved_by_receiver c.args.letter.now) (counted_by_sender c.args.letter.now) c.args.self.now
