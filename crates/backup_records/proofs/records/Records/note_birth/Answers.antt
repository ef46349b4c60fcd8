use Rattle.std.proofs.Common.{List, ap, not, ◌∙◌}
use Rattle.std.specs.Prelude.{filter}
use Rattle.std.proofs.lemmas.Result.{on_err_weaker}
use Rattle.t32_base.specs.declared.letter.BackRec.{BackRec}
use Rattle.bus_msg.specs.Places.{same_pid}
use Rattle.backup_records.specs.Records.{record_of_child, with_record}
use Rattle.backup_records.proofs.BirthLaws.{put_goes}
use Rattle.backup_records.proofs.records.Records.note_birth.Goals as goal

-- the child's record, which was put, goes again
pub returns-then-is_err-clause-err : goal.returns-then-is_err-clause-err
returns-then-is_err-clause-err c =
    on_err_weaker c.bear-born.result
    (λ is.
    c.let_go.ensures
    ∙ ap (λ (recs : List BackRec). filter (λ (r : BackRec). not (same_pid r.pid c.args.child)) recs)
    (is ∙ c.in_ok-add.ensures.ok ∙ ap (λ (r : BackRec). with_record r c.args.self.now) c.new.ensures)
    ∙ put_goes (record_of_child c.args.child) c.args.self.now c.requires)
    c.bear-born.ensures.err
