use Rattle.std.proofs.Common.{ap, ◌∙◌}
use Rattle.std.proofs.lemmas.Result.{on_err_weaker}
use Rattle.backup_records.specs.Records.{without_each}
use Rattle.backup_records.proofs.RenewedLaws.{come_and_go}
use Rattle.backup_records.proofs.records.Records.bring.Goals as goal

-- the records that came go again
pub returns-then-is_err-clause-err : goal.returns-then-is_err-clause-err
returns-then-is_err-clause-err c =
    on_err_weaker c.add_each-brought.result
    (λ came.
    c.let_go_each.ensures
    ∙ ap (without_each c.args.recs.now) came.1
    ∙ come_and_go c.args.recs.now c.args.self.now came.0 c.requires.new)
    c.add_each-brought.ensures.err
