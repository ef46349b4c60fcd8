use Rattle.std.proofs.Common.{◌∙◌, ap, ◌/◌, ◌%◌}
use Rattle.std.proofs.lemmas.Result.{on_ok_weaker, on_err_weaker}
use Rattle.page_server.specs.Disk.{written}
use Rattle.page_server.specs.Sheets.{in_row, lying}
use Rattle.page_server.proofs.SheetLaws.{rows_put, rows_same}
use Rattle.page_server.proofs.sheet.Sheet.put.Goals as goal

pub returns-clause-ok : goal.returns-clause-ok
returns-clause-ok c = on_ok_weaker c.put_in_row.result
    (λ e. rows_put (λ r. r.items) c.make_row.new.rows.items c.args.at c.put_in_row.new.row _ c.args.page.now c.in_ok-make_row.ensures.there
    (e ∙ ap (λ r. written (in_row r.items) (c.args.at % 8) c.args.page.now) c.index_mut.ensures.value)
    ∙ ap (λ s. written s c.args.at c.args.page.now) (c.make_row.ensures.same ∙ ap lying c.self.view_is))
    c.put_in_row.ensures.ok

pub returns-clause-err : goal.returns-clause-err
returns-clause-err c = on_err_weaker c.put_in_row.result
    (λ e. rows_same (λ r. r.items) c.make_row.new.rows.items (c.args.at / 8) c.put_in_row.new.row _ c.in_ok-make_row.ensures.there
    (e ∙ ap (λ r. in_row r.items) c.index_mut.ensures.value)
    ∙ c.make_row.ensures.same ∙ ap lying c.self.view_is)
    c.put_in_row.ensures.err
