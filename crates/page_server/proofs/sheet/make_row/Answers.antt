use Rattle.std.proofs.Common.{◌∙◌, ap, map}
use Rattle.page_server.specs.Sheets.{lying}
use Rattle.page_server.proofs.SheetLaws.{row_more}
use Rattle.page_server.proofs.sheet.make_row.Goals as goal

pub loop-rows-preserved : goal.loop-rows-preserved
loop-rows-preserved c =
    ap (λ rows. lying (map (λ r. r.items) rows)) c.in_ok-push.ensures.items ∙ row_more (λ r. r.items) c.loop-rows.rows.items c.new.result c.new.ensures.items ∙ c.loop-rows.invariant
