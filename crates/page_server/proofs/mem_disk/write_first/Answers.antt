use Rattle.std.proofs.Common.{◌∙◌, sym, ap}
use Rattle.std.specs.BTreeMap.{get}
use Rattle.std.specs.Ordering.{nat_cmp}
use Rattle.page_server.specs.Disk.{written}
use Rattle.page_server.specs.Sheets.{in_sheet, lying}
use Rattle.page_server.proofs.SheetLaws.{disk_put}
use Rattle.page_server.proofs.mem_disk.write_first.Goals as goal

pub returns-clause-ok : goal.returns-clause-ok
returns-clause-ok c =
    disk_put c.args.pages.now c.insert.new.self c.args.slot c.sheet_of.result c.place_of.result c.put.new.self c.args.page.now c.sheet_of.ensures c.place_of.ensures c.in_ok-insert.ensures.updates.0
    (c.in_ok-put.ensures.ok
    ∙ ap (λ rows. written (lying rows) c.place_of.result c.args.page.now) c.new-sheet.ensures
    ∙ ap (λ o. written (in_sheet o) c.place_of.result c.args.page.now) (sym c.requires ∙ ap (get nat_cmp c.args.pages.now) (sym c.sheet_of.ensures)))
