use Rattle.std.proofs.Common.{◌∙◌, sym, ap, is_some}
use Rattle.std.proofs.lemmas.Result.{on_ok_weaker, on_err_weaker}
use Rattle.page_server.specs.Disk.{written}
use Rattle.page_server.specs.Sheets.{in_sheet}
use Rattle.page_server.proofs.SheetLaws.{disk_put, disk_same}
use Rattle.page_server.proofs.mem_disk.write.Goals as goal

pub returns-in-Some-clause-ok : goal.returns-in-Some-clause-ok
returns-in-Some-clause-ok c =
    let h = c.get_mut.follows.holds c.put.new.self in
    on_ok_weaker c.put.result
    (λ e. disk_put c.args.pages.now (c.get_mut.follows.lender c.put.new.self) c.args.slot c.sheet_of.result c.place_of.result c.put.new.self c.args.page.now c.sheet_of.ensures c.place_of.ensures (h.3 (ap is_some (sym c.in-Some.ensures.value))).0
    (e ∙ ap (λ o. written (in_sheet o) c.place_of.result c.args.page.now) c.in-Some.ensures.value))
    c.put.ensures.ok

pub returns-in-Some-clause-err : goal.returns-in-Some-clause-err
returns-in-Some-clause-err c =
    let h = c.get_mut.follows.holds c.put.new.self in
    on_err_weaker c.put.result
    (λ e. disk_same c.args.pages.now (c.get_mut.follows.lender c.put.new.self) c.sheet_of.result c.put.new.self (h.3 (ap is_some (sym c.in-Some.ensures.value))).0
    (e ∙ ap in_sheet c.in-Some.ensures.value))
    c.put.ensures.err
