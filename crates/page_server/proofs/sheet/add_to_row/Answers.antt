use Rattle.std.proofs.Common.{◌∙◌, ap, length, take, replicate, ◌++◌, ◌∷◌, [], ◌-◌, ◌≡◌, ◌≤◌, None, Some, arith, Result, Ok, Err, OnErr}
use Rattle.page_server.proofs.SheetLaws.{Row, row_filled, row_added}
use Rattle.page_server.proofs.sheet.add_to_row.Goals as goal

on_err : {T E P : Type 0} (r : Result T E) → P → OnErr r P
on_err (Ok t) p = tt
on_err (Err e) p = p

pub returns-in_err-push-clause-err : goal.returns-in_err-push-clause-err
returns-in_err-push-clause-err c = on_err c.from_residual-in_err-push.result
    (row_filled c.args.row.now.items c.push.new.self.items c.args.at (c.args.at - c.make_room.new.row.len) c.requires.behind
    (c.in_err-push.ensures.items ∙ c.in_ok-resize.ensures.items ∙ ap (λ (r : Row). take c.args.at r ++ replicate (c.args.at - c.make_room.new.row.len) None) c.make_room.ensures))

pub returns-clause-ok : goal.returns-clause-ok
returns-clause-ok c =
    let same : length c.make_room.new.row.items ≡ length c.args.row.now.items = ap length c.make_room.ensures in
    let long : c.make_room.new.row.len ≡ length c.make_room.new.row.items = c.make_room.new.row.ok.0 in
    let behind : length c.args.row.now.items ≤ c.args.at = c.requires.behind in
    row_added c.args.row.now.items c.push.new.self.items c.args.at (c.args.at - c.make_room.new.row.len) c.args.page.now (omega arith)
    (c.in_ok-push.ensures.items ∙ ap (λ (r : Row). r ++ Some c.args.page.now ∷ []) (c.in_ok-resize.ensures.items ∙ ap (λ (r : Row). take c.args.at r ++ replicate (c.args.at - c.make_room.new.row.len) None) c.make_room.ensures))
