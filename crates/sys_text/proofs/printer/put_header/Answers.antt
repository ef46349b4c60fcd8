use Rattle.std.proofs.Common.{ap, ◌∙◌, ◌++◌, ◌∷◌, []}
use Rattle.std.proofs.lemmas.Result.{on_ok_weaker}
use Rattle.std.specs.Fmt.{decimal}
use Rattle.std.specs.Prelude.{codes}
use Rattle.sys_text.specs.Text.{line_text}
use Rattle.sys_text.proofs.Lines.{header_text}
use Rattle.sys_text.proofs.printer.put_header.Goals as goal

pub returns : goal.returns
returns c =
    let s = c.args.system.now in
    on_ok_weaker c.put_number-3.result
    (header_text (codes "clusters" ∷ decimal s.clusters ∷ []) (codes "pager" ∷ decimal ((s.pager).0).0 ∷ decimal ((s.pager).1).0 ∷ []) (codes "syncreads" ∷ decimal s.syncreads ∷ []) (codes "syncsteps" ∷ decimal s.syncsteps ∷ [])
    c.args.text.now c.put_number.new.text c.put_pager.new.text c.put_number-2.new.text c.put_number-3.new.text
    (c.in_ok-put_number.ensures ∙ ap (λ n. c.args.text.now ++ line_text (codes "clusters" ∷ decimal n ∷ [])) c.from.ensures)
    c.in_ok-put_pager.ensures c.in_ok-put_number-2.ensures)
    c.put_number-3.ensures
