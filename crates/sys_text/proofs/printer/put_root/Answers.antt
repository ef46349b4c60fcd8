use Rattle.std.proofs.lemmas.Result.{on_ok_weaker}
use Rattle.sys_text.proofs.Lines.{root_text}
use Rattle.sys_text.proofs.printer.put_root.Goals as goal

pub returns : goal.returns
returns c =
    on_ok_weaker c.put_numbers.result
    (root_text c.args.images.now c.args.root c.args.text.now c.put_clusters.new.text c.put_program.new.text c.put_numbers.new.text c.in_ok-put_clusters.ensures c.in_ok-put_program.ensures)
    c.put_numbers.ensures
