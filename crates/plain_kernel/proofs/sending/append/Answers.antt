use Rattle.std.proofs.Common.{ap, sym, ◌∙◌, Some, is_some}
use Rattle.std.specs.Ordering.{nat_cmp}
use Rattle.std.specs.FinMap.{put}
use Rattle.plain_kernel.specs.Kernel.{text_put}
use Rattle.plain_kernel.specs.Maps.{at_key}
use Rattle.plain_kernel.proofs.Entries.{put_here, written_same}
use Rattle.plain_kernel.proofs.Delivery.{any_err}
use Rattle.plain_kernel.proofs.sending.append.Goals as goal

pub returns-in_ok-extend-in-Some-clause-ok : goal.returns-in_ok-extend-in-Some-clause-ok
returns-in_ok-extend-in-Some-clause-ok c =
    let h = c.get_mut.follows.holds c.extend.new.self in
    let was = sym c.in-Some.ensures.value in
    h.0
    ∙ put_here c.args.tty c.extend.new.self c.args.ttys.now.entries c.get_mut.ensures.ordered (ap is_some was)
    ∙ ap (λ t. put nat_cmp c.args.tty t c.args.ttys.now.entries) c.in_ok-extend-in-Some.ensures.ok
    ∙ ap (λ o. text_put c.args.tty c.args.bytes.now o c.args.ttys.now.entries) (sym was)

pub returns-in_err-extend-in-Some-clause-err : goal.returns-in_err-extend-in-Some-clause-err
returns-in_err-extend-in-Some-clause-err c =
    let h = c.get_mut.follows.holds c.extend.new.self in
    any_err c.from_residual.result _ (h.0 ∙ written_same (at_key c.args.tty) c.args.ttys.now.entries c.extend.new.self (sym c.in-Some.ensures.value ∙ ap Some (sym c.in_err-extend-in-Some.ensures.err)))
