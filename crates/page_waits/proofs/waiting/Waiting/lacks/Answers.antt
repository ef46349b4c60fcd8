use Rattle.std.proofs.Common.{length, Some, sym, ap, ◌∙◌, arith}
use Rattle.page_waits.specs.Kept.{bytes_in}
use Rattle.page_waits.specs.Waiting.{WaitingState}
use Rattle.page_waits.proofs.Asking.{none_left, one_left}
use Rattle.page_waits.proofs.Come.{pages_len}
use Rattle.page_waits.proofs.waiting.Waiting.lacks.Goals as goal

pub returns-then-from-len : goal.returns-then-from-len
returns-then-from-len c =
    let asked = ap (λ (w : WaitingState). w.asked) c.self.view_is in
    let come = ap (λ (w : WaitingState). length w.come) c.self.view_is in
    let len = pages_len c.self.inside.here (bytes_in c.self.inside.ram) in
    ap (λ (w : WaitingState). Some w.asked) c.self.view_is ∙ sym (one_left c.args.self.now (omega (arith, asked, come, len, c.if-from-len.true, c.len.ensures, c.from.ensures)))

pub returns-else-from-len : goal.returns-else-from-len
returns-else-from-len c =
    let asked = ap (λ (w : WaitingState). w.asked) c.self.view_is in
    let come = ap (λ (w : WaitingState). length w.come) c.self.view_is in
    let len = pages_len c.self.inside.here (bytes_in c.self.inside.ram) in
    sym (none_left c.args.self.now (omega (arith, asked, come, len, c.if-from-len.false, c.len.ensures, c.from.ensures)))
