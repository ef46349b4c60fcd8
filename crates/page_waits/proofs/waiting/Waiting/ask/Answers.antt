use Rattle.std.proofs.Common.{◌+◌, ◌≤◌, length, ap, arith}
use Rattle.page_waits.specs.Kept.{bytes_in}
use Rattle.page_waits.specs.Waiting.{WaitingState}
use Rattle.page_waits.proofs.Asking.{one_is_left}
use Rattle.page_waits.proofs.Come.{one_each}
use Rattle.page_waits.proofs.waiting.Waiting.ask.Goals as goal

pub invariant_of-self : goal.invariant_of-self
invariant_of-self c =
    let kept = c.self.invariant in
    let asked = ap (λ (w : WaitingState). w.asked) c.self.view_is in
    let come = ap (λ (w : WaitingState). length w.come) c.self.view_is in
    let left = one_is_left c.args.self.now c.requires in
    let one_more : c.self.inside.asked + 1 ≤ length c.self.inside.here.items = omega (arith, asked, come, left, one_each c.self.inside.here.items (bytes_in c.self.inside.ram)) in
    record {
      stated = kept.stated;
      some = kept.some;
      at_most = kept.at_most;
      pages = kept.pages;
      size = kept.size;
      clean = kept.clean;
      unmarked = kept.unmarked;
      within = one_more;
    }
