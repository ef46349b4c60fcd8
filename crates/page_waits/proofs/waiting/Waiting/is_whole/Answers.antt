use Rattle.std.proofs.Common.{nat_eq, sym, ap, ◌∙◌}
use Rattle.page_waits.specs.Kept.{bytes_in}
use Rattle.page_waits.specs.Waiting.{WaitingState, is_whole}
use Rattle.page_waits.proofs.Come.{whole_where}
use Rattle.page_waits.proofs.waiting.Waiting.is_whole.Goals as goal

pub returns : goal.returns
returns c =
    ap (λ n. nat_eq n 0) c.self.invariant.unmarked
    ∙ sym (whole_where c.self.inside.here.items (bytes_in c.self.inside.ram))
    ∙ ap (λ (w : WaitingState). is_whole w) c.self.view_is
