use Rattle.std.proofs.Common.{length, sym, ap, ◌∙◌}
use Rattle.page_waits.specs.Kept.{bytes_in}
use Rattle.page_waits.specs.Waiting.{WaitingState}
use Rattle.page_waits.proofs.Come.{pages_len}
use Rattle.page_waits.proofs.waiting.Waiting.pages.Goals as goal

pub returns-clause-pages : goal.returns-clause-pages
returns-clause-pages c = c.len.ensures ∙ sym (pages_len c.self.inside.here (bytes_in c.self.inside.ram)) ∙ ap (λ (w : WaitingState). length w.come) c.self.view_is
