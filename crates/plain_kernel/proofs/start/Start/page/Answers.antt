use Rattle.std.proofs.Common.{◌∙◌, ◌*◌, ℕ, List, ap, arith, take, drop}
use Rattle.rv_mem.specs.Memory.{page_at}
use Rattle.proc_state.specs.State.{ProcState}
use Rattle.plain_kernel.specs.Starts.{page_of_words}
use Rattle.plain_kernel.proofs.StartPages.{page_is}
use Rattle.plain_kernel.proofs.start.Start.page.Goals as goal

pub returns : goal.returns
returns c =
    let image = c.self.inside.image.now in
    let pages = c.self.inside.small.pages in
    let within = ap (λ (s : ProcState). (s.small).pages) c.self.view_is in
    c.page_of.ensures
    ∙ ap (λ (words : List ℕ). page_of_words (take 64 (drop (64 * c.args.i) words))) c.as_slice.ensures
    ∙ page_is image.words pages c.args.i (omega (arith, c.self.invariant.fits, c.self.invariant.pages)) (omega (arith, within, c.requires))
    ∙ ap (λ (s : ProcState). page_at s.memory c.args.i) c.self.view_is
