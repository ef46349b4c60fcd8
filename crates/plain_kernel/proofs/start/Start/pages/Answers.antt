use Rattle.std.proofs.Common.{sym, ap, arith, length}
use Rattle.proc_state.specs.State.{ProcState}
use Rattle.plain_kernel.specs.declared.start.Start.TheInside.{Inside}
use Rattle.plain_kernel.proofs.StartPages.{memory_fills}
use Rattle.plain_kernel.proofs.start.Start.pages.Goals as goal

pub returns-clause-bytes : goal.returns-clause-bytes
returns-clause-bytes c =
    let size = ap (λ (s : ProcState). length s.memory) (sym c.self.view_is) in
    let whole = memory_fills c.self.inside.image.now.words c.self.inside.small.pages (omega (arith, c.self.invariant.fits, c.self.invariant.pages)) in
    let pages = ap (λ (i : Inside). (i.small).pages) c.self-inside.view_is in
    omega (arith, size, whole, pages)
