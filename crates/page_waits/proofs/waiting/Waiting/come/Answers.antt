use Rattle.std.proofs.Common.{◌<◌, ℕ, List, Bool, Option, length, set, true, ap, ◌∙◌, arith}
use Rattle.std.proofs.lemmas.List.{length-replicate}
use Rattle.rv_mem.specs.Memory.{Memory}
use Rattle.page_waits.specs.Kept.{bytes_in, pages_come}
use Rattle.page_waits.specs.Waiting.{WaitingState, with_page}
use Rattle.page_waits.proofs.Come.{one_each, one_more_in}
use Rattle.page_waits.proofs.Keeping.{keeps_one_more}
use Rattle.page_waits.proofs.waiting.Waiting.come.Goals as goal

pub put-requires : goal.put-requires
put-requires c =
    let come = ap (λ (w : WaitingState). length w.come) c.self.view_is in
    omega (arith, c.requires, come, one_each c.self.inside.here.items (bytes_in c.self.inside.ram), ap length c.self.invariant.clean, length-replicate {A = Bool})

pub mark-requires-clause-within : goal.mark-requires-clause-within
mark-requires-clause-within c =
    let come = ap (λ (w : WaitingState). length w.come) c.self.view_is in
    omega (arith, c.requires, come, one_each c.self.inside.here.items (bytes_in c.self.inside.ram), c.from.ensures)

pub invariant_of-self : goal.invariant_of-self
invariant_of-self c =
    let come = ap (λ (w : WaitingState). length w.come) c.self.view_is in
    let within : c.args.index < length c.self.inside.here.items = omega (arith, c.requires, come, one_each c.self.inside.here.items (bytes_in c.self.inside.ram)) in
    let marked = c.mark.ensures.here ∙ ap (λ i. set c.self.inside.here.items i true) c.from.ensures in
    keeps_one_more c.self.inside.kept c.self.inside.ram c.put.new.ram c.self.inside.here.items c.mark.new.here.items c.self.inside.lacking c.mark.new.lacking c.self.inside.asked c.args.index c.args.page.now
    c.self.invariant within c.told-page c.put.ensures marked c.mark.ensures.lacking

pub returns : goal.returns
returns c =
    let come = ap (λ (w : WaitingState). length w.come) c.self.view_is in
    let within : c.args.index < length c.self.inside.here.items = omega (arith, c.requires, come, one_each c.self.inside.here.items (bytes_in c.self.inside.ram)) in
    let marked = c.mark.ensures.here ∙ ap (λ i. set c.self.inside.here.items i true) c.from.ensures in
    let pages = ap (λ (marks : List Bool). pages_come marks (bytes_in c.put.new.ram)) marked
    ∙ ap (λ (m : Option Memory). pages_come (set c.self.inside.here.items c.args.index true) (bytes_in m)) c.put.ensures
    ∙ one_more_in c.self.inside.here.items c.self.inside.ram c.args.page.now c.args.index within c.told-page c.self.invariant.size in
    ap (λ (all : List (Option (List ℕ))). record { kept = c.self.inside.kept; asked = c.self.inside.asked; come = all }) pages
    ∙ ap (with_page c.args.index c.args.page.now) c.self.view_is
