use Rattle.std.proofs.Common.{◌≡◌, ◌∙◌, ap, arith, ◌++◌, ◌∷◌, [], None, Option, replicate}
use Rattle.bus_order.specs.declared.marks.Mark.{Mark}
use Rattle.bus_order.proofs.MarksLaws.{replicate-more}
use Rattle.bus_order.proofs.marks.unmarked.Goals as goal

pub loop-preserved : goal.loop-preserved
loop-preserved c = c.in_ok-push.ensures.items ∙ ap (λ l. l ++ None ∷ []) c.loop.invariant ∙ replicate-more c.loop.counter

pub returns : goal.returns
returns c = let last : c.loop.counter ≡ c.args.clusters = omega arith in c.loop.invariant ∙ ap (λ n. replicate {A = Option Mark} n None) last
