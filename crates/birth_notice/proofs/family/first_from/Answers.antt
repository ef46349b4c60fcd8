use Rattle.std.proofs.Common.{◌∙◌, sym, ap}
use Rattle.std.specs.Option.{unwrap_or}
use Rattle.birth_notice.proofs.WalkLaws.{down, first-some}
use Rattle.birth_notice.proofs.family.first_from.Goals as goal

pub loop-below-smaller : goal.loop-below-smaller
loop-below-smaller c = down c.args.births.now c.requires c.loop-below.first c.in-Some.below (sym c.in-Some.ensures)

pub loop-below-preserved : goal.loop-below-preserved
loop-below-preserved c =
    sym (ap (λ o. unwrap_or o c.loop-below.first) (first-some c.args.births.now c.requires c.loop-below.first c.in-Some.below (sym c.in-Some.ensures)))
    ∙ c.loop-below.invariant
