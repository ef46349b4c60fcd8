use Rattle.std.proofs.Common.{◌≤◌, ◌∙◌, refl, sym, subst, drop, length}
use Rattle.cert_sched.specs.Losses.{was_lost_in}
use Rattle.bus_order.specs.View.{BusView}
use Rattle.cluster_turns.specs.declared.offers.Offered.TheVariants.{Behind, Off}
use Rattle.cluster_turns.specs.Offers.{IfLost}
use Rattle.cluster_turns.proofs.offers.behind_or_off.Goals as goal

pub was_lost_from-requires : goal.was_lost_from-requires
was_lost_from-requires c = subst (λ n. n ≤ length (c.args.bus.now).log) (sym c.cursor.ensures) c.requires

pub returns-then-was_lost_from : goal.returns-then-was_lost_from
returns-then-was_lost_from c =
    let b : BusView = c.args.bus.now in
    subst (λ t. IfLost t Off) (sym (sym (λ i. was_lost_in (drop (c.cursor.ensures i) b.log) (c.number.ensures i)) ∙ sym c.was_lost_from.ensures.lost ∙ c.if-was_lost_from.true)) refl

pub returns-else-was_lost_from : goal.returns-else-was_lost_from
returns-else-was_lost_from c =
    let b : BusView = c.args.bus.now in
    subst (λ t. IfLost t Behind) (sym (sym (λ i. was_lost_in (drop (c.cursor.ensures i) b.log) (c.number.ensures i)) ∙ sym c.was_lost_from.ensures.lost ∙ c.if-was_lost_from.false)) refl
