use Rattle.std.proofs.Common.{sym, ◌∙◌, subst, arith, true≢false}
use Rattle.bus_msg.specs.Places.{Places}
use Rattle.bus_msg.specs.PlacedAfter.{what}
use Rattle.channel_table.specs.Changes.{CanBeAbsorbed}
use Rattle.withheld.proofs.Beginnings.{one_more}
use Rattle.withheld.proofs.NoLoss.{none_withheld}
use Rattle.withheld.proofs.withheld.Goals as goal

pub returns-then-not-has_loss-clause-count : goal.returns-then-not-has_loss-clause-count
returns-then-not-has_loss-clause-count c = sym (none_withheld c.args.system.now c.args.log.now (sym c.has_loss.ensures ∙ c.if-not-has_loss.true))

pub take-requires-clause-next : goal.take-requires-clause-next
take-requires-clause-next c =
    let more = one_more c.args.system.now c.args.log.now c.loop-entry.entry-index c.entry-item.result c.requires.valid c.requires.legal c.loop-entry-test.true c.entry-item.is in
    subst (λ (places : Places). CanBeAbsorbed places (what c.entry-item.result)) (sym c.loop-entry.invariant.places) more.next

pub take-requires-clause-room : goal.take-requires-clause-room
take-requires-clause-room c p =
    let more = one_more c.args.system.now c.args.log.now c.loop-entry.entry-index c.entry-item.result c.requires.valid c.requires.legal c.loop-entry-test.true c.entry-item.is in
    let few = more.within p in
    let same = c.loop-entry.invariant.counts p in
    let below = c.loop-entry-test.true in
    omega (arith, few, same, below)

pub loop-entry-preserved : goal.loop-entry-preserved
loop-entry-preserved c =
    let more = one_more c.args.system.now c.args.log.now c.loop-entry.entry-index c.entry-item.result c.requires.valid c.requires.legal c.loop-entry-test.true c.entry-item.is in
    more.goes_on c.loop-entry.walk c.take.new.self c.loop-entry.invariant c.in_ok-take.ensures

pub returns-clause-unlost : goal.returns-clause-unlost
returns-clause-unlost c none = absurd (true≢false (sym c.if-not-has_loss.false ∙ c.has_loss.ensures ∙ none))
