use Rattle.std.proofs.Common.{ap, not, sym, ◌&&◌, ◌∙◌}
use Rattle.bus_msg.specs.PlacedAfter.{what}
use Rattle.cert_sched.specs.Kinds.{is_done_by}
use Rattle.log_renewals.proofs.Unmoved.{keeps_on}
use Rattle.log_renewals.proofs.moved.follow.Goals as goal

pub returns-then-moved_only : goal.returns-then-moved_only
returns-then-moved_only c = keeps_on c.args.pid c.args.moved_only (not c.is_done_by.result) c.args.entry.now
    (λ i. sym c.if-moved_only.true i && not (c.is_done_by.ensures i))

pub returns-else-moved_only : goal.returns-else-moved_only
returns-else-moved_only c =
    keeps_on c.args.pid c.args.moved_only c.args.moved_only c.args.entry.now (c.if-moved_only.false
    ∙ sym (ap (λ b. b && not (is_done_by c.args.pid (what c.args.entry.now))) c.if-moved_only.false))
