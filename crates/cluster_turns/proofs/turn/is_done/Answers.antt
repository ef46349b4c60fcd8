use Rattle.std.proofs.Common.{◌≡◌, ◌∙◌, ap, sym, drop, false, ◌||◌}
use Rattle.std.specs.Prelude.{nat_lt}
use Rattle.cert_sched.specs.Losses.{was_lost_in}
use Rattle.cert_sched.specs.Rules.{is_over}
use Rattle.cluster_turns.proofs.TakingIn.{low_where_lost}
use Rattle.cluster_turns.proofs.turn.is_done.Goals as goal

pub returns-then-has_ended : goal.returns-then-has_ended
returns-then-has_ended g c =
    let b = g.P.Port.bus c.args.port.now in
    let v = c.args.cluster.now in
    c.if-has_ended.true ∙ sym (ap (λ t. t || was_lost_in (drop v.cursor b.log) v.number) (sym c.has_ended.ensures ∙ c.if-has_ended.true))

pub returns-else-has_ended : goal.returns-else-has_ended
returns-else-has_ended g c =
    let b = g.P.Port.bus c.args.port.now in
    let v = c.args.cluster.now in
    let goes_on : is_over b.system b.log ≡ false = sym c.has_ended.ensures ∙ c.if-has_ended.false in
    (λ i. nat_lt (c.cursor.ensures i) (c.followed.ensures i))
    ∙ low_where_lost b v.number v.cursor goes_on c.requires.shown.along.beside.within c.requires.caught
    ∙ sym (ap (λ t. t || was_lost_in (drop v.cursor b.log) v.number) goes_on)
