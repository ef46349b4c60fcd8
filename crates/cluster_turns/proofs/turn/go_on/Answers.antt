use Rattle.std.proofs.Common.{◌≡◌, ◌∙◌, refl, sym, ap, subst, drop, true, false, ◌||◌, true≢false}
use Rattle.std.proofs.lemmas.Bool.{or_parts}
use Rattle.cert_sched.specs.Losses.{was_lost_in}
use Rattle.cert_sched.specs.Rules.{is_over}
use Rattle.cluster_core.specs.View.{ClusterView}
use Rattle.bus_order.specs.View.{BusView}
use Rattle.cluster_turns.specs.Turns.{GoesOwn, TurnsOwn}
use Rattle.cluster_turns.proofs.Owning.{gone_turn, turn_after, where_ok, where_both}
use Rattle.cluster_turns.proofs.StepLosses.{before_along}
use Rattle.cluster_turns.proofs.TakingIn.{upto_all}
use Rattle.cluster_turns.proofs.Staying.{life_on, same_lost, stays_there}
use Rattle.cluster_turns.proofs.Growing.{grown_then}
use Rattle.cluster_turns.specs.Offers.{HasGrown}
use Rattle.cluster_turns.specs.Along.{StaysAlive}
use Rattle.cluster_turns.proofs.turn.go_on.Goals as goal

pub returns-then-branch-clause-own : goal.returns-then-branch-clause-own
returns-then-branch-clause-own g c alone own lives =
    gone_turn (g.P.Port.bus c.args.port.now) (g.P.Port.bus c.catch_up.new.port) c.args.cluster.now c.catch_up.new.cluster c.in_ok-catch_up.ensures.same.number (c.in_ok-catch_up.ensures.own c.if-branch.true alone own lives)

pub returns-then-is_done-clause-own : goal.returns-then-is_done-clause-own
returns-then-is_done-clause-own g c alone own lives =
    let b = g.P.Port.bus c.args.port.now in
    let mid = g.P.Port.bus c.catch_up.new.port in
    let v : ClusterView = c.catch_up.new.cluster in
    let same = c.in_ok-catch_up.ensures.kept c.if-branch.false alone in
    let taken = (c.in_ok-catch_up.ensures.taken c.if-branch.false).taken in
    let unlost : was_lost_in (drop v.cursor mid.log) v.number ≡ false = same_lost mid.log c.args.cluster.now v (taken.same).number taken.stays ∙ ap (λ (x : BusView). was_lost_in (drop c.args.cluster.now.cursor x.log) c.args.cluster.now.number) same ∙ lives in
    let none : (is_over mid.system mid.log || was_lost_in (drop v.cursor mid.log) v.number) ≡ false = λ i. (ap (λ (x : BusView). is_over x.system x.log) same ∙ own.1) i || unlost i in
    absurd (true≢false (sym c.if-is_done.true ∙ c.is_done.ensures ∙ none))

pub is_done-requires-clause-shown : goal.is_done-requires-clause-shown
is_done-requires-clause-shown g c = (c.in_ok-catch_up.ensures.taken c.if-branch.false).shown

pub is_done-requires-clause-caught : goal.is_done-requires-clause-caught
is_done-requires-clause-caught g c = (c.in_ok-catch_up.ensures.taken c.if-branch.false).caught

pub is_named-requires-clause-before : goal.is_named-requires-clause-before
is_named-requires-clause-before g c =
    let shown = (c.in_ok-catch_up.ensures.taken c.if-branch.false).shown in
    before_along (g.P.Port.bus c.catch_up.new.port) c.catch_up.new.cluster shown.sound shown.along

pub lose-requires-clause-before : goal.lose-requires-clause-before
lose-requires-clause-before g c =
    let shown = (c.in_ok-catch_up.ensures.taken c.if-branch.false).shown in
    before_along (g.P.Port.bus c.catch_up.new.port) c.catch_up.new.cluster shown.sound shown.along

pub returns-then-is_named-clause-own : goal.returns-then-is_named-clause-own
returns-then-is_named-clause-own g c alone own lives =
    let b = g.P.Port.bus c.args.port.now in
    let mid = g.P.Port.bus c.catch_up.new.port in
    let after = g.P.Port.bus c.lose.new.self in
    let v : ClusterView = c.catch_up.new.cluster in
    let same = c.in_ok-catch_up.ensures.kept c.if-branch.false alone in
    let taken = (c.in_ok-catch_up.ensures.taken c.if-branch.false).taken in
    let still : was_lost_in (drop v.cursor mid.log) v.number ≡ false = same_lost mid.log c.args.cluster.now v (taken.same).number taken.stays ∙ ap (λ (x : BusView). was_lost_in (drop c.args.cluster.now.cursor x.log) c.args.cluster.now.number) same ∙ lives in
    turn_after b mid after c.args.cluster.now v v same taken (gone_turn mid after v v refl (c.in_ok-lose.ensures.own alone (subst GoesOwn (sym same) own) still))

pub act-requires-clause-seen : goal.act-requires-clause-seen
act-requires-clause-seen g c =
    let mid = g.P.Port.bus c.catch_up.new.port in
    let v : ClusterView = c.catch_up.new.cluster in
    let taken = c.in_ok-catch_up.ensures.taken c.if-branch.false in
    let parts = or_parts (is_over mid.system mid.log) (was_lost_in (drop v.cursor mid.log) v.number) (sym c.is_done.ensures ∙ c.if-is_done.false) in
    taken.caught ∙ upto_all mid v.number v.cursor parts.0 (((taken.shown).along).beside).within parts.1

pub returns-clause-own : goal.returns-clause-own
returns-clause-own g c =
    let a = g.P.Port.alone in
    let b = g.P.Port.bus c.args.port.now in
    let mid = g.P.Port.bus c.catch_up.new.port in
    let after = g.P.Port.bus c.act.new.port in
    let v : ClusterView = c.catch_up.new.cluster in
    let old = c.args.cluster.now in
    let new : ClusterView = c.act.new.cluster in
    let taken = (c.in_ok-catch_up.ensures.taken c.if-branch.false).taken in
    where_ok c.act.result (a ≡ true → GoesOwn mid → TurnsOwn mid after v new) (a ≡ true → GoesOwn b → was_lost_in (drop old.cursor b.log) old.number ≡ false → TurnsOwn b after old new)
    (λ holds alone own lives.
    let same = c.in_ok-catch_up.ensures.kept c.if-branch.false alone in
    turn_after b mid after old v new same taken (holds alone (subst GoesOwn (sym same) own)))
    c.act.ensures.own

pub is_named-requires-clause-unfailed : goal.is_named-requires-clause-unfailed
is_named-requires-clause-unfailed g c = ((c.in_ok-catch_up.ensures.taken c.if-branch.false).shown).along.beside.unfailed

-- ---- it lives on where it comes to, in a log that has grown

pub returns-then-is_named-clause-life : goal.returns-then-is_named-clause-life
returns-then-is_named-clause-life g c =
    let mid = g.P.Port.bus c.catch_up.new.port in
    let after = g.P.Port.bus c.lose.new.self in
    let v : ClusterView = c.catch_up.new.cluster in
    life_on c.args.cluster.now v v mid after c.in_ok-catch_up.ensures.same.number c.lose.ensures.grows c.in_ok-catch_up.ensures.life (stays_there v.number after.log v.cursor v.cursor refl)

pub returns-then-is_named-clause-grows : goal.returns-then-is_named-clause-grows
returns-then-is_named-clause-grows g c =
    grown_then (g.P.Port.bus c.args.port.now) (g.P.Port.bus c.catch_up.new.port) (g.P.Port.bus c.lose.new.self) c.in_ok-catch_up.ensures.grows c.lose.ensures.grows

pub returns-clause-life : goal.returns-clause-life
returns-clause-life g c =
    let mid = g.P.Port.bus c.catch_up.new.port in
    let after = g.P.Port.bus c.act.new.port in
    let v : ClusterView = c.catch_up.new.cluster in
    let old = c.args.cluster.now in
    let new : ClusterView = c.act.new.cluster in
    where_both c.act.result (HasGrown mid after) (StaysAlive v.number after.log v.cursor new.cursor) (StaysAlive old.number after.log old.cursor new.cursor)
    (λ grown lives. life_on old v new mid after c.in_ok-catch_up.ensures.same.number grown c.in_ok-catch_up.ensures.life lives)
    c.act.ensures.grows c.act.ensures.life

pub returns-clause-grows : goal.returns-clause-grows
returns-clause-grows g c =
    let b = g.P.Port.bus c.args.port.now in
    let mid = g.P.Port.bus c.catch_up.new.port in
    let after = g.P.Port.bus c.act.new.port in
    where_ok c.act.result (HasGrown mid after) (HasGrown b after) (λ grown. grown_then b mid after c.in_ok-catch_up.ensures.grows grown) c.act.ensures.grows
