use Rattle.std.proofs.Common.{◌≡◌, ◌+◌, ap, arith, subst, sym}
use Rattle.cluster_core.specs.View.{ClusterView}
use Rattle.cluster_turns.proofs.Failing.{call_failed}
use Rattle.cluster_turns.proofs.StepLosses.{before_along, failed_named}
use Rattle.cluster_turns.proofs.TakingIn.{along_followed, none_taken, one_taken, ready_next}
use Rattle.cluster_turns.proofs.Upto.{upto_end}
use Rattle.cluster_turns.specs.Along.{StaysAlive}
use Rattle.cluster_turns.proofs.turn.take_unnamed.Goals as goal

pub entries-init : goal.entries-init
entries-init g c =
    let b = g.P.Port.bus c.args.port.now in
    let low = along_followed b c.args.cluster.now c.requires.shown.along in
    record {
      taken = none_taken b c.args.cluster.now c.requires.shown.along;
      upto = omega (arith, low, c.followed-upto.ensures);
    }

pub is_lost_next-requires-clause-within : goal.is_lost_next-requires-clause-within
is_lost_next-requires-clause-within g c = omega (arith, c.cursor.ensures, c.followed-upto.ensures, c.entries-test.true)

pub is_named-requires-clause-before : goal.is_named-requires-clause-before
is_named-requires-clause-before g c = before_along (g.P.Port.bus c.args.port.now) c.entries.cluster c.requires.shown.sound c.entries.invariant.taken.along

pub is_named-requires-clause-unfailed : goal.is_named-requires-clause-unfailed
is_named-requires-clause-unfailed g c = c.entries.invariant.taken.along.beside.unfailed

pub take_next-requires-clause-ready : goal.take_next-requires-clause-ready
take_next-requires-clause-ready g c =
    ready_next (g.P.Port.bus c.args.port.now) c.entries.cluster c.requires.shown.sound c.entries.invariant.taken.along (c.is_lost_next.ensures.lives c.if-is_lost_next.false)

pub entries-preserved : goal.entries-preserved
entries-preserved g c =
    let b = g.P.Port.bus c.args.port.now in
    let within = c.is_lost_next.ensures.lives c.if-is_lost_next.false in
    let next = c.in_ok-take_next.ensures.taken c.if-branch.false in
    let one : c.take_next.new.cluster.cursor ≡ c.entries.cluster.cursor + 1 = ap (λ (v : ClusterView). v.cursor) next.taken in
    record {
      taken = one_taken (g.P.Port.bus c.args.port.now) c.args.cluster.now c.entries.cluster c.take_next.new.cluster c.requires.shown.sound c.entries.invariant.taken within (c.is_named.ensures.unnamed c.if-is_named.false) next;
      upto = omega (arith, one, c.cursor.ensures, c.entries-test.true);
    }

pub returns-clause-caught : goal.returns-clause-caught
returns-clause-caught g c goes =
    let b = g.P.Port.bus c.args.port.now in
    upto_end c.entries.cluster.number b.system b.log c.entries.cluster.cursor (omega (arith, c.cursor.ensures, c.followed-upto.ensures, c.entries-test.false, c.entries.invariant.upto))

-- ---- its loss stands next

pub returns-then-is_lost_next-clause-caught : goal.returns-then-is_lost_next-clause-caught
returns-then-is_lost_next-clause-caught g c goes = c.is_lost_next.ensures.lost c.if-is_lost_next.true

-- ---- where it is to be lost

pub returns-then-is_named-clause-before : goal.returns-then-is_named-clause-before
returns-then-is_named-clause-before g c stops = before_along (g.P.Port.bus c.args.port.now) c.entries.cluster c.requires.shown.sound c.entries.invariant.taken.along

pub returns-then-branch-clause-before : goal.returns-then-branch-clause-before
returns-then-branch-clause-before g c stops =
    let b = g.P.Port.bus c.args.port.now in
    let fails = c.in_ok-take_next.ensures.failed c.if-branch.true in
    (call_failed b c.entries.cluster c.take_next.new.cluster fails.call c.requires.shown.sound c.entries.invariant.taken.along (c.is_named.ensures.unnamed c.if-is_named.false) fails.fails).before

pub returns-then-branch-clause-named : goal.returns-then-branch-clause-named
returns-then-branch-clause-named g c stops =
    let b = g.P.Port.bus c.args.port.now in
    let fails = c.in_ok-take_next.ensures.failed c.if-branch.true in
    failed_named b c.take_next.new.cluster (call_failed b c.entries.cluster c.take_next.new.cluster fails.call c.requires.shown.sound c.entries.invariant.taken.along (c.is_named.ensures.unnamed c.if-is_named.false) fails.fails)

-- ---- it lives on where it comes to

pub returns-clause-life : goal.returns-clause-life
returns-clause-life g c = c.entries.invariant.taken.stays

pub returns-then-is_lost_next-clause-life : goal.returns-then-is_lost_next-clause-life
returns-then-is_lost_next-clause-life g c = c.entries.invariant.taken.stays

pub returns-then-is_named-clause-life : goal.returns-then-is_named-clause-life
returns-then-is_named-clause-life g c = c.entries.invariant.taken.stays

pub returns-then-branch-clause-life : goal.returns-then-branch-clause-life
returns-then-branch-clause-life g c =
    let b = g.P.Port.bus c.args.port.now in
    let fails = c.in_ok-take_next.ensures.failed c.if-branch.true in
    subst (StaysAlive c.args.cluster.now.number b.log c.args.cluster.now.cursor) (sym (ap (λ (v : ClusterView). v.cursor) (fails.fails).rest)) c.entries.invariant.taken.stays
