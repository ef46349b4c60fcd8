use Rattle.std.proofs.Common.{◌∙◌, refl, subst, arith, inl, inr}
use Rattle.t32_base.specs.declared.process.ClusterNo.{ClusterNo}
use Rattle.cluster_turns.specs.Turns.{LosesOwn, SendsOwn, TriesAs, TriesOwn}
use Rattle.cluster_turns.proofs.Owning.{sends_lost, sends_more, sends_none}
use Rattle.cluster_turns.proofs.Staying.{life_on, stays_there}
use Rattle.cluster_turns.proofs.Growing.{grown_none, grown_then}
use Rattle.cluster_turns.proofs.turn.send.Goals as goal

pub posts-init : goal.posts-init
posts-init g c = record {
  root = refl;
  sits = c.requires.sits;
  posting = c.requires.posting;
  same = record { system = refl; number = refl };
  order = omega arith;
  some = inl;
  grows = grown_none (g.P.Port.bus c.args.port.now);
  life = stays_there c.args.cluster.now.number (g.P.Port.bus c.args.port.now).log c.args.cluster.now.cursor c.args.cluster.now.cursor refl;
  own = λ alone own. sends_none c.args.cluster.now.number (g.P.Port.bus c.args.port.now) own;
}

pub posts-preserved : goal.posts-preserved
posts-preserved g c =
    let so_far = c.posts.invariant in
    let one = c.in_ok-send_head.ensures in
    let mid = g.P.Port.bus c.posts.port in
    let after = g.P.Port.bus c.send_head.new.port in
    let tries = subst (λ t. TriesAs g.P.Port.alone (g.P.Port.shows c.send_head.new.port) (g.P.Port.from c.send_head.new.port) t mid after c.send_head.new.cluster) c.in-On.is one.tries in
    let grown = tries.1 in
    record {
      root = c.send_head.ensures.root ∙ so_far.root;
      sits = subst (λ (k : ClusterNo). g.P.Port.sits k c.send_head.new.port) so_far.same.number c.send_head.ensures.sits;
      posting = tries.0;
      same = record { system = one.same.system ∙ so_far.same.system; number = one.same.number ∙ so_far.same.number };
      order = omega (arith, grown, so_far.order);
      some = λ there. inr (omega (arith, grown, so_far.order));
      grows = grown_then (g.P.Port.bus c.args.port.now) mid after so_far.grows one.grows;
      life = life_on c.args.cluster.now c.posts.cluster c.send_head.new.cluster mid after so_far.same.number one.grows so_far.life one.life;
      own = λ alone own.
          let before = so_far.own alone own in
          let next = subst (λ t. TriesOwn c.posts.cluster.number c.send_head.new.cluster.cursor t mid after) c.in-On.is (one.own alone before.goes_on) in
          sends_more c.args.cluster.now.number (g.P.Port.bus c.args.port.now) mid after before (subst (λ (k : ClusterNo). SendsOwn k mid after) so_far.same.number next);
    }

pub returns-in-Over-clause-own : goal.returns-in-Over-clause-own
returns-in-Over-clause-own g c alone own =
    let so_far = c.posts.invariant in
    let before = so_far.own alone own in
    let mid = g.P.Port.bus c.posts.port in
    let after = g.P.Port.bus c.send_head.new.port in
    let next = subst (λ t. TriesOwn c.posts.cluster.number c.send_head.new.cluster.cursor t mid after) c.in-Over.is (c.in_ok-send_head.ensures.own alone before.goes_on) in
    sends_lost (g.P.Port.bus c.args.port.now) mid after c.args.cluster.now c.send_head.new.cluster (c.in_ok-send_head.ensures.same.number ∙ so_far.same.number) before (subst (λ (k : ClusterNo). LosesOwn k c.send_head.new.cluster.cursor mid after) so_far.same.number next)

pub returns-in-Lost-clause-own : goal.returns-in-Lost-clause-own
returns-in-Lost-clause-own g c alone own =
    let so_far = c.posts.invariant in
    let before = so_far.own alone own in
    let mid = g.P.Port.bus c.posts.port in
    let after = g.P.Port.bus c.send_head.new.port in
    let next = subst (λ t. TriesOwn c.posts.cluster.number c.send_head.new.cluster.cursor t mid after) c.in-Lost.is (c.in_ok-send_head.ensures.own alone before.goes_on) in
    sends_lost (g.P.Port.bus c.args.port.now) mid after c.args.cluster.now c.send_head.new.cluster (c.in_ok-send_head.ensures.same.number ∙ so_far.same.number) before (subst (λ (k : ClusterNo). LosesOwn k c.send_head.new.cluster.cursor mid after) so_far.same.number next)

-- ---- it lives on where it comes to, in a log that has grown

pub returns-in-Over-clause-life : goal.returns-in-Over-clause-life
returns-in-Over-clause-life g c =
    let so_far = c.posts.invariant in
    let one = c.in_ok-send_head.ensures in
    life_on c.args.cluster.now c.posts.cluster c.send_head.new.cluster (g.P.Port.bus c.posts.port) (g.P.Port.bus c.send_head.new.port) so_far.same.number one.grows so_far.life one.life

pub returns-in-Lost-clause-life : goal.returns-in-Lost-clause-life
returns-in-Lost-clause-life g c =
    let so_far = c.posts.invariant in
    let one = c.in_ok-send_head.ensures in
    life_on c.args.cluster.now c.posts.cluster c.send_head.new.cluster (g.P.Port.bus c.posts.port) (g.P.Port.bus c.send_head.new.port) so_far.same.number one.grows so_far.life one.life

pub returns-in-Over-clause-grows : goal.returns-in-Over-clause-grows
returns-in-Over-clause-grows g c =
    grown_then (g.P.Port.bus c.args.port.now) (g.P.Port.bus c.posts.port) (g.P.Port.bus c.send_head.new.port) c.posts.invariant.grows c.in_ok-send_head.ensures.grows

pub returns-in-Lost-clause-grows : goal.returns-in-Lost-clause-grows
returns-in-Lost-clause-grows g c =
    grown_then (g.P.Port.bus c.args.port.now) (g.P.Port.bus c.posts.port) (g.P.Port.bus c.send_head.new.port) c.posts.invariant.grows c.in_ok-send_head.ensures.grows
