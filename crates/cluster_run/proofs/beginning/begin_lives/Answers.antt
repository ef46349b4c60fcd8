use Rattle.std.proofs.Common.{◌∙◌, ap, refl, inl, is_some}
use Rattle.bus_order.specs.View.{BusView}
use Rattle.cluster_run.proofs.AtTheEnd.{member_on}
use Rattle.cluster_run.proofs.OneLife.{off_behind}
use Rattle.cluster_run.proofs.NextLife.{begun_member, one_begun}
use Rattle.cluster_run.proofs.beginning.begin_lives.Goals as goal

pub begin_life-requires-clause-member : goal.begin_life-requires-clause-member
begin_life-requires-clause-member c = begun_member c.args.bus.now c.args.cluster.now c.lives.cluster (c.lives.invariant.begun).began c.requires.member

pub lives-preserved : goal.lives-preserved
lives-preserved c = record {
  begun = one_begun c.args.bus.now c.args.cluster.now c.lives.cluster c.begin_life.new.cluster c.args.past.now.items c.lives.past.items c.begin_life.new.past.items c.lives.invariant.begun c.in_ok-begin_life.ensures.begins;
  moving = λ is. inl (c.in_ok-begin_life.ensures.begins).along;
}

-- ---- none came back

pub returns-then-not-returns : goal.returns-then-not-returns
returns-then-not-returns c =
    let b : BusView = c.args.bus.now in
    let v = c.args.cluster.now in
    let unreturned = c.requires.sound.unreturned (c.requires.words c.if-not-returns.true) v.number in
    record {
      begins = record {
        same = record { system = refl; number = refl };
        began = inl refl;
        alive = off_behind b.log v.number v.cursor unreturned (member_on b v c.requires.member) ∙ ap is_some c.requires.lives;
        past = λ are. are;
        others = λ j from other. refl;
      };
    }
