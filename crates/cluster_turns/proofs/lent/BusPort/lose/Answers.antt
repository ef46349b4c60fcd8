use Rattle.std.proofs.Common.{◌≡◌, ◌⊎◌, drop, Bool, true, false}
use Rattle.cert_sched.specs.Losses.{was_lost_in}
use Rattle.bus_order.specs.View.{BusView}
use Rattle.cluster_turns.specs.Progress.{IsOver}
use Rattle.cluster_turns.specs.Turns.{GoesOwn, LosesOwn}
use Rattle.cluster_turns.proofs.Growing.{adds_grown}
use Rattle.cluster_turns.proofs.Owning.{where_ok}
use Rattle.cluster_turns.proofs.lent.BusPort.lose.Goals as goal

pub returns-clause-own : goal.returns-clause-own
returns-clause-own c =
    let b : BusView = c.args.self.now in
    let after : BusView = c.lose_at.new.bus in
    let k = c.args.cluster.now.number in
    let n = c.args.cluster.now.cursor in
    let Own : Type 0 = GoesOwn b → was_lost_in (drop n b.log) k ≡ false → LosesOwn k n b after in
    where_ok c.lose_at.result Own (◌≡◌ {A = Bool} true true → Own) (λ holds alone. holds) c.lose_at.ensures.own

pub returns-clause-kept : goal.returns-clause-kept
returns-clause-kept c =
    let b : BusView = c.args.self.now in
    let after : BusView = c.lose_at.new.bus in
    let k = c.args.cluster.now.number in
    let n = c.args.cluster.now.cursor in
    let Kept : Type 0 = IsOver b ⊎ (was_lost_in (drop n b.log) k ≡ true) → after ≡ b in
    where_ok c.lose_at.result Kept (◌≡◌ {A = Bool} true true → Kept) (λ holds alone. holds) c.lose_at.ensures.kept

pub returns-clause-grows : goal.returns-clause-grows
returns-clause-grows c =
    let b : BusView = c.args.self.now in
    let after : BusView = c.lose_at.new.bus in
    adds_grown c.args.cluster.now.number b after c.lose_at.ensures.adds
