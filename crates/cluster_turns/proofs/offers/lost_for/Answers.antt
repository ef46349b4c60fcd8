use Rattle.std.proofs.Common.{sym, subst}
use Rattle.t32_base.specs.declared.process.ClusterNo.{ClusterNo}
use Rattle.bus_msg.specs.declared.entry.Cause.{Cause}
use Rattle.bus_order.specs.View.{BusView, Loses, MayBeLost}
use Rattle.cluster_turns.specs.Gone.{own_cause}
use Rattle.cluster_turns.proofs.StepLosses.{lost_adds, may_be_lost}
use Rattle.cluster_turns.proofs.Worded.{sound_again}
use Rattle.cluster_turns.proofs.offers.lost_for.Goals as goal

pub lost-requires : goal.lost-requires
lost-requires c =
    let b : BusView = c.args.bus.now in
    let v = c.args.cluster.now in
    let may : MayBeLost b v.number (own_cause v) = may_be_lost b v c.requires.lawful.scripted c.requires.before c.requires.named in
    let Of : ClusterNo → Type 0 = λ k. MayBeLost b k c.own_cause.result in
    let At : Cause → Type 0 = λ cause. MayBeLost b v.number cause in
    subst Of (sym c.number.ensures) (subst At (sym c.own_cause.ensures) may)

pub returns-clause-adds : goal.returns-clause-adds
returns-clause-adds c =
    let old : BusView = c.args.bus.now in
    let new : BusView = c.lost.new.self in
    let v = c.args.cluster.now in
    let loses : Loses old v.number (own_cause v) c.lost.result new =
    subst (λ cause. Loses old v.number cause c.lost.result new) c.own_cause.ensures (subst (λ (k : ClusterNo). Loses old k c.own_cause.result c.lost.result new) c.number.ensures c.lost.ensures.loses) in
    lost_adds old new v.number v c.lost.result loses

pub returns-clause-sound : goal.returns-clause-sound
returns-clause-sound c =
    let old : BusView = c.args.bus.now in
    let new : BusView = c.lost.new.self in
    let v = c.args.cluster.now in
    let loses : Loses old v.number (own_cause v) c.lost.result new =
    subst (λ cause. Loses old v.number cause c.lost.result new) c.own_cause.ensures (subst (λ (k : ClusterNo). Loses old k c.own_cause.result c.lost.result new) c.number.ensures c.lost.ensures.loses) in
    let adds = lost_adds old new v.number v c.lost.result loses in
    sound_again old new c.requires.sound adds.system c.lost.ensures.lawful

pub returns-clause-unused : goal.returns-clause-unused
returns-clause-unused c = (may_be_lost c.args.bus.now c.args.cluster.now c.requires.lawful.scripted c.requires.before c.requires.named).unused
