use Rattle.std.proofs.Common.{subst}
use Rattle.t32_base.specs.declared.process.ClusterNo.{ClusterNo}
use Rattle.bus_order.specs.View.{BusView}
use Rattle.cluster_turns.specs.Offers.{Adds}
use Rattle.cluster_turns.proofs.Answering.{adds_told, may_be_told, tell_answers}
use Rattle.cluster_turns.proofs.Worded.{sound_again}
use Rattle.cluster_turns.proofs.offers.idle_for.Goals as goal

pub idle-requires : goal.idle-requires
idle-requires c = may_be_told c.args.bus.now c.args.cluster.now c.args.mark c.number.result c.cursor.result c.requires.sound c.requires.along c.requires.told c.number.ensures c.cursor.ensures

pub returns-clause-adds : goal.returns-clause-adds
returns-clause-adds c =
    let old : BusView = c.args.bus.now in
    let new : BusView = c.idle.new.self in
    subst (λ (k : ClusterNo). Adds k old new) c.number.ensures (adds_told old new c.number.result c.cursor.result c.args.mark c.idle.result c.idle.ensures.idles)

pub returns-clause-sound : goal.returns-clause-sound
returns-clause-sound c =
    let old : BusView = c.args.bus.now in
    let new : BusView = c.idle.new.self in
    let adds = adds_told old new c.number.result c.cursor.result c.args.mark c.idle.result c.idle.ensures.idles in
    sound_again old new c.requires.sound adds.system c.idle.ensures.lawful

pub returns-clause-answers : goal.returns-clause-answers
returns-clause-answers c =
    let old : BusView = c.args.bus.now in
    let new : BusView = c.idle.new.self in
    tell_answers old new c.args.cluster.now c.number.result c.cursor.result c.requires.along c.number.ensures c.cursor.ensures c.args.mark c.idle.result c.idle.ensures.idles
