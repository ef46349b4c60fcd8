use Rattle.std.proofs.Common.{subst}
use Rattle.t32_base.specs.declared.process.ClusterNo.{ClusterNo}
use Rattle.bus_order.specs.View.{BusView}
use Rattle.cluster_turns.specs.Offers.{Adds}
use Rattle.cluster_turns.proofs.Answering.{adds_sent, may_be_sent, offer_answers, own_of}
use Rattle.cluster_turns.proofs.Worded.{sound_again}
use Rattle.cluster_turns.proofs.offers.transmit_for.Goals as goal

pub transmit-requires : goal.transmit-requires
transmit-requires c = may_be_sent c.args.bus.now c.args.cluster.now c.args.post.now c.number.result c.cursor.result c.requires.sound c.requires.along c.requires.head c.number.ensures c.cursor.ensures

pub returns-clause-adds : goal.returns-clause-adds
returns-clause-adds c =
    let old : BusView = c.args.bus.now in
    let new : BusView = c.transmit.new.self in
    subst (λ (k : ClusterNo). Adds k old new) c.number.ensures (adds_sent old new c.number.result c.cursor.result c.args.post.now c.transmit.result (own_of c.args.bus.now c.args.cluster.now c.args.post.now c.number.result c.requires.along c.requires.head c.number.ensures) c.transmit.ensures.transmits)

pub returns-clause-sound : goal.returns-clause-sound
returns-clause-sound c =
    let old : BusView = c.args.bus.now in
    let new : BusView = c.transmit.new.self in
    let adds = adds_sent old new c.number.result c.cursor.result c.args.post.now c.transmit.result (own_of c.args.bus.now c.args.cluster.now c.args.post.now c.number.result c.requires.along c.requires.head c.number.ensures) c.transmit.ensures.transmits in
    sound_again old new c.requires.sound adds.system c.transmit.ensures.lawful

pub returns-clause-answers : goal.returns-clause-answers
returns-clause-answers c =
    let old : BusView = c.args.bus.now in
    let new : BusView = c.transmit.new.self in
    offer_answers old new c.args.cluster.now c.number.result c.cursor.result c.requires.along c.number.ensures c.cursor.ensures c.args.post.now c.transmit.result c.transmit.ensures.transmits
