use Rattle.std.proofs.Common.{◌∙◌, ap, sym, arith, slice_get}
use Rattle.bus_msg.specs.PlacedAfter.{what}
use Rattle.t32_base.specs.declared.process.ClusterNo.{ClusterNo}
use Rattle.cert_sched.specs.Losses.{is_crash_of}
use Rattle.cluster_turns.proofs.TakingIn.{along_followed, followed_open}
use Rattle.cluster_turns.proofs.Upto.{upto_loss, upto_next}
use Rattle.cluster_turns.proofs.turn.is_lost_next.Goals as goal

pub shown-requires-clause-within : goal.shown-requires-clause-within
shown-requires-clause-within g c =
    let b = g.P.Port.bus c.args.port.now in
    let open_there = followed_open b.system b.log c.requires.sound.legal in
    let within = c.requires.within in
    omega (arith, open_there, within, c.cursor.ensures)

pub returns-clause-lost : goal.returns-clause-lost
returns-clause-lost g c is =
    let b = g.P.Port.bus c.args.port.now in
    let v = c.args.cluster.now in
    let low = along_followed b v c.requires.along in
    upto_loss v.number b.system b.log v.cursor c.shown.result.now (ap (slice_get b.log) (sym c.cursor.ensures) ∙ c.shown.ensures) low
    (ap (λ (k : ClusterNo). is_crash_of k (what c.shown.result.now)) (sym c.number.ensures) ∙ sym c.loses.ensures ∙ is)

pub returns-clause-lives : goal.returns-clause-lives
returns-clause-lives g c is =
    let b = g.P.Port.bus c.args.port.now in
    let v = c.args.cluster.now in
    upto_next v.number b.system b.log v.cursor c.shown.result.now (ap (slice_get b.log) (sym c.cursor.ensures) ∙ c.shown.ensures) c.requires.within
    (ap (λ (k : ClusterNo). is_crash_of k (what c.shown.result.now)) (sym c.number.ensures) ∙ sym c.loses.ensures ∙ is)
