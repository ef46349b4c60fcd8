use Rattle.std.proofs.Common.{◌≡◌, ◌<◌, ◌∙◌, sym, ap, subst, arith, drop, length, true, inl, inr}
use Rattle.std.proofs.lemmas.Bool.{or_left, or_right}
use Rattle.cluster_core.specs.View.{ClusterView}
use Rattle.bus_order.specs.View.{BusView, after_words}
use Rattle.cert_sched.specs.Losses.{was_lost_in}
use Rattle.cert_sched.specs.Rules.{is_over}
use Rattle.cluster_turns.specs.Turns.{LosesOwn, OffersHead, SendsOwn}
use Rattle.cluster_turns.proofs.Offering.{sent_longer, was_behind, was_ended, was_off, was_over, was_sent}
use Rattle.cluster_turns.proofs.Owning.{behind_own, lost_later, loses_more, off_own, over_own, sent_own}
use Rattle.cluster_turns.proofs.Growing.{grown_then}
use Rattle.cluster_turns.proofs.Posting.{behind_posting}
use Rattle.cluster_turns.proofs.TakingIn.{seen_unlost}
use Rattle.cluster_turns.proofs.turn.try_head.Goals as goal

-- ---- it was sent

pub take_sent-requires-clause-sent : goal.take_sent-requires-clause-sent
take_sent-requires-clause-sent g c =
    let a = g.P.Port.alone in
    let b = g.P.Port.bus c.args.port.now in
    let after = g.P.Port.bus c.offer_head.new.port in
    let t : ClusterView = c.args.cluster.now in
    let p = c.requires.posting in
    let off = subst (λ o. OffersHead a t b after o) c.in-Sent.is c.in_ok-offer_head.ensures.offered in
    let s = was_sent a b after t off.0 (p.shown).along c.in_ok-offer_head.ensures.sound off.1 c.requires.tried off.2 in
    ((after_words (off.2).found).log, off.0, s)

pub returns-then-branch-clause-own : goal.returns-then-branch-clause-own
returns-then-branch-clause-own g c alone own =
    let a = g.P.Port.alone in
    let b = g.P.Port.bus c.args.port.now in
    let after = g.P.Port.bus c.offer_head.new.port in
    let t : ClusterView = c.args.cluster.now in
    let p = c.requires.posting in
    let off = subst (λ o. OffersHead a t b after o) c.in-Sent.is c.in_ok-offer_head.ensures.offered in
    let s = was_sent a b after t off.0 (p.shown).along c.in_ok-offer_head.ensures.sound off.1 c.requires.tried off.2 in
    let sends = sent_own a alone b after t off.0 own c.in_ok-offer_head.ensures.sound off.2 s (c.offer_head.ensures.adds alone) in
    loses_more t.number c.take_sent.new.cluster.cursor b after (g.P.Port.bus c.take_sent.new.port) sends (c.in_ok-take_sent-in-Sent.ensures.own c.if-branch.true alone sends.goes_on)

pub returns-else-branch-clause-tries : goal.returns-else-branch-clause-tries
returns-else-branch-clause-tries g c =
    let a = g.P.Port.alone in
    let b = g.P.Port.bus c.args.port.now in
    let after = g.P.Port.bus c.offer_head.new.port in
    let t : ClusterView = c.args.cluster.now in
    let p = c.requires.posting in
    let off = subst (λ o. OffersHead a t b after o) c.in-Sent.is c.in_ok-offer_head.ensures.offered in
    let s = was_sent a b after t off.0 (p.shown).along c.in_ok-offer_head.ensures.sound off.1 c.requires.tried off.2 in
    let longer = sent_longer a b after t off.0 (p.shown).along off.2 in
    let far : length b.log < length after.log = omega (arith, longer, p.seen) in
    (c.in_ok-take_sent-in-Sent.ensures.posting c.if-branch.false, subst (λ (x : BusView). length b.log < length x.log) (sym (c.in_ok-take_sent-in-Sent.ensures.kept c.if-branch.false)) far)

pub returns-else-branch-clause-own : goal.returns-else-branch-clause-own
returns-else-branch-clause-own g c alone own =
    let a = g.P.Port.alone in
    let b = g.P.Port.bus c.args.port.now in
    let after = g.P.Port.bus c.offer_head.new.port in
    let t : ClusterView = c.args.cluster.now in
    let p = c.requires.posting in
    let off = subst (λ o. OffersHead a t b after o) c.in-Sent.is c.in_ok-offer_head.ensures.offered in
    let s = was_sent a b after t off.0 (p.shown).along c.in_ok-offer_head.ensures.sound off.1 c.requires.tried off.2 in
    let sends = sent_own a alone b after t off.0 own c.in_ok-offer_head.ensures.sound off.2 s (c.offer_head.ensures.adds alone) in
    subst (SendsOwn t.number b) (sym (c.in_ok-take_sent-in-Sent.ensures.kept c.if-branch.false)) sends

-- ---- the cluster was behind

pub take_in-requires-clause-shown : goal.take_in-requires-clause-shown
take_in-requires-clause-shown g c =
    let a = g.P.Port.alone in
    let b = g.P.Port.bus c.args.port.now in
    let after = g.P.Port.bus c.offer_head.new.port in
    let t : ClusterView = c.args.cluster.now in
    let p = c.requires.posting in
    let off = subst (λ o. OffersHead a t b after o) c.in-Behind.is c.in_ok-offer_head.ensures.offered in
    let behind = was_behind a b after t off.0 (p.shown).along off.2 in
    record { shows = c.in_ok-offer_head.ensures.shows; from_there = c.in_ok-offer_head.ensures.from; sound = c.in_ok-offer_head.ensures.sound; along = behind.0 }

pub returns-then-branch-2-clause-own : goal.returns-then-branch-2-clause-own
returns-then-branch-2-clause-own g c alone own =
    let a = g.P.Port.alone in
    let b = g.P.Port.bus c.args.port.now in
    let after = g.P.Port.bus c.offer_head.new.port in
    let t : ClusterView = c.args.cluster.now in
    let p = c.requires.posting in
    let off = subst (λ o. OffersHead a t b after o) c.in-Behind.is c.in_ok-offer_head.ensures.offered in
    let behind = was_behind a b after t off.0 (p.shown).along off.2 in
    let sends = behind_own a alone b after t off.0 own c.in_ok-offer_head.ensures.sound p.seen off.2 (c.offer_head.ensures.adds alone) in
    loses_more t.number c.take_in.new.cluster.cursor b after (g.P.Port.bus c.take_in.new.port) sends (c.in_ok-take_in-in-Behind.ensures.own c.if-branch-2.true alone sends.goes_on behind.2)

pub returns-else-branch-2-clause-tries : goal.returns-else-branch-2-clause-tries
returns-else-branch-2-clause-tries g c =
    let a = g.P.Port.alone in
    let b = g.P.Port.bus c.args.port.now in
    let after = g.P.Port.bus c.offer_head.new.port in
    let t : ClusterView = c.args.cluster.now in
    let p = c.requires.posting in
    let off = subst (λ o. OffersHead a t b after o) c.in-Behind.is c.in_ok-offer_head.ensures.offered in
    let behind = was_behind a b after t off.0 (p.shown).along off.2 in
    let less : t.cursor < length after.log = behind.3 in
    let far : length b.log < length after.log = omega (arith, less, p.seen) in
    let same = c.in_ok-take_in-in-Behind.ensures.kept c.if-branch-2.false in
    let taken = c.in_ok-take_in-in-Behind.ensures.taken c.if-branch-2.false in (
      behind_posting (g.P.Port.shows c.take_in.new.port) (g.P.Port.from c.take_in.new.port) (g.P.Port.bus c.take_in.new.port) t c.take_in.new.cluster (ap (λ (x : BusView). is_over x.system x.log) same ∙ behind.1)
          (ap (λ (x : BusView). was_lost_in (drop t.cursor x.log) t.number) same ∙ behind.2) taken,
      subst (λ (x : BusView). length b.log < length x.log) (sym same) far,
    )

pub returns-else-branch-2-clause-own : goal.returns-else-branch-2-clause-own
returns-else-branch-2-clause-own g c alone own =
    let a = g.P.Port.alone in
    let b = g.P.Port.bus c.args.port.now in
    let after = g.P.Port.bus c.offer_head.new.port in
    let t : ClusterView = c.args.cluster.now in
    let p = c.requires.posting in
    let off = subst (λ o. OffersHead a t b after o) c.in-Behind.is c.in_ok-offer_head.ensures.offered in
    let behind = was_behind a b after t off.0 (p.shown).along off.2 in
    let sends = behind_own a alone b after t off.0 own c.in_ok-offer_head.ensures.sound p.seen off.2 (c.offer_head.ensures.adds alone) in
    subst (SendsOwn t.number b) (sym (c.in_ok-take_in-in-Behind.ensures.kept c.if-branch-2.false)) sends

-- ---- the log was over

pub take_in-requires-in-Over-clause-shown : goal.take_in-requires-in-Over-clause-shown
take_in-requires-in-Over-clause-shown g c =
    let a = g.P.Port.alone in
    let b = g.P.Port.bus c.args.port.now in
    let after = g.P.Port.bus c.offer_head.new.port in
    let t : ClusterView = c.args.cluster.now in
    let p = c.requires.posting in
    let off = subst (λ o. OffersHead a t b after o) c.in-Over.is c.in_ok-offer_head.ensures.offered in
    record { shows = c.in_ok-offer_head.ensures.shows; from_there = c.in_ok-offer_head.ensures.from; sound = c.in_ok-offer_head.ensures.sound; along = was_over a b after t off.0 (p.shown).along off.2 }

pub returns-then-branch-3-clause-own : goal.returns-then-branch-3-clause-own
returns-then-branch-3-clause-own g c alone own =
    let a = g.P.Port.alone in
    let b = g.P.Port.bus c.args.port.now in
    let after = g.P.Port.bus c.offer_head.new.port in
    let t : ClusterView = c.args.cluster.now in
    let upto = c.take_in-in-Over.new.cluster.cursor in
    let p = c.requires.posting in
    let off = subst (λ o. OffersHead a t b after o) c.in-Over.is c.in_ok-offer_head.ensures.offered in
    let loses = over_own a alone b after t off.0 own c.in_ok-offer_head.ensures.sound upto off.2 (c.offer_head.ensures.adds alone) in
    subst (LosesOwn t.number upto b) (sym (c.in_ok-take_in-in-Over.ensures.ended alone (inl (was_ended a b after t off.0 (p.shown).along off.2)))) loses

pub returns-else-branch-3-clause-tries : goal.returns-else-branch-3-clause-tries
returns-else-branch-3-clause-tries g c =
    let a = g.P.Port.alone in
    let b = g.P.Port.bus c.args.port.now in
    let after = g.P.Port.bus c.offer_head.new.port in
    let last = g.P.Port.bus c.take_in-in-Over.new.port in
    let t : ClusterView = c.args.cluster.now in
    let new : ClusterView = c.take_in-in-Over.new.cluster in
    let p = c.requires.posting in
    let off = subst (λ o. OffersHead a t b after o) c.in-Over.is c.in_ok-offer_head.ensures.offered in
    let same = c.in_ok-take_in-in-Over.ensures.kept c.if-branch-3.false in
    let taken = c.in_ok-take_in-in-Over.ensures.taken c.if-branch-3.false in
    (taken.shown, (taken.caught, or_left (is_over last.system last.log) (was_lost_in (drop new.cursor last.log) new.number) (ap (λ (x : BusView). is_over x.system x.log) same ∙ was_ended a b after t off.0 (p.shown).along off.2)))

pub returns-else-branch-3-clause-own : goal.returns-else-branch-3-clause-own
returns-else-branch-3-clause-own g c alone own =
    let a = g.P.Port.alone in
    let b = g.P.Port.bus c.args.port.now in
    let after = g.P.Port.bus c.offer_head.new.port in
    let t : ClusterView = c.args.cluster.now in
    let upto = c.take_in-in-Over.new.cluster.cursor in
    let p = c.requires.posting in
    let off = subst (λ o. OffersHead a t b after o) c.in-Over.is c.in_ok-offer_head.ensures.offered in
    let loses = over_own a alone b after t off.0 own c.in_ok-offer_head.ensures.sound upto off.2 (c.offer_head.ensures.adds alone) in
    subst (LosesOwn t.number upto b) (sym (c.in_ok-take_in-in-Over.ensures.kept c.if-branch-3.false)) loses

-- ---- the cluster was lost

pub take_in-requires-in-Off-clause-shown : goal.take_in-requires-in-Off-clause-shown
take_in-requires-in-Off-clause-shown g c =
    let a = g.P.Port.alone in
    let b = g.P.Port.bus c.args.port.now in
    let after = g.P.Port.bus c.offer_head.new.port in
    let t : ClusterView = c.args.cluster.now in
    let p = c.requires.posting in
    let off = subst (λ o. OffersHead a t b after o) c.in-Off.is c.in_ok-offer_head.ensures.offered in
    let lost = was_off a b after t off.0 (p.shown).along off.2 in
    record { shows = c.in_ok-offer_head.ensures.shows; from_there = c.in_ok-offer_head.ensures.from; sound = c.in_ok-offer_head.ensures.sound; along = lost.0 }

pub returns-then-branch-4-clause-own : goal.returns-then-branch-4-clause-own
returns-then-branch-4-clause-own g c alone own =
    let a = g.P.Port.alone in
    let b = g.P.Port.bus c.args.port.now in
    let after = g.P.Port.bus c.offer_head.new.port in
    let last = g.P.Port.bus c.take_in-in-Off.new.port in
    let t : ClusterView = c.args.cluster.now in
    let new : ClusterView = c.take_in-in-Off.new.cluster in
    let p = c.requires.posting in
    let off = subst (λ o. OffersHead a t b after o) c.in-Off.is c.in_ok-offer_head.ensures.offered in
    let lost = was_off a b after t off.0 (p.shown).along off.2 in
    let loses = off_own a alone b after t off.0 own c.in_ok-offer_head.ensures.sound (seen_unlost b.log t.number t.cursor p.seen) off.2 (c.offer_head.ensures.adds alone) in
    let same = c.in_ok-take_in-in-Off.ensures.ended alone (inr lost.1) in
    let there : was_lost_in (drop new.cursor last.log) t.number ≡ true =
    ap (was_lost_in (drop new.cursor last.log)) (sym c.in_ok-take_in-in-Off.ensures.same.number) ∙ ap (λ (x : BusView). was_lost_in (drop new.cursor x.log) new.number) same ∙ c.in_ok-take_in-in-Off.ensures.lost ∙ lost.1 in
    lost_later t.number b after last t.cursor new.cursor same (λ ends. inl there) loses

pub returns-else-branch-4-clause-tries : goal.returns-else-branch-4-clause-tries
returns-else-branch-4-clause-tries g c =
    let a = g.P.Port.alone in
    let b = g.P.Port.bus c.args.port.now in
    let after = g.P.Port.bus c.offer_head.new.port in
    let last = g.P.Port.bus c.take_in-in-Off.new.port in
    let t : ClusterView = c.args.cluster.now in
    let new : ClusterView = c.take_in-in-Off.new.cluster in
    let p = c.requires.posting in
    let off = subst (λ o. OffersHead a t b after o) c.in-Off.is c.in_ok-offer_head.ensures.offered in
    let lost = was_off a b after t off.0 (p.shown).along off.2 in
    let same = c.in_ok-take_in-in-Off.ensures.kept c.if-branch-4.false in
    let taken = c.in_ok-take_in-in-Off.ensures.taken c.if-branch-4.false in
    (taken.shown, (taken.caught, or_right (is_over last.system last.log) (was_lost_in (drop new.cursor last.log) new.number) (ap (λ (x : BusView). was_lost_in (drop new.cursor x.log) new.number) same ∙ c.in_ok-take_in-in-Off.ensures.lost ∙ lost.1)))

pub returns-else-branch-4-clause-own : goal.returns-else-branch-4-clause-own
returns-else-branch-4-clause-own g c alone own =
    let a = g.P.Port.alone in
    let b = g.P.Port.bus c.args.port.now in
    let after = g.P.Port.bus c.offer_head.new.port in
    let last = g.P.Port.bus c.take_in-in-Off.new.port in
    let t : ClusterView = c.args.cluster.now in
    let new : ClusterView = c.take_in-in-Off.new.cluster in
    let p = c.requires.posting in
    let off = subst (λ o. OffersHead a t b after o) c.in-Off.is c.in_ok-offer_head.ensures.offered in
    let lost = was_off a b after t off.0 (p.shown).along off.2 in
    let loses = off_own a alone b after t off.0 own c.in_ok-offer_head.ensures.sound (seen_unlost b.log t.number t.cursor p.seen) off.2 (c.offer_head.ensures.adds alone) in
    let same = c.in_ok-take_in-in-Off.ensures.kept c.if-branch-4.false in
    let there : was_lost_in (drop new.cursor last.log) t.number ≡ true =
    ap (was_lost_in (drop new.cursor last.log)) (sym c.in_ok-take_in-in-Off.ensures.same.number) ∙ ap (λ (x : BusView). was_lost_in (drop new.cursor x.log) new.number) same ∙ c.in_ok-take_in-in-Off.ensures.lost ∙ lost.1 in
    lost_later t.number b after last t.cursor new.cursor same (λ ends. inl there) loses

-- ---- the log grows

pub returns-then-branch-clause-grows : goal.returns-then-branch-clause-grows
returns-then-branch-clause-grows g c = grown_then (g.P.Port.bus c.args.port.now) (g.P.Port.bus c.offer_head.new.port) (g.P.Port.bus c.take_sent.new.port) c.offer_head.ensures.grows c.in_ok-take_sent-in-Sent.ensures.grows

pub returns-then-branch-2-clause-grows : goal.returns-then-branch-2-clause-grows
returns-then-branch-2-clause-grows g c = grown_then (g.P.Port.bus c.args.port.now) (g.P.Port.bus c.offer_head.new.port) (g.P.Port.bus c.take_in.new.port) c.offer_head.ensures.grows c.in_ok-take_in-in-Behind.ensures.grows

pub returns-then-branch-3-clause-grows : goal.returns-then-branch-3-clause-grows
returns-then-branch-3-clause-grows g c = grown_then (g.P.Port.bus c.args.port.now) (g.P.Port.bus c.offer_head.new.port) (g.P.Port.bus c.take_in-in-Over.new.port) c.offer_head.ensures.grows c.in_ok-take_in-in-Over.ensures.grows

pub returns-then-branch-4-clause-grows : goal.returns-then-branch-4-clause-grows
returns-then-branch-4-clause-grows g c = grown_then (g.P.Port.bus c.args.port.now) (g.P.Port.bus c.offer_head.new.port) (g.P.Port.bus c.take_in-in-Off.new.port) c.offer_head.ensures.grows c.in_ok-take_in-in-Off.ensures.grows
