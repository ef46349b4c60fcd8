use Rattle.std.proofs.Common.{◌≡◌, ◌∙◌, ap, drop, subst, false, ◌+◌, ◌<◌}
use Rattle.t32_base.specs.declared.process.ClusterNo.{ClusterNo}
use Rattle.cert_sched.specs.Losses.{was_lost_in}
use Rattle.cluster_core.specs.View.{ClusterView}
use Rattle.cluster_turns.specs.Turns.{LosesOwn}
use Rattle.cluster_turns.proofs.Failing.{next_same, sent_failed}
use Rattle.cluster_turns.proofs.Posting.{left_ready, sent_posting}
use Rattle.cluster_turns.proofs.Sending.{before_sent, cleared, clears, sent_number, sent_system, sent_unlost}
use Rattle.cluster_turns.proofs.StepLosses.{failed_named}
use Rattle.cluster_turns.proofs.Staying.{stays_next, stays_there}
use Rattle.cluster_turns.proofs.Growing.{grown_none}
use Rattle.cluster_turns.specs.Along.{upto}
use Rattle.cluster_turns.proofs.turn.take_sent.Goals as goal

pub is_named-requires-clause-before : goal.is_named-requires-clause-before
is_named-requires-clause-before g c =
    let sent = c.requires.sent in
    before_sent sent.0 c.args.cluster.now sent.1 (g.P.Port.bus c.args.port.now) sent.2 c.requires.sound.legal c.sent.new.self c.sent.ensures

pub is_named-requires-clause-unfailed : goal.is_named-requires-clause-unfailed
is_named-requires-clause-unfailed g c =
    let sent = c.requires.sent in
    ap (λ (v : ClusterView). v.failed) (c.sent.ensures ∙ clears sent.0 c.args.cluster.now sent.1 (g.P.Port.bus c.args.port.now) sent.2) ∙ ((sent.2).beside).unfailed

-- ---- it is lost before that

pub returns-then-is_named-clause-sits : goal.returns-then-is_named-clause-sits
returns-then-is_named-clause-sits g c =
    let sent = c.requires.sent in
    let number : c.sent.new.self.number ≡ c.args.cluster.now.number =
    ap (λ (v : ClusterView). v.number) (c.sent.ensures ∙ clears sent.0 c.args.cluster.now sent.1 (g.P.Port.bus c.args.port.now) sent.2) in
    subst (λ (k : ClusterNo). g.P.Port.sits k c.lose.new.self) number c.in_ok-lose.ensures.sits

pub returns-then-is_named-clause-same : goal.returns-then-is_named-clause-same
returns-then-is_named-clause-same g c =
    let sent = c.requires.sent in
    let left : c.sent.new.self ≡ cleared c.args.cluster.now = c.sent.ensures ∙ clears sent.0 c.args.cluster.now sent.1 (g.P.Port.bus c.args.port.now) sent.2 in
    record { system = ap (λ (v : ClusterView). v.system) left; number = ap (λ (v : ClusterView). v.number) left }

pub lose-requires-clause-before : goal.lose-requires-clause-before
lose-requires-clause-before g c =
    let sent = c.requires.sent in
    before_sent sent.0 c.args.cluster.now sent.1 (g.P.Port.bus c.args.port.now) sent.2 c.requires.sound.legal c.sent.new.self c.sent.ensures

pub returns-then-is_named-clause-own : goal.returns-then-is_named-clause-own
returns-then-is_named-clause-own g c lost alone own =
    let b = g.P.Port.bus c.args.port.now in
    let sent = c.requires.sent in
    let number : c.sent.new.self.number ≡ c.args.cluster.now.number = ap (λ (v : ClusterView). v.number) (c.sent.ensures ∙ clears sent.0 c.args.cluster.now sent.1 b sent.2) in
    let cursor : c.sent.new.self.cursor ≡ c.args.cluster.now.cursor = ap (λ (v : ClusterView). v.cursor) (c.sent.ensures ∙ clears sent.0 c.args.cluster.now sent.1 b sent.2) in
    let lives : was_lost_in (drop c.sent.new.self.cursor b.log) c.sent.new.self.number ≡ false = (λ i. was_lost_in (drop (cursor i) b.log) (number i)) ∙ sent_unlost sent.0 c.args.cluster.now sent.1 b sent.2 in
    subst (λ (k : ClusterNo). LosesOwn k c.sent.new.self.cursor b (g.P.Port.bus c.lose.new.self)) number (c.in_ok-lose.ensures.own alone own lives)

-- ---- it takes the entry in

pub take_next-requires-clause-ready : goal.take_next-requires-clause-ready
take_next-requires-clause-ready g c =
    let sent = c.requires.sent in
    left_ready sent.0 c.args.cluster.now c.sent.new.self sent.1 (g.P.Port.bus c.args.port.now) sent.2 c.sent.ensures c.requires.sound

pub returns-clause-posting : goal.returns-clause-posting
returns-clause-posting g c goes =
    let sent = c.requires.sent in
    sent_posting sent.0 c.args.cluster.now c.sent.new.self sent.1 (g.P.Port.bus c.args.port.now) sent.2 c.sent.ensures (g.P.Port.shows c.args.port.now) (g.P.Port.from c.args.port.now) c.take_next.new.cluster
    c.requires.shows c.requires.from c.requires.sound (c.is_named.ensures.unnamed c.if-is_named.false) (c.in_ok-take_next.ensures.taken c.if-branch.false)

pub returns-clause-same : goal.returns-clause-same
returns-clause-same g c =
    let b = g.P.Port.bus c.args.port.now in
    let sent = c.requires.sent in
    let takes = c.in_ok-take_next.ensures.taken c.if-branch.false in
    record {
      system = sent_system sent.0 c.args.cluster.now sent.1 b sent.2 c.sent.new.self c.take_next.new.cluster c.sent.ensures takes;
      number = sent_number sent.0 c.args.cluster.now sent.1 b sent.2 c.sent.new.self c.take_next.new.cluster c.sent.ensures takes;
    }

-- ---- a call of its disk fails at that

pub returns-then-branch-clause-sits : goal.returns-then-branch-clause-sits
returns-then-branch-clause-sits g c =
    let b = g.P.Port.bus c.args.port.now in
    let sent = c.requires.sent in
    let same = next_same b.log c.sent.new.self c.take_next.new.cluster (c.in_ok-take_next.ensures.failed c.if-branch.true) in
    let number : c.take_next.new.cluster.number ≡ c.args.cluster.now.number = same.number ∙ ap (λ (v : ClusterView). v.number) (c.sent.ensures ∙ clears sent.0 c.args.cluster.now sent.1 b sent.2) in
    subst (λ (k : ClusterNo). g.P.Port.sits k c.lose-then-branch.new.self) number c.in_ok-lose-2.ensures.sits

pub lose-requires-then-branch-clause-before : goal.lose-requires-then-branch-clause-before
lose-requires-then-branch-clause-before g c =
    let b = g.P.Port.bus c.args.port.now in
    let sent = c.requires.sent in
    let fails = c.in_ok-take_next.ensures.failed c.if-branch.true in
    (sent_failed sent.0 c.args.cluster.now sent.1 b sent.2 c.sent.new.self c.take_next.new.cluster c.sent.ensures c.requires.sound (c.is_named.ensures.unnamed c.if-is_named.false) fails).before

pub lose-requires-then-branch-clause-named : goal.lose-requires-then-branch-clause-named
lose-requires-then-branch-clause-named g c =
    let b = g.P.Port.bus c.args.port.now in
    let sent = c.requires.sent in
    let fails = c.in_ok-take_next.ensures.failed c.if-branch.true in
    failed_named b c.take_next.new.cluster (sent_failed sent.0 c.args.cluster.now sent.1 b sent.2 c.sent.new.self c.take_next.new.cluster c.sent.ensures c.requires.sound (c.is_named.ensures.unnamed c.if-is_named.false) fails)

pub returns-then-branch-clause-same : goal.returns-then-branch-clause-same
returns-then-branch-clause-same g c =
    let b = g.P.Port.bus c.args.port.now in
    let sent = c.requires.sent in
    let same = next_same b.log c.sent.new.self c.take_next.new.cluster (c.in_ok-take_next.ensures.failed c.if-branch.true) in
    let left : c.sent.new.self ≡ cleared c.args.cluster.now = c.sent.ensures ∙ clears sent.0 c.args.cluster.now sent.1 b sent.2 in
    record { system = same.system ∙ ap (λ (v : ClusterView). v.system) left; number = same.number ∙ ap (λ (v : ClusterView). v.number) left }

pub returns-then-branch-clause-own : goal.returns-then-branch-clause-own
returns-then-branch-clause-own g c lost alone own =
    let b = g.P.Port.bus c.args.port.now in
    let v : ClusterView = c.take_next.new.cluster in
    let sent = c.requires.sent in
    let same = next_same b.log c.sent.new.self v (c.in_ok-take_next.ensures.failed c.if-branch.true) in
    let number : v.number ≡ c.args.cluster.now.number = same.number ∙ ap (λ (v : ClusterView). v.number) (c.sent.ensures ∙ clears sent.0 c.args.cluster.now sent.1 b sent.2) in
    let cursor : v.cursor ≡ c.args.cluster.now.cursor =
    ap (λ (v : ClusterView). v.cursor) ((c.in_ok-take_next.ensures.failed c.if-branch.true).fails).rest ∙ ap (λ (v : ClusterView). v.cursor) (c.sent.ensures ∙ clears sent.0 c.args.cluster.now sent.1 b sent.2) in
    let lives : was_lost_in (drop v.cursor b.log) v.number ≡ false = (λ i. was_lost_in (drop (cursor i) b.log) (number i)) ∙ sent_unlost sent.0 c.args.cluster.now sent.1 b sent.2 in
    subst (λ (k : ClusterNo). LosesOwn k v.cursor b (g.P.Port.bus c.lose-then-branch.new.self)) number (c.in_ok-lose-2.ensures.own alone own lives)

-- ---- it lives on where it comes to

pub returns-then-is_named-clause-life : goal.returns-then-is_named-clause-life
returns-then-is_named-clause-life g c =
    let sent = c.requires.sent in
    let cursor : c.sent.new.self.cursor ≡ c.args.cluster.now.cursor = ap (λ (v : ClusterView). v.cursor) (c.sent.ensures ∙ clears sent.0 c.args.cluster.now sent.1 (g.P.Port.bus c.args.port.now) sent.2) in
    stays_there c.args.cluster.now.number (g.P.Port.bus c.lose.new.self).log c.args.cluster.now.cursor c.sent.new.self.cursor cursor

pub returns-then-branch-clause-life : goal.returns-then-branch-clause-life
returns-then-branch-clause-life g c =
    let sent = c.requires.sent in
    let v : ClusterView = c.take_next.new.cluster in
    let cursor : v.cursor ≡ c.args.cluster.now.cursor =
    ap (λ (v : ClusterView). v.cursor) ((c.in_ok-take_next.ensures.failed c.if-branch.true).fails).rest ∙ ap (λ (v : ClusterView). v.cursor) (c.sent.ensures ∙ clears sent.0 c.args.cluster.now sent.1 (g.P.Port.bus c.args.port.now) sent.2) in
    stays_there c.args.cluster.now.number (g.P.Port.bus c.lose-then-branch.new.self).log c.args.cluster.now.cursor v.cursor cursor

pub returns-clause-life : goal.returns-clause-life
returns-clause-life g c =
    let b = g.P.Port.bus c.args.port.now in
    let sent = c.requires.sent in
    let t : ClusterView = c.args.cluster.now in
    let left : c.sent.new.self ≡ cleared t = c.sent.ensures ∙ clears sent.0 t sent.1 b sent.2 in
    let ready = left_ready sent.0 t c.sent.new.self sent.1 b sent.2 c.sent.ensures c.requires.sound in
    let one : c.take_next.new.cluster.cursor ≡ t.cursor + 1 = ap (λ (v : ClusterView). v.cursor) (c.in_ok-take_next.ensures.taken c.if-branch.false).taken ∙ ap (λ (v : ClusterView). v.cursor + 1) left in
    let within : t.cursor < upto t.number t.system b.log t.cursor = subst (λ (v : ClusterView). v.cursor < upto v.number v.system b.log v.cursor) left ready.within in
    stays_next t.number t.system b.log t.cursor c.take_next.new.cluster.cursor within one

pub returns-clause-grows : goal.returns-clause-grows
returns-clause-grows g c = grown_none (g.P.Port.bus c.args.port.now)
