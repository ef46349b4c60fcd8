use Rattle.std.proofs.Common.{◌≡◌, ap, subst, true, ℕ, refl}
use Rattle.t32_base.specs.declared.process.ClusterNo.{ClusterNo}
use Rattle.cluster_core.specs.View.{ClusterView}
use Rattle.cluster_turns.specs.declared.turn.Tried.{Tried}
use Rattle.cluster_turns.specs.Turns.{GoesOwn, TriesOwn}
use Rattle.cluster_turns.proofs.Owning.{where_each, where_ok}
use Rattle.cluster_turns.proofs.Posting.{tried_posting}
use Rattle.cluster_turns.proofs.StepLosses.{before_along}
use Rattle.cluster_turns.proofs.TakingIn.{seen_unlost}
use Rattle.cluster_turns.proofs.Staying.{stays_there}
use Rattle.cluster_turns.specs.Along.{StaysAlive}
use Rattle.cluster_turns.proofs.turn.send_head.Goals as goal

pub is_named-requires-clause-before : goal.is_named-requires-clause-before
is_named-requires-clause-before g c = before_along (g.P.Port.bus c.args.port.now) c.args.cluster.now c.requires.posting.shown.sound c.requires.posting.shown.along

pub lose-requires-clause-before : goal.lose-requires-clause-before
lose-requires-clause-before g c = before_along (g.P.Port.bus c.args.port.now) c.args.cluster.now c.requires.posting.shown.sound c.requires.posting.shown.along

pub returns-then-is_named-clause-own : goal.returns-then-is_named-clause-own
returns-then-is_named-clause-own g c alone own =
    c.in_ok-lose.ensures.own alone own (seen_unlost (g.P.Port.bus c.args.port.now).log c.args.cluster.now.number c.args.cluster.now.cursor c.requires.posting.seen)

pub try_head-requires-clause-posting : goal.try_head-requires-clause-posting
try_head-requires-clause-posting g c =
    tried_posting (g.P.Port.shows c.args.port.now) (g.P.Port.from c.args.port.now) (g.P.Port.bus c.args.port.now) c.args.cluster.now c.tried.new.self c.tried.ensures.tried (c.is_named.ensures.unnamed c.if-is_named.false) c.requires.posting

pub returns-clause-own : goal.returns-clause-own
returns-clause-own g c =
    let a = g.P.Port.alone in
    let b = g.P.Port.bus c.args.port.now in
    let after = g.P.Port.bus c.try_head.new.port in
    let number : c.tried.new.self.number ≡ c.args.cluster.now.number = ap (λ (v : ClusterView). v.number) c.tried.ensures.tried in
    let Own : ClusterNo → Tried → Type 0 = λ k tried. a ≡ true → GoesOwn b → TriesOwn k c.try_head.new.cluster.cursor tried b after in
    where_each c.try_head.result (Own c.tried.new.self.number) (Own c.args.cluster.now.number) (λ tried holds. subst (λ k. Own k tried) number holds) c.try_head.ensures.own

pub is_named-requires-clause-unfailed : goal.is_named-requires-clause-unfailed
is_named-requires-clause-unfailed g c = ((c.requires.posting.shown).along).beside.unfailed

pub returns-then-is_named-clause-life : goal.returns-then-is_named-clause-life
returns-then-is_named-clause-life g c = stays_there c.args.cluster.now.number (g.P.Port.bus c.lose.new.self).log c.args.cluster.now.cursor c.args.cluster.now.cursor refl

pub returns-clause-life : goal.returns-clause-life
returns-clause-life g c =
    let after = g.P.Port.bus c.try_head.new.port in
    let n = c.try_head.new.cluster.cursor in
    let number : c.tried.new.self.number ≡ c.args.cluster.now.number = ap (λ (v : ClusterView). v.number) c.tried.ensures.tried in
    let cursor : c.tried.new.self.cursor ≡ c.args.cluster.now.cursor = ap (λ (v : ClusterView). v.cursor) c.tried.ensures.tried in
    let Life : ClusterNo → ℕ → Type 0 = λ k from. StaysAlive k after.log from n in
    where_ok c.try_head.result (Life c.tried.new.self.number c.tried.new.self.cursor) (Life c.args.cluster.now.number c.args.cluster.now.cursor)
    (λ holds. subst (λ from. Life c.args.cluster.now.number from) cursor (subst (λ k. Life k c.tried.new.self.cursor) number holds)) c.try_head.ensures.life
