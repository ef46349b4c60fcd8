use Rattle.std.proofs.Common.{◌≡◌, ℕ, ◌∙◌, refl, sym, ap, Option, Some, None, is_some, true, false, inl, inr, true≢false}
use Rattle.t32_base.proofs.Facts.{none_is}
use Rattle.cluster_core.specs.View.{ClusterView}
use Rattle.bus_order.specs.View.{BusView}
use Rattle.cluster_turns.specs.Along.{IsDue, IsFailed, IsShown, IsSound}
use Rattle.cluster_turns.proofs.Owning.{gone_turn}
use Rattle.cluster_turns.proofs.StepLosses.{failed_named}
use Rattle.cluster_turns.proofs.Staying.{stays_there}
use Rattle.cluster_turns.proofs.turn.take_turn.Goals as goal

none_some : (n : ℕ) → ◌≡◌ {A = Option ℕ} None (Some n) → ⊥
none_some n h = cc

some_is : (o : Option ℕ) → is_some o ≡ true → o ≡ None → ⊥
some_is None some none = true≢false (sym some)
some_is (Some n) some none = none_some n (sym none)

-- one of whose disk a call failed has failed
due_failed : (Shows : Type 0) (from : ℕ) (b : BusView) (c : ClusterView) → IsDue Shows from b c → is_some c.failed ≡ true → IsSound b × IsFailed b c
due_failed Shows from b c (inl shown) some = absurd (some_is c.failed some ((shown.along).beside).unfailed)
due_failed Shows from b c (inr failed) some = failed

-- and one of whose disk none did goes on
due_shown : (Shows : Type 0) (from : ℕ) (b : BusView) (c : ClusterView) → IsDue Shows from b c → is_some c.failed ≡ false → IsShown Shows from b c
due_shown Shows from b c (inl shown) none = shown
due_shown Shows from b c (inr failed) none = absurd (none_some ((failed.1).disk).call (sym (none_is c.failed none) ∙ ((failed.1).disk).failed))

pub lose-requires-clause-sound : goal.lose-requires-clause-sound
lose-requires-clause-sound g c = (due_failed _ _ (g.P.Port.bus c.args.port.now) c.args.cluster.now c.requires.due (ap is_some (sym c.failed.ensures) ∙ sym c.is_some.ensures ∙ c.if-is_some.true)).0

pub lose-requires-clause-before : goal.lose-requires-clause-before
lose-requires-clause-before g c = ((due_failed _ _ (g.P.Port.bus c.args.port.now) c.args.cluster.now c.requires.due (ap is_some (sym c.failed.ensures) ∙ sym c.is_some.ensures ∙ c.if-is_some.true)).1).before

pub lose-requires-clause-named : goal.lose-requires-clause-named
lose-requires-clause-named g c =
    failed_named (g.P.Port.bus c.args.port.now) c.args.cluster.now ((due_failed _ _ (g.P.Port.bus c.args.port.now) c.args.cluster.now c.requires.due (ap is_some (sym c.failed.ensures) ∙ sym c.is_some.ensures ∙ c.if-is_some.true)).1)

pub returns-then-is_some-clause-own : goal.returns-then-is_some-clause-own
returns-then-is_some-clause-own g c alone own lives = gone_turn (g.P.Port.bus c.args.port.now) (g.P.Port.bus c.lose.new.self) c.args.cluster.now c.args.cluster.now refl (c.in_ok-lose.ensures.own alone own lives)

pub go_on-requires-clause-shown : goal.go_on-requires-clause-shown
go_on-requires-clause-shown g c = due_shown _ _ (g.P.Port.bus c.args.port.now) c.args.cluster.now c.requires.due (ap is_some (sym c.failed.ensures) ∙ sym c.is_some.ensures ∙ c.if-is_some.false)

pub returns-then-is_some-clause-life : goal.returns-then-is_some-clause-life
returns-then-is_some-clause-life g c = stays_there c.args.cluster.now.number (g.P.Port.bus c.lose.new.self).log c.args.cluster.now.cursor c.args.cluster.now.cursor refl
