use Rattle.std.proofs.Common.{◌≡◌, ◌∙◌, ◌+◌, ◌-◌, refl, sym, ap, arith}
use Rattle.cluster_turns.specs.Lives.{begin_of_life, begins_at}
use Rattle.cluster_run.proofs.Begins.{begin_back, begin_here}
use Rattle.cluster_run.proofs.beginning.begin_of_life.Goals as goal

pub places-init : goal.places-init
places-init c = refl

pub places-preserved : goal.places-preserved
places-preserved c =
    let log = c.args.bus.now.log in
    let k = c.args.number in
    let n = c.places.place in
    let next : (n - 1) + 1 ≡ n = omega (arith, c.places-test.true) in
    c.places.invariant ∙ begin_back log k n (omega (arith, c.places-test.true)) (ap (begins_at log k) (sym next) ∙ sym c.is_return_at.ensures ∙ c.if-is_return_at.false)

pub returns-then-is_return_at : goal.returns-then-is_return_at
returns-then-is_return_at c =
    let log = c.args.bus.now.log in
    let k = c.args.number in
    let n = c.places.place in
    let next : (n - 1) + 1 ≡ n = omega (arith, c.places-test.true) in
    sym (c.places.invariant ∙ begin_here log k n (ap (begins_at log k) (sym next) ∙ sym c.is_return_at.ensures ∙ c.if-is_return_at.true))

pub returns : goal.returns
returns c =
    let log = c.args.bus.now.log in
    let k = c.args.number in
    let none : c.places.place ≡ 0 = omega (arith, c.places-test.false) in
    sym (c.places.invariant ∙ ap (begin_of_life log k) none)
