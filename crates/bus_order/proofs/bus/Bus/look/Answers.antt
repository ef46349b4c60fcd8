use Rattle.std.proofs.Common.{◌≡◌, suc, ◌+◌, refl, sym, ◌∙◌, ap, subst, arith, length}
use Rattle.bus_order.specs.View.{BusView, IsLawful, look_once, looks}
use Rattle.bus_order.proofs.Looking.{looks_more, on_err, stays_to}
use Rattle.bus_order.proofs.bus.Bus.look.Goals as goal

pub loop-init : goal.loop-init
loop-init c = (refl, subst IsLawful c.self.view_is c.self.invariant.lawful)

pub returns-in_err-look_once-clause-err : goal.returns-in_err-look_once-clause-err
returns-in_err-look_once-clause-err c = on_err c.from_residual.result (c.loop.counter, c.in_err-look_once.ensures.err ∙ c.loop.invariant.0)

pub returns-then-not-branch-clause-ok : goal.returns-then-not-branch-clause-ok
returns-then-not-branch-clause-ok c =
    let b = c.args.self.now in
    let n = c.loop.counter in
    let stays : c.look_once.new.self ≡ c.loop.self = c.in_ok-look_once.ensures.none c.if-not-branch.true in
    let same : look_once c.loop.self ≡ c.loop.self = sym c.in_ok-look_once.ensures.ok ∙ stays in
    let long : length b.left ≡ length c.self.inside.left = ap (λ (v : BusView). length v.left) (sym c.self.view_is) in
    stays ∙ c.loop.invariant.0 ∙ sym (stays_to n (length b.left) b (omega (arith, c.loop-test.true, c.len-end.ensures, long)) (subst (λ v. look_once v ≡ v) c.loop.invariant.0 same))

pub loop-preserved : goal.loop-preserved
loop-preserved c =
    let n = c.loop.counter in (
      c.in_ok-look_once.ensures.ok ∙ ap look_once c.loop.invariant.0 ∙ sym (looks_more n c.args.self.now) ∙ ap (λ m. looks m c.args.self.now) (let e : suc n ≡ n + 1 = omega arith in e),
      c.in_ok-look_once.ensures.lawful,
    )

pub returns-clause-ok : goal.returns-clause-ok
returns-clause-ok c =
    let b = c.args.self.now in
    let long : length b.left ≡ length c.self.inside.left = ap (λ (v : BusView). length v.left) (sym c.self.view_is) in
    let n : c.loop.counter ≡ length b.left = omega (arith, c.loop-test.false, c.loop.auto.counter-end, c.len-end.ensures, long) in
    c.loop.invariant.0 ∙ ap (λ m. looks m b) n
