use Rattle.std.proofs.Common.{◌≡◌, sym, ◌∙◌, ap, subst, length, Some, false}
use Rattle.cert_sched.specs.Rules.{is_over}
use Rattle.cert_sched.specs.Looked.{is_reached}
use Rattle.bus_order.specs.Script.{IsFirst}
use Rattle.bus_order.specs.View.{BusView}
use Rattle.bus_order.proofs.OverLaws.{over_as_kept}
use Rattle.bus_order.proofs.Looking.{look_some}
use Rattle.bus_order.proofs.bus.Bus.look_once.Goals as goal

pub look_at-requires-clause-first : goal.look_at-requires-clause-first
look_at-requires-clause-first c =
    let n : c.len.result ≡ length c.args.self.now.log = c.len.ensures ∙ ap (λ (v : BusView). length v.log) c.self.view_is in
    let words : c.self.inside.left ≡ c.args.self.now.left = ap (λ (v : BusView). v.left) c.self.view_is in
    subst (λ n. IsFirst (is_reached n) c.args.self.now.left c.in-Some.number c.in-Some.word) n
    (subst (λ ws. IsFirst (is_reached c.len.result) ws c.in-Some.number c.in-Some.word) words c.in-Some.ensures.some)

pub returns-in_ok-look_at-in-Some-clause-ok : goal.returns-in_ok-look_at-in-Some-clause-ok
returns-in_ok-look_at-in-Some-clause-ok c =
    let b = c.args.self.now in
    let n : c.len.result ≡ length b.log = c.len.ensures ∙ ap (λ (v : BusView). length v.log) c.self.view_is in
    let words : c.self.inside.left ≡ b.left = ap (λ (v : BusView). v.left) c.self.view_is in
    let first : IsFirst (is_reached (length b.log)) b.left c.in-Some.number c.in-Some.word =
    subst (λ n. IsFirst (is_reached n) b.left c.in-Some.number c.in-Some.word) n
    (subst (λ ws. IsFirst (is_reached c.len.result) ws c.in-Some.number c.in-Some.word) words c.in-Some.ensures.some) in
    let goes_on : is_over b.system b.log ≡ false = sym (over_as_kept c.self.view_is c.self.invariant) ∙ c.if-self.false in
    c.in_ok-look_at-in-Some.ensures.ok ∙ sym (look_some b (Some c.in-Some.word) goes_on first.0)
