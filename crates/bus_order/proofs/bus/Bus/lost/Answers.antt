use Rattle.std.proofs.Common.{◌≡◌, refl, sym, ◌∙◌, ap, subst, arith, true, false, None, true≢false}
use Rattle.std.specs.Prelude.{find}
use Rattle.cert_sched.specs.Rules.{is_over}
use Rattle.bus_order.specs.Script.{IsFirst, is_word_for, off_at}
use Rattle.bus_order.specs.View.{BusView, IsKept}
use Rattle.bus_order.proofs.OverLaws.{over_long, over_as_kept}
use Rattle.bus_order.proofs.OffLaws.{not_off_lives}
use Rattle.bus_order.proofs.WordsLaws.{none-found}
use Rattle.bus_order.proofs.Losing.{word_loses}
use Rattle.bus_order.proofs.bus.Bus.lost.Goals as goal
use Rattle.bus_order.proofs.Lawful.{lawful_stands}

pub overflow_sub-result : goal.overflow_sub-result
overflow_sub-result c =
    let over : is_over c.args.self.now.system c.args.self.now.log ≡ true = sym (over_as_kept c.self.view_is c.self.invariant) ∙ c.if-self.true in
    omega (arith, over_long c.args.self.now.system c.args.self.now.log (lawful_stands c.length.ensures.lawful) over, c.length.ensures.length)

pub returns-then-self-clause-loses : goal.returns-then-self-clause-loses
returns-then-self-clause-loses c =
    let over : is_over c.args.self.now.system c.args.self.now.log ≡ true = sym (over_as_kept c.self.view_is c.self.invariant) ∙ c.if-self.true in
    (over, omega (arith, over_long c.args.self.now.system c.args.self.now.log (lawful_stands c.length.ensures.lawful) over, c.length.ensures.length), refl)

pub lose-requires-clause-may : goal.lose-requires-clause-may
lose-requires-clause-may c =
    let b = c.args.self.now in
    let by = c.args.by in
    let cause = c.args.cause in
    let over = c.self.inside.over in
    let places = c.self.inside.places in
    let cert = c.self.inside.cert in
    let kept : IsKept b over places cert = subst (λ b. IsKept b over places cert) c.self.view_is c.self.invariant in
    let goes_on : is_over b.system b.log ≡ false = sym (over_as_kept c.self.view_is c.self.invariant) ∙ c.if-self.false in
    let off : off_at b.log by ≡ None = sym c.off_at.ensures.off ∙ c.in_default.is in
    let words : c.self.inside.left ≡ b.left = ap (λ (v : BusView). v.left) c.self.view_is in
    let first : IsFirst (is_word_for by cause) b.left c.in-Some-first_for.number c.in-Some-first_for.field-0-1 =
    subst (λ ws. IsFirst (is_word_for by cause) ws c.in-Some-first_for.number c.in-Some-first_for.field-0-1) words c.in-Some-first_for.ensures.some in
    word_loses b over places cert c.in-Some-first_for.number c.in-Some-first_for.field-0-1 by cause kept goes_on (not_off_lives b.system b.log by (lawful_stands kept.lawful) c.requires.has off) first (c.requires.may goes_on off)

pub unreachable-requires : goal.unreachable-requires
unreachable-requires c =
    let words : c.self.inside.left ≡ c.args.self.now.left = ap (λ (v : BusView). v.left) c.self.view_is in
    let none = subst (λ ws. find (is_word_for c.args.by c.args.cause) ws ≡ None) words c.in-None.ensures.none in
    true≢false (sym c.requires.unused ∙ none-found (is_word_for c.args.by c.args.cause) c.args.self.now.left none)
