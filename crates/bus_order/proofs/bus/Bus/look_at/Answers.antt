use Rattle.std.proofs.Common.{◌≡◌, sym, ◌∙◌, ap, subst, Some}
use Rattle.bus_msg.specs.declared.entry.What.TheVariants.{Crash, Return}
use Rattle.bus_msg.specs.declared.entry.Cause.TheVariants.{Place}
use Rattle.cert_sched.specs.Schedule.{placement}
use Rattle.cert_sched.specs.Looked.{given_by}
use Rattle.bus_order.specs.Script.{told_by}
use Rattle.bus_order.specs.View.{IsKept}
use Rattle.bus_order.proofs.Losing.{place_loses}
use Rattle.bus_order.proofs.Returning.{place_returns}
use Rattle.bus_order.proofs.bus.Bus.look_at.Goals as goal

pub lose-requires-clause-may : goal.lose-requires-clause-may
lose-requires-clause-may c =
    let b = c.args.self.now in
    let kept : IsKept b c.self.inside.over c.self.inside.places c.self.inside.cert = subst (λ b. IsKept b c.self.inside.over c.self.inside.places c.self.inside.cert) c.self.view_is c.self.invariant in
    let given : given_by (placement b.system b.log) c.args.word ≡ Some (Crash c.in-Some-Lost.k Place) = sym (ap (λ p. given_by p c.args.word) kept.placed) ∙ c.in-Some-Lost.ensures ∙ ap (λ t. Some (told_by t)) c.in-Some-Lost.field-0-is in
    place_loses b c.self.inside.over c.self.inside.places c.self.inside.cert c.args.number c.args.word c.in-Some-Lost.k kept c.requires.goes_on c.requires.first given

pub bring_back-requires-clause-may : goal.bring_back-requires-clause-may
bring_back-requires-clause-may c =
    let b = c.args.self.now in
    let kept : IsKept b c.self.inside.over c.self.inside.places c.self.inside.cert = subst (λ b. IsKept b c.self.inside.over c.self.inside.places c.self.inside.cert) c.self.view_is c.self.invariant in
    let given : given_by (placement b.system b.log) c.args.word ≡ Some (Return c.in-Some-Back.k) = sym (ap (λ p. given_by p c.args.word) kept.placed) ∙ c.in-Some-Back.ensures ∙ ap (λ t. Some (told_by t)) c.in-Some-Back.field-0-is in
    place_returns b c.self.inside.over c.self.inside.places c.self.inside.cert c.args.number c.args.word c.in-Some-Back.k kept c.requires.goes_on c.requires.first given
