use Rattle.std.proofs.Common.{◌≡◌, sym, ◌∙◌, ap, subst, List, None, false}
use Rattle.std.specs.Prelude.{find}
use Rattle.cert_sched.specs.declared.script.ScriptWord.{ScriptWord}
use Rattle.cert_sched.specs.Looked.{is_reached}
use Rattle.bus_order.specs.Left.{is_due, least_place}
use Rattle.bus_order.proofs.LeftLaws.{none_due}
use Rattle.bus_order.proofs.left.WordsLeft.first_reached.Goals as goal

pub returns-then-not-is_due-clause-none : goal.returns-then-not-is_due-clause-none
returns-then-not-is_due-clause-none c =
    let words : List ScriptWord = c.self.inside.words.items in
    let none : is_due c.args.length (least_place words) ≡ false = ap (is_due c.args.length) (sym c.self.invariant.least) ∙ sym c.is_due.ensures ∙ c.if-not-is_due.true in
    subst (λ ws. find (is_reached c.args.length) ws ≡ None) c.self.view_is (none_due c.args.length words none)
