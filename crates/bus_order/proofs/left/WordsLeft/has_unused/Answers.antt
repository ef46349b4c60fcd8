use Rattle.std.proofs.Common.{◌≡◌, sym, ◌∙◌, ap, List, false}
use Rattle.cert_sched.specs.declared.script.ScriptWord.{ScriptWord}
use Rattle.bus_order.specs.Left.{has_counted}
use Rattle.bus_order.specs.Script.{has_unused}
use Rattle.bus_order.proofs.LeftLaws.{none_counted}
use Rattle.bus_order.proofs.left.WordsLeft.has_unused.Goals as goal

pub returns-else-self : goal.returns-else-self
returns-else-self c =
    let words : List ScriptWord = c.self.inside.words.items in
    let none : has_counted words ≡ false = sym c.self.invariant.counts ∙ c.if-self.false in
    c.if-self.false ∙ sym (none_counted c.args.k c.args.cause words none) ∙ ap (λ ws. has_unused ws c.args.k c.args.cause) c.self.view_is
