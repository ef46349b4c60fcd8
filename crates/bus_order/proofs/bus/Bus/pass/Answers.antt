use Rattle.std.proofs.Common.{◌≡◌, ℕ, sym, ◌∙◌, subst, Bool, List}
use Rattle.std.specs.Prelude.{remove}
use Rattle.std.specs.Arc.{arc_value}
use Rattle.bus_msg.specs.Places.{Places}
use Rattle.cert_sched.specs.declared.script.ScriptWord.{ScriptWord}
use Rattle.cert_sched.specs.CertAfter.{CertView}
use Rattle.bus_order.specs.View.{BusView, IsKept, MayPass}
use Rattle.bus_order.proofs.Keeping.{kept_passed}
use Rattle.bus_order.proofs.bus.Bus.pass.Goals as goal

-- the bus without the word, as far as its log goes
passed : (b v : BusView) (over : Bool) (places : Places) (cert : CertView) (number : ℕ) (left : List ScriptWord) → b ≡ v → IsKept b over places cert → MayPass v number → left ≡ remove b.left number → IsKept (record b { left = left }) over places cert
passed b v over places cert number left is kept passes removed =
    let may : MayPass b number = subst (λ b. MayPass b number) (sym is) passes in
    subst (λ ws. IsKept (record b { left = ws }) over places cert) (sym (removed ∙ (may.first).2)) (kept_passed b over places cert may.word kept (may.first).0 may.nothing)

pub invariant_of-self : goal.invariant_of-self
invariant_of-self c =
    let b : BusView = record { system = arc_value c.self.inside.system; script = c.self.inside.script.items; left = c.self.inside.left; log = c.self.inside.log; marks = c.self.inside.marks.items } in
    passed b c.args.self.now c.self.inside.over c.self.inside.places c.self.inside.cert c.args.number c.remove.new.self c.self.view_is c.self.invariant c.requires c.remove.ensures

pub returns-clause-lawful : goal.returns-clause-lawful
returns-clause-lawful c =
    let b : BusView = record { system = arc_value c.self.inside.system; script = c.self.inside.script.items; left = c.self.inside.left; log = c.self.inside.log; marks = c.self.inside.marks.items } in
    (passed b c.args.self.now c.self.inside.over c.self.inside.places c.self.inside.cert c.args.number c.remove.new.self c.self.view_is c.self.invariant c.requires c.remove.ensures).lawful
