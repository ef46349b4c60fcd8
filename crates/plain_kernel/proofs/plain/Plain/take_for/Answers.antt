use Rattle.std.proofs.Common.{sym, subst, Result}
use Rattle.plain_kernel.specs.declared.item.NotApplied.{NotApplied}
use Rattle.plain_kernel.specs.declared.item.Item.TheVariants.{Take}
use Rattle.plain_kernel.specs.Answers.{Applies}
use Rattle.plain_kernel.specs.Kernel.{Kernel}
use Rattle.plain_kernel.specs.Maps.{kernel_of}
use Rattle.plain_kernel.proofs.Takers.{applies_take, take_room}
use Rattle.plain_kernel.proofs.plain.Plain.take_for.Goals as goal

pub invariant_of-self : goal.invariant_of-self
invariant_of-self c = take_room c.take_at.result c.self.inside.processes.entries c.take_at.new.processes.entries c.args.pid.0 c.take_at.ensures c.self.invariant

pub returns : goal.returns
returns c =
    let applies = applies_take c.take_at.result c.self.inside.processes.entries c.take_at.new.processes.entries c.self.inside.ttys.entries c.args.pid.0 c.take_at.ensures in
    let answer : Result (Unit {0}) NotApplied → Type 0 = λ r. Applies (Take c.args.pid) r (kernel_of c.self.inside.processes.entries c.self.inside.ttys.entries) (kernel_of c.take_at.new.processes.entries c.self.inside.ttys.entries) in
    let family : Kernel → Type 0 = λ k. Applies (Take c.args.pid) c.take_answer.result k (kernel_of c.take_at.new.processes.entries c.self.inside.ttys.entries) in
    subst family c.self.view_is (subst answer (sym c.take_answer.ensures) applies)
