use Rattle.std.proofs.Common.{sym, ◌∙◌, ap, subst}
use Rattle.plain_kernel.specs.declared.item.Item.TheVariants.{Run}
use Rattle.plain_kernel.specs.Kernel.{Kernel}
use Rattle.plain_kernel.specs.Apply.{one_step}
use Rattle.plain_kernel.specs.Answers.{Applies}
use Rattle.plain_kernel.specs.Maps.{kernel_of}
use Rattle.plain_kernel.proofs.Turns.{applies_none, applies_nobody, applies_run, nobody_there}
use Rattle.plain_kernel.proofs.plain.Plain.run_process.Goals as goal

pub returns-then-most-eq0 : goal.returns-then-most-eq0
returns-then-most-eq0 c = applies_none c.args.pid c.args.most c.args.self.now c.if-most-eq0.true

pub returns-then-not-contains_key : goal.returns-then-not-contains_key
returns-then-not-contains_key c =
    let none = nobody_there c.self.inside.processes.entries c.self.inside.ttys.entries c.args.pid.0 (sym c.contains_key.ensures ∙ c.if-not-contains_key.true) in
    applies_nobody c.args.pid c.args.most c.args.self.now c.if-most-eq0.false (ap (one_step c.args.pid) (sym c.self.view_is) ∙ none)

pub returns : goal.returns
returns c =
    let runs = applies_run c.run_steps.result c.args.pid.0 c.args.most _ _ _ _ c.if-most-eq0.false c.run_steps.ensures in
    let family : Kernel → Type 0 = λ k. Applies (Run c.args.pid c.args.most) c.run_steps.result k (kernel_of c.run_steps.new.processes.entries c.run_steps.new.ttys.entries) in
    subst family c.self.view_is runs
