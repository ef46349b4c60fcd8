use Rattle.std.proofs.Common.{sym, ◌∙◌, ap, refl, subst, Result}
use Rattle.plain_kernel.specs.declared.item.NotApplied.{NotApplied}
use Rattle.plain_kernel.specs.Answers.{Applies}
use Rattle.plain_kernel.specs.Maps.{kernel_of}
use Rattle.plain_kernel.specs.declared.item.Item.TheVariants.{Fork}
use Rattle.plain_kernel.specs.Kernel.{Kernel}
use Rattle.plain_kernel.specs.Apply.{fork_step}
use Rattle.plain_kernel.proofs.Turns.{applies_other}
use Rattle.plain_kernel.proofs.Forked.{absent_at, applies_fork, child_stands, kept_room, no_fork_at}
use Rattle.plain_kernel.proofs.plain.Plain.fork_process.Goals as goal

pub returns-then-not-stands_at_fork : goal.returns-then-not-stands_at_fork
returns-then-not-stands_at_fork c =
    let none = no_fork_at c.self.inside.processes.entries c.self.inside.ttys.entries c.args.pid.0 c.args.child (sym c.stands_at_fork.ensures ∙ c.if-not-stands_at_fork.true) in
    applies_other (Fork c.args.pid c.args.child) c.args.self.now (ap (fork_step c.args.pid c.args.child) (sym c.self.view_is) ∙ none) refl

pub returns-then-contains_key : goal.returns-then-contains_key
returns-then-contains_key c =
    let none = child_stands c.self.inside.processes.entries c.self.inside.ttys.entries c.args.pid.0 c.args.child (sym c.contains_key.ensures ∙ c.if-contains_key.true) in
    applies_other (Fork c.args.pid c.args.child) c.args.self.now (ap (fork_step c.args.pid c.args.child) (sym c.self.view_is) ∙ none) refl

pub invariant_of-self : goal.invariant_of-self
invariant_of-self c =
    kept_room c.fork_at.result c.self.inside.processes.entries c.fork_at.new.processes.entries c.args.pid.0 c.args.child
    (sym c.stands_at_fork.ensures ∙ c.if-not-stands_at_fork.false) (absent_at c.self.inside.processes.entries c.args.child.0 (sym c.contains_key.ensures ∙ c.if-contains_key.false)) c.fork_at.ensures.ok c.fork_at.ensures.err c.self.invariant

pub returns : goal.returns
returns c =
    let applies = applies_fork c.fork_at.result c.self.inside.processes.entries c.fork_at.new.processes.entries c.self.inside.ttys.entries c.args.pid.0 c.args.child
    (sym c.stands_at_fork.ensures ∙ c.if-not-stands_at_fork.false) (absent_at c.self.inside.processes.entries c.args.child.0 (sym c.contains_key.ensures ∙ c.if-contains_key.false)) c.fork_at.ensures.ok c.fork_at.ensures.err in
    let answer : Result (Unit {0}) NotApplied → Type 0 = λ r. Applies (Fork c.args.pid c.args.child) r (kernel_of c.self.inside.processes.entries c.self.inside.ttys.entries) (kernel_of c.fork_at.new.processes.entries c.self.inside.ttys.entries) in
    let family : Kernel → Type 0 = λ k. Applies (Fork c.args.pid c.args.child) c.fork_answer.result k (kernel_of c.fork_at.new.processes.entries c.self.inside.ttys.entries) in
    subst family c.self.view_is (subst answer (sym c.fork_answer.ensures) applies)
