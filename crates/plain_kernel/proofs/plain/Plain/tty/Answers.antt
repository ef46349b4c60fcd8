use Rattle.std.proofs.Common.{ap, ◌∙◌, Some}
use Rattle.plain_kernel.specs.Kernel.{tty_at}
use Rattle.plain_kernel.proofs.Entries.{lookup_find}
use Rattle.plain_kernel.proofs.plain.Plain.tty.Goals as goal

pub returns-in-Some : goal.returns-in-Some
returns-in-Some c = ap Some c.as_slice.ensures ∙ c.in-Some.ensures.value ∙ lookup_find c.args.tty c.self.inside.ttys.entries ∙ ap (λ k. tty_at k c.args.tty) c.self.view_is

pub returns-in-None : goal.returns-in-None
returns-in-None c = c.in-None.ensures.value ∙ lookup_find c.args.tty c.self.inside.ttys.entries ∙ ap (λ k. tty_at k c.args.tty) c.self.view_is
