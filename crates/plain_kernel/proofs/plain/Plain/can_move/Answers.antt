use Rattle.std.proofs.Common.{ap, ◌∙◌}
use Rattle.std.specs.Prelude.{not}
use Rattle.plain_kernel.specs.Still.{is_still}
use Rattle.plain_kernel.proofs.Turns.{any_acts}
use Rattle.plain_kernel.proofs.plain.Plain.can_move.Goals as goal

pub returns : goal.returns
returns c = c.some_can_act.ensures ∙ any_acts c.self.inside.processes.entries ∙ ap (λ k. not (is_still k)) c.self.view_is
