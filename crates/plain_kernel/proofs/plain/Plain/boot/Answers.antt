use Rattle.std.proofs.Common.{◌∙◌, ap}
use Rattle.plain_kernel.specs.Maps.{booted_ttys}
use Rattle.plain_kernel.proofs.Roots.{booted}
use Rattle.plain_kernel.proofs.plain.Plain.boot.Goals as goal

pub returns : goal.returns
returns c = booted c.args.system.now _ _ c.in_ok-processes.ensures.states (c.in_ok-ttys.ensures ∙ ap booted_ttys c.as_slice.ensures)
