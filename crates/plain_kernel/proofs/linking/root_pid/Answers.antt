use Rattle.std.proofs.Common.{◌∙◌}
use Rattle.plain_kernel.proofs.Channels.{root_pid_is}
use Rattle.plain_kernel.proofs.Roots.{no_root}
use Rattle.plain_kernel.proofs.linking.root_pid.Goals as goal

pub returns : goal.returns
returns c = c.pid_after.ensures ∙ rw (c.as_slice-roots.ensures, c.from-place.ensures) (root_pid_is c.args.system.now c.args.number no_root c.requires.least c.requires.most)
