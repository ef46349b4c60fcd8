use Rattle.std.proofs.Common.{◌∙◌, ap, find}
use Rattle.channel_table.proofs.KeyLaws.{find-different}
use Rattle.channel_table.proofs.processes.Processes.copy_of.Goals as goal

pub push-requires : goal.push-requires
push-requires c = ap (find _) c.loop-one.invariant ∙ find-different c.loop-one.one-index c.args.placed.now _ c.requires c.loop-one-test.true
