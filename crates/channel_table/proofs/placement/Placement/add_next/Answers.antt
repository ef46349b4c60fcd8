use Rattle.channel_table.proofs.ChangeLaws.{next_can_be_born}
use Rattle.channel_table.proofs.placement.Placement.add_next.Goals as goal

pub add_birth-requires : goal.add_birth-requires
add_birth-requires c = next_can_be_born c.args.self.now c.args.parent (record { 0 = c.args.child }) c.ranges.child.fits c.requires
