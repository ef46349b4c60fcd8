use Rattle.std.proofs.Common.{arith, ap, length}
use Rattle.plain_kernel.proofs.Channels.{chan_at}
use Rattle.plain_kernel.proofs.booting.starts_of.Goals as goal

pub link_roots-requires-clause-first : goal.link_roots-requires-clause-first
link_roots-requires-clause-first c =
    let size = ap length c.as_slice-chans.ensures in
    let bounds = chan_at c.args.system.now c.loop-chan.chan-index (0, 0) c.requires (omega (arith, size)) in
    rw c.as_slice-chans.ensures (bounds.first_least, bounds.first)

pub link_roots-requires-clause-second : goal.link_roots-requires-clause-second
link_roots-requires-clause-second c =
    let size = ap length c.as_slice-chans.ensures in
    let bounds = chan_at c.args.system.now c.loop-chan.chan-index (0, 0) c.requires (omega (arith, size)) in
    rw c.as_slice-chans.ensures (bounds.second_least, bounds.second)
