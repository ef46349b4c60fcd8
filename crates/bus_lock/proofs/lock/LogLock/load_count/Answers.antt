use Rattle.std.proofs.Common.{rules}
use Rattle.bus_lock.proofs.Loads.{loads}
use Rattle.bus_lock.proofs.lock.LogLock.load_count.Goals as goal

pub load-requires : goal.load-requires
load-requires g c = (search rules, search rules, loads _ _ _ _ _ _ _ _ c.args.seat.now.live)
