use Rattle.std.proofs.Common.{rules}
use Rattle.bus_lock.proofs.Splits.{splits}
use Rattle.bus_lock.proofs.lock.LogLock.split.Goals as goal

pub split_seat-seat-requires : goal.split_seat-seat-requires
split_seat-seat-requires g c = (search rules, search rules, splits _ _ _ _ _ _ _ c.requires.numbers.0 c.args.rest.now.live c.requires.fresh.0 c.requires.numbers.1 c.requires.fresh.1 c.requires.fresh.2)
