use Rattle.std.proofs.Common.{ap, sym}
use Rattle.bus_lock.proofs.Opens.{opens_with}
use Rattle.bus_lock.proofs.lock.LogLock.open.Goals as goal

pub new-requires : goal.new-requires
new-requires g c = opens_with g.V.LogValue.entries g.V.LogValue.origin g.V.LogValue.author _ _ c.args.value _ c.in_ok-slots.ensures c.requires.empty (sym (ap g.V.LogValue.origin c.of.ensures)) c.requires.some_seat
