use Rattle.std.proofs.Common.{rules, eqb, ℕ}
use prog.Atomic.{either}
use Rattle.bus_lock.proofs.Takes.{takes_it, taken_once, always_two}
use Rattle.bus_lock.proofs.lock.LogLock.enter.Goals as goal

pub compare_exchange-requires : goal.compare_exchange-requires
compare_exchange-requires g c = (search rules, search rules, takes_it _ _ _ _ _ _ _ _ (λ (n : ℕ). either (eqb n 0) 1 n) 0 1 taken_once c.args.seat.now.live)

pub swap-requires : goal.swap-requires
swap-requires g c = (search rules, search rules, takes_it _ _ _ _ _ _ _ _ (λ (n : ℕ). 2) 2 0 always_two c.loop.seat.live)
