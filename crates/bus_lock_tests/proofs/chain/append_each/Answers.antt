use Rattle.std.proofs.Common.{rules, subst, sym, arith, vec_len, Some}
use Rattle.bus_lock.specs.Lists.{Holds}
use Rattle.bus_lock.specs.Seats.{AllFresh}
use Rattle.bus_lock.proofs.Lists.{in_numbers}
use Rattle.bus_lock_tests.proofs.chain.append_each.Goals as goal

pub close-requires-clause-all : goal.close-requires-clause-all
close-requires-clause-all g c = λ k l. let has = c.chain-all.ensures.all c.if-not-is_whole.false in subst (Holds k) (sym has.numbers) (in_numbers k 0 (vec_len c.into_vec.result) (omega arith) (search rules))

pub chain-all-requires-clause-fresh : goal.chain-all-requires-clause-fresh
chain-all-requires-clause-fresh g c κs within = (Some c.new.result.topic, subst (AllFresh c.in_ok-lock.lock (Some c.new.result.topic)) (sym c.into_vec.ensures) c.in_ok-lock.ensures.seats)
