use Rattle.std.proofs.Common.{◌+◌, ◌*◌, vec_len}
use Rattle.bus_lock_tests.proofs.chain.+chain+fn-chain-join+arg3.Given as goal

abbrev pub decreases-chain : goal.decreases-chain
decreases-chain g l = 2 * vec_len l.seats

abbrev pub decreases-join+arg3 : goal.decreases-join+arg3
decreases-join+arg3 g l = 2 * vec_len l.rest + 1
