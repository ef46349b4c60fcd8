use Rattle.std.proofs.Common.{◌≡◌, take}
use Rattle.proc_state.proofs.queue.Queue.copy.Given as goal

abbrev pub invariant-loop-index : goal.invariant-loop-index
invariant-loop-index l = l.letters.items ≡ take l.index l.self
