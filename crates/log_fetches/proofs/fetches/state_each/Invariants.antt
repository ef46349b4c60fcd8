use Rattle.std.proofs.Common.{take, true}
use Rattle.log_fetches.specs.Kept.{ChangesAmong, with_state}
use Rattle.log_fetches.proofs.fetches.state_each.Given as goal

-- those before the index
abbrev pub invariant-loop-index : goal.invariant-loop-index
invariant-loop-index l = ChangesAmong (λ _. true) with_state (take l.index l.placed.placed) l.fn.kept.entries l.kept.entries
