use Rattle.std.proofs.Common.{take}
use Rattle.bus_msg.specs.Places.{is_moved_by}
use Rattle.log_fetches.specs.Kept.{ChangesAmong, begun_again}
use Rattle.log_fetches.proofs.kept.lose.Given as goal

-- those before the index
abbrev pub invariant-loop-index : goal.invariant-loop-index
invariant-loop-index l = ChangesAmong (is_moved_by l.fn.k) begun_again (take l.index l.before.placed) l.fn.kept.entries l.kept.entries
