use Rattle.std.proofs.Common.{◌≡◌, take}
use Rattle.cluster_core.specs.Owed.{pids_waiting, with_pids}
use Rattle.cluster_core.proofs.owed.Owed.wait_moved.Given as goal

-- those of the processes before the index wait too
abbrev pub invariant-loop-index : goal.invariant-loop-index
invariant-loop-index l = l.self ≡ with_pids l.fn.self (pids_waiting l.lost l.number (take l.index (l.before).placed))
