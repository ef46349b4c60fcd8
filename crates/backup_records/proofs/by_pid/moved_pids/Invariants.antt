use Rattle.std.proofs.Common.{◌≡◌, ◌++◌}
use Rattle.backup_records.proofs.ByPidLaws.{keys_that}
use Rattle.crash_notice.specs.Splitting.{moves_here}
use Rattle.backup_records.proofs.by_pid.moved_pids.Given as goal

-- those so far and those that are still to come are all
abbrev pub invariant-loop-pid : goal.invariant-loop-pid
invariant-loop-pid l = (l.pids).items ++ keys_that (moves_here l.before l.lost l.here) l.pid-iterator ≡ keys_that (moves_here l.before l.lost l.here) l.records.entries
