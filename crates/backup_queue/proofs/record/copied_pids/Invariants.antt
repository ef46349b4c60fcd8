use Rattle.std.proofs.Common.{◌≡◌, take}
use Rattle.backup_queue.proofs.record.copied_pids.Given as goal

abbrev pub invariant-loop-pid : goal.invariant-loop-pid
invariant-loop-pid l = l.copies ≡ take l.pid-index l.pids
