use Rattle.std.proofs.Common.{take}
use Rattle.audited_log.proofs.AllGo.{GoneOn}
use Rattle.audited_log.proofs.processes.go_on_all.Given as goal

-- those before the index go on, and the others are as they were
abbrev pub invariant-loop-pid : goal.invariant-loop-pid
invariant-loop-pid l = GoneOn l.before l.entry (take l.pid-index l.pid-items) l.fn.processes.entries l.processes.entries
