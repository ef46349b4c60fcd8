use Rattle.std.proofs.Common.{◌≡◌, [], take, map}
use Rattle.sys_text.specs.Boot.{with_pids}
use Rattle.cert_sched.specs.Schedule.{placed_root}
use Rattle.cert_sched.proofs.start.placed_roots.Given as goal

abbrev pub invariant-loop-number : goal.invariant-loop-number
invariant-loop-number l = l.placed.items ≡ map placed_root (with_pids [] (take l.number l.roots))
