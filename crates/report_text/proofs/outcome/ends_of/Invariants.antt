use Rattle.std.proofs.Common.{◌≡◌, [], take}
use Rattle.sys_text.specs.Boot.{with_pids}
use Rattle.report_text.specs.Outcome.{ends_of as ends_of_roots}
use Rattle.report_text.proofs.outcome.ends_of.Given as goal

abbrev pub invariant-loop-number : goal.invariant-loop-number
invariant-loop-number l = l.ends.entries ≡ ends_of_roots (with_pids [] (take l.number l.roots))
