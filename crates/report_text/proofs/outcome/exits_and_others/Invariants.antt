use Rattle.std.proofs.Common.{◌≡◌, ◌+◌, ◌<◌, ◌^◌, length}
use Rattle.std.specs.Prelude.{not}
use Rattle.report_text.specs.Load.{is_exit_0}
use Rattle.report_text.proofs.EndCounts.{passing}
use Rattle.report_text.proofs.outcome.exits_and_others.Given as goal

-- what is still to come completes both counts
abbrev pub invariant-loop-end : goal.invariant-loop-end
invariant-loop-end l = record {
  exits : l.exits + passing is_exit_0 l.end-iterator ≡ passing is_exit_0 l.ends.entries;
  others : l.others + passing (λ end. not (is_exit_0 end)) l.end-iterator ≡ passing (λ end. not (is_exit_0 end)) l.ends.entries;
  all : l.exits + l.others + length l.end-iterator ≡ length l.ends.entries;
  fits : length l.ends.entries < 2 ^ 63;
}
