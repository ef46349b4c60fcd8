use Rattle.std.proofs.Common.{◌≡◌, ◌++◌}
use Rattle.std.specs.List.{flat_map}
use Rattle.report_text.specs.Outcome.{end_part}
use Rattle.report_text.proofs.outcome.put_ends.Given as goal

-- what is still to come completes the text
abbrev pub invariant-loop-pid : goal.invariant-loop-pid
invariant-loop-pid l = l.text ++ flat_map end_part l.pid-iterator ≡ l.initial.text ++ flat_map end_part l.ends.entries
