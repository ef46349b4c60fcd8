use Rattle.std.proofs.Common.{◌≡◌, take}
use Rattle.report_text.specs.Outcome.{outcome_of}
use Rattle.report_text.proofs.outcome.Outcome.of.Given as goal

abbrev pub invariant-loop-entry : goal.invariant-loop-entry
invariant-loop-entry l = l.outcome ≡ outcome_of l.system (take l.entry-index l.log)
