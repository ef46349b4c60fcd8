use Rattle.std.proofs.Common.{ap, sym, ◌∙◌, ◌++◌}
use Rattle.plain_kernel.specs.Apply.{plain_run}
use Rattle.report_text.specs.Outcome.{outcome_of, outcome_report}
use Rattle.report_text.specs.RunReport.{run_part}
use Rattle.report_text.proofs.OutcomeText.{finished_report}
use Rattle.report_text.proofs.whole.finished_report.Goals as goal

pub returns : goal.returns
returns c =
    let told = finished_report c.args.system.now c.args.run.now.log c.requires.valid c.requires.legal c.requires.finished in (
      told.0,
      ap (plain_run c.args.system.now) c.requires.items ∙ told.1,
      c.in_ok-put_run.ensures ∙ ap (λ text. text ++ run_part c.args.run.now) (c.in_ok-text.ensures ∙ ap outcome_report (c.in_ok-outcome.ensures ∙ ap (outcome_of c.args.system.now) c.as_slice.ensures) ∙ sym told.2),
    )
