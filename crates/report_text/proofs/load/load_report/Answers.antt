use Rattle.std.proofs.Common.{◌≡◌, ◌∙◌, ap, subst}
use Rattle.std.specs.Prelude.{IfOk}
use Rattle.report_text.specs.Outcome.{outcome_of, Outcome}
use Rattle.report_text.specs.Load.{outcome_load}
use Rattle.report_text.proofs.LoadText.{load_told}
use Rattle.report_text.proofs.load.load_report.Goals as goal

pub returns : goal.returns
returns c =
    let system = c.args.system.now in
    let told : c.in_ok-outcome.outcome ≡ outcome_of system c.args.run.now.log = c.in_ok-outcome.ensures ∙ ap (outcome_of system) c.as_slice.ensures in
    load_told system c.args.run.now.items c.args.run.now.log c.args.size c.load_line.result c.requires.valid c.requires.legal c.requires.items
    (subst (λ (o : Outcome). IfOk c.load_line.result (λ text. text ≡ outcome_load c.args.size o)) told c.load_line.ensures)
