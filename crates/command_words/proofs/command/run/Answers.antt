use Rattle.std.proofs.lemmas.Result.{IfOk-weaker}
use Rattle.clap.specs.Walk.{texts}
use Rattle.command_words.specs.declared.options.Form.TheVariants as form
use Rattle.command_words.specs.Command.{run_by}
use Rattle.command_words.proofs.Forms.{made_of, nothing_made}
use Rattle.command_words.proofs.command.run.Goals as goal

pub returns-in_default : goal.returns-in_default
returns-in_default c =
    nothing_made run_by form.Run (texts c.args.words.now) (texts c.cut_at_end.result.0.now) (texts c.cut_at_end.result.1.now) c.in_ok-parts.field-0
    c.in_ok-parts.ensures c.cut_at_end.ensures.before c.cut_at_end.ensures.behind c.in_default.is

pub returns : goal.returns
returns c = IfOk-weaker c.run_with.result _ _
    (λ command is. made_of run_by form.Run (texts c.args.words.now) (texts c.cut_at_end.result.0.now) (texts c.cut_at_end.result.1.now) c.in_ok-parts.field-0
    c.in_ok-parts.ensures c.cut_at_end.ensures.before c.cut_at_end.ensures.behind c.in-Some.parts command c.in-Some.is is) c.run_with.ensures
