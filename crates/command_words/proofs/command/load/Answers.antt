use Rattle.std.proofs.Common.{◌∙◌, ap}
use Rattle.std.proofs.lemmas.Result.{IfOk-weaker}
use Rattle.clap.specs.Walk.{texts}
use Rattle.command_words.specs.declared.options.Form.TheVariants as form
use Rattle.command_words.specs.Command.{load_by, load_with}
use Rattle.command_words.proofs.Forms.{made_of, nothing_made}
use Rattle.command_words.proofs.command.load.Goals as goal

pub returns-in_default : goal.returns-in_default
returns-in_default c =
    nothing_made load_by form.Load (texts c.args.words.now) (texts c.cut_at_end.result.0.now) (texts c.cut_at_end.result.1.now) c.in_ok-parts.field-0
    c.in_ok-parts.ensures c.cut_at_end.ensures.before c.cut_at_end.ensures.behind c.in_default.is

pub returns : goal.returns
returns c = IfOk-weaker c.load_with.result _ _
    (λ command is. made_of load_by form.Load (texts c.args.words.now) (texts c.cut_at_end.result.0.now) (texts c.cut_at_end.result.1.now) c.in_ok-parts.field-0
    c.in_ok-parts.ensures c.cut_at_end.ensures.before c.cut_at_end.ensures.behind c.in-Some.parts command c.in-Some.is (is ∙ ap (λ plain. load_with c.in-Some.parts.flag (texts c.cut_at_end.result.1.now) (texts plain)) c.as_slice.ensures.value)) c.load_with.ensures
