use Rattle.std.proofs.Common.{◌∙◌, refl, sym, ap, Some, None}
use Rattle.clap.specs.Walk.{texts}
use Rattle.command_words.specs.Script.{checked, script_words}
use Rattle.command_words.proofs.ScriptTexts.{script_of_both}
use Rattle.command_words.proofs.script.script_of.Goals as goal

pub returns-in_default : goal.returns-in_default
returns-in_default c =
    script_of_both (texts c.args.texts.now) (texts c.args.more.now) None (script_words (texts c.args.more.now)) (sym c.in_default.is ∙ c.in_ok-front.ensures) refl

pub returns-in_default-2 : goal.returns-in_default-2
returns-in_default-2 c =
    script_of_both (texts c.args.texts.now) (texts c.args.more.now) (Some c.in-Some.front) None (sym c.in-Some.is ∙ c.in_ok-front.ensures) (sym c.in_default-2.is ∙ c.in_ok-back.ensures)

pub returns : goal.returns
returns c =
    c.checked.ensures ∙ ap checked c.in_ok-joined.ensures
    ∙ script_of_both (texts c.args.texts.now) (texts c.args.more.now) (Some c.in-Some.front) (Some c.in-Some-2.back) (sym c.in-Some.is ∙ c.in_ok-front.ensures) (sym c.in-Some-2.is ∙ c.in_ok-back.ensures)
