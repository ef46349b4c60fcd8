use Rattle.std.proofs.Common.{◌∙◌, sym, ap, Some}
use Rattle.command_words.specs.Script.{script_word}
use Rattle.command_words.proofs.ScriptTexts.{script_words_more, script_words_none}
use Rattle.command_words.proofs.script.script_words.Goals as goal

pub returns-in_default : goal.returns-in_default
returns-in_default c =
    sym (script_words_none c.args.texts.now c.loop-text.text-index _ c.loop-text-test.true
    (sym (c.script_word.ensures ∙ ap script_word c.as_bytes.ensures.value) ∙ c.in_default.is))

pub loop-text-preserved : goal.loop-text-preserved
loop-text-preserved c =
    script_words_more c.args.texts.now c.loop-text.text-index _ c.loop-text.words c.in-Some.word c.loop-text-test.true c.loop-text.invariant
    (sym (c.script_word.ensures ∙ ap script_word c.as_bytes.ensures.value) ∙ c.in-Some.is)
    ∙ ap Some (sym c.in_ok-push.ensures.ok)
