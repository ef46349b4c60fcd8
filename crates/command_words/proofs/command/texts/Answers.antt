use Rattle.std.proofs.Common.{◌∙◌, sym, ap}
use Rattle.std.specs.Str.{is_utf8}
use Rattle.std.proofs.lemmas.Str.{IsUtf8-from_is_utf8, is_utf8-from_IsUtf8}
use Rattle.std.proofs.lemmas.Bool.{false_from_ne_true}
use Rattle.clap.specs.Walk.{texts}
use Rattle.command_words.proofs.Ends.{all_more, not_all, texts_more}
use Rattle.command_words.proofs.command.texts.Goals as goal

pub returns-in_default : goal.returns-in_default
returns-in_default c =
    let word = c.as_slice.ensures ∙ c.word-item.is in
    let no_text = false_from_ne_true (is_utf8 c.as_slice.result.now) (λ t. c.in_default.ensures.cases.0 (IsUtf8-from_is_utf8 _ t)) in
    not_all is_utf8 c.args.words.now c.loop-word.word-index _ c.loop-word-test.true (ap is_utf8 (sym word) ∙ no_text)

pub loop-word-preserved : goal.loop-word-preserved
loop-word-preserved c =
    let word = c.as_slice.ensures ∙ c.word-item.is in (
      ap texts c.in_ok-push.ensures.items
          ∙ texts_more c.loop-word.texts.items c.args.words.now c.loop-word.word-index _ c.in-Ok.text c.loop-word-test.true c.loop-word.invariant.0 (c.in-Ok.ensures.cases.0 ∙ word),
      all_more is_utf8 c.args.words.now c.loop-word.word-index _ c.loop-word-test.true c.loop-word.invariant.1 (ap is_utf8 (sym word) ∙ is_utf8-from_IsUtf8 _ c.in-Ok.ensures.cases.1),
    )
