use Rattle.std.proofs.Common.{◌∙◌}
use Rattle.text_parts.proofs.WordFields.{eight_fields}
use Rattle.text_parts.proofs.words.push_words.Goals as goal

pub returns-in-len8 : goal.returns-in-len8
returns-in-len8 c =
    let same = c.as_flattened.ensures.value ∙ eight_fields c.args.words.now _ _ _ _ _ _ _ _ c.in-len8.len_at_least c.in-len8.len_below c.word_field.ensures c.word_field-in-len8.ensures c.word_field-in-len8-2.ensures c.word_field-in-len8-3.ensures c.word_field-in-len8-4.ensures c.word_field-in-len8-5.ensures c.word_field-in-len8-6.ensures c.word_field-in-len8-7.ensures in
    rw (← same) c.extend.ensures.ok
