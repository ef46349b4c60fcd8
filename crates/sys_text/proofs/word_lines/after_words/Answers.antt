use Rattle.std.proofs.Common.{rules, refl, sym, ◌∙◌}
use Rattle.sys_text.proofs.FirstWords.{words_in_front}
use Rattle.sys_text.proofs.word_lines.after_words.Goals as goal

pub returns-then-are_printable : goal.returns-then-are_printable
returns-then-are_printable c = record {
  in_image = search rules;
  printable = sym c.are_printable.ensures ∙ c.if-are_printable.true;
  fields = words_in_front c.args.line.now c.trim_start.result.now _ c.trim_start.ensures c.in-119.len_at_least (search rules) (search rules) (search rules) (search rules) (search rules) refl (sym c.is_after_field.ensures ∙ c.if-is_after_field.true);
}
