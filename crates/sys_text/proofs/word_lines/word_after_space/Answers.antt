use Rattle.std.proofs.Common.{◌≡◌, rules, arith, true, sym, ◌∙◌, take}
use Rattle.std.specs.List.{list_all}
use Rattle.text_parts.specs.Lines.{is_space}
use Rattle.sys_text.proofs.FirstWords.{first_in_line}
use Rattle.sys_text.proofs.word_lines.word_after_space.Goals as goal

pub returns : goal.returns
returns c =
    let ends : list_all is_space (take 1 c.split_at.result.1.now) ≡ true = search (rules, c.is_after_field.ensures) in
    first_in_line c.args.line.now c.split_at.result.0.now c.split_at.result.1.now c.in_ok-value.value (omega arith) (search rules) (omega arith) c.split_at.ensures.front c.split_at.ensures.back (sym c.word.ensures ∙ c.in_ok-value.was) ends
