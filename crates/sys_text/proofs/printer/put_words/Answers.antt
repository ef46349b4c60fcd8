use Rattle.std.proofs.Common.{arith, ap, ◌∙◌, ◌++◌}
use Rattle.sys_text.specs.Text.{lines_text, words_lines, line_text, words_line}
use Rattle.sys_text.proofs.Lines.{words_more, words_all}
use Rattle.sys_text.proofs.printer.put_words.Goals as goal

pub lines-preserved : goal.lines-preserved
lines-preserved c =
    ap (λ r. c.put_words_line.new.text ++ lines_text (words_lines r)) c.split_eight.ensures.after
    ∙ words_more _ c.lines.text _ c.lines.rest.now (omega arith) c.lines.invariant (c.in_ok-put_words_line.ensures ∙ ap (λ r. c.lines.text ++ line_text (words_line r)) c.split_eight.ensures.line)

pub returns : goal.returns
returns c = words_all _ _ c.lines.rest.now (omega arith) c.lines.invariant
