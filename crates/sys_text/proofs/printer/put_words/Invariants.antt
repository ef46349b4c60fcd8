use Rattle.std.proofs.Common.{◌≡◌, ◌++◌, length}
use Rattle.sys_text.specs.Text.{lines_text, words_lines}
use Rattle.sys_text.proofs.printer.put_words.Given as goal

abbrev pub invariant-lines : goal.invariant-lines
invariant-lines l = l.text ++ lines_text (words_lines l.rest) ≡ l.initial.text ++ lines_text (words_lines l.words)

abbrev pub decreases-lines : goal.decreases-lines
decreases-lines l = length l.rest
