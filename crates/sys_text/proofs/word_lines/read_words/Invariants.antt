use Rattle.std.proofs.Common.{length}
use Rattle.text_parts.specs.Lines.{fields_of}
use Rattle.sys_text.proofs.WordLines.{SoFar}
use Rattle.sys_text.proofs.word_lines.read_words.Given as goal

abbrev pub invariant-fields : goal.invariant-fields
invariant-fields l = SoFar l.fn.words l.words l.rest (fields_of l.fields)

abbrev pub decreases-fields : goal.decreases-fields
decreases-fields l = length l.rest
