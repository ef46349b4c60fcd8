use Rattle.std.proofs.Common.{◌≡◌, length}
use Rattle.sys_text.specs.Files.{trimmed}
use Rattle.sys_text.proofs.file.trim.Given as goal

abbrev pub invariant-loop-words : goal.invariant-loop-words
invariant-loop-words l = trimmed l.words.items ≡ trimmed l.fn.words.items

abbrev pub decreases-loop-words : goal.decreases-loop-words
decreases-loop-words l = length l.words.items
