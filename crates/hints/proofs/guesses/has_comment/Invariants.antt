use Rattle.std.proofs.Common.{◌≡◌, length}
use Rattle.std.specs.List.{list_any}
use Rattle.text_parts.specs.Lines.{fields_of}
use Rattle.sys_text.specs.Rules.{begins_comment}
use Rattle.hints.proofs.guesses.has_comment.Given as goal

abbrev pub invariant-fields : goal.invariant-fields
invariant-fields l = list_any begins_comment (fields_of l.rest) ≡ list_any begins_comment (fields_of l.line)

abbrev pub decreases-fields : goal.decreases-fields
decreases-fields l = length l.rest
