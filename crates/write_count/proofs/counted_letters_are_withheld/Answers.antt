use Rattle.write_count.proofs.Prefix.{withheld-prefix, left_after-prefix}
use Rattle.write_count.proofs.counted_letters_are_withheld.Goals as goal

pub returns-clause-answers : goal.returns-clause-answers
returns-clause-answers c = withheld-prefix

pub returns-clause-left : goal.returns-clause-left
returns-clause-left c = left_after-prefix
