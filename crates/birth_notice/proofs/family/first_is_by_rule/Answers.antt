use Rattle.birth_notice.proofs.WalkLaws.{first-by_rule, only_by_rule}
use Rattle.birth_notice.proofs.family.first_is_by_rule.Goals as goal

pub returns-clause-rule : goal.returns-clause-rule
returns-clause-rule c = first-by_rule

pub returns-clause-one : goal.returns-clause-one
returns-clause-one c = λ births next ok. only_by_rule births ok next
