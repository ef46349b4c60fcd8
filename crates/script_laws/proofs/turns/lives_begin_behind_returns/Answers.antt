use Rattle.script_laws.proofs.Alternating.{lost_from, off_from, on_behind}
use Rattle.script_laws.proofs.turns.lives_begin_behind_returns.Goals as goal

pub returns-clause-begins : goal.returns-clause-begins
returns-clause-begins c = on_behind

pub returns-clause-off : goal.returns-clause-off
returns-clause-off c = off_from

pub returns-clause-ends : goal.returns-clause-ends
returns-clause-ends c = lost_from
