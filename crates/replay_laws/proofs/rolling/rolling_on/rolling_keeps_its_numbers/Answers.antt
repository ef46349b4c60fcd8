use Rattle.replay_laws.proofs.rolling.Others.{rolls_next, rolls_pid}
use Rattle.replay_laws.proofs.rolling.rolling_on.rolling_keeps_its_numbers.Goals as goal

pub returns-clause-next : goal.returns-clause-next
returns-clause-next c = rolls_next

pub returns-clause-pid : goal.returns-clause-pid
returns-clause-pid c = rolls_pid
