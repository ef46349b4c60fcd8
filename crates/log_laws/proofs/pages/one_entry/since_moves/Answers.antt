use Rattle.log_laws.proofs.pages.OneEntry.{moves_none, any_since-snoc, moved_with_state-snoc}
use Rattle.log_laws.proofs.pages.one_entry.since_moves.Goals as goal

pub returns-clause-none : goal.returns-clause-none
returns-clause-none c system log e p none = moves_none system log e none p

pub returns-clause-any : goal.returns-clause-any
returns-clause-any c = any_since-snoc

pub returns-clause-state : goal.returns-clause-state
returns-clause-state c = moved_with_state-snoc
