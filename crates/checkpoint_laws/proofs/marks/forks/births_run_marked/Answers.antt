use Rattle.checkpoint_laws.proofs.marks.BornMarks.{child_runs, child_sent, parent_runs}
use Rattle.checkpoint_laws.proofs.marks.forks.births_run_marked.Goals as goal

pub returns-clause-parent : goal.returns-clause-parent
returns-clause-parent c system log e p child end old new runs stands is forks forked rest upto = parent_runs system log e p child end old runs stands is forks new forked rest upto

pub returns-clause-child : goal.returns-clause-child
returns-clause-child c system log e p child end old born runs stands is forks newborn = child_runs system log e p child end old runs stands is forks born newborn

pub returns-clause-sent : goal.returns-clause-sent
returns-clause-sent c system log e p child end old n runs stands is = child_sent system log e p child end old runs stands is n
