use Rattle.checkpoint_laws.proofs.marks.StepMarks.{step_marked, step_runs, step_sent}
use Rattle.checkpoint_laws.proofs.marks.steps.steps_keep_marks.Goals as goal

pub returns-clause-marked : goal.returns-clause-marked
returns-clause-marked c = step_marked

pub returns-clause-runs : goal.returns-clause-runs
returns-clause-runs c = step_runs

pub returns-clause-sent : goal.returns-clause-sent
returns-clause-sent c = step_sent
