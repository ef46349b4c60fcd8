use Rattle.report_text.proofs.RootEnds.{birth_told, exit_told}
use Rattle.report_text.proofs.outcome.Outcome.take_in.Goals as goal

pub returns-in_ok-insert-in-Birth : goal.returns-in_ok-insert-in-Birth
returns-in_ok-insert-in-Birth c =
    birth_told _ _ _ c.in-Birth.parent c.in-Birth.child c.in-Birth.at c.in-Birth.end _ c.in_ok-insert-in-Birth.ensures.entries c.self.view_is c.in-Birth.is

pub returns-in_ok-insert-in-Exit : goal.returns-in_ok-insert-in-Exit
returns-in_ok-insert-in-Exit c =
    exit_told _ _ _ c.in-Exit.pid c.in-Exit.at c.in-Exit.end _ c.in_ok-insert-in-Exit.ensures.entries c.self.view_is c.in-Exit.is
