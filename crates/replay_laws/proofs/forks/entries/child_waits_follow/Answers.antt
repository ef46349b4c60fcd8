use Rattle.replay_laws.proofs.forks.Begins.{follows_so}
use Rattle.replay_laws.proofs.forks.entries.child_waits_follow.Goals as goal

pub returns : goal.returns
returns c = follows_so
