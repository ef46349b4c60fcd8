use Rattle.backup_laws.proofs.StandingStands.{waiting_quiet, standing_follows}
use Rattle.backup_laws.proofs.posts.standing_backups_follow.Goals as goal

pub returns-clause-quiet : goal.returns-clause-quiet
returns-clause-quiet c = waiting_quiet

pub returns-clause-follows : goal.returns-clause-follows
returns-clause-follows c = standing_follows
