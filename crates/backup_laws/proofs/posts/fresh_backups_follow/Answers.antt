use Rattle.backup_laws.proofs.FreshStands.{renewed, fresh_stands, fresh_follows}
use Rattle.backup_laws.proofs.posts.fresh_backups_follow.Goals as goal

pub returns-clause-kept : goal.returns-clause-kept
returns-clause-kept c = renewed

pub returns-clause-stands : goal.returns-clause-stands
returns-clause-stands c = fresh_stands

pub returns-clause-follows : goal.returns-clause-follows
returns-clause-follows c = fresh_follows
