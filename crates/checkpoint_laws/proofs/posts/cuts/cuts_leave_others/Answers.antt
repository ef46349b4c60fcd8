use Rattle.checkpoint_laws.proofs.posts.CutEntry.{other_process, other_silent, other_start, other_deeds, other_saved, other_kept, other_account}
use Rattle.checkpoint_laws.proofs.posts.cuts.cuts_leave_others.Goals as goal

pub returns-clause-process : goal.returns-clause-process
returns-clause-process c = other_process

pub returns-clause-silent : goal.returns-clause-silent
returns-clause-silent c = other_silent

pub returns-clause-start : goal.returns-clause-start
returns-clause-start c = other_start

pub returns-clause-deeds : goal.returns-clause-deeds
returns-clause-deeds c = other_deeds

pub returns-clause-saved : goal.returns-clause-saved
returns-clause-saved c = other_saved

pub returns-clause-kept : goal.returns-clause-kept
returns-clause-kept c = other_kept

pub returns-clause-account : goal.returns-clause-account
returns-clause-account c = other_account
