use Rattle.checkpoint_laws.proofs.posts.CutEntry.{cut_goes_on, cut_places, cut_process, cut_start, cut_deeds, cut_saved, cut_kept, cut_account}
use Rattle.checkpoint_laws.proofs.posts.cuts.cuts_start_again.Goals as goal

pub returns-clause-goes_on : goal.returns-clause-goes_on
returns-clause-goes_on c = cut_goes_on

pub returns-clause-places : goal.returns-clause-places
returns-clause-places c = cut_places

pub returns-clause-process : goal.returns-clause-process
returns-clause-process c = cut_process

pub returns-clause-start : goal.returns-clause-start
returns-clause-start c = cut_start

pub returns-clause-deeds : goal.returns-clause-deeds
returns-clause-deeds c = cut_deeds

pub returns-clause-saved : goal.returns-clause-saved
returns-clause-saved c = cut_saved

pub returns-clause-kept : goal.returns-clause-kept
returns-clause-kept c = cut_kept

pub returns-clause-account : goal.returns-clause-account
returns-clause-account c = cut_account
