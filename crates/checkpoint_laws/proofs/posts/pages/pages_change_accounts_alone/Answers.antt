use Rattle.checkpoint_laws.proofs.posts.PageEntry.{page_goes_on, page_places, page_process, page_silent, page_start, page_deeds, page_saved, page_record, page_children, page_account, page_others}
use Rattle.checkpoint_laws.proofs.posts.pages.pages_change_accounts_alone.Goals as goal

pub returns-clause-goes_on : goal.returns-clause-goes_on
returns-clause-goes_on c = page_goes_on

pub returns-clause-places : goal.returns-clause-places
returns-clause-places c = page_places

pub returns-clause-process : goal.returns-clause-process
returns-clause-process c = page_process

pub returns-clause-silent : goal.returns-clause-silent
returns-clause-silent c = page_silent

pub returns-clause-start : goal.returns-clause-start
returns-clause-start c = page_start

pub returns-clause-deeds : goal.returns-clause-deeds
returns-clause-deeds c = page_deeds

pub returns-clause-saved : goal.returns-clause-saved
returns-clause-saved c = page_saved

pub returns-clause-kept : goal.returns-clause-kept
returns-clause-kept c = page_record

pub returns-clause-children : goal.returns-clause-children
returns-clause-children c = page_children

pub returns-clause-account : goal.returns-clause-account
returns-clause-account c = page_account

pub returns-clause-others : goal.returns-clause-others
returns-clause-others c = page_others
