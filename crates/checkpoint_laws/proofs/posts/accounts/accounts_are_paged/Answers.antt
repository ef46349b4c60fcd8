use Rattle.checkpoint_laws.proofs.posts.PagedAccounts.{both_paged}
use Rattle.checkpoint_laws.proofs.posts.accounts.accounts_are_paged.Goals as goal

pub returns-clause-now : goal.returns-clause-now
returns-clause-now c system log p s valid legal there = (both_paged system p log s valid legal there).now

pub returns-clause-kept : goal.returns-clause-kept
returns-clause-kept c system log p s valid legal there = (both_paged system p log s valid legal there).kept
