use Rattle.page_accounts.proofs.WaitLaws.{earliest_is_kept, waits_are_kept}
use Rattle.page_accounts.proofs.laws.waiting_pages_are_kept.Goals as goal

pub returns-clause-kept : goal.returns-clause-kept
returns-clause-kept c = waits_are_kept

pub returns-clause-can_answer : goal.returns-clause-can_answer
returns-clause-can_answer c = earliest_is_kept
