use Rattle.page_waits.proofs.AllPages.{all_memory, all_whole}
use Rattle.page_waits.proofs.laws.pages_make_memory.Goals as goal

pub returns-clause-whole : goal.returns-clause-whole
returns-clause-whole c = all_whole

pub returns-clause-memory : goal.returns-clause-memory
returns-clause-memory c = all_memory
