use Rattle.replay_laws.proofs.pages.MovedStated.{stateless_paged}
use Rattle.replay_laws.proofs.pages.goes_on.stateless_processes_need_no_page.Goals as goal

pub returns : goal.returns
returns c = stateless_paged
