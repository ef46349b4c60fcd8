use Rattle.targon_cli.proofs.Endings.{hands_why}
use Rattle.targon_cli.proofs.top.hand_out.Goals as goal

pub returns-in-Ok-clause-why : goal.returns-in-Ok-clause-why
returns-in-Ok-clause-why g c = rw c.in-Ok.is (hands_why _ _ _ _ _ c.in-Ok.reply.why _ c.say-status.ensures c.why_ended.ensures)
