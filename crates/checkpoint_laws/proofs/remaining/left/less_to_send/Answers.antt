use Rattle.checkpoint_laws.proofs.remaining.Falling.{to_send_falls, to_send_closes}
use Rattle.checkpoint_laws.proofs.remaining.Renewing.{to_send_renewed, to_send_returned}
use Rattle.checkpoint_laws.proofs.remaining.left.less_to_send.Goals as goal

pub returns-clause-falls : goal.returns-clause-falls
returns-clause-falls c = to_send_falls

pub returns-clause-closes : goal.returns-clause-closes
returns-clause-closes c = to_send_closes

pub returns-clause-renews : goal.returns-clause-renews
returns-clause-renews c = to_send_renewed

pub returns-clause-returns : goal.returns-clause-returns
returns-clause-returns c = to_send_returned
