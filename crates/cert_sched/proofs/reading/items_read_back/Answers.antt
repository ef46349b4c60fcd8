use Rattle.cert_sched.proofs.ReadBack.{read_back}
use Rattle.cert_sched.proofs.reading.items_read_back.Goals as goal

pub returns : goal.returns
returns c = read_back
