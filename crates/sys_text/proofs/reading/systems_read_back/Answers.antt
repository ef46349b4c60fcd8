use Rattle.sys_text.proofs.ReadBack.{reads_back}
use Rattle.sys_text.proofs.reading.systems_read_back.Goals as goal

pub returns : goal.returns
returns c = reads_back
