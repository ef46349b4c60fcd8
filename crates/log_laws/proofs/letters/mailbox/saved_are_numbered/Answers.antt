use Rattle.log_laws.proofs.letters.LogReads.{all_saved_numbered}
use Rattle.log_laws.proofs.letters.mailbox.saved_are_numbered.Goals as goal

pub returns : goal.returns
returns c = all_saved_numbered
