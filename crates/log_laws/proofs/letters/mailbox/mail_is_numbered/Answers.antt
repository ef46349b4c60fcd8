use Rattle.log_laws.proofs.letters.MailNumbers.{process_numbered}
use Rattle.log_laws.proofs.letters.mailbox.mail_is_numbered.Goals as goal

pub returns : goal.returns
returns c = process_numbered
