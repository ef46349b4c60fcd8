use Rattle.script_laws.proofs.OffSince.{off_since, lives_unless_off, sender_on, silent_since, silent_until_back}
use Rattle.script_laws.proofs.off.off_until_return.Goals as goal

pub returns-clause-since : goal.returns-clause-since
returns-clause-since c = off_since

pub returns-clause-lives : goal.returns-clause-lives
returns-clause-lives c = lives_unless_off

pub returns-clause-sends : goal.returns-clause-sends
returns-clause-sends c = sender_on

pub returns-clause-silent_off : goal.returns-clause-silent_off
returns-clause-silent_off c = silent_since

pub returns-clause-silent : goal.returns-clause-silent
returns-clause-silent c = silent_until_back
