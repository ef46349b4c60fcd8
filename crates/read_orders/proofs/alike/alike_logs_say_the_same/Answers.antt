use Rattle.read_orders.proofs.Same.{same_counted, same_schedule}
use Rattle.read_orders.proofs.SaysTheSame.{same_end, same_text, same_told}
use Rattle.read_orders.proofs.alike.alike_logs_say_the_same.Goals as goal

pub returns-clause-items : goal.returns-clause-items
returns-clause-items c = same_schedule

pub returns-clause-withheld : goal.returns-clause-withheld
returns-clause-withheld c = same_counted

pub returns-clause-ended : goal.returns-clause-ended
returns-clause-ended c = same_end

pub returns-clause-text : goal.returns-clause-text
returns-clause-text c = same_text

pub returns-clause-lines : goal.returns-clause-lines
returns-clause-lines c = same_told
