use Rattle.read_orders.proofs.SameLines.{same_lines_alike}
use Rattle.read_orders.proofs.alike.logs_with_the_same_lines.Goals as goal

pub returns : goal.returns
returns c system log other valid = same_lines_alike system valid log other
