use Rattle.read_orders.proofs.GoesOn.{goes_on}
use Rattle.read_orders.proofs.alike.alike_logs_go_on_alike.Goals as goal

pub returns : goal.returns
returns c system log other e alike = goes_on system log other alike e
