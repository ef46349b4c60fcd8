use Rattle.script_laws.proofs.ServersLeft.{server_left}
use Rattle.script_laws.proofs.covered.open_logs_have_a_server.Goals as goal

pub returns : goal.returns
returns c = server_left
