use Rattle.std.proofs.Common.{sym}
use Rattle.std.specs.Prelude.{option_map}
use Rattle.proc_state.specs.State.{state_of}
use Rattle.log_cuts.proofs.Copies.{led_ahead}
use Rattle.log_cuts.proofs.ahead.Ahead.lead.Goals as goal

pub returns-clause-ahead : goal.returns-clause-ahead
returns-clause-ahead c = led_ahead c.args.at (state_of c.args.process.now) (option_map state_of c.in_ok-self-inside.field-0) (sym c.in_ok-self-inside.ensures)
