use Rattle.std.proofs.Common.{subst}
use Rattle.bus_msg.specs.Places.{Places}
use Rattle.log_records.specs.Records.{AreFirstOf}
use Rattle.log_records.proofs.Booting.{first_are}
use Rattle.log_records.proofs.records.LogRecords.start.Goals as goal

pub returns : goal.returns
returns c =
    first_are c.args.system.now c.in_ok-starts.starts.entries c.in_ok-records.records c.requires.valid c.in_ok-starts.ensures.states
    (subst (λ (places : Places). AreFirstOf places.placed c.in_ok-starts.starts.entries c.in_ok-records.records) c.in_ok-placed.ensures c.in_ok-records.ensures)
