use Rattle.cluster_core.proofs.boot.FirstRecords.{first_kept}
use Rattle.cluster_core.proofs.booting.parts_at_boot.Goals as goal

pub returns-clause-records : goal.returns-clause-records
returns-clause-records g c unfailed = first_kept c.args.system.now c.args.number c.in_ok-starts.starts.entries c.in_ok-records.records c.requires.valid c.in_ok-starts.ensures.states (rw c.requires.places at c.in_ok-records.ensures)
