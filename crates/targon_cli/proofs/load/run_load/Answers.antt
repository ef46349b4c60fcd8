use Rattle.targon_cli.proofs.Loads.{ring_explained, ring_made, ring_noted}
use Rattle.targon_cli.proofs.load.run_load.Goals as goal

pub returns-clause-makes : goal.returns-clause-makes
returns-clause-makes g c = ring_made c.args.size c.in_ok-ring.ring _ c.args.script.now c.in_ok-ring.ensures.exact c.run_ring.result c.run_ring.ensures.makes

pub returns-clause-why : goal.returns-clause-why
returns-clause-why g c = ring_explained c.args.size c.in_ok-ring.ring _ c.args.script.now c.in_ok-ring.ensures.exact c.run_ring.result c.run_ring.ensures.why

pub returns-clause-notes : goal.returns-clause-notes
returns-clause-notes g c = ring_noted c.args.size c.in_ok-ring.ring _ c.args.script.now c.in_ok-ring.ensures.exact c.run_ring.result c.run_ring.ensures.notes
