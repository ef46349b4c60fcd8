use Rattle.std.proofs.Common.{refl, sym, ◌∙◌}
use Rattle.bus_msg.specs.PlacedAfter.{what}
use Rattle.backup_records.specs.Records.{records_after}
use Rattle.cluster_core.proofs.absorbing.PassingBy.{here_stays}
use Rattle.cluster_core.proofs.taking_in.take_entry.Goals as goal

pub returns-then-passes_by-clause-here : goal.returns-then-passes_by-clause-here
returns-then-passes_by-clause-here c =
    let w = what c.args.entry.now in
    sym (here_stays c.args.number c.args.entry.now c.args.places.now (records_after c.args.number w c.args.records.now) c.args.here.now.here w refl (sym c.passes_by.ensures ∙ c.if-passes_by.true) c.requires.comes)
