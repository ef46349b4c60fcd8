use Rattle.std.proofs.Common.{◌≡◌, map, take}
use Rattle.bus_msg.specs.PlacedAfter.{after_rebackup}
use Rattle.channel_table.proofs.placement.Placement.rebackup.Given as goal

abbrev pub invariant-loop-rec : goal.invariant-loop-rec
invariant-loop-rec l = l.self-inside ≡ record l.initial.self-inside { processes = map (after_rebackup l.to l.fresh (take l.rec-index l.recs)) l.initial.self-inside.processes }
