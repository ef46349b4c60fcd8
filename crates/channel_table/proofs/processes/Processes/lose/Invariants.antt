use Rattle.std.proofs.Common.{◌≡◌, length}
use Rattle.bus_msg.specs.PlacedAfter.{after_loss}
use Rattle.channel_table.proofs.KeyLaws.{changed_first}
use Rattle.channel_table.proofs.processes.Processes.lose.Given as goal

abbrev pub invariant-loop-index : goal.invariant-loop-index
invariant-loop-index l = record {
  entries : l.self-inside.map.entries ≡ changed_first (after_loss l.k) l.index l.initial.self-inside.map.entries;
  all : l.index-end ≡ length l.initial.self-inside.map.entries;
}
