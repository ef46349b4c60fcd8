-- The entries of a log, however they are kept.
use Rattle.std.specs.Prelude.{List, map}
use Rattle.std.specs.Arc.{arc_value}
use Rattle.bus_msg.specs.declared.entry.Entry.{Entry}
use Rattle.bus_order.specs.declared.entries.Entries.{Entries}
use Rattle.bus_order.specs.declared.entries.Entries.TheVariants.{Own, Shared}

-- by themselves, or behind their handles
abbrev pub entries_in : Entries → List Entry
entries_in (Own own) = own.items
entries_in (Shared shared) = map arc_value shared.items
