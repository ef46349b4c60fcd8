-- Logs that differ in no more than the order of the numbers of the letters that synchronisations read.
use Rattle.std.specs.Prelude.{◌≡◌, List, map}
use Rattle.bus_msg.specs.declared.entry.Entry.{Entry}
use Rattle.line_laws.specs.Meant.{with_reads_rising}

-- entry by entry the same, where the numbers that each synchronisation read are put in rising order
abbrev pub AreAlike : List Entry → List Entry → Type 0
AreAlike log other = map with_reads_rising log ≡ map with_reads_rising other
