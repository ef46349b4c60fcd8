-- The numbers of the rules.
use Rattle.std.specs.Prelude.{ℕ}
use Rattle.rv_elf.specs.declared.refusal.Rule.{Rule}
use Rattle.rv_elf.specs.declared.refusal.Rule.TheVariants.{NoElf, Class, Machine, Compressed, Table, Dynamic, FileBytes, Outside, Overlap, Entry}

abbrev pub number_of_rule : Rule → ℕ
number_of_rule NoElf = 1
number_of_rule Class = 2
number_of_rule Machine = 3
number_of_rule Compressed = 4
number_of_rule Table = 5
number_of_rule Dynamic = 6
number_of_rule FileBytes = 7
number_of_rule Outside = 8
number_of_rule Overlap = 9
number_of_rule Entry = 10
