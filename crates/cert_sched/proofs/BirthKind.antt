-- The entries that tell of a birth.
use Rattle.std.proofs.Common.{Bool, true, false}
use Rattle.bus_msg.specs.declared.entry.What.{What}
use Rattle.bus_msg.specs.declared.entry.What.TheVariants.{Birth}

abbrev pub is_birth : What → Bool
is_birth (Birth parent at child end) = true
is_birth _ = false
