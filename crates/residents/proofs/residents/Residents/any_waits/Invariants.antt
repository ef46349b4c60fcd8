use Rattle.std.proofs.Common.{◌≡◌}
use Rattle.std.specs.List.{AllByRecursion}
use Rattle.residents.specs.Slots.{stands_in, IsSlot}
use Rattle.residents.specs.Asking.{any_waits}
use Rattle.residents.proofs.residents.Residents.any_waits.Given as goal

-- of those that are still to come one waits where one of all waits, and each of them is in its slot
abbrev pub invariant-loop-key : goal.invariant-loop-key
invariant-loop-key l = record {
  same : any_waits (stands_in l.self-inside.residents l.key-iterator) ≡ any_waits (stands_in l.self-inside.residents l.self-inside.keys.entries);
  each : AllByRecursion (IsSlot l.self-inside.duty l.self-inside.residents l.self-inside.ready.keys l.self-inside.asking.keys) l.key-iterator;
}
