use Rattle.std.proofs.Common.{◌≡◌, []}
use Rattle.std.specs.List.{AllByRecursion}
use Rattle.residents.specs.Slots.{stands_in, IsSlot}
use Rattle.residents.proofs.Kept.{rests_with}
use Rattle.residents.proofs.residents.Residents.listed.Given as goal

-- what is still to come completes what rests so far, and each of it is in its slot
abbrev pub invariant-loop-pid : goal.invariant-loop-pid
invariant-loop-pid l = record {
  same : rests_with l.self-inside.duty l.rests (stands_in l.self-inside.residents l.pid-iterator) ≡ rests_with l.self-inside.duty [] (stands_in l.self-inside.residents l.self-inside.keys.entries);
  each : AllByRecursion (IsSlot l.self-inside.duty l.self-inside.residents l.self-inside.ready.keys l.self-inside.asking.keys) l.pid-iterator;
}
