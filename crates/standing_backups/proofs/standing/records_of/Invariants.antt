use Rattle.std.proofs.Common.{◌≡◌, ◌∷◌, ◌++◌, ℕ, map, true, Some, is_some}
use Rattle.std.specs.List.{list_any}
use Rattle.plain_kernel.specs.Maps.{at_key, pid_of}
use Rattle.residents.specs.Records.{record_at}
use Rattle.standing_backups.proofs.standing.records_of.Given as goal

-- the records so far and those of the processes that are left are all, and each of these waits
abbrev pub invariant-loop-other : goal.invariant-loop-other
invariant-loop-other l = record {
  said : map Some l.recs ++ map (record_at (l.here).here) (map pid_of l.other-iterator) ≡ map (record_at (l.here).here) ((l.fn).pid ∷ map pid_of (l.others).keys);
  left : (n : ℕ) → list_any (at_key n) l.other-iterator ≡ true → is_some (record_at (l.here).here (pid_of n)) ≡ true;
}
