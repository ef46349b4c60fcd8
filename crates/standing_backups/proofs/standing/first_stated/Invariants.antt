use Rattle.std.proofs.Common.{◌≡◌}
use Rattle.std.specs.List.{find}
use Rattle.standing_backups.specs.Standing.{is_stated_at}
use Rattle.standing_backups.proofs.standing.first_stated.Given as goal

-- the first of those that are left is the first of all
abbrev pub invariant-loop-pid : goal.invariant-loop-pid
invariant-loop-pid l = find (is_stated_at (l.here).here) l.pid-iterator ≡ find (is_stated_at (l.here).here) (l.owed).keys
