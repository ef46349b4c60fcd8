use Rattle.std.proofs.Common.{◌≡◌, map, take, Some}
use Rattle.log_renewals.specs.Standing.{record_told}
use Rattle.log_renewals.proofs.standing.records_of.Given as goal

-- the records of those before the index
abbrev pub invariant-loop-number : goal.invariant-loop-number
invariant-loop-number l = map Some l.recs ≡ map (record_told l.records) (take l.number-index l.numbers)
