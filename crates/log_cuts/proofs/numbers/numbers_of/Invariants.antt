use Rattle.std.proofs.Common.{◌≡◌, take}
use Rattle.log_cuts.specs.Numbers.{numbers_of}
use Rattle.log_cuts.proofs.numbers.numbers_of.Given as goal

-- those before the index
abbrev pub invariant-loop-arrived : goal.invariant-loop-arrived
invariant-loop-arrived l = l.numbers.items ≡ numbers_of (take l.arrived-index l.letters)
