use Rattle.std.proofs.Common.{◌≡◌, ◌+◌, ◌≤◌, length}
use Rattle.word_faults.specs.Fault.{fault_from}
use Rattle.word_faults.specs.Seen.{nothing_of}
use Rattle.word_faults.proofs.fault.fault_in.Given as goal

abbrev pub invariant-words : goal.invariant-words
invariant-words l = record {
  same : fault_from l.seen l.place l.rest ≡ fault_from (nothing_of l.fn.form) 2 l.words;
  few : l.place + length l.rest ≤ length l.words + 2;
}

abbrev pub decreases-words : goal.decreases-words
decreases-words l = length l.rest
