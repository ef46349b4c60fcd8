use Rattle.std.proofs.Common.{◌≡◌, ◌≤◌, false, drop, length}
use Rattle.rv_elf.specs.Rules.{overlap}
use Rattle.rv_elf.specs.Placing.{Holds, Marks}
use Rattle.rv_elf.proofs.placing.place_all.Given as goal

abbrev pub invariant-loop-left : goal.invariant-loop-left
invariant-loop-left l = record {
  within : l.left ≤ length l.headers;
  size : length l.bytes ≡ length l.initial.bytes;
  each : length l.taken ≡ length l.initial.bytes;
  apart : overlap (drop l.left l.headers) ≡ false;
  marks : Marks l.taken (drop l.left l.headers);
  holds : Holds l.bytes l.file (drop l.left l.headers);
}

abbrev pub decreases-loop-left : goal.decreases-loop-left
decreases-loop-left l = l.left
