use Rattle.std.proofs.Common.{◌≡◌, ℕ, ◌+◌, ◌-◌, ◌<◌, ◌≤◌, ◌⊎◌, length, get_or}
use Rattle.rv_elf.proofs.placing.copy.Given as goal

abbrev pub invariant-loop-i : goal.invariant-loop-i
invariant-loop-i l = record {
  size : length l.bytes ≡ length l.initial.bytes;
  put : (k : ℕ) → l.to ≤ k → k < l.to + l.i → get_or l.bytes k 0 ≡ get_or l.file (l.from + k - l.to) 0;
  kept : (k : ℕ) → (k < l.to) ⊎ (l.to + l.i ≤ k) → get_or l.bytes k 0 ≡ get_or l.initial.bytes k 0;
}
