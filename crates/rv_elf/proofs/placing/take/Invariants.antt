use Rattle.std.proofs.Common.{◌≡◌, ℕ, ◌<◌, ◌≤◌, true, false, length, get_or}
use Rattle.rv_elf.proofs.placing.take.Given as goal

abbrev pub invariant-loop-k : goal.invariant-loop-k
invariant-loop-k l = record {
  size : length l.taken ≡ length l.initial.taken;
  free : (j : ℕ) → l.first ≤ j → j < l.k → get_or l.initial.taken j false ≡ false;
  behind : (j : ℕ) → l.k ≤ j → get_or l.taken j false ≡ get_or l.initial.taken j false;
  before : (j : ℕ) → j < l.first → get_or l.taken j false ≡ get_or l.initial.taken j false;
  marks : (j : ℕ) → l.first ≤ j → j < l.k → get_or l.taken j false ≡ true;
}
