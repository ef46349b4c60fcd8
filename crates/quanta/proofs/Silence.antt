-- Silent steps of a process.
use Rattle.std.proofs.Common.{◌≡◌, ℕ, suc, ◌+◌, arith, ap, ◌∙◌, sym, Some}
use Rattle.std.specs.Prelude.{option_and_then}
use Rattle.proc_state.specs.declared.process.Process.{Process}
use Rattle.proc_state.specs.State.{ProcState}
use Rattle.sys_calls.specs.Calls.{Silent}
use Rattle.sys_calls.specs.Next.{next_step, silently, silent_of, silently_marked}
use Rattle.sys_calls.specs.Steps.{marked, SameCount}

-- one silent step more
pub one_more_silent : (n : ℕ) (s q t : ProcState) → silently n s ≡ Some q → next_step q ≡ Silent t → silently (n + 1) s ≡ Some t
unfolding silently
one_more_silent n s q t before step =
    let count : n + 1 ≡ suc n = omega arith in
    ap (λ m. silently m s) count ∙ ap (option_and_then (λ q. silent_of (next_step q))) before ∙ ap silent_of step

-- a process that made no instruction is the same
pub unmoved : (p q : Process) → silently_marked 0 (marked p) ≡ Some (marked q) → SameCount p q → q ≡ p
unfolding silently_marked
unmoved p q none same =
    let m : marked p ≡ marked q = cc in
    λ i. record {
      small = ((sym m i).state).small;
      ram = record { bytes = ((sym m i).state).memory; dirty = (sym m i).marks };
      mail = record { letters = ((sym m i).state).mail; next = ((sym m i).state).next };
      read = same.read i;
      since = same.since i;
    }
