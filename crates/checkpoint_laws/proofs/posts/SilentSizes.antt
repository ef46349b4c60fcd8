-- Silent steps leave the number of pages and the size of the memory.
use Rattle.std.proofs.Common.{◌≡◌, ℕ, zero, suc, refl, sym, ◌∙◌, ap, length, Option, Some, None}
use Rattle.std.specs.Prelude.{option_and_then}
use Rattle.std.proofs.lemmas.Option.{same_Some}
use Rattle.proc_state.specs.State.{ProcState}
use Rattle.sys_calls.specs.Calls.{Next, Silent, Blocked, Forks, Emits, Over}
use Rattle.sys_calls.specs.Next.{next_step, silently, silent_of}
use Rattle.log_laws.proofs.pages.StepSizes.{SameSize, Keeps, next_keeps}

as_large : (s t u : ProcState) → SameSize s t → t ≡ u → SameSize s u
as_large s t u same is = record { pages = ap (λ (x : ProcState). (x.small).pages) (sym is) ∙ same.pages; bytes = ap (λ (x : ProcState). length x.memory) (sym is) ∙ same.bytes }

pub silent_sizes : (n : ℕ) (s t : ProcState) → silently n s ≡ Some t → SameSize s t
unfolding silently
silent_sizes zero s t is = as_large s s t (record { pages = refl; bytes = refl }) (same_Some s t is)
silent_sizes (suc n) s t is = by_case (silently n s) refl is (λ q made. silent_sizes n s q made)
  where
    by_next : (q : ProcState) (next : Next) → SameSize s q → Keeps q next → silent_of next ≡ Some t → SameSize s t
    by_next q (Silent u) before keeps e = as_large s u t (record { pages = keeps.pages ∙ before.pages; bytes = keeps.bytes ∙ before.bytes }) (same_Some u t e)
    by_next q Blocked before keeps e = cc
    by_next q Forks before keeps e = cc
    by_next q (Emits m u) before keeps e = cc
    by_next q Over before keeps e = cc

    by_case : (o : Option ProcState) → silently n s ≡ o → option_and_then (λ q. silent_of (next_step q)) o ≡ Some t → ((q : ProcState) → silently n s ≡ Some q → SameSize s q) → SameSize s t
    by_case None made e before = cc
    by_case (Some q) made e before = by_next q (next_step q) (before q made) (next_keeps q) e
