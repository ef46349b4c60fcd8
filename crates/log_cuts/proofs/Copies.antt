-- A process that makes silent steps up to a step count, and its copy.
use Rattle.std.proofs.Common.{◌≡◌, ℕ, ◌-◌, sym, ◌∙◌, ap, arith, Bool, true, false, Option, Some, None}
use Rattle.proc_state.specs.declared.process.Process.{Process}
use Rattle.proc_state.specs.State.{ProcState, state_of}
use Rattle.sys_calls.specs.Next.{silently}
use Rattle.sys_calls.specs.Steps.{marked}
use Rattle.sys_calls.proofs.Counting.{silently_counts}
use Rattle.sys_calls.proofs.Running.{silently-marked}
use Rattle.counted_steps.specs.Counted.{MakesSilently}
use Rattle.log_cuts.specs.Ahead.{ComesTo, IsAhead, upto}

pub comes : (at n : ℕ) (old new : Process) (made : Bool) → n ≡ at - (old.small).steps → MakesSilently n old made new → ComesTo at (state_of old) made (state_of new)
comes at n old new true count made = ap (λ k. silently k (state_of old)) (sym count) ∙ silently-marked n (marked old) (marked new) made
comes at n old new false count none = ap (λ k. silently k (state_of old)) (sym count) ∙ none

-- where silent steps lead the process there is its copy
pub led_ahead : (at : ℕ) (s : ProcState) (o : Option ProcState) → upto at s ≡ o → IsAhead s o
led_ahead at s None led = tt
led_ahead at s (Some t) led =
    let made = silently_counts (at - (s.small).steps) s t led in
    let steps = made.steps in
    let same : (t.small).steps - (s.small).steps ≡ at - (s.small).steps = omega (arith, steps) in
    ap (λ n. silently n s) same ∙ led
