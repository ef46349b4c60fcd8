-- Silent steps one after another, and what comes after them.
use Rattle.std.proofs.Common.{◌≡◌, ℕ, suc, ◌+◌, ◌-◌, ◌<◌, ◌≤◌, refl, sym, ◌∙◌, ap, arith, Bool, true, false, Some, option_and_then, Result, Ok, Err, eqb}
use Rattle.std.specs.Prelude.{nat_lt, IfOk}
use Rattle.std.proofs.lemmas.Bool.Decides.{nat_tests}
use Rattle.proc_state.specs.declared.process.Process.{Process}
use Rattle.proc_state.specs.State.{ProcState, state_of}
use Rattle.sys_calls.specs.declared.steps.Step.{Step}
use Rattle.sys_calls.specs.declared.steps.Step.TheVariants.{Silent as WasSilent, Blocked as WasBlocked, Forks as WouldFork, Emit, Over as WasOver}
use Rattle.t32_base.specs.Registers.{Registers}
use Rattle.t32_base.specs.Small.{SmallState}
use Rattle.t32_base.specs.declared.streams.NoMemory.{NoMemory}
use Rattle.t32_base.specs.declared.process.Status.TheVariants.{Live}
use Rattle.rv_cpu.specs.Run.{machine_of, ran}
use Rattle.sys_calls.specs.Calls.{Silent}
use Rattle.sys_calls.specs.Next.{next_step, silent_of, silently}
use Rattle.sys_calls.specs.Small.{after_instructions}
use Rattle.sys_calls.specs.Steps.{is_silent, marked, Makes, RunsOn, Shorter, Touches}
use Rattle.sys_calls.proofs.Running.{ran_silently, silently-marked}
use Rattle.sys_calls.proofs.Untaken.{joined, untaken_none}

pub none_made : (s : ProcState) → silently 0 s ≡ Some s
unfolding silently
none_made s = refl

pub one_more : (n : ℕ) (s q t : ProcState) → silently n s ≡ Some q → next_step q ≡ Silent t → silently (suc n) s ≡ Some t
unfolding silently
one_more n s q t made step = ap (option_and_then (λ p. silent_of (next_step p))) made ∙ ap silent_of step

pub more : (a b : ℕ) (s q t : ProcState) → silently a s ≡ Some q → silently b q ≡ Some t → silently (a + b) s ≡ Some t
more a b s q t first then = joined a b s ∙ ap (option_and_then (silently b)) first ∙ then

pub was_silent_step : (step : Step) → is_silent step ≡ true → step ≡ WasSilent
was_silent_step WasSilent is = refl
was_silent_step WasBlocked is = cc
was_silent_step WouldFork is = cc
was_silent_step (Emit e) is = cc
was_silent_step WasOver is = cc

pub some_left : (n most : ℕ) → n ≤ most → (most ≤ n → ⊥) → n < most
some_left n most within not = by_test (nat_lt n most) refl
  where
    by_test : (b : Bool) → nat_lt n most ≡ b → n < most
    by_test true is = grind (arith, nat_tests)
    by_test false is = absurd (not (grind (arith, nat_tests)))

-- a process of which only the small state and the memory have changed, by instructions
pub ran_on : (n : ℕ) (p mid : Process) → (p.small).status ≡ Live → n ≤ (p.small).left → ran n (machine_of (p.small).regs p.ram) ≡ Some (machine_of (mid.small).regs mid.ram)
    → mid.small ≡ after_instructions n p.small (mid.small).regs → mid.mail ≡ p.mail → silently n (state_of p) ≡ Some (state_of mid)
ran_on n p mid live some made small mail =
    silently-marked n (marked p) (record { state = record (state_of p) { small = after_instructions n p.small (mid.small).regs; memory = (mid.ram).bytes }; marks = (mid.ram).dirty })
    (ran_silently n (state_of p) (p.ram).dirty (machine_of (mid.small).regs mid.ram) live some made)
    ∙ λ i. Some (record { small = sym small i; memory = (mid.ram).bytes; mail = (sym mail i).letters; next = (sym mail i).next })

-- the next step alone
pub alone : (old new : Process) (r : Result Step NoMemory) → Makes (next_step (state_of old)) r (state_of old) (state_of new) → Shorter r old.small new.small → Touches r old new → IfOk r (λ step. RunsOn step old new)
alone old new (Ok step) makes shorter touches = record {
  steps = 0;
  before = old;
  silent = none_made (state_of old);
  untaken = untaken_none (state_of old);
  lighter = omega arith;
  makes = makes;
  shorter = shorter;
  touches = touches;
}
alone old new (Err e) makes shorter touches = tt

-- ---- what is left after instructions

pub live_still : (n : ℕ) (small now : SmallState) (regs : Registers) → now ≡ after_instructions n small regs → small.status ≡ Live → now.status ≡ Live
live_still n small now regs same live = ap (λ (s : SmallState). s.status) same ∙ live

pub left_some : (n most : ℕ) (small now : SmallState) (regs : Registers) → now ≡ after_instructions n small regs → most ≡ small.left → n < most → 0 < now.left
left_some n most small now regs same left below = let e : now.left ≡ small.left - n = ap (λ (s : SmallState). s.left) same in omega (arith, e, left, below)

pub not_none : (n : ℕ) → 0 < n → eqb n 0 ≡ false
not_none n some = grind (arith, nat_tests)
