-- What a process that runs on comes to: silent steps, and what comes after them.
use Rattle.std.proofs.Common.{◌≡◌, ℕ, suc, ◌+◌, ◌-◌, ◌<◌, ◌≤◌, sym, ◌∙◌, ap, subst, arith, Bool, true, false, Some, Result, Ok, Err}
use Rattle.std.specs.Prelude.{IfOk}
use Rattle.proc_state.specs.declared.process.Process.{Process}
use Rattle.proc_state.specs.State.{can_take, state_of, with_small}
use Rattle.t32_base.specs.declared.process.Status.TheVariants.{Live}
use Rattle.rv_cpu.specs.declared.Did.{Did}
use Rattle.rv_cpu.specs.declared.Did.TheVariants.{Stepped, Call}
use Rattle.rv_cpu.specs.Exec.{Calls, exec, reg}
use Rattle.rv_cpu.specs.Run.{machine_of, ran, Stops}
use Rattle.sys_calls.specs.declared.steps.Step.{Step}
use Rattle.sys_calls.specs.declared.steps.Step.TheVariants.{Silent as WasSilent}
use Rattle.sys_calls.specs.declared.reading.Reading.{Reading}
use Rattle.sys_calls.specs.declared.stepping.Passed.{Passed}
use Rattle.sys_calls.specs.declared.stepping.Passed.TheVariants.{Silently, Waiting, Calling, Leaving}
use Rattle.t32_base.specs.declared.streams.NoMemory.{NoMemory}
use Rattle.sys_calls.specs.Calls.{call_of, called, read_call, reading_of}
use Rattle.t32_base.specs.Small.{SmallState}
use Rattle.sys_calls.specs.Next.{letter_by, letter_live, letter_taken, live_step, marks_by, marks_live, next_step, silently, step_by, step_marks}
use Rattle.sys_calls.specs.Passing.{IsAtCall, Passes, PassesCall, Went}
use Rattle.sys_calls.specs.Small.{after_instructions, spent, weight}
use Rattle.sys_calls.specs.Steps.{was_silent, Makes, RunsOn, Shorter, Touches, step_of_read, StaysUntaken}
use Rattle.sys_calls.proofs.Ahead.{alone, left_some, live_still, more, none_made, not_none, one_more, ran_on, some_left, was_silent_step}
use Rattle.sys_calls.proofs.Untaken.{untaken_by_last, untaken_more, untaken_none, untaken_ran}
use Rattle.sys_calls.proofs.Calling.{calls, live_as}
use Rattle.sys_calls.proofs.Waiting.{reads_called}

-- instructions, and then what comes after them
pub went_on : (n : ℕ) (step : Step) (old mid new : Process) → silently n (state_of old) ≡ Some (state_of mid) → StaysUntaken n (state_of old) → weight mid.small + n ≤ weight old.small → RunsOn step mid new → RunsOn step old new
went_on n step old mid new made untaken lighter then = record {
  steps = n + then.steps;
  before = then.before;
  silent = more n then.steps (state_of old) (state_of mid) (state_of then.before) made then.silent;
  untaken = untaken_more n then.steps (state_of old) (state_of mid) made untaken then.untaken;
  lighter = omega (arith, lighter, then.lighter);
  makes = then.makes;
  shorter = then.shorter;
  touches = then.touches;
}

pub went_nowhere : (p : Process) → Went p p
went_nowhere p = record { steps = 0; silent = none_made (state_of p); untaken = untaken_none (state_of p); lighter = omega arith }

-- one step more
pub then_runs : (r : Result Step NoMemory) (old mid new : Process) → Went old mid → IfOk r (λ step. RunsOn step mid new) → IfOk r (λ step. RunsOn step old new)
then_runs (Ok step) old mid new went then = went_on went.steps step old mid new went.silent went.untaken went.lighter then
then_runs (Err e) old mid new went then = tt

pub then_went : (r : Result Step NoMemory) (old mid new : Process) → was_silent r ≡ true → can_take (state_of new) ≡ false → Went old mid → IfOk r (λ step. RunsOn step mid new) → Went old new
then_went (Ok step) old mid new silent none went then =
    let ran = subst (λ s. RunsOn s mid new) (was_silent_step step silent) then in
    let all = went_on went.steps WasSilent old mid new went.silent went.untaken went.lighter ran in
    let last = one_more all.steps (state_of old) (state_of all.before) (state_of new) all.silent all.makes in
    record { steps = suc all.steps; silent = last; untaken = untaken_by_last all.steps (state_of old) (state_of new) all.untaken last (λ before. none); lighter = omega (arith, all.lighter, all.shorter.0) }
then_went (Err e) old mid new silent none went then = cc

-- ---- a system call

-- silent steps, and more of them
pub went_again : (old mid new : Process) → Went old mid → Went mid new → Went old new
went_again old mid new first then = record {
  steps = first.steps + then.steps;
  silent = more first.steps then.steps (state_of old) (state_of mid) (state_of new) first.silent then.silent;
  untaken = untaken_more first.steps then.steps (state_of old) (state_of mid) first.silent first.untaken then.untaken;
  lighter = omega (arith, first.lighter, then.lighter);
}

-- the next step of a process that stands at a system call
call_next : (p : Process) → IsAtCall p → next_step (state_of p) ≡ called (call_of (reg (p.small).regs 17)) (with_small (state_of p) (spent p.small))
call_next p at =
    ap (λ s. step_by s (state_of p)) at.1 ∙ ap (λ b. live_step b (state_of p)) (not_none (p.small).left at.0)
    ∙ live_as (state_of p) Calls (calls (exec (p.small).regs (p.ram).bytes) at.2.0)

pub call_alone : (p new : Process) (r : Result Step NoMemory) → IsAtCall p → Makes (called (call_of (reg (p.small).regs 17)) (with_small (state_of p) (spent p.small))) r (state_of p) (state_of new)
    → Shorter r p.small new.small → Touches r p new → IfOk r (λ step. RunsOn step p new)
call_alone p new r at makes shorter touches = alone p new r (subst (λ n. Makes n r (state_of p) (state_of new)) (sym (call_next p at)) makes) shorter touches

pub read_alone : (p new : Process) (reading : Reading) (r : Result Bool NoMemory) → IsAtCall p → reading_of (call_of (reg (p.small).regs 17)) (state_of p) ≡ Some reading
    → Makes (read_call (with_small (state_of p) (spent p.small)) reading) (step_of_read r) (state_of p) (state_of new)
    → Shorter (step_of_read r) p.small new.small → Touches (step_of_read r) p new → IfOk (step_of_read r) (λ step. RunsOn step p new)
read_alone p new reading r at is makes shorter touches =
    call_alone p new (step_of_read r) at (subst (λ n. Makes n (step_of_read r) (state_of p) (state_of new)) (sym (reads_called (state_of p) (call_of (reg (p.small).regs 17)) reading is)) makes) shorter touches

passes_on : (passed : Passed) (old mid new : Process) → Went old mid → IsAtCall mid → PassesCall passed mid new → Passes passed old new
passes_on Silently old mid new went at then = went_on went.steps _ old mid new went.silent went.untaken went.lighter then
passes_on Waiting old mid new went at then = went_on went.steps _ old mid new went.silent went.untaken went.lighter then
passes_on Calling old mid new went at same = subst (λ q. Went old q × IsAtCall q) (sym same) (went, at)
passes_on Leaving old mid new went at same = subst (λ q. Went old q) (sym same) went

pub then_passes : (r : Result Passed NoMemory) (old mid new : Process) → Went old mid → IsAtCall mid → IfOk r (λ passed. PassesCall passed mid new) → IfOk r (λ passed. Passes passed old new)
then_passes (Ok passed) old mid new went at then = passes_on passed old mid new went at then
then_passes (Err e) old mid new went at then = tt

not_stepped : (did : Did) → did ≡ Call → did ≡ Stepped → ⊥
not_stepped did call stepped = let e : Call ≡ Stepped = sym call ∙ stepped in cc

-- instructions up to a system call
pub stands : (p mid : Process) (n most : ℕ) (did : Did) → (p.small).status ≡ Live → n ≤ most → most ≡ (p.small).left → mid.small ≡ after_instructions n p.small (mid.small).regs
    → (n < most → Stops (exec (mid.small).regs (mid.ram).bytes) did) → (most ≤ n → did ≡ Stepped) → did ≡ Call → IsAtCall mid
stands p mid n most did live made most_is small stops all is =
    let below = some_left n most made (λ spent. not_stepped did is (all spent)) in
    (left_some n most p.small mid.small _ small most_is below, live_still n p.small mid.small _ small live, subst (λ d. Stops (exec (mid.small).regs (mid.ram).bytes) d) is (stops below))

-- so it is where it makes fewer than it has left
pub stands_within : (p mid : Process) (n most : ℕ) (did : Did) → (p.small).status ≡ Live → n ≤ most → most ≤ (p.small).left → mid.small ≡ after_instructions n p.small (mid.small).regs
    → (n < most → Stops (exec (mid.small).regs (mid.ram).bytes) did) → (most ≤ n → did ≡ Stepped) → did ≡ Call → IsAtCall mid
stands_within p mid n most did live made within small stops all is =
    let below : n < most = some_left n most made (λ spent. not_stepped did is (all spent)) in
    let left : (mid.small).left ≡ (p.small).left - n = ap (λ (s : SmallState). s.left) small in
    (omega (arith, left, below, within), live_still n p.small mid.small _ small live, subst (λ d. Stops (exec (mid.small).regs (mid.ram).bytes) d) is (stops below))

-- the next step of a live process with an instruction left, what it marks and the letter that it takes
pub call_by : (p : Process) → IsAtCall p → next_step (state_of p) ≡ live_step false (state_of p)
call_by p at = ap (λ s. step_by s (state_of p)) at.1 ∙ ap (λ b. live_step b (state_of p)) (not_none (p.small).left at.0)

pub call_marks : (p : Process) → IsAtCall p → step_marks (state_of p) (p.ram).dirty ≡ marks_live false (state_of p) (p.ram).dirty
call_marks p at = ap (λ s. marks_by s (state_of p) (p.ram).dirty) at.1 ∙ ap (λ b. marks_live b (state_of p) (p.ram).dirty) (not_none (p.small).left at.0)

pub call_letter : (p : Process) → IsAtCall p → letter_taken (state_of p) ≡ letter_live false (state_of p)
call_letter p at = ap (λ s. letter_by s (state_of p)) at.1 ∙ ap (λ b. letter_live b (state_of p)) (not_none (p.small).left at.0)

pub went_by : (p mid : Process) (n most : ℕ) → (p.small).status ≡ Live → n ≤ most → most ≡ (p.small).left → ran n (machine_of (p.small).regs p.ram) ≡ Some (machine_of (mid.small).regs mid.ram)
    → mid.small ≡ after_instructions n p.small (mid.small).regs → mid.mail ≡ p.mail → weight mid.small + n ≡ weight p.small → Went p mid
went_by p mid n most live made most_is by small mail lighter = record {
  steps = n;
  silent = ran_on n p mid live (subst (λ m. n ≤ m) most_is made) by small mail;
  untaken = untaken_ran n (state_of p) (p.ram).dirty (machine_of (mid.small).regs mid.ram) live (subst (λ m. n ≤ m) most_is made) by;
  lighter = omega (arith, lighter);
}
