-- A process that is not due is within its limits, and so it is after one more step.
use Rattle.std.proofs.Common.{◌≡◌, ℕ, ◌+◌, ◌-◌, ◌≤◌, refl, ◌∙◌, ap, arith, List, [], ◌∷◌, length, length-append, true, false, ◌&&◌, ◌||◌, leb, Option, Some, None}
use Rattle.std.proofs.lemmas.Bool.Decides.{nat_tests}
use Rattle.t32_base.specs.declared.letter.Letter.{Letter}
use Rattle.t32_base.specs.declared.letter.Arrived.{Arrived}
use Rattle.sys_text.specs.declared.system.System.{System}
use Rattle.sys_text.specs.Valid.{is_system}
use Rattle.sys_text.proofs.Bounds.{system_bounds}
use Rattle.proc_state.specs.declared.process.Process.{Process}
use Rattle.proc_state.specs.State.{state_of}
use Rattle.sys_calls.specs.declared.steps.Emission.{Emission}
use Rattle.sys_calls.specs.Calls.{Emits}
use Rattle.sys_calls.specs.Next.{letter_taken, next_step}
use Rattle.sys_calls.specs.Steps.{read_after}
use Rattle.sys_calls.proofs.Counting.{emits_counts, silent_counts}
use Rattle.sync_point.specs.Due.{is_due_by}
use Rattle.checkpoint_laws.specs.marks.Received.{with_letter}
use Rattle.checkpoint_laws.specs.marks.Stepped.{StepsSilently}
use Rattle.checkpoint_laws.specs.limits.Within.{is_within_by}

-- ---- counts below their limits

-- one more step, and one more letter, do not go beyond the limits
pub one_more : (reads steps read read_now at now since : ℕ) → (leb reads read || leb steps (at - since)) ≡ false → now ≤ at + 1 → read_now ≤ read + 1 → (leb (now - since) steps && leb read_now reads) ≡ true
one_more reads steps read read_now at now since undue more_steps more_reads = grind (arith, nat_tests)

none_counted : (reads steps at : ℕ) → 1 ≤ reads → 1 ≤ steps → (leb reads 0 || leb steps (at - at)) ≡ false
none_counted reads steps at some_reads some_steps = grind (arith, nat_tests)

-- ---- one step

at_most_one : (read : List ℕ) (taken : Option Arrived) → length (read_after read taken) ≤ length read + 1
at_most_one read None = omega arith
at_most_one read (Some a) = let count = length-append read (a.number ∷ []) in omega (arith, count)

pub undue_within : (process : Process) (reads steps : ℕ) → is_due_by process reads steps ≡ false → is_within_by process reads steps ≡ true
undue_within process reads steps undue =
    one_more reads steps (length process.read) (length process.read) (process.small).steps (process.small).steps process.since undue (omega arith) (omega arith)

pub silent_within : (old new : Process) (reads steps : ℕ) → StepsSilently old new → is_due_by old reads steps ≡ false → is_within_by new reads steps ≡ true
silent_within old new reads steps step undue =
    let count = (silent_counts (state_of old) (state_of new) step.makes).steps in
    let more = at_most_one old.read (letter_taken (state_of old)) in
    let read = ap length (step.took).read in
    ap (λ since. leb ((new.small).steps - since) steps && leb (length new.read) reads) (step.took).since
    ∙ one_more reads steps (length old.read) (length new.read) (old.small).steps (new.small).steps old.since undue (omega (arith, count)) (omega (arith, more, read))

pub sending_within : (old new : Process) (e : Emission) (reads steps : ℕ) → next_step (state_of old) ≡ Emits e (state_of new) → new ≡ record old { small = new.small } → is_due_by old reads steps ≡ false → is_within_by new reads steps ≡ true
sending_within old new e reads steps sends touches undue =
    let count = (emits_counts (state_of old) (state_of new) e sends).steps in
    ap (λ (q : Process). leb ((new.small).steps - q.since) steps && leb (length q.read) reads) touches
    ∙ one_more reads steps (length old.read) (length old.read) (old.small).steps (new.small).steps old.since undue (omega (arith, count)) (omega arith)

-- ---- without a step

pub letter_within : (process : Process) (letter : Letter) (reads steps : ℕ) → is_within_by (with_letter process letter) reads steps ≡ is_within_by process reads steps
letter_within process letter reads steps = refl

pub start_undue : (system : System) (process : Process) → is_system system ≡ true → process.read ≡ [] → process.since ≡ (process.small).steps → is_due_by process system.syncreads system.syncsteps ≡ false
start_undue system process valid unread here =
    let bounds = system_bounds system valid in
    let least = bounds.least_steps in
    (λ j. leb system.syncreads (length (unread j)) || leb system.syncsteps ((process.small).steps - here j))
    ∙ none_counted system.syncreads system.syncsteps (process.small).steps bounds.least_reads (omega (arith, least))
