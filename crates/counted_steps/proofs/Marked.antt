-- Silent steps one after another, with the marks of the pages.
use Rattle.std.proofs.Common.{◌≡◌, ℕ, zero, suc, ◌+◌, ◌-◌, ◌<◌, ◌≤◌, refl, sym, ◌∙◌, ap, arith, Bool, true, false, if◌then◌else◌, Option, Some, None, Ok, option_and_then, true≢false}
use Rattle.std.specs.Prelude.{option_map}
use Rattle.proc_state.specs.declared.process.Process.{Process}
use Rattle.proc_state.specs.State.{ProcState, state_of}
use Rattle.sys_calls.specs.declared.steps.Emission.{Emission}
use Rattle.sys_calls.specs.declared.steps.Step.{Step}
use Rattle.sys_calls.specs.declared.steps.Step.TheVariants.{Silent as WasSilent, Blocked as WasBlocked, Forks as WouldFork, Emit, Over as WasOver}
use Rattle.sys_calls.specs.Calls.{Next, Silent, Blocked, Forks, Emits, Over}
use Rattle.sys_calls.specs.Fork.{before_fork, if_forks}
use Rattle.sys_calls.specs.Next.{Marked, emission_of, is_fork, last_emission, next_step, silent_of, silent_step, silently, silently_marked, step_marks}
use Rattle.sys_calls.specs.Steps.{marked, is_silent, Makes, Marks}
use Rattle.counted_steps.specs.Counted.{GoesOn, MakesSilently, Sends, ComesToFork, sent_in}
use Rattle.sys_calls.proofs.Running.{silently-marked}
use Rattle.sys_calls.proofs.Untaken.{joined}

-- one more
pub marked_more : (n : ℕ) (p q : Marked) (t : ProcState) → silently_marked n p ≡ Some q → next_step q.state ≡ Silent t
    → silently_marked (suc n) p ≡ Some (record { state = t; marks = step_marks q.state q.marks })
unfolding silently_marked
marked_more n p q t made next =
    ap (option_and_then silent_step) made ∙ ap (λ (x : Next). option_map (λ (s : ProcState). let m : Marked = record { state = s; marks = step_marks q.state q.marks } in m) (silent_of x)) next

again : (n : ℕ) (o : Option Marked) → option_and_then silent_step (option_and_then (silently_marked n) o) ≡ option_and_then (silently_marked (suc n)) o
unfolding silently_marked
again n None = refl
again n (Some s) = refl

none_again : (o : Option Marked) → o ≡ option_and_then (silently_marked 0) o
unfolding silently_marked
none_again None = refl
none_again (Some s) = refl

-- so many, and then so many more
pub marked_joined : (a b : ℕ) (s : Marked) → silently_marked (a + b) s ≡ option_and_then (silently_marked b) (silently_marked a s)
unfolding silently_marked
marked_joined a zero s = let e : a + 0 ≡ a = omega arith in ap (λ (k : ℕ). silently_marked k s) e ∙ none_again (silently_marked a s)
marked_joined a (suc b) s =
    let e : a + suc b ≡ suc (a + b) = omega arith in
    ap (λ (k : ℕ). silently_marked k s) e ∙ ap (option_and_then silent_step) (marked_joined a b s) ∙ again b (silently_marked a s)

pub then_marked : (a b : ℕ) (s q t : Marked) → silently_marked a s ≡ Some q → silently_marked b q ≡ Some t → silently_marked (a + b) s ≡ Some t
then_marked a b s q t first last = marked_joined a b s ∙ ap (option_and_then (silently_marked b)) first ∙ last

pub then_none : (a b : ℕ) (s q : ProcState) → silently a s ≡ Some q → silently b q ≡ None → silently (a + b) s ≡ None
then_none a b s q first last = joined a b s ∙ ap (option_and_then (silently b)) first ∙ last

-- none can be made where the next step is not silent
pub none_made : (n : ℕ) (s : ProcState) → 0 < n → silent_of (next_step s) ≡ None → silently n s ≡ None
unfolding silently
none_made n s some last =
    let e : 1 + (n - 1) ≡ n = omega (arith, some) in
    ap (λ (k : ℕ). silently k s) (sym e) ∙ joined 1 (n - 1) s ∙ ap (option_and_then (silently (n - 1))) last

-- so it is after some that were made, where more are asked for
pub too_many : (n made : ℕ) (p q : Marked) → made < n → silently_marked made p ≡ Some q → silent_of (next_step q.state) ≡ None → silently n p.state ≡ None
too_many n made p q more are last =
    let e : made + (n - made) ≡ n = omega (arith, more) in
    ap (λ (k : ℕ). silently k p.state) (sym e) ∙ then_none made (n - made) p.state q.state (silently-marked made p q are) (none_made (n - made) q.state (omega (arith, more)) last)

-- ---- a step after them

-- a step that is not silent, and what the next step was then
pub not_silent : (mid new : ProcState) (step : Step) → Makes (next_step mid) (Ok step) mid new → is_silent step ≡ false → silent_of (next_step mid) ≡ None
not_silent mid new WasSilent makes other = absurd (true≢false other)
not_silent mid new WasBlocked makes other = ap silent_of makes.0
not_silent mid new WouldFork makes other = ap silent_of makes.0
not_silent mid new (Emit e) makes other = ap silent_of makes
not_silent mid new WasOver makes other = ap silent_of makes.0

pub goes_on : (n done : ℕ) (old mid new : Process) (step : Step) → done < n → silently_marked done (marked old) ≡ Some (marked mid) → Makes (next_step (state_of mid)) (Ok step) (state_of mid) (state_of new)
    → Marks (Ok step) (step_marks (state_of mid) (mid.ram).dirty) (mid.ram).dirty (new.ram).dirty → is_silent step ≡ true → GoesOn n old (Some (n - done - 1)) new
goes_on n done old mid new WasSilent more made makes marks is =
    let e : n - (n - done - 1) ≡ suc done = omega (arith, more) in (
      omega (arith, more),
      ap (λ (k : ℕ). silently_marked k (marked old)) e ∙ marked_more done (marked old) (marked mid) (state_of new) made makes
          ∙ (λ i. Some (record { state = state_of new; marks = sym marks i })),
    )
goes_on n done old mid new WasBlocked more made makes marks is = absurd (true≢false (sym is))
goes_on n done old mid new WouldFork more made makes marks is = absurd (true≢false (sym is))
goes_on n done old mid new (Emit e) more made makes marks is = absurd (true≢false (sym is))
goes_on n done old mid new WasOver more made makes marks is = absurd (true≢false (sym is))

pub goes_not : (n done : ℕ) (old mid new : Process) (step : Step) → done < n → silently_marked done (marked old) ≡ Some (marked mid) → Makes (next_step (state_of mid)) (Ok step) (state_of mid) (state_of new)
    → is_silent step ≡ false → GoesOn n old None new
goes_not n done old mid new step more made makes other = too_many n done (marked old) (marked mid) more made (not_silent (state_of mid) (state_of new) step makes other)

-- ---- the loop

pub begun : (n : ℕ) (p : Process) → silently_marked (n - n) (marked p) ≡ Some (marked p)
unfolding silently_marked
begun n p = let e : n - n ≡ 0 = omega arith in ap (λ (k : ℕ). silently_marked k (marked p)) e

pub further : (n left rest : ℕ) (old mid new : Process) → left ≤ n → silently_marked (n - left) (marked old) ≡ Some (marked mid) → GoesOn left mid (Some rest) new → silently_marked (n - rest) (marked old) ≡ Some (marked new)
further n left rest old mid new within made on =
    let fewer = on.0 in
    let e : n - left + (left - rest) ≡ n - rest = omega (arith, within, fewer) in
    ap (λ (k : ℕ). silently_marked k (marked old)) (sym e) ∙ then_marked (n - left) (left - rest) (marked old) (marked mid) (marked new) made on.1

pub no_further : (n left : ℕ) (old mid : Process) → left ≤ n → silently_marked (n - left) (marked old) ≡ Some (marked mid) → silently left (state_of mid) ≡ None → silently n (state_of old) ≡ None
no_further n left old mid within made none =
    let e : n - left + left ≡ n = omega (arith, within) in
    ap (λ (k : ℕ). silently k (state_of old)) (sym e) ∙ then_none (n - left) left (state_of old) (state_of mid) (silently-marked (n - left) (marked old) (marked mid) made) none

-- ---- what is sent, and the fork

sent_by : (mid new : ProcState) (step : Step) → Makes (next_step mid) (Ok step) mid new → emission_of (next_step mid) ≡ option_map (λ e. (e, new)) (sent_in step)
sent_by mid new WasSilent makes = ap emission_of makes
sent_by mid new WasBlocked makes = ap emission_of makes.0
sent_by mid new WouldFork makes = ap emission_of makes.0
sent_by mid new (Emit e) makes = ap emission_of makes
sent_by mid new WasOver makes = ap emission_of makes.0

sends_so : (n : ℕ) (old new : Process) (o : Option Emission) → last_emission n (state_of old) ≡ option_map (λ e. (e, state_of new)) o → Sends n old o new
sends_so n old new None is = is
sends_so n old new (Some e) is = is

from_suc : (n : ℕ) (s : ProcState) → 0 < n → last_emission n s ≡ option_and_then (λ q. emission_of (next_step q)) (silently (n - 1) s)
from_suc zero s some = absurd (omega (arith, some))
from_suc (suc n) s some = let e : suc n - 1 ≡ n = omega arith in ap (λ (k : ℕ). option_and_then (λ q. emission_of (next_step q)) (silently k s)) (sym e)

pub sends : (n : ℕ) (old mid new : Process) (step : Step) → 0 < n → MakesSilently (n - 1) old true mid → Makes (next_step (state_of mid)) (Ok step) (state_of mid) (state_of new) → Sends n old (sent_in step) new
sends n old mid new step some made makes =
    sends_so n old new (sent_in step) (from_suc n (state_of old) some
    ∙ ap (option_and_then (λ q. emission_of (next_step q))) (silently-marked (n - 1) (marked old) (marked mid) made) ∙ sent_by (state_of mid) (state_of new) step makes)

forks_if : (s : ProcState) (n : Next) → if_forks s n ≡ (if is_fork n then Some s else None)
forks_if s (Silent q) = refl
forks_if s Blocked = refl
forks_if s Forks = refl
forks_if s (Emits e q) = refl
forks_if s Over = refl

pub comes : (n : ℕ) (old new : Process) → MakesSilently n old true new → ComesToFork n old (is_fork (next_step (state_of new))) new
comes n old new made = by_fork (is_fork (next_step (state_of new))) (ap (option_and_then (λ q. if_forks q (next_step q))) (silently-marked n (marked old) (marked new) made) ∙ forks_if (state_of new) (next_step (state_of new)))
  where
    by_fork : (b : Bool) → before_fork n (state_of old) ≡ (if b then Some (state_of new) else None) → ComesToFork n old b new
    by_fork true is = is
    by_fork false is = is

-- ---- tests

pub fewer : (n done : ℕ) → done ≤ n → (done ≡ n → ⊥) → done < n
fewer n done within other = omega (arith, within, other)

pub not_none : (n : ℕ) → (n ≡ 0 → ⊥) → 0 < n
not_none n other = omega (arith, other)
