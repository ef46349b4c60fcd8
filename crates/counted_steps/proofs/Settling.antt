-- Silent steps lead to one place alone where a process rests.
use Rattle.std.proofs.Common.{◌≡◌, ℕ, zero, suc, ◌+◌, ◌-◌, ◌<◌, inl, inr, refl, sym, ◌∙◌, ap, arith, Bool, true, false, not, ◌||◌, Some, None, Ok, option_and_then, true≢false}
use Rattle.std.proofs.lemmas.Bool.{cases_lt}
use Rattle.std.proofs.lemmas.Option.{same_Some}
use Rattle.proc_state.specs.declared.process.Process.{Process}
use Rattle.proc_state.specs.State.{ProcState, can_take, state_of}
use Rattle.sys_calls.specs.declared.steps.Step.{Step}
use Rattle.sys_calls.specs.declared.steps.Step.TheVariants.{Silent as WasSilent, Blocked as WasBlocked, Forks as WouldFork, Emit, Over as WasOver}
use Rattle.sys_calls.specs.Calls.{Next, Silent, Blocked, Forks, Emits, Over}
use Rattle.sys_calls.specs.Next.{has_step, next_step, silent_of, silently, silently_marked}
use Rattle.sys_calls.specs.Small.{weight}
use Rattle.sys_calls.specs.Steps.{is_silent, marked, Makes, Shorter}
use Rattle.sys_calls.proofs.Ahead.{more, one_more}
use Rattle.sys_calls.proofs.Running.{silently-marked}
use Rattle.sys_calls.proofs.Untaken.{joined}
use Rattle.counted_steps.specs.Resting.{MovesOn, NeverRests, Settles, rests, rests_after}
use Rattle.counted_steps.proofs.Marked.{none_made}

not_true : (b : Bool) → (b ≡ true → ⊥) → b ≡ false
not_true true denied = absurd (denied refl)
not_true false denied = refl

resting_next : (n : Next) (b : Bool) → not (has_step n || b) ≡ true → silent_of n ≡ None
resting_next (Silent q) b is = absurd (true≢false (sym is))
resting_next Blocked b is = refl
resting_next Forks b is = refl
resting_next (Emits e q) b is = refl
resting_next Over b is = refl

-- before a silent step it does not rest
busy : (n m : ℕ) (old s t : ProcState) → silently n old ≡ Some s → silently m old ≡ Some t → n < m → rests s ≡ false
busy n m old s t first last before = not_true (rests s) (λ is.
    let e : n + (m - n) ≡ m = omega (arith, before) in
    let both : Some t ≡ None = sym last ∙ ap (λ (k : ℕ). silently k old) (sym e) ∙ joined n (m - n) old ∙ ap (option_and_then (silently (m - n))) first
    ∙ none_made (m - n) s (omega (arith, before)) (resting_next (next_step s) (can_take s) is) in
    cc)

-- where it does not rest after its last silent step it never does
pub never : (m : ℕ) (old t : ProcState) → silently m old ≡ Some t → NeverRests t → NeverRests old
never m old t made none n s here = elim (cases_lt n m) [
  | inl below ↦ busy n m old s t here made below
  | inr above ↦
      let e : m + (n - m) ≡ n = omega (arith, above) in
      none (n - m) s (sym (sym here ∙ ap (λ (k : ℕ). silently k old) (sym e) ∙ joined m (n - m) old ∙ ap (option_and_then (silently (n - m))) made))
]

ends : (t : ProcState) → silent_of (next_step t) ≡ None → rests t ≡ false → NeverRests t
unfolding silently
ends t last not_here zero s here = ap rests (sym (same_Some t s here)) ∙ not_here
ends t last not_here (suc n) s here =
    let both : Some s ≡ None = sym here ∙ none_made (suc n) t (omega arith) last in
    cc

-- ---- one turn of the loop

pub moved : (done : ℕ) (old mid new : Process) (step : Step) → silently_marked done (marked old) ≡ Some (marked mid) → weight mid.small + done ≡ weight old.small
    → Makes (next_step (state_of mid)) (Ok step) (state_of mid) (state_of new) → Shorter (Ok step) mid.small new.small → is_silent step ≡ true → MovesOn old new
moved done old mid new WasSilent made lighter makes shorter is =
    let less = shorter.0 in
    record {
      steps = suc done;
      silent = one_more done (state_of old) (state_of mid) (state_of new) (silently-marked done (marked old) (marked mid) made) makes;
      lighter = omega (arith, lighter, less);
      some = omega arith;
    }
moved done old mid new WasBlocked made lighter makes shorter is = absurd (true≢false (sym is))
moved done old mid new WouldFork made lighter makes shorter is = absurd (true≢false (sym is))
moved done old mid new (Emit e) made lighter makes shorter is = absurd (true≢false (sym is))
moved done old mid new WasOver made lighter makes shorter is = absurd (true≢false (sym is))

-- a process that has no step settles by its signals
stuck : (done : ℕ) (old mid new : Process) → silently done (state_of old) ≡ Some (state_of mid) → has_step (next_step (state_of mid)) ≡ false → silent_of (next_step (state_of mid)) ≡ None → state_of new ≡ state_of mid
    → Settles old (not (can_take (state_of new))) new
stuck done old mid new made none last same = by_take (can_take (state_of new)) refl
  where
    resting : rests (state_of mid) ≡ not (can_take (state_of new))
    resting = ap (λ b. not (b || can_take (state_of mid))) none ∙ ap (λ s. not (can_take s)) (sym same)

    by_take : (b : Bool) → can_take (state_of new) ≡ b → Settles old (not b) new
    by_take true can = never done (state_of old) (state_of mid) made (ends (state_of mid) last (resting ∙ ap not can))
    by_take false can = record { steps = done; silent = made ∙ ap Some (sym same); resting = ap rests same ∙ resting ∙ ap not can }

acting : (done : ℕ) (old mid : Process) → silently done (state_of old) ≡ Some (state_of mid) → has_step (next_step (state_of mid)) ≡ true → silent_of (next_step (state_of mid)) ≡ None → NeverRests (state_of old)
acting done old mid made some last = never done (state_of old) (state_of mid) made (ends (state_of mid) last (ap (λ b. not (b || can_take (state_of mid))) some))

pub settles : (done : ℕ) (old mid new : Process) (step : Step) → silently_marked done (marked old) ≡ Some (marked mid) → Makes (next_step (state_of mid)) (Ok step) (state_of mid) (state_of new) → is_silent step ≡ false
    → Settles old (rests_after step (state_of new)) new
settles done old mid new WasSilent made makes other = absurd (true≢false other)
settles done old mid new WasBlocked made makes other = stuck done old mid new (silently-marked done (marked old) (marked mid) made) (ap has_step makes.0) (ap silent_of makes.0) makes.1
settles done old mid new WouldFork made makes other = acting done old mid (silently-marked done (marked old) (marked mid) made) (ap has_step makes.0) (ap silent_of makes.0)
settles done old mid new (Emit e) made makes other = acting done old mid (silently-marked done (marked old) (marked mid) made) (ap has_step makes) (ap silent_of makes)
settles done old mid new WasOver made makes other = stuck done old mid new (silently-marked done (marked old) (marked mid) made) (ap has_step makes.0) (ap silent_of makes.0) makes.1

-- ---- the loop

pub settles_later : (steps : ℕ) (old mid new : Process) (resting : Bool) → silently steps (state_of old) ≡ Some (state_of mid) → Settles mid resting new → Settles old resting new
settles_later steps old mid new true made at = record { steps = steps + at.steps; silent = more steps at.steps (state_of old) (state_of mid) (state_of new) made at.silent; resting = at.resting }
settles_later steps old mid new false made none = never steps (state_of old) (state_of mid) made none
