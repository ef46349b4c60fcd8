-- Who moved, or sent something, or synchronised, or came to its fork could act.
use Rattle.std.proofs.Common.{◌≡◌, ℕ, zero, suc, ◌≤◌, refl, ◌∙◌, ap, arith, Option, Some, None, true}
use Rattle.std.specs.Prelude.{List, option_and_then}
use Rattle.std.proofs.lemmas.Bool.{or_left, or_right}
use Rattle.t32_base.specs.declared.process.ClusterNo.{ClusterNo}
use Rattle.proc_state.specs.declared.process.Process.{Process}
use Rattle.proc_state.specs.State.{ProcState, state_of}
use Rattle.sys_calls.specs.declared.steps.Emission.{Emission}
use Rattle.sys_calls.specs.Calls.{Next, Silent, Blocked, Forks, Emits, Over}
use Rattle.sys_calls.specs.Next.{next_step, has_step, silently, silent_of}
use Rattle.bus_msg.specs.declared.entry.Post.{Post}
use Rattle.quanta.specs.declared.limits.Limits.{Limits}
use Rattle.quanta.specs.Limited.{is_due}
use Rattle.residents.specs.declared.quantum.Forking.{Forking}
use Rattle.residents.specs.declared.quantum.Sending.{Sending}
use Rattle.residents.specs.Held.{Held, Runs, Rolls, can_act}
use Rattle.residents.specs.Quantum.{ComesToFork, Moves, Sends, Syncs}

-- ---- silent steps

-- no silent step leaves a process as it is
pub none_silent : (s t : ProcState) → silently 0 s ≡ Some t → s ≡ t
unfolding silently
none_silent s t is = cc

-- a process that makes a silent step has a step
pub silent_has : (n : ℕ) (s t : ProcState) → silently (suc n) s ≡ Some t → has_step (next_step s) ≡ true
unfolding silently
silent_has zero s t is = by_next (next_step s) is
  where
    by_next : (next : Next) → silent_of next ≡ Some t → has_step next ≡ true
    by_next (Silent u) h = refl
    by_next Blocked h = cc
    by_next Forks h = cc
    by_next (Emits e u) h = cc
    by_next Over h = cc
silent_has (suc n) s t is = by_case (silently (suc n) s) refl is (λ u. silent_has n s u)
  where
    by_case : (o : Option ProcState) → silently (suc n) s ≡ o → option_and_then (λ q. silent_of (next_step q)) o ≡ Some t → ((u : ProcState) → silently (suc n) s ≡ Some u → has_step (next_step s) ≡ true) → has_step (next_step s) ≡ true
    by_case None is last more = cc
    by_case (Some u) is last more = more u is

-- so has one that makes some
pub some_has : (n : ℕ) (s t : ProcState) → 1 ≤ n → silently n s ≡ Some t → has_step (next_step s) ≡ true
some_has zero s t some silent = absurd (omega (arith, some))
some_has (suc n) s t some silent = silent_has n s t silent

-- so has one that sends something after silent steps
pub sends_has : (n : ℕ) (s before t : ProcState) (e : Emission) → silently n s ≡ Some before → next_step before ≡ Emits e t → has_step (next_step s) ≡ true
sends_has zero s before t e silent sends =
    let same : s ≡ before = none_silent s before silent in
    ap (λ (q : ProcState). has_step (next_step q)) same ∙ ap has_step sends
sends_has (suc n) s before t e silent sends = silent_has n s before silent

-- so has one that stands before its fork after silent steps
pub forks_has : (n : ℕ) (s now : ProcState) → silently n s ≡ Some now → next_step now ≡ Forks → has_step (next_step s) ≡ true
forks_has zero s now silent forks =
    let same : s ≡ now = none_silent s now silent in
    ap (λ (q : ProcState). has_step (next_step q)) same ∙ ap has_step forks
forks_has (suc n) s now silent forks = silent_has n s now silent

-- ---- who could act

-- one that runs and has a step can act
step_acts : (limits : Limits) (p : Process) → has_step (next_step (state_of p)) ≡ true → can_act limits (Runs p) ≡ true
step_acts limits p has = or_left (has_step (next_step (state_of p))) (is_due limits p) has

-- who moved could act, where it made no step before
pub moves_can : (limits : Limits) (most : ℕ) (old new : Held) → Moves limits most 0 old new → can_act limits old ≡ true
moves_can limits most (Runs p) (Runs q) m = step_acts limits p (some_has m.silent (state_of p) (state_of q) (omega (arith, m.some)) (m.runs).silent)
moves_can limits most (Rolls p counts births) new m = refl
moves_can limits most old new m = absurd m.runs

-- who sent something could act
pub sends_can : (limits : Limits) (most made : ℕ) (old : Held) (sending : Sending) (new : Held) → Sends limits most made old sending new → can_act limits old ≡ true
sends_can limits most made old sending new s =
    ap (can_act limits) s.old_is ∙ step_acts limits s.between (sends_has s.silent (state_of s.between) (state_of s.before) (state_of s.now) sending.emission (s.runs).silent s.sends)

-- who came to its fork could act
pub fork_can : (limits : Limits) (most made : ℕ) (old : Held) (forking : Forking) (new : Held) → ComesToFork limits most made old forking new → can_act limits old ≡ true
fork_can limits most made old forking new s = ap (can_act limits) s.old_is ∙ step_acts limits s.between (forks_has s.silent (state_of s.between) (state_of s.now) (s.runs).silent s.forks)

-- who synchronised could act
pub syncs_can : (limits : Limits) (by : ClusterNo) (old : Held) (posts : List Post) (new : Held) → Syncs limits by old posts new → can_act limits old ≡ true
syncs_can limits by old posts new s = ap (can_act limits) s.old_is ∙ or_right (has_step (next_step (state_of s.process))) (is_due limits s.process) s.due
