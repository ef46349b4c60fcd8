-- What steps of a process that rolls forward keep: its pid and the number of the next letter; and each leaves it fewer steps.
use Rattle.std.proofs.Common.{◌≡◌, ℕ, zero, suc, ◌+◌, ◌≤◌, add-zero, refl, sym, ◌∙◌, ap, subst, arith, Option, Some, None, option_and_then}
use Rattle.proc_state.specs.State.{ProcState}
use Rattle.sys_calls.specs.declared.steps.Emission.{Emission}
use Rattle.sys_calls.specs.declared.steps.Emission.TheVariants.{Mail as Sent, Exit as Ended}
use Rattle.sys_calls.specs.Calls.{Next, Silent, Blocked, Forks, Emits, Over}
use Rattle.sys_calls.specs.Next.{next_step}
use Rattle.sys_calls.specs.Small.{weight}
use Rattle.sys_calls.proofs.Counting.{silent_counts, emits_counts}
use Rattle.sys_calls.proofs.Weighing.{Leaves, next_leaves, emits_leaves}
use Rattle.roll_forward.specs.Advancing.{Going, gone_on, rolled_on}

pub record RolledKeeps (n : ℕ) (s t : ProcState) : Type 0 where
  pub pid : (t.small).pid ≡ (s.small).pid
  pub next : t.next ≡ s.next
  pub steps : (t.small).steps ≡ (s.small).steps + n
  pub weight : weight t.small + n ≤ weight s.small

one_more : (n : ℕ) (s q t : ProcState) → RolledKeeps n s q → RolledKeeps 1 q t → RolledKeeps (suc n) s t
one_more n s q t before last = record {
  pid = last.pid ∙ before.pid;
  next = last.next ∙ before.next;
  steps = omega (arith, before.steps, last.steps);
  weight = omega (arith, before.weight, last.weight);
}

silent_keeps : (q t : ProcState) → next_step q ≡ Silent t → RolledKeeps 1 q t
silent_keeps q t is =
    let counts = silent_counts q t is in
    record { pid = counts.pid; next = counts.next; steps = counts.steps; weight = subst (Leaves q) is (next_leaves q) }

sent_keeps : (q t : ProcState) (e : Emission) → next_step q ≡ Emits e t → RolledKeeps 1 q t
sent_keeps q t e is =
    let counts = emits_counts q t e is in
    record { pid = counts.pid; next = counts.next; steps = counts.steps; weight = emits_leaves q t e is }

last_keeps : (q h : Going) (next : Next) → next_step q.state ≡ next → gone_on q next ≡ Some h → RolledKeeps 1 q.state h.state
last_keeps q h (Silent t) is made = let same : t ≡ h.state = ap (λ (o : Option Going). state_or t o) made in subst (RolledKeeps 1 q.state) same (silent_keeps q.state t is)
  where
    state_or : ProcState → Option Going → ProcState
    state_or t None = t
    state_or t (Some g) = g.state
last_keeps q h Blocked is made = cc
last_keeps q h Forks is made = cc
last_keeps q h (Emits (Sent letter) t) is made = let same : t ≡ h.state = ap (λ (o : Option Going). state_or t o) made in subst (RolledKeeps 1 q.state) same (sent_keeps q.state t (Sent letter) is)
  where
    state_or : ProcState → Option Going → ProcState
    state_or t None = t
    state_or t (Some g) = g.state
last_keeps q h (Emits (Ended end) t) is made = cc
last_keeps q h Over is made = cc

-- n steps keep them
pub rolled_keeps : (n : ℕ) (g h : Going) → rolled_on n g ≡ Some h → RolledKeeps n g.state h.state
unfolding rolled_on
rolled_keeps zero g h made =
    let same : g ≡ h = cc in
    subst (λ (x : Going). RolledKeeps 0 g.state x.state) same (record { pid = refl; next = refl; steps = sym (add-zero ((g.state).small).steps); weight = omega arith })
rolled_keeps (suc n) g h made = by_case (rolled_on n g) refl made (λ q. rolled_keeps n g q)
  where
    by_case : (o : Option Going) → rolled_on n g ≡ o → option_and_then (λ q. gone_on q (next_step q.state)) o ≡ Some h → ((q : Going) → rolled_on n g ≡ Some q → RolledKeeps n g.state q.state) → RolledKeeps (suc n) g.state h.state
    by_case None is made more = cc
    by_case (Some q) is made more = one_more n g.state q.state h.state (more q is) (last_keeps q h (next_step q.state) refl made)
