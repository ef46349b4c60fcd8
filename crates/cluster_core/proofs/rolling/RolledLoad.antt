-- Steps of roll-forward leave less to a process and the children that it may still fork.
use Rattle.std.proofs.Common.{◌≡◌, ℕ, zero, suc, ◌+◌, ◌≤◌, refl, ap, arith, Option, Some, None, option_and_then}
use Rattle.std.specs.Option.{option_map_or}
use Rattle.proc_state.specs.State.{ProcState}
use Rattle.sys_calls.specs.declared.steps.Emission.TheVariants.{Mail as Sent, Exit as Ended}
use Rattle.sys_calls.specs.Calls.{Next, Silent, Blocked, Forks, Emits, Over}
use Rattle.sys_calls.specs.Next.{next_step}
use Rattle.sys_calls.specs.Small.{weight_with_children}
use Rattle.sys_calls.proofs.Bearing.{emits_lightens, silent_lightens}
use Rattle.roll_forward.specs.Advancing.{Going, gone_on, rolled_on}

abbrev going_weight : Going → ℕ
going_weight g = weight_with_children (g.state).small

last_lightens : (g h : Going) (next : Next) → next_step g.state ≡ next → gone_on g next ≡ Some h → going_weight h + 1 ≤ going_weight g
last_lightens g h (Silent t) is made = let same : t ≡ h.state = ap (λ o. option_map_or (λ (k : Going). k.state) o t) made in omega (arith, silent_lightens g.state t is, ap (λ (s : ProcState). weight_with_children s.small) same)
last_lightens g h Blocked is made = cc
last_lightens g h Forks is made = cc
last_lightens g h (Emits (Sent letter) t) is made =
    let same : t ≡ h.state = ap (λ o. option_map_or (λ (k : Going). k.state) o t) made in
    omega (arith, emits_lightens g.state t (Sent letter) is, ap (λ (s : ProcState). weight_with_children s.small) same)
last_lightens g h (Emits (Ended end) t) is made = cc
last_lightens g h Over is made = cc

pub rolled_lightens : (n : ℕ) (g h : Going) → rolled_on n g ≡ Some h → weight_with_children (h.state).small + n ≤ weight_with_children (g.state).small
unfolding rolled_on
rolled_lightens zero g h made = let same : g ≡ h = cc in omega (arith, ap going_weight same)
rolled_lightens (suc n) g h made = by_case (rolled_on n g) refl made (λ k. rolled_lightens n g k)
  where
    by_case : (o : Option Going) → rolled_on n g ≡ o → option_and_then (λ k. gone_on k (next_step k.state)) o ≡ Some h → ((k : Going) → rolled_on n g ≡ Some k → going_weight k + n ≤ going_weight g) → going_weight h + suc n ≤ going_weight g
    by_case None is made more = cc
    by_case (Some k) is made more = omega (arith, more k is, last_lightens k h (next_step k.state) refl made)
