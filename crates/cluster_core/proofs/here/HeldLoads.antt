-- What the processes of a cluster have left, where one of them changes.
use Rattle.std.proofs.Common.{◌≡◌, ℕ, zero, suc, length, ◌+◌, ◌*◌, ◌≤◌, refl, sym, ◌∙◌, ap, arith, List, [], ◌∷◌, Bool, true, false, cond, ◌||◌, eqb, ltb, eqb-true, Some}
use Rattle.std.specs.Prelude.{find, option_map}
use Rattle.std.specs.List.{list_any, sum_by}
use Rattle.std.proofs.lemmas.List.Sums.{sum_by-cons}
use Rattle.std.proofs.lemmas.Bool.{or_parts}
use Rattle.t32_base.specs.declared.process.Pid.{Pid}
use Rattle.t32_base.specs.declared.process.Counts.{Counts}
use Rattle.proc_state.specs.declared.process.Process.{Process}
use Rattle.proc_state.specs.State.{state_of}
use Rattle.sys_calls.specs.Small.{weight_with_children}
use Rattle.sys_calls.proofs.Bearing.{silently_lightens}
use Rattle.bus_msg.specs.Places.{same_pid}
use Rattle.cert_sched.proofs.RisingLaws.{NoTwo}
use Rattle.roll_forward.specs.Advancing.{Going, going, rolled_on}
use Rattle.write_count.specs.Counting.{no_counts}
use Rattle.quanta.specs.Quantum.{RunsOn}
use Rattle.cluster_core.proofs.rolling.RolledLoad.{rolled_lightens}
use Rattle.residents.specs.Held.{Held, Runs, Rolls, Waits, held_of}
use Rattle.cluster_core.specs.View.{has_moved, held_load, process_load}
use Rattle.residents.specs.Quantum.{RollsTo, RunsTo}
use Rattle.residents.specs.Residents.{pids_in}
use Rattle.residents.specs.Changed.{with_changed}

-- ---- one of them has fewer steps left

abbrev pub sum_held : List (Pid × Held) → ℕ
sum_held here = sum_by (λ (e : Pid × Held). held_load e.1) here

abbrev weight_of : Pid × Held → ℕ
weight_of e = held_load e.1

others_same : (p : Pid) (now : Held) (here : List (Pid × Held)) → list_any (λ m. eqb m p.0) (pids_in here) ≡ false → sum_held (with_changed p now here) ≡ sum_held here
others_same p now [] none = refl
others_same p now (e ∷ here) none =
    let parts = or_parts (eqb (e.0).0 p.0) (list_any (λ m. eqb m p.0) (pids_in here)) none in
    ap (λ b. sum_held (cond b (p, now) e ∷ with_changed p now here)) parts.0 ∙ sum_by-cons weight_of e (with_changed p now here) ∙ ap (λ n. held_load e.1 + n) (others_same p now here parts.1)
    ∙ sym (sum_by-cons weight_of e here)

pub one_lighter : (p : Pid) (was now : Held) (n : ℕ) (here : List (Pid × Held)) → NoTwo (pids_in here) → held_of here p ≡ Some was → held_load now + n ≤ held_load was → sum_held (with_changed p now here) + n ≤ sum_held here
one_lighter p was now n [] two at less = cc
one_lighter p was now n (e ∷ here) two at less = by_test (same_pid e.0 p) refl at (one_lighter p was now n here two.1)
  where
    by_test : (b : Bool) → same_pid e.0 p ≡ b → option_map (λ (e : Pid × Held). e.1) (cond b (Some e) (find (λ (e : Pid × Held). same_pid e.0 p) here)) ≡ Some was
        → (held_of here p ≡ Some was → held_load now + n ≤ held_load was → sum_held (with_changed p now here) + n ≤ sum_held here)
        → sum_held (cond b (p, now) e ∷ with_changed p now here) + n ≤ sum_held (e ∷ here)
    by_test true is at more =
        let same : e.1 ≡ was = cc in
        let rest = others_same p now here (ap (λ m. list_any (λ k. eqb k m) (pids_in here)) (sym (eqb-true (e.0).0 p.0 is)) ∙ two.0) in
        omega (arith, sum_by-cons weight_of (p, now) (with_changed p now here), sum_by-cons weight_of e here, ap held_load same, rest, less)
    by_test false is at more = omega (arith, sum_by-cons weight_of e (with_changed p now here), sum_by-cons weight_of e here, more at less)

-- ---- what one of them has left

-- the most steps that what is held, and the children that it may still fork, have left
abbrev pub held_weight : Held → ℕ
held_weight (Runs p) = weight_with_children p.small
held_weight (Rolls p counts births) = weight_with_children p.small
held_weight (Waits waiting) = 0

-- two are counted for each, and one more at most
pub process_bounds : (p : Process) → (2 * weight_with_children p.small ≤ process_load p) × (process_load p ≤ 2 * weight_with_children p.small + 1)
process_bounds p = by_test (has_moved p)
  where
    by_test : (b : Bool) → (2 * weight_with_children p.small ≤ 2 * weight_with_children p.small + cond b 1 0) × (2 * weight_with_children p.small + cond b 1 0 ≤ 2 * weight_with_children p.small + 1)
    by_test true = (omega arith, omega arith)
    by_test false = (omega arith, omega arith)

load_bounds : (h : Held) → (2 * held_weight h ≤ held_load h) × (held_load h ≤ 2 * held_weight h + 1)
load_bounds (Runs p) = process_bounds p
load_bounds (Rolls p counts births) = process_bounds p
load_bounds (Waits waiting) = (omega arith, omega arith)

-- so one step fewer is less, whether it has moved or not
pub fewer_loads : (was now : Held) → held_weight now + 1 ≤ held_weight was → held_load now + 1 ≤ held_load was
fewer_loads was now fewer = omega (arith, fewer, (load_bounds was).0, (load_bounds now).1)

-- steps that are withheld leave so many fewer
pub rolled_leaves : (n : ℕ) (was between : Held) → RollsTo n was between → held_weight between + n ≤ held_weight was
rolled_leaves n (Runs p) (Runs q) rolls = omega (arith, rolls.0, ap (λ (x : Process). weight_with_children x.small) rolls.1)
rolled_leaves n (Rolls p counts births) (Runs q) rolls = rolled_lightens n (going p counts births) (going q rolls.0 rolls.1) (rolls.2).rolled
rolled_leaves n (Rolls p counts births) (Rolls q left unborn) rolls = rolled_lightens n (going p counts births) (going q left unborn) (rolls.2).rolled
rolled_leaves n was between rolls = absurd rolls

-- and so do silent ones
pub silent_leaves : (m : ℕ) (between now : Held) → RunsTo m between now → held_weight now + m ≤ held_weight between
silent_leaves m (Runs p) (Runs q) runs = silently_lightens m (state_of p) (state_of q) runs.silent
silent_leaves m (Rolls p counts births) now runs = omega (arith, runs.0, ap held_weight runs.1)
silent_leaves m between now runs = absurd runs

-- where no step was made all is as it was
same_load : (p q : Process) (counts left : Counts) (births unborn : List Pid) → rolled_on 0 (going p counts births) ≡ Some (going q left unborn) → q.since ≡ p.since → process_load q ≡ process_load p
unfolding rolled_on
same_load p q counts left births unborn is since =
    let same : going p counts births ≡ going q left unborn = cc in
    λ i. load_of (sym same i) (since i)
  where
    load_of : Going → ℕ → ℕ
    load_of g since = 2 * weight_with_children ((g.state).small) + cond (ltb since ((g.state).small).steps || ltb 0 (length g.read)) 1 0

-- silent steps leave no more
pub silent_load : (m : ℕ) (p q : Process) → RunsOn m p q → held_load (Runs q) ≤ held_load (Runs p)
silent_load zero p q runs = omega (arith, same_load p q no_counts no_counts [] [] (runs.ran no_counts []) runs.since)
silent_load (suc m) p q runs =
    let fewer : held_weight (Runs q) + 1 ≤ held_weight (Runs p) = omega (arith, silently_lightens (suc m) (state_of p) (state_of q) runs.silent) in
    omega (arith, fewer_loads (Runs p) (Runs q) fewer)

-- nor does one that rolls forward still, which makes none
pub silent_no_heavier : (m : ℕ) (was now : Held) → RunsTo m was now → held_load now + 0 ≤ held_load was
silent_no_heavier m (Runs p) (Runs q) runs = omega (arith, silent_load m p q runs)
silent_no_heavier m (Rolls p counts births) now runs = omega (arith, ap held_load runs.1)
silent_no_heavier m was now runs = absurd runs
