-- Steps that are made again leave less to the processes of a cluster, and so does a fork with the child that begins by it.
use Rattle.std.proofs.Common.{◌≡◌, ℕ, ◌+◌, ◌*◌, ◌≤◌, refl, sym, ◌∙◌, ap, subst, arith, List, [], ◌∷◌, Bool, true, false, cond, eqb, eqb-true, is_none, inl, inr}
use Rattle.std.specs.List.{list_any}
use Rattle.std.proofs.lemmas.List.Sums.{sum_by-cons}
use Rattle.std.proofs.lemmas.Bool.{or_parts}
use Rattle.t32_base.specs.declared.process.Pid.{Pid}
use Rattle.t32_base.specs.declared.process.Counts.{Counts}
use Rattle.proc_state.specs.declared.process.Process.{Process}
use Rattle.proc_state.specs.State.{state_of}
use Rattle.sys_calls.specs.Fork.{child_small}
use Rattle.sys_calls.specs.Small.{weight_with_children}
use Rattle.sys_calls.proofs.Bearing.{fork_lightens}
use Rattle.sys_calls.proofs.ForkLaws.{forks_can}
use Rattle.roll_forward.specs.RunsOut.{nothing_left}
use Rattle.bus_msg.specs.Places.{same_pid}
use Rattle.cert_sched.proofs.RisingLaws.{NoTwo}
use Rattle.residents.specs.Bearing.{forked, newborn}
use Rattle.residents.specs.Changed.{with_changed}
use Rattle.residents.specs.ForkingAgain.{begun_with, going_held, with_begun, with_mail_of, ForksAgain, NoPart, Part, RollsAgain, RollsPart}
use Rattle.residents.specs.Residents.{pids_in}
use Rattle.residents.specs.Held.{Held, Runs, Rolls, Waits}
use Rattle.cluster_core.specs.View.{held_load, process_load}
use Rattle.residents.proofs.Changing.{pids_changed}
use Rattle.cluster_core.proofs.here.HeldLoads.{fewer_loads, one_lighter, process_bounds, rolled_leaves, sum_held}
use Rattle.residents.proofs.RollingParts.{pids_begun}

-- ---- the pids stay

part_pids : (p : Pid) (n : ℕ) (old new : List (Pid × Held)) → RollsPart p n old new → pids_in new ≡ pids_in old
part_pids p n old new (inl steps) = ap pids_in steps.here ∙ pids_changed p steps.now old
part_pids p n old new (inr fork) =
    let f = fork.1 in
    let now = going_held (forked f.process f.child) f.counts f.births in
    ap pids_in f.here ∙ pids_begun f.child (newborn f.process f.child) (with_changed p now old) ∙ pids_changed p now old

pub again_pids : (p : Pid) (n : ℕ) (old new : List (Pid × Held)) → RollsAgain p n old new → pids_in new ≡ pids_in old
again_pids p _ _ _ NoPart = refl
again_pids p _ _ _ (Part {m} {old} {mid} before k new part) = part_pids p k mid new part ∙ again_pids p m old mid before

-- ---- a child that begins

going_load : (q : Process) (counts : Counts) (births : List Pid) → held_load (going_held q counts births) ≡ process_load q
going_load q counts births = by_left (nothing_left counts births)
  where
    by_left : (b : Bool) → held_load (cond b (Runs q) (Rolls q counts births)) ≡ process_load q
    by_left true = refl
    by_left false = refl

-- it has no more left than as it was born
module _ (process : Process) (child : Pid) where
  abbrev left : ℕ
  left = 2 * weight_with_children (child_small process.small child)

  begun_load : (h : Held) → held_load (begun_with (newborn process child) h) ≤ held_load h + left
  begun_load (Waits w) = by_none (is_none (w.kept).state)
    where
      by_none : (b : Bool) → held_load (cond b (going_held (with_mail_of w.kept (newborn process child)) (w.kept).counts (w.kept).births) (Waits w)) ≤ held_load (Waits w) + left
      by_none true = omega (arith, going_load (with_mail_of w.kept (newborn process child)) (w.kept).counts (w.kept).births)
      by_none false = omega arith
  begun_load _ = omega arith

  none_begun : (here : List (Pid × Held)) → list_any (λ m. eqb m child.0) (pids_in here) ≡ false → sum_held (with_begun child (newborn process child) here) ≡ sum_held here
  none_begun [] none = refl
  none_begun (e ∷ here) none =
      let parts = or_parts (eqb (e.0).0 child.0) (list_any (λ m. eqb m child.0) (pids_in here)) none in
      ap (λ b. sum_held (cond b (e.0, begun_with (newborn process child) e.1) e ∷ with_begun child (newborn process child) here)) parts.0
      ∙ sum_by-cons (λ (e : Pid × Held). held_load e.1) e (with_begun child (newborn process child) here) ∙ ap (λ n. held_load e.1 + n) (none_begun here parts.1) ∙ sym (sum_by-cons (λ (e : Pid × Held). held_load e.1) e here)

  begun_sum : (here : List (Pid × Held)) → NoTwo (pids_in here) → sum_held (with_begun child (newborn process child) here) ≤ sum_held here + left
  begun_sum [] two = omega arith
  begun_sum (e ∷ here) two = by_test (same_pid e.0 child) refl (begun_sum here two.1)
    where
      by_test : (b : Bool) → same_pid e.0 child ≡ b → sum_held (with_begun child (newborn process child) here) ≤ sum_held here + left
          → sum_held (cond b (e.0, begun_with (newborn process child) e.1) e ∷ with_begun child (newborn process child) here) ≤ sum_held (e ∷ here) + left
      by_test true is more =
          let rest = none_begun here (ap (λ m. list_any (λ k. eqb k m) (pids_in here)) (sym (eqb-true (e.0).0 child.0 is)) ∙ two.0) in
          omega (arith, sum_by-cons (λ (e : Pid × Held). held_load e.1) (e.0, begun_with (newborn process child) e.1) (with_begun child (newborn process child) here), sum_by-cons (λ (e : Pid × Held). held_load e.1) e here, rest, begun_load e.1)
      by_test false is more = omega (arith, sum_by-cons (λ (e : Pid × Held). held_load e.1) e (with_begun child (newborn process child) here), sum_by-cons (λ (e : Pid × Held). held_load e.1) e here, more)

-- ---- the parts

forks_lighter : (p : Pid) (old new : List (Pid × Held)) → NoTwo (pids_in old) → ForksAgain p old new → sum_held new + 1 ≤ sum_held old
forks_lighter p old new two f =
    let now = going_held (forked f.process f.child) f.counts f.births in
    let lighter = fork_lightens (state_of f.process) f.child (forks_can (state_of f.process) f.forks) in
    let born : ℕ = left f.process f.child in
    let less : held_load now + (born + 1) ≤ process_load f.process = omega (arith, going_load (forked f.process f.child) f.counts f.births, (process_bounds (forked f.process f.child)).1, (process_bounds f.process).0, lighter) in
    let parent : sum_held (with_changed p now old) + (born + 1) ≤ sum_held old = one_lighter p (Rolls f.process f.counts (f.child ∷ f.births)) now (born + 1) old two f.there less in
    let child : sum_held (with_begun f.child (newborn f.process f.child) (with_changed p now old)) ≤ sum_held (with_changed p now old) + born = begun_sum f.process f.child (with_changed p now old) (subst NoTwo (sym (pids_changed p now old)) two) in
    omega (arith, parent, child, ap sum_held f.here)

part_lightens : (p : Pid) (n : ℕ) (old new : List (Pid × Held)) → NoTwo (pids_in old) → RollsPart p n old new → sum_held new + 1 ≤ sum_held old
part_lightens p n old new two (inl steps) =
    omega (arith, one_lighter p steps.was steps.now 1 old two steps.there (fewer_loads steps.was steps.now (omega (arith, steps.some, rolled_leaves n steps.was steps.now steps.rolls))), ap sum_held steps.here)
part_lightens p n old new two (inr fork) = forks_lighter p old new two fork.1

pub again_no_heavier : (p : Pid) (n : ℕ) (old new : List (Pid × Held)) → RollsAgain p n old new → NoTwo (pids_in old) → sum_held new ≤ sum_held old
again_no_heavier p _ _ _ NoPart two = omega arith
again_no_heavier p _ _ _ (Part {m} {old} {mid} before k new part) two = omega (arith, again_no_heavier p m old mid before two, part_lightens p k mid new (subst NoTwo (sym (again_pids p m old mid before)) two) part)

pub again_lightens : (p : Pid) (n : ℕ) (old new : List (Pid × Held)) → RollsAgain p n old new → NoTwo (pids_in old) → 1 ≤ n → sum_held new + 1 ≤ sum_held old
again_lightens p _ _ _ NoPart two some = absurd (omega (arith, some))
again_lightens p _ _ _ (Part {m} {old} {mid} before k new part) two some = omega (arith, again_no_heavier p m old mid before two, part_lightens p k mid new (subst NoTwo (sym (again_pids p m old mid before)) two) part)
