-- The steps that a process makes again in a quantum, as its calls give them, and the rest of the quantum after them.
use Rattle.std.proofs.Common.{◌≡◌, ℕ, zero, suc, ◌+◌, ◌≤◌, ◌∙◌, refl, sym, ap, subst, arith, List, Bool, true, false, Ok, Err, true≢false}
use Rattle.std.specs.Prelude.{Result}
use Rattle.t32_base.specs.declared.process.ClusterNo.{ClusterNo}
use Rattle.t32_base.specs.declared.process.Pid.{Pid}
use Rattle.t32_base.specs.declared.streams.NoMemory.{NoMemory}
use Rattle.quanta.specs.declared.limits.Limits.{Limits}
use Rattle.residents.specs.declared.quantum.Quantum.{Quantum}
use Rattle.residents.specs.declared.quantum.Quantum.TheVariants.{Moved, Sent, Synced, Renewed, Stuck, Forks}
use Rattle.residents.specs.ChildrenFirst.{comes_after_at}
use Rattle.residents.specs.ForkingAgain.{rolls_at, CanForkAgainAt, CanForkAgainNow, NoPart, Part, RollsAgain, RollsPartAt, RollsQuantum, RollsStepsAt}
use Rattle.residents.specs.Residents.{RunsAt, RunsOnAt, are_rising, pids_in, stays_at}
use Rattle.residents.specs.Held.{Held, Rolls, runs_at}
use Rattle.residents.proofs.KeepsForking.{forks_now, part_keeps}
use Rattle.residents.proofs.RollingParts.{again_runs, changed_same, none_again, rolls_there}

-- no step was made of one that rolls forward: it stands before a fork
pub stands_now : (most : ℕ) (p : Pid) (made : ℕ) (old new : List (Pid × Held)) → RollsStepsAt most made p old new → made ≡ 0 → rolls_at new p ≡ true → CanForkAgainAt old p → CanForkAgainNow p new
stands_now most p zero old new steps none rolls can =
    let r = rolls_there p old (ap (λ hs. rolls_at hs p) (sym steps.0) ∙ rolls) in
    subst (CanForkAgainNow p) (sym steps.0) (forks_now p old (Rolls r.process r.counts r.births) r.there (steps.1 (Rolls r.process r.counts r.births) r.there refl) can)
stands_now most p (suc n) old new steps none rolls can = absurd (omega (arith, none))

-- a part more
pub again_more : (p : Pid) (most made more : ℕ) (old mid new : List (Pid × Held)) → RollsAgain p made old mid → RollsPartAt most more p mid new → 1 ≤ more → RollsAgain p (made + more) old new
again_more p most made zero old mid new before part some = absurd (omega (arith, some))
again_more p most made (suc n) old mid new before part some = Part before (suc n) new part.1

pub more_few : (p : Pid) (most more : ℕ) (old new : List (Pid × Held)) → RollsPartAt most more p old new → more ≤ most
more_few p most zero old new part = omega arith
more_few p most (suc n) old new part = part.0

pub more_forks : (p : Pid) (most more : ℕ) (old new : List (Pid × Held)) → RollsPartAt most more p old new → 1 ≤ more → CanForkAgainAt old p → CanForkAgainAt new p
more_forks p most zero old new part some can = absurd (omega (arith, some))
more_forks p most (suc n) old new part some can = part_keeps p (suc n) old new part.1 can

-- one that does not roll forward makes no part
pub none_rolled : (p : Pid) (here : List (Pid × Held)) → rolls_at here p ≡ false → RollsQuantum p 0 here here
none_rolled p here stopped = record { again = NoPart; few = omega arith; some = λ rolls. absurd (true≢false (sym rolls ∙ stopped)) }

-- ---- the rest of the quantum

module _ (limits : Limits) (by : ClusterNo) (childless : Bool) (p : Pid) (made : ℕ) (old mid : List (Pid × Held)) (q : RollsQuantum p made old mid) where
  pub runs_after : (new : List (Pid × Held)) (result : Result Quantum NoMemory) → RunsOnAt limits by childless made p mid result new → RunsAt limits by childless p old result new
  runs_after new (Ok Moved) r = record { made = made; mid = mid; again = q.again; was = r.was; now = r.now; there = r.there; ran = r.ran; here = r.here }
  runs_after new (Ok (Sent sending)) r = record { made = made; mid = mid; again = q.again; was = r.was; now = r.now; there = r.there; ran = r.ran; here = r.here }
  runs_after new (Ok (Synced posts)) r = record { made = made; mid = mid; again = q.again; was = r.was; now = r.now; there = r.there; ran = r.ran; here = r.here }
  runs_after new (Ok (Renewed posts)) r = absurd r
  runs_after new (Ok (Forks forking)) r = record { made = made; mid = mid; again = q.again; was = r.was; now = r.now; there = r.there; ran = r.ran; here = r.here }
  runs_after new (Ok Stuck) r =
      let same : mid ≡ old = none_again p made old mid q.again r.0 in
      (ap (λ hs. stays_at limits p hs) (sym same) ∙ r.1, r.2 ∙ same)
  runs_after new (Err fault) r = r.1 ∙ none_again p made old mid q.again r.0

  -- none where it rolls forward still
  pub runs_still : rolls_at mid p ≡ true → are_rising (pids_in mid) ≡ true → RunsAt limits by childless p old (Ok Moved) mid
  runs_still rolls rise =
      let r = rolls_there p mid rolls in
      let h : Held = Rolls r.process r.counts r.births in
      record {
        made = made;
        mid = mid;
        again = q.again;
        was = h;
        now = h;
        there = r.there;
        ran = record { silent = 0; some = omega (arith, q.some rolls); few = omega (arith, q.few); runs = (refl, refl); within = λ w. w };
        here = sym (changed_same p h mid rise r.there);
      }

  -- before it a child is to synchronise as it was before the steps, where there were none
  pub comes_as_before : made ≡ 0 → comes_after_at limits mid p ≡ true → comes_after_at limits old p ≡ true
  comes_as_before none comes = ap (λ hs. comes_after_at limits hs p) (sym (none_again p made old mid q.again none)) ∙ comes

  pub runs_then : 1 ≤ made → rolls_at mid p ≡ false → runs_at mid p ≡ true
  runs_then some stopped = again_runs p made old mid q.again some stopped
