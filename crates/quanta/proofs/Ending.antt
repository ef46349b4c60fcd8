-- What the rest of a quantum answers, where it ends by no emission.
use Rattle.std.proofs.Common.{◌≡◌, ℕ, zero, suc, ◌+◌, ◌≤◌, ◌∙◌, refl, sym, ap, subst, arith, true, false, not, ◌||◌, Bool, cond, eqb, ne_eqb, Ok}
use Rattle.std.proofs.lemmas.Bool.{both_ways, eq-eqb, not_from_false, or_left, or_right}
use Rattle.proc_state.specs.declared.process.Process.{Process}
use Rattle.proc_state.specs.State.{state_of}
use Rattle.sys_calls.specs.Next.{next_step, has_step}
use Rattle.quanta.specs.declared.limits.Limits.{Limits}
use Rattle.quanta.specs.declared.quantum.Ran.TheVariants.{Moved, Stuck}
use Rattle.quanta.specs.Limited.{is_due}
use Rattle.quanta.specs.Quantum.{RunsOn, RunsRest, goes_no_further}

-- ---- a quantum that is over

-- one that has no step
no_step_ends : (limits : Limits) (made : ℕ) (p : Process) → has_step (next_step (state_of p)) ≡ false → goes_no_further limits 64 made p ≡ true
no_step_ends limits made p none =
    let stuck : Bool = not (has_step (next_step (state_of p))) in
    or_right (eqb made 64 || is_due limits p) stuck (not_from_false (has_step (next_step (state_of p))) none)

-- one that is due
due_ends : (limits : Limits) (made : ℕ) (p : Process) → is_due limits p ≡ true → goes_no_further limits 64 made p ≡ true
due_ends limits made p due =
    let stuck : Bool = not (has_step (next_step (state_of p))) in
    or_left (eqb made 64 || is_due limits p) stuck (or_right (eqb made 64) (is_due limits p) due)

-- one of as many steps as there may be
full_ends : (limits : Limits) (made : ℕ) (p : Process) → 64 ≤ made → made ≤ 64 → goes_no_further limits 64 made p ≡ true
full_ends limits made p full few =
    let stuck : Bool = not (has_step (next_step (state_of p))) in
    or_left (eqb made 64 || is_due limits p) stuck (or_left (eqb made 64) (is_due limits p) (eq-eqb made 64 (omega (arith, full, few))))

-- ---- what is answered then

-- silent steps that were made, one at least with those before, and none more
moved : (limits : Limits) (before m made : ℕ) (old new : Process) → made ≡ before + m → 1 ≤ made → made ≤ 64 → RunsOn m old new → goes_no_further limits 64 made new ≡ true → RunsRest limits 64 before old (Ok Moved) new
moved limits before m made old new count some few silent ends = record {
  moves = record { steps = m; some = omega (arith, count, some); few = omega (arith, count, few); silent = silent };
  ends = ap (λ n. goes_no_further limits 64 n new) (sym count) ∙ ends;
}

-- it made so many steps, and cannot go on
pub none_left : (limits : Limits) (before m made : ℕ) (old mid new : Process) → made ≡ before + m → RunsOn m old mid → made ≤ 64 → (m ≡ 0 → mid ≡ old) → has_step (next_step (state_of mid)) ≡ false → new ≡ mid
    → RunsRest limits 64 before old (Ok (cond (eqb made 0) Stuck Moved)) new
none_left limits before m zero old mid new count silent few stood none same =
    let no_more : m ≡ 0 = omega (arith, count) in
    let unstarted : before ≡ 0 = omega (arith, count) in
    (unstarted, ap (λ (p : Process). has_step (next_step (state_of p))) (sym (stood no_more)) ∙ none, same ∙ stood no_more)
none_left limits before m (suc n) old mid new count silent few stood none same =
    let there : RunsRest limits 64 before old (Ok Moved) mid = moved limits before m (suc n) old mid count (omega arith) few silent (no_step_ends limits (suc n) mid none) in
    let has_moved : RunsRest limits 64 before old (Ok Moved) new = subst (λ p. RunsRest limits 64 before old (Ok Moved) p) (sym same) there in
    subst (λ b. RunsRest limits 64 before old (Ok (cond b Stuck Moved)) new) (sym (ne_eqb (suc n) 0 (λ h. omega (arith, h)))) has_moved

-- it made as many steps as a quantum may have
pub over_full : (limits : Limits) (before m made : ℕ) (old new : Process) → made ≡ before + m → RunsOn m old new → made ≤ 64 → 64 ≤ made → RunsRest limits 64 before old (Ok Moved) new
over_full limits before m made old new count silent few full = moved limits before m made old new count (omega (arith, full)) few silent (full_ends limits made new full few)

-- it is due, and was not where it made none
pub over_due : (limits : Limits) (before m made : ℕ) (old new : Process) → made ≡ before + m → RunsOn m old new → made ≤ 64 → (m ≡ 0 → new ≡ old) → (before ≡ 0 → is_due limits old ≡ false) → is_due limits new ≡ true
    → RunsRest limits 64 before old (Ok Moved) new
over_due limits before m made old new count silent few stood begins due = moved limits before m made old new count (some made refl) few silent (due_ends limits made new due)
  where
    some : (n : ℕ) → made ≡ n → 1 ≤ n
    some zero is =
        let no_more : m ≡ 0 = omega (arith, count, is) in
        let unstarted : before ≡ 0 = omega (arith, count, is) in
        absurd (both_ways (is_due limits new) (ap (is_due limits) (stood no_more) ∙ begins unstarted) due)
    some (suc n) is = omega arith
