-- A process that made steps again can make its further forks again.
use Rattle.std.proofs.Common.{◌≡◌, ℕ, ◌∙◌, sym, ap, subst, cond, List, ◌∷◌, Bool, true, false, Some, inl, inr, refl}
use Rattle.std.proofs.lemmas.Option.{same_Some}
use Rattle.t32_base.specs.declared.process.Pid.{Pid}
use Rattle.t32_base.specs.declared.process.Counts.{Counts}
use Rattle.proc_state.specs.declared.process.Process.{Process}
use Rattle.proc_state.specs.State.{ProcState, state_of}
use Rattle.roll_forward.specs.RunsOut.{nothing_left}
use Rattle.residents.specs.Bearing.{forked}
use Rattle.residents.specs.Changed.{with_changed}
use Rattle.residents.specs.ForkingAgain.{going_held, with_fork_again, AtForks, CanBeginAgain, CanForkAgainAt, CanForkAgainNow, ForksAgain, RollsPart, StandsAtForkAgain}
use Rattle.residents.specs.Quantum.{RollsTo}
use Rattle.residents.specs.Held.{Held, Runs, Rolls, held_of, is_waiting}
use Rattle.residents.proofs.ForkedHere.{begins_after_fork, begins_beside}
use Rattle.residents.proofs.Changing.{changed_there}
use Rattle.residents.proofs.KeptForks.{at_fork_now, at_forks_after, at_forks_less, at_forks_on}
use Rattle.residents.proofs.RollingParts.{fork_there}

-- what is held can make its forks again among these, where it rolls forward
abbrev ForksOn : List (Pid × Held) → Held → Type 0
ForksOn here (Rolls p counts births) = (n : ℕ) → AtForks (CanBeginAgain here) n (state_of p) counts births
ForksOn here _ = Unit {0}

on_there : (here : List (Pid × Held)) (p : Pid) (h : Held) → held_of here p ≡ Some h → ForksOn here h → CanForkAgainAt here p
on_there here p h there on process counts births at = subst (ForksOn here) (same_Some h (Rolls process counts births) (sym there ∙ at)) on

on_less : (old new : List (Pid × Held)) (h : Held) → ((s : ProcState) (q : Pid) → CanBeginAgain old s q → CanBeginAgain new s q) → ForksOn old h → ForksOn new h
on_less old new (Rolls p counts births) less on = λ n. at_forks_less (CanBeginAgain old) (CanBeginAgain new) less n (state_of p) counts births (on n)
on_less old new _ less on = tt

-- after steps
rolled_on_forks : (old : List (Pid × Held)) (p : Pid) (n : ℕ) (was now : Held) → held_of old p ≡ Some was → RollsTo n was now → CanForkAgainAt old p → ForksOn old now
rolled_on_forks old p n (Rolls q counts births) (Rolls r left unborn) there rolls can = λ m. at_forks_on (CanBeginAgain old) n rolls.0 q counts births r left unborn rolls.2 (can q counts births there) m
rolled_on_forks old p n was (Runs r) there rolls can = tt
rolled_on_forks old p n was now there rolls can = absurd rolls

unwaiting : (n : ℕ) (was now : Held) → RollsTo n was now → is_waiting now ≡ false
unwaiting n (Runs p) (Runs q) rolls = refl
unwaiting n (Rolls p counts births) (Runs q) rolls = refl
unwaiting n (Rolls p counts births) (Rolls q left unborn) rolls = refl
unwaiting n was now rolls = absurd rolls

-- after a fork
forked_on : (old : List (Pid × Held)) (process : Process) (counts : Counts) (births : List Pid) → ((n : ℕ) → AtForks (CanBeginAgain old) n (state_of process) counts births) → ForksOn old (going_held process counts births)
forked_on old process counts births on = by_left (nothing_left counts births)
  where
    by_left : (b : Bool) → ForksOn old (cond b (Runs process) (Rolls process counts births))
    by_left true = tt
    by_left false = on

pub part_keeps : (p : Pid) (n : ℕ) (old new : List (Pid × Held)) → RollsPart p n old new → CanForkAgainAt old p → CanForkAgainAt new p
part_keeps p n old new (inl steps) can =
    subst (λ hs. CanForkAgainAt hs p) (sym steps.here)
    (on_there (with_changed p steps.now old) p steps.now (changed_there p steps.now old steps.was steps.there)
    (on_less old (with_changed p steps.now old) steps.now (λ s q begins. begins_beside p steps.now old s q (unwaiting n steps.was steps.now steps.rolls) begins) (rolled_on_forks old p n steps.was steps.now steps.there steps.rolls can)))
part_keeps p n old new (inr fork) can =
    let f : ForksAgain p old new = fork.1 in
    let goes : Process = forked f.process f.child in
    let on = forked_on old goes f.counts f.births (λ m. at_forks_after (CanBeginAgain old) f.process f.counts f.child f.births f.forks (can f.process f.counts (f.child ∷ f.births) f.there) m) in
    on_there new p (going_held goes f.counts f.births) (fork_there p old new f)
    (subst (λ hs. ForksOn hs (going_held goes f.counts f.births)) (sym f.here)
    (on_less old (with_fork_again p f.process f.counts f.child f.births old) (going_held goes f.counts f.births) (λ s q begins. begins_after_fork p f.process f.counts f.child f.births old s q begins) on))

-- at a fork its child can begin
pub forks_now : (p : Pid) (here : List (Pid × Held)) (h : Held) → held_of here p ≡ Some h → StandsAtForkAgain h → CanForkAgainAt here p → CanForkAgainNow p here
forks_now p here h there stands can =
    let at = there ∙ ap Some stands.is in
    record { held = h; there = there; stands = stands; begins = at_fork_now (CanBeginAgain here) (state_of stands.process) stands.counts stands.child stands.births stands.forks (can stands.process stands.counts (stands.child ∷ stands.births) at) }
