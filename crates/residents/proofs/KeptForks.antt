-- What holds at the forks that a process comes to which rolls forward: so it does after its steps, and after a fork.
use Rattle.std.proofs.Common.{◌≡◌, ℕ, zero, suc, ◌+◌, refl, subst, arith, List, [], ◌∷◌, Option, Some, None}
use Rattle.std.specs.Prelude.{option_and_then}
use Rattle.std.proofs.lemmas.Option.{same_Some}
use Rattle.t32_base.specs.declared.process.Pid.{Pid}
use Rattle.t32_base.specs.declared.process.Counts.{Counts}
use Rattle.proc_state.specs.declared.process.Process.{Process}
use Rattle.proc_state.specs.State.{ProcState, state_of}
use Rattle.sys_calls.specs.declared.steps.Emission.TheVariants.{Mail as Sent, Exit as Ended}
use Rattle.sys_calls.specs.Calls.{Next, Silent, Blocked, Forks, Emits, Over}
use Rattle.sys_calls.specs.Next.{next_step}
use Rattle.roll_forward.specs.Advancing.{Going, going, gone_on, rolled_on}
use Rattle.roll_forward.specs.RunsOut.{RunsOn, RunsOut}
use Rattle.residents.specs.Bearing.{forked}
use Rattle.residents.specs.ForkingAgain.{AtForks, AtFront}
use Rattle.residents.specs.Quantum.{RollsOn}
use Rattle.residents.proofs.Standing.{runs_on}

-- what is asked of what comes after a step may be less
pub runs_less : (s : ProcState) (counts : Counts) (More Less : ProcState → Counts → List Pid → Type 0) (next : Next) (births : List Pid) → ((t : ProcState) (left : Counts) (rest : List Pid) → More t left rest → Less t left rest) → RunsOn s counts More next births
    → RunsOn s counts Less next births
runs_less s counts More Less (Silent t) births less on = less t counts births on
runs_less s counts More Less Blocked births less on = absurd on
runs_less s counts More Less Forks [] less on = absurd on
runs_less s counts More Less Forks (child ∷ rest) less on = less _ counts rest on
runs_less s counts More Less (Emits (Sent letter) t) births less on = (on.0, less t _ births on.1)
runs_less s counts More Less (Emits (Ended end) t) births less on = absurd on
runs_less s counts More Less Over births less on = absurd on

-- ---- the steps of the process itself

-- a step that is no fork leads to what comes after it
gone_step : (g h : Going) (After : ProcState → Counts → List Pid → Type 0) (next : Next) → RunsOn g.state g.counts After next g.births → gone_on g next ≡ Some h → After h.state h.counts h.births
gone_step g h After (Silent t) on e = subst (λ (k : Going). After k.state k.counts k.births) (same_Some _ h e) on
gone_step g h After Blocked on e = cc
gone_step g h After Forks on e = cc
gone_step g h After (Emits (Sent letter) t) on e = subst (λ (k : Going). After k.state k.counts k.births) (same_Some _ h e) on.1
gone_step g h After (Emits (Ended end) t) on e = cc
gone_step g h After Over on e = cc

-- steps that are withheld, before each of which something was left
pub at_forks_rolled : (Holds : ProcState → Pid → Type 0) (n ahead : ℕ) (g h : Going) → RunsOut g.state g.counts g.births (n + ahead) → rolled_on n g ≡ Some h → ((m : ℕ) → AtForks Holds m g.state g.counts g.births) → (m : ℕ) → AtForks Holds m h.state h.counts h.births
unfolding rolled_on
at_forks_rolled Holds zero ahead g h runs is holds m = subst (λ (k : Going). AtForks Holds m k.state k.counts k.births) (same_Some g h is) (holds m)
at_forks_rolled Holds (suc n) ahead g h runs is holds m =
    let count : suc n + ahead ≡ n + suc ahead = omega arith in
    let longer : RunsOut g.state g.counts g.births (n + suc ahead) = subst (λ k. RunsOut g.state g.counts g.births k) count runs in
    by_case (rolled_on n g) refl is (λ k before. runs_on n (suc ahead) g k longer before) (λ k before. at_forks_rolled Holds n (suc ahead) g k longer before holds (suc m))
  where
    by_case : (o : Option Going) → rolled_on n g ≡ o → option_and_then (λ k. gone_on k (next_step k.state)) o ≡ Some h → ((k : Going) → rolled_on n g ≡ Some k → RunsOut k.state k.counts k.births (suc ahead)) → ((k : Going) → rolled_on n g ≡ Some k → AtForks Holds (suc m) k.state k.counts k.births)
        → AtForks Holds m h.state h.counts h.births
    by_case None before last left at = cc
    by_case (Some k) before last left at = gone_step k h (λ t c b. AtForks Holds m t c b) (next_step k.state) (at k before (left k before).0).1 last

-- the same of a process
pub at_forks_on : (Holds : ProcState → Pid → Type 0) (n ahead : ℕ) (p : Process) (counts : Counts) (births : List Pid) (q : Process) (left : Counts) (unborn : List Pid) → RollsOn n ahead p counts births q left unborn → ((m : ℕ) → AtForks Holds m (state_of p) counts births)
    → (m : ℕ) → AtForks Holds m (state_of q) left unborn
at_forks_on Holds n ahead p counts births q left unborn on = at_forks_rolled Holds n ahead (going p counts births) (going q left unborn) on.runs_out on.rolled

-- at a fork it holds, and after it
pub at_fork_now : (Holds : ProcState → Pid → Type 0) (s : ProcState) (counts : Counts) (child : Pid) (births : List Pid) → next_step s ≡ Forks → ((m : ℕ) → AtForks Holds m s counts (child ∷ births)) → Holds s child
at_fork_now Holds s counts child births forks holds = (holds 1 refl).0 forks

pub at_forks_after : (Holds : ProcState → Pid → Type 0) (process : Process) (counts : Counts) (child : Pid) (births : List Pid) → next_step (state_of process) ≡ Forks → ((m : ℕ) → AtForks Holds m (state_of process) counts (child ∷ births))
    → (m : ℕ) → AtForks Holds m (state_of (forked process child)) counts births
at_forks_after Holds process counts child births forks holds m = subst (λ next. RunsOn (state_of process) counts (λ t left rest. AtForks Holds m t left rest) next (child ∷ births)) forks (holds (suc m) refl).1

-- less may be asked at each fork
pub at_forks_less : (More Less : ProcState → Pid → Type 0) → ((s : ProcState) (q : Pid) → More s q → Less s q) → (n : ℕ) (s : ProcState) (counts : Counts) (births : List Pid) → AtForks More n s counts births → AtForks Less n s counts births
at_forks_less More Less less zero s counts births holds = tt
at_forks_less More Less less (suc n) s counts births holds = λ left.
    let now = holds left in
    (λ forks. front births (now.0 forks), runs_less s counts (λ t left rest. AtForks More n t left rest) (λ t left rest. AtForks Less n t left rest) (next_step s) births (λ t left rest on. at_forks_less More Less less n t left rest on) now.1)
  where
    front : (births : List Pid) → AtFront More s births → AtFront Less s births
    front [] at = tt
    front (child ∷ rest) at = less s child at
