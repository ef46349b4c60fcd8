-- Which child is to synchronise before a process that is here, and who waits for it.
use Rattle.std.proofs.Common.{◌≡◌, arith, cond, Bool, ◌||◌, refl, sym, ◌∙◌, ap, List, [], length, Option, Some, None, is_none, is_some, true, false, true≢false}
use Rattle.std.specs.Prelude.{option_and_then, not, replicate, Result, Ok, Err, IfOk, OnErr}
use Rattle.std.specs.Option.{option_map_or}
use Rattle.std.proofs.lemmas.Bool.{or_left, or_right}
use Rattle.std.proofs.lemmas.Bool.Decides.{nat_tests}
use Rattle.t32_base.specs.declared.process.Pid.{Pid}
use Rattle.t32_base.specs.declared.process.ClusterNo.{ClusterNo}
use Rattle.t32_base.specs.declared.streams.NoMemory.{NoMemory}
use Rattle.bus_msg.specs.declared.entry.Post.{Post}
use Rattle.proc_state.specs.declared.process.Process.{Process}
use Rattle.proc_state.specs.State.{can_take, state_of}
use Rattle.sys_calls.specs.Calls.{Next, Silent, Blocked, Forks, Emits, Over}
use Rattle.sys_calls.specs.Next.{next_step, has_step, is_exit}
use Rattle.birth_notice.specs.Family.{first_unsynced}
use Rattle.sync_point.specs.Batch.{cut_of, synced}
use Rattle.sync_point.specs.Due.{is_due_by}
use Rattle.sync_point.proofs.Cuts.{cut_keeps, cut_untaken, synced_takes_none}
use Rattle.quanta.specs.declared.limits.Limits.{Limits}
use Rattle.residents.specs.Duty.{DutyView, is_owed}
use Rattle.quanta.specs.Limited.{is_due}
use Rattle.residents.specs.ChildrenFirst.{child_before, comes_after, comes_after_at, comes_after_children, is_hindered}
use Rattle.residents.specs.Quantum.{SyncsNow}
use Rattle.residents.specs.Held.{Held, Runs, can_act, held_of, page_lacked, runs_at}

-- ---- who comes after its children

exit_has : (next : Next) → is_exit next ≡ true → has_step next ≡ true
exit_has (Silent p) is = absurd (true≢false (sym is))
exit_has Blocked is = absurd (true≢false (sym is))
exit_has Forks is = absurd (true≢false (sym is))
exit_has (Emits e p) is = refl
exit_has Over is = absurd (true≢false (sym is))

-- it can move
pub comes_acts : (limits : Limits) (h : Held) → comes_after_children limits h ≡ true → can_act limits h ≡ true
comes_acts limits (Runs p) comes = by_due (is_due limits p) comes
  where
    by_due : (b : Bool) → (b || is_exit (next_step (state_of p))) ≡ true → (has_step (next_step (state_of p)) || b) ≡ true
    by_due true comes = or_right (has_step (next_step (state_of p))) true refl
    by_due false comes = or_left (has_step (next_step (state_of p))) false (exit_has (next_step (state_of p)) comes)
comes_acts limits _ comes = absurd (true≢false (sym comes))

-- one that has just synchronised is due only where it was
due_still : (limits : Limits) (p : Process) → is_due limits (synced p) ≡ true → is_due limits p ≡ true
due_still limits p due = or_left (is_due_by p limits.reads limits.steps) (can_take (state_of p)) (by_limits (cut_keeps p).steps (first (is_due_by (synced p) limits.reads limits.steps) (can_take (state_of (synced p))) (synced_takes_none p) due))
  where
    first : (a b : Bool) → b ≡ false → (a || b) ≡ true → a ≡ true
    first true b none due = refl
    first false b none due = absurd (true≢false (sym due ∙ none))

    by_limits : ((cut_of p).small).steps ≡ (p.small).steps → is_due_by (synced p) limits.reads limits.steps ≡ true → is_due_by p limits.reads limits.steps ≡ true
    by_limits same due = grind (arith, nat_tests)

-- one that could not move cannot where it has just synchronised
pub synced_acts : (limits : Limits) (p : Process) → can_act limits (Runs (synced p)) ≡ true → can_act limits (Runs p) ≡ true
synced_acts limits p acts = by_take (can_take (state_of p)) refl
  where
    by_step : (b : Bool) → (b || is_due limits (synced p)) ≡ true → (b || is_due limits p) ≡ true
    by_step true acts = refl
    by_step false acts = due_still limits p acts

    by_take : (b : Bool) → can_take (state_of p) ≡ b → can_act limits (Runs p) ≡ true
    by_take true can = or_right (has_step (next_step (state_of p))) (is_due limits p) (or_right (is_due_by p limits.reads limits.steps) (can_take (state_of p)) can)
    by_take false none =
        let same : state_of (synced p) ≡ state_of p = ap (λ (q : Process). state_of (record q { ram = record (p.ram) { dirty = replicate (length (p.ram).dirty) false }; read = []; since = (p.small).steps })) (cut_untaken p none) in
        by_step (has_step (next_step (state_of p))) (ap (λ s. has_step (next_step s) || is_due limits (synced p)) (sym same) ∙ acts)

-- ---- the child that comes before

-- a process that is here comes after its children, of which this is the first
pub record Before (duty : DutyView) (family : List (Pid × Pid)) (here : List (Pid × Held)) (p child : Pid) : Type 0 where
  pub held : Held
  pub there : held_of here p ≡ Some held
  pub comes : comes_after duty (p, held) ≡ true
  pub first : first_unsynced family p ≡ Some child

pub before_is : (duty : DutyView) (family : List (Pid × Pid)) (here : List (Pid × Held)) (p child : Pid) → child_before duty family here p ≡ Some child → Before duty family here p child
before_is duty family here p child is = by_held (held_of here p) refl is
  where
    by_comes : (h : Held) (b : Bool) → held_of here p ≡ Some h → comes_after duty (p, h) ≡ b → cond b (first_unsynced family p) None ≡ Some child → Before duty family here p child
    by_comes h true there comes first = record { held = h; there = there; comes = comes; first = first }
    by_comes h false there comes first = cc

    by_held : (o : Option Held) → held_of here p ≡ o → option_and_then (λ (h : Held). cond (comes_after duty (p, h)) (first_unsynced family p) None) o ≡ Some child → Before duty family here p child
    by_held None there first = cc
    by_held (Some h) there first = by_comes h (comes_after duty (p, h)) there refl first

-- and it is that child
pub before_from : (duty : DutyView) (family : List (Pid × Pid)) (here : List (Pid × Held)) (p : Pid) (h : Held) → held_of here p ≡ Some h → comes_after duty (p, h) ≡ true → child_before duty family here p ≡ first_unsynced family p
before_from duty family here p h there comes =
    ap (option_and_then (λ (h : Held). cond (comes_after duty (p, h)) (first_unsynced family p) None)) there ∙ ap (λ b. cond b (first_unsynced family p) None) comes

-- one that does not come after its children has none before it
pub none_before : (duty : DutyView) (family : List (Pid × Pid)) (here : List (Pid × Held)) (p : Pid) (h : Held) → held_of here p ≡ Some h → comes_after duty (p, h) ≡ false → child_before duty family here p ≡ None
none_before duty family here p h there comes =
    ap (option_and_then (λ (h : Held). cond (comes_after duty (p, h)) (first_unsynced family p) None)) there ∙ ap (λ b. cond b (first_unsynced family p) None) comes

-- where none is before one that comes after its children, it has none
pub last_childless : (duty : DutyView) (family : List (Pid × Pid)) (here : List (Pid × Held)) (p : Pid) → child_before duty family here p ≡ None → comes_after_at duty.limits here p ≡ true → is_none (first_unsynced family p) ≡ true
last_childless duty family here p none comes = by_held (held_of here p) refl comes
  where
    by_held : (o : Option Held) → held_of here p ≡ o → option_map_or (comes_after_children duty.limits) o false ≡ true → is_none (first_unsynced family p) ≡ true
    by_held None there comes = absurd (true≢false (sym comes))
    by_held (Some h) there comes = ap is_none (sym (before_from duty family here p h there (or_right (is_owed duty (p, h)) (comes_after_children duty.limits h) comes)) ∙ none)

-- it is told that there is none where there is none
pub none_told : (o : Option Pid) (b : Bool) → is_some o ≡ not b → is_none o ≡ true → b ≡ true
none_told None true told none = refl
none_told None false told none = absurd (true≢false (sym told))
none_told (Some p) b told none = absurd (true≢false (sym none))

-- it is told whether there is none
pub none_is : (o : Option Pid) (b : Bool) → is_some o ≡ not b → b ≡ is_none o
none_is None true told = refl
none_is None false told = absurd (true≢false (sym told))
none_is (Some p) true told = absurd (true≢false told)
none_is (Some p) false told = refl

-- ---- who is hindered

-- the child before one that is not hindered runs
pub free_runs : (duty : DutyView) (family : List (Pid × Pid)) (here : List (Pid × Held)) (p child : Pid) → is_hindered duty family here p ≡ false → child_before duty family here p ≡ Some child → runs_at here child ≡ true
free_runs duty family here p child free is = by_runs (runs_at here child) (sym (ap (λ o. option_map_or (λ (child : Pid). not (runs_at here child)) o false) is) ∙ free)
  where
    by_runs : (b : Bool) → not b ≡ false → b ≡ true
    by_runs true free = refl
    by_runs false free = absurd (true≢false free)

-- ---- one synchronises

-- it could move, if it can now
pub syncs_acts : (limits : Limits) (by : ClusterNo) (was now : Held) (r : Result (List Post) NoMemory) → IfOk r (λ posts. SyncsNow by was posts now) → OnErr r (now ≡ was) → can_act limits now ≡ true → can_act limits was ≡ true
syncs_acts limits by was now (Ok posts) s err acts = ap (can_act limits) s.old_is ∙ synced_acts limits s.process (ap (can_act limits) (sym s.new_is) ∙ acts)
syncs_acts limits by was now (Err fault) s err acts = ap (can_act limits) (sym err) ∙ acts

-- it lacks no page
pub syncs_lacks : (by : ClusterNo) (was now : Held) (r : Result (List Post) NoMemory) → IfOk r (λ posts. SyncsNow by was posts now) → OnErr r (now ≡ was) → is_some (page_lacked now) ≡ true → is_some (page_lacked was) ≡ true
syncs_lacks by was now (Ok posts) s err some = absurd (true≢false (sym some ∙ ap (λ (h : Held). is_some (page_lacked h)) s.new_is))
syncs_lacks by was now (Err fault) s err some = ap (λ (h : Held). is_some (page_lacked h)) (sym err) ∙ some
