-- Who made steps again, or a fork, and the child that began by it stand under their own pids.
use Rattle.std.proofs.Common.{◌≡◌, ℕ, refl, sym, subst, eqb-true, List, [], ◌∷◌, Bool, true, false, cond, is_none, inl, inr}
use Rattle.t32_base.specs.declared.process.Pid.{Pid}
use Rattle.t32_base.specs.declared.process.Counts.{Counts}
use Rattle.proc_state.specs.declared.process.Process.{Process}
use Rattle.roll_forward.specs.RunsOut.{nothing_left}
use Rattle.bus_msg.specs.Places.{same_pid}
use Rattle.residents.specs.Bearing.{forked, newborn}
use Rattle.residents.specs.ForkingAgain.{begun_with, going_held, with_begun, with_mail_of, NoPart, Part, RollsAgain, RollsPart}
use Rattle.cluster_core.specs.Parts.{AllOwn, IsHeldOwn, IsOwn}
use Rattle.residents.specs.Held.{Held, Runs, Rolls, Waits}
use Rattle.residents.proofs.Changing.{pid_same}
use Rattle.cluster_core.proofs.here.Owning.{own_at, own_between, own_changed}
use Rattle.cluster_core.proofs.births.OwningBirths.{own_forked}

own_going : (cursor : ℕ) (pid : Pid) (p : Process) (counts : Counts) (births : List Pid) → IsOwn cursor pid p → IsHeldOwn cursor pid (going_held p counts births)
own_going cursor pid p counts births own = by_left (nothing_left counts births)
  where
    by_left : (b : Bool) → IsHeldOwn cursor pid (cond b (Runs p) (Rolls p counts births))
    by_left true = own
    by_left false = own

own_begun : (cursor : ℕ) (pid child : Pid) (process : Process) (h : Held) → child ≡ pid → IsHeldOwn cursor pid h → IsHeldOwn cursor pid (begun_with (newborn process child) h)
own_begun cursor pid child process (Waits w) same own = by_none (is_none (w.kept).state)
  where
    by_none : (b : Bool) → IsHeldOwn cursor pid (cond b (going_held (with_mail_of w.kept (newborn process child)) (w.kept).counts (w.kept).births) (Waits w))
    by_none true = own_going cursor pid (with_mail_of w.kept (newborn process child)) (w.kept).counts (w.kept).births (record { pid_is = same; arrived = own.arrived })
    by_none false = own
own_begun cursor pid child process _ same own = own

all_begun : (cursor : ℕ) (child : Pid) (process : Process) (here : List (Pid × Held)) → AllOwn cursor here → AllOwn cursor (with_begun child (newborn process child) here)
all_begun cursor child process [] own = tt
all_begun cursor child process (e ∷ here) own = (by_test (same_pid e.0 child) refl, all_begun cursor child process here own.1)
  where
    by_test : (b : Bool) → same_pid e.0 child ≡ b → IsHeldOwn cursor (cond b (e.0, begun_with (newborn process child) e.1) e).0 (cond b (e.0, begun_with (newborn process child) e.1) e).1
    by_test true is = own_begun cursor e.0 child process e.1 (sym (pid_same e.0 child (eqb-true (e.0).0 child.0 is))) own.0
    by_test false is = own.0

part_own : (cursor : ℕ) (p : Pid) (n : ℕ) (old new : List (Pid × Held)) → AllOwn cursor old → RollsPart p n old new → AllOwn cursor new
part_own cursor p n old new own (inl steps) = subst (AllOwn cursor) (sym steps.here) (own_changed cursor p steps.now old own (own_between cursor p n steps.was steps.now (own_at cursor old p steps.was own steps.there) steps.rolls))
part_own cursor p n old new own (inr fork) =
    let f = fork.1 in
    let parent = own_at cursor old p (Rolls f.process f.counts (f.child ∷ f.births)) own f.there in
    let now = going_held (forked f.process f.child) f.counts f.births in
    subst (AllOwn cursor) (sym f.here) (all_begun cursor f.child f.process _ (own_changed cursor p now old own (own_going cursor p (forked f.process f.child) f.counts f.births (own_forked cursor p f.child f.process parent))))

pub own_again : (cursor : ℕ) (p : Pid) (n : ℕ) (old new : List (Pid × Held)) → RollsAgain p n old new → AllOwn cursor old → AllOwn cursor new
own_again cursor p _ _ _ NoPart own = own
own_again cursor p _ _ _ (Part {m} {old} {mid} before k new part) own = part_own cursor p k mid new (own_again cursor p m old mid before own) part
