-- A process makes steps again in its slot: what is here then, and which pages are still to be asked for.
use Rattle.std.proofs.Common.{◌≡◌, ℕ, zero, suc, cond, List, Bool, true, false, Option, Some, None, is_none, is_some, refl, sym, ◌∙◌, ap, subst, arith}
use Rattle.std.specs.Prelude.{Result, Ok, Err, IfOk, OnErr}
use Rattle.std.specs.Map.{lookup}
use Rattle.std.specs.Option.{option_map_or}
use Rattle.std.proofs.lemmas.Bool.{false≢true}
use Rattle.slab.specs.Slab.{Slab, get, Updates}
use Rattle.t32_base.specs.declared.process.Pid.{Pid}
use Rattle.t32_base.specs.declared.process.Counts.{Counts}
use Rattle.t32_base.specs.declared.streams.NoMemory.{NoMemory}
use Rattle.proc_state.specs.declared.process.Process.{Process}
use Rattle.roll_forward.specs.RunsOut.{nothing_left}
use Rattle.plain_kernel.specs.Maps.{at_key, pid_of}
use Rattle.residents.specs.Duty.{DutyView}
use Rattle.residents.specs.Bearing.{forked}
use Rattle.residents.specs.Changed.{with_changed}
use Rattle.residents.specs.ForkingAgain.{begun_with, going_held, is_rolling, with_begun, with_mail_of, BearsAgain, HasForkedAgain, HasRolled, RollsStepsAt, StandsAtForkAgain}
use Rattle.residents.specs.Quantum.{RollsTo}
use Rattle.residents.specs.Slots.{stands_in, IsKept}
use Rattle.residents.specs.Held.{Held, Runs, Rolls, Waits, held_of, page_lacked}
use Rattle.residents.proofs.Kept.{written_back}
use Rattle.residents.proofs.Slots.{no_entry, nobody_changed, nobody_held, one_key, process_there, written}

-- ---- pages

rolled_to_lacks : (n : ℕ) (was now : Held) → RollsTo n was now → is_some (page_lacked now) ≡ true → is_some (page_lacked was) ≡ true
rolled_to_lacks n (Runs p) (Runs q) rolls some = some
rolled_to_lacks n (Rolls p counts births) (Runs q) rolls some = some
rolled_to_lacks n (Rolls p counts births) (Rolls q left unborn) rolls some = some
rolled_to_lacks n was now rolls some = absurd rolls

-- one that lacks a page after steps lacked it before
pub rolled_lacks : (most : ℕ) (was now : Held) (r : Result ℕ NoMemory) → IfOk r (λ n. HasRolled most n was now) → OnErr r (now ≡ was) → is_some (page_lacked now) ≡ true → is_some (page_lacked was) ≡ true
rolled_lacks most was now (Ok n) rolled same some = by_count n rolled
  where
    by_count : (n : ℕ) → HasRolled most n was now → is_some (page_lacked was) ≡ true
    by_count zero rolled = ap (λ (h : Held). is_some (page_lacked h)) (sym rolled.0) ∙ some
    by_count (suc n) rolled = rolled_to_lacks (suc n) was now rolled.1 some
rolled_lacks most was now (Err fault) rolled same some = ap (λ (h : Held). is_some (page_lacked h)) (sym same) ∙ some

going_lacks : (p : Process) (counts : Counts) (births : List Pid) → is_some (page_lacked (going_held p counts births)) ≡ false
going_lacks p counts births = by_left (nothing_left counts births)
  where
    by_left : (b : Bool) → is_some (page_lacked (cond b (Runs p) (Rolls p counts births))) ≡ false
    by_left true = refl
    by_left false = refl

-- after a fork
pub forked_again_lacks : (made : Bool) (was now : Held) (r : Result (Option Process) NoMemory) → IfOk r (λ born. HasForkedAgain made was born now) → OnErr r (now ≡ was) → is_some (page_lacked now) ≡ true → is_some (page_lacked was) ≡ true
forked_again_lacks made was now (Ok born) f same some =
    absurd (false≢true (sym (ap (λ (h : Held). is_some (page_lacked h)) f.now ∙ going_lacks (forked (f.stood).process (f.stood).child) (f.stood).counts (f.stood).births) ∙ some))
forked_again_lacks made was now (Err fault) f same some = ap (λ (h : Held). is_some (page_lacked h)) (sym same) ∙ some

-- where a child begins
pub begun_lacks : (born : Process) (h : Held) → is_some (page_lacked (begun_with born h)) ≡ true → is_some (page_lacked h) ≡ true
begun_lacks born (Waits w) some = by_state (w.kept).state some
  where
    by_state : {X : Type 0} → (o : Option X) → is_some (page_lacked (cond (is_none o) (going_held (with_mail_of w.kept born) (w.kept).counts (w.kept).births) (Waits w))) ≡ true → is_some (page_lacked (Waits w)) ≡ true
    by_state None some = absurd (false≢true (sym (going_lacks (with_mail_of w.kept born) (w.kept).counts (w.kept).births) ∙ some))
    by_state (Some x) some = some
begun_lacks born _ some = some

-- ---- what is here

module _ (duty : DutyView) (slots new : Slab Held) (n key : ℕ) (keys : List (ℕ × ℕ)) (ready asking : List ℕ) (was now : Held) (old : List (Pid × Held)) (kept : IsKept duty slots keys ready asking) (found : lookup (at_key n) keys ≡ Some key) (there : get slots key ≡ Some was)
    (updates : Updates slots new key (Some now)) (same : stands_in slots keys ≡ old) where
  at : held_of old (pid_of n) ≡ Some was
  at = ap (λ hs. held_of hs (pid_of n)) (sym same) ∙ process_there slots n key was keys found there

  here : stands_in new keys ≡ with_changed (pid_of n) now old
  here = written slots new n key was now (λ e. (pid_of n, now)) keys (one_key n key keys kept.ordered kept.apart found) there updates refl ∙ ap (with_changed (pid_of n) now) same

  stays : now ≡ was → stands_in new keys ≡ old
  stays is = written_back slots new key was now keys there updates is ∙ same

  -- steps that are no forks
  pub steps_at : (most : ℕ) (r : Result ℕ NoMemory) → IfOk r (λ made. HasRolled most made was now) → IfOk r (λ made. RollsStepsAt most made (pid_of n) old (stands_in new keys))
  steps_at most (Ok made) rolled = by_count made rolled
    where
      by_count : (made : ℕ) → HasRolled most made was now → RollsStepsAt most made (pid_of n) old (stands_in new keys)
      by_count zero rolled = (
        stays rolled.0,
        λ h held rolls.
            let mine : was ≡ h = ap (λ o. option_map_or (λ (x : Held). x) o was) (sym at ∙ held) in
            subst StandsAtForkAgain mine (rolled.1 (ap is_rolling mine ∙ rolls)),
      )
      by_count (suc made) rolled = (rolled.0, record { was = was; now = now; some = omega arith; there = at; rolls = rolled.1; here = here })
  steps_at most (Err fault) rolled = tt

  -- the parent's half of a fork
  pub bears_at : (made : Bool) (r : Result (Option Process) NoMemory) → IfOk r (λ born. HasForkedAgain made was born now) → IfOk r (λ born. BearsAgain made (pid_of n) old born (stands_in new keys))
  bears_at made (Ok born) f = record { was = was; now = now; there = at; forks = f; here = here }
  bears_at made (Err fault) f = tt

  -- a child that begins
  pub begins_at : (born : Process) → now ≡ begun_with born was → stands_in new keys ≡ with_begun (pid_of n) born old
  begins_at born is =
      written slots new n key was now (λ e. (e.0, begun_with born e.1)) keys (one_key n key keys kept.ordered kept.apart found) there updates (ap (λ h. (pid_of n, h)) (sym is)) ∙ ap (with_begun (pid_of n) born) same

-- one that is not here makes no step, and no child begins
pub no_steps_at : (slots : Slab Held) (n most : ℕ) (keys : List (ℕ × ℕ)) (old : List (Pid × Held)) → lookup (at_key n) keys ≡ None → stands_in slots keys ≡ old → RollsStepsAt most 0 (pid_of n) old (stands_in slots keys)
no_steps_at slots n most keys old none same = (
  same,
  λ h held rolls. let nothing : None ≡ Some h = sym (ap (λ hs. held_of hs (pid_of n)) (sym same) ∙ nobody_held slots n keys (no_entry n keys none)) ∙ held in cc,
)

pub none_begins : (slots : Slab Held) (n : ℕ) (born : Process) (keys : List (ℕ × ℕ)) (old : List (Pid × Held)) → lookup (at_key n) keys ≡ None → stands_in slots keys ≡ old → old ≡ with_begun (pid_of n) born old
none_begins slots n born keys old none same = sym same ∙ sym (nobody_changed slots n (λ e. (e.0, begun_with born e.1)) keys (no_entry n keys none)) ∙ ap (with_begun (pid_of n) born) same
