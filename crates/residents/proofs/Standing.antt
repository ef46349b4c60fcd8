use Rattle.std.proofs.Common.{◌≡◌, ℕ, zero, suc, ◌+◌, ◌≤◌, ◌<◌, false, Option, Some, None, option_map, option_and_then, refl, sym, ap, subst, arith}
use Rattle.std.proofs.lemmas.Bool.{false≢true}
use Rattle.std.specs.Prelude.{IsTrue, List, ◌∷◌, [], min, unwrap_or, Result, Ok, Err, OnOk, OnErr}
use Rattle.t32_base.specs.declared.process.Pid.{Pid}
use Rattle.std.specs.Option.{IsSomeAnd}
use Rattle.std.proofs.lemmas.Option.{same_Some}
use Rattle.t32_base.specs.Small.{SmallState}
use Rattle.t32_base.specs.declared.process.Counts.{Counts}
use Rattle.t32_base.specs.declared.letter.Letter.{Letter}
use Rattle.t32_base.specs.declared.streams.NoMemory.{NoMemory}
use Rattle.proc_state.specs.declared.process.Process.{Process}
use Rattle.proc_state.specs.State.{ProcState, state_of, delivered}
use Rattle.sys_calls.specs.declared.steps.Emission.TheVariants.{Mail as Sent, Exit as Ended}
use Rattle.sys_calls.specs.Calls.{Next, Silent, Blocked, Forks, Emits, Over}
use Rattle.sys_calls.specs.Next.{next_step}
use Rattle.sys_calls.specs.Fork.{fork_parent}
use Rattle.write_count.specs.Counting.{lowered}
use Rattle.roll_forward.specs.RunsOut.{RunsOn, RunsOut}
use Rattle.roll_forward.specs.Rolling.{CanRoll, RollingState}
use Rattle.roll_forward.specs.Advancing.{Going, going_of, gone_on, rolled_on}
use Rattle.roll_forward.proofs.AheadLaws.{runs_out_ahead}
use Rattle.roll_forward.proofs.Delivering.{RunsOut-delivered}
use Rattle.page_waits.specs.Begun.{begun}
use Rattle.page_waits.specs.Waiting.{WaitingState, CanGoOn, rolling_of, start_of}
use Rattle.residents.specs.declared.resident.Standing.TheVariants.{Runs as IsRunning, Rolls as IsRolling}
use Rattle.residents.specs.Held.{Rolls}
use Rattle.residents.specs.Quantum.{RollsOn}
use Rattle.residents.specs.ForkingAgain.{HasRolled, StandsAtForkAgain}
use Rattle.residents.specs.Resident.{StandsSo, held_standing}

-- ---- a letter

-- one that rolls forward stands so still
pub delivered_stands : (old new : RollingState) (letter : Letter) (result : Result (Unit {0}) NoMemory) → StandsSo (Some (IsRolling old)) → OnOk result (state_of new.process ≡ delivered (state_of old.process) letter)
    → new ≡ record old { process = new.process } → OnErr result (new ≡ old) → StandsSo (Some (IsRolling new))
delivered_stands old new letter (Ok done) stands is left same =
    let runs : RunsOut (state_of new.process) old.counts old.births old.ahead =
    subst (λ (s : ProcState). RunsOut s old.counts old.births old.ahead) (sym is) (RunsOut-delivered old.ahead (state_of old.process) letter old.counts old.births stands.1) in
    subst (λ (r : RollingState). StandsSo (Some (IsRolling r))) (sym left) (stands.0, runs)
delivered_stands old new letter (Err fault) stands is left same = subst (λ (r : RollingState). StandsSo (Some (IsRolling r))) (sym same) stands

-- ---- a page

-- one whose pages have all come runs out where it goes on
pub goes_on_runs_out : (w : WaitingState) (r : RollingState) → CanGoOn w → rolling_of w ≡ Some r → RunsOut (state_of r.process) r.counts r.births r.ahead
goes_on_runs_out w r can is = by_state (w.kept).state can is
  where
    by_state : (o : Option SmallState) → IsSomeAnd o (λ small. CanRoll (start_of w small) (w.kept).counts (w.kept).births) → option_map (λ (small : SmallState). begun (start_of w small) w.kept) o ≡ Some r
        → RunsOut (state_of r.process) r.counts r.births r.ahead
    by_state None can is = cc
    by_state (Some small) can is =
        subst (λ (r : RollingState). RunsOut (state_of r.process) r.counts r.births r.ahead) (same_Some (begun (start_of w small) w.kept) r is)
        (runs_out_ahead (start_of w small) (w.kept).counts (w.kept).births can)

-- ---- steps of roll-forward

-- one step more leaves one less
one_on : (m : ℕ) (g h : Going) (next : Next) → RunsOn g.state g.counts (λ t left rest. RunsOut t left rest m) next g.births → gone_on g next ≡ Some h → RunsOut h.state h.counts h.births m
one_on m g h (Silent t) runs is =
    let state : t ≡ h.state = cc in
    let counts : g.counts ≡ h.counts = cc in
    let births : g.births ≡ h.births = cc in
    subst (λ (s : ProcState). RunsOut s h.counts h.births m) state (subst (λ (c : Counts). RunsOut t c h.births m) counts (subst (λ bs. RunsOut t g.counts bs m) births runs))
one_on m g h Blocked runs is = cc
one_on m g h Forks runs is = cc
one_on m g h (Emits (Sent letter) t) runs is =
    let state : t ≡ h.state = cc in
    let counts : lowered g.counts letter ≡ h.counts = cc in
    let births : g.births ≡ h.births = cc in
    subst (λ (s : ProcState). RunsOut s h.counts h.births m) state (subst (λ (c : Counts). RunsOut t c h.births m) counts (subst (λ bs. RunsOut t (lowered g.counts letter) bs m) births runs.1))
one_on m g h (Emits (Ended end) t) runs is = cc
one_on m g h Over runs is = cc

-- n steps leave n less
pub runs_on : (n m : ℕ) (g h : Going) → RunsOut g.state g.counts g.births (n + m) → rolled_on n g ≡ Some h → RunsOut h.state h.counts h.births m
unfolding rolled_on
runs_on zero m g h runs is =
    let same : g ≡ h = cc in
    let none : 0 + m ≡ m = omega arith in
    subst (λ (k : Going). RunsOut k.state k.counts k.births m) same (subst (λ n. RunsOut g.state g.counts g.births n) none runs)
runs_on (suc n) m g h runs is =
    let count : suc n + m ≡ n + suc m = omega arith in
    by_case (rolled_on n g) refl is (λ k. runs_on n (suc m) g k (subst (λ l. RunsOut g.state g.counts g.births l) count runs))
  where
    by_case : (o : Option Going) → rolled_on n g ≡ o → option_and_then (λ k. gone_on k (next_step k.state)) o ≡ Some h → ((k : Going) → rolled_on n g ≡ Some k → RunsOut k.state k.counts k.births (suc m))
        → RunsOut h.state h.counts h.births m
    by_case None before last more = cc
    by_case (Some k) before last more = one_on m k h (next_step k.state) (more k before).1 last

-- one step of roll-forward by a fork leaves one less
pub forks_on : (m : ℕ) (s : ProcState) (counts : Counts) (child : Pid) (births : List Pid) → RunsOut s counts (child ∷ births) (suc m) → next_step s ≡ Forks → RunsOut (fork_parent s child) counts births m
forks_on m s counts child births runs forks = subst (λ (next : Next). RunsOn s counts (λ t left rest. RunsOut t left rest m) next (child ∷ births)) forks runs.1

-- ---- a quantum of one that rolls forward

-- where something is left, one step at least is
pub left_if : (n : ℕ) → (n ≡ 0 → IsTrue false) → 1 ≤ n
left_if zero none = absurd (false≢true (none refl))
left_if (suc n) none = omega arith

-- what a run of it makes
pub record Rolled (most made : ℕ) (old new : RollingState) : Type 0 where
  pub few : made ≤ most
  pub forks : 0 < min most old.ahead → made ≡ 0 → next_step (state_of old.process) ≡ Forks
  pub rolled : rolled_on made (going_of old) ≡ Some (going_of new)
  pub ahead : new.ahead + made ≡ old.ahead
  pub since : (new.process).since ≡ (old.process).since

-- one that comes to a fork while something is left takes the next child
stands_at : (n : ℕ) (p : Process) (counts : Counts) (births : List Pid) → 1 ≤ n → RunsOut (state_of p) counts births n → next_step (state_of p) ≡ Forks → StandsAtForkAgain (Rolls p counts births)
stands_at zero p counts births some runs forks = absurd (omega (arith, some))
stands_at (suc n) p counts births some runs forks = by_births births (subst (λ (next : Next). RunsOn (state_of p) counts (λ t left rest. RunsOut t left rest n) next births) forks runs.1)
  where
    by_births : (bs : List Pid) → RunsOn (state_of p) counts (λ t left rest. RunsOut t left rest n) Forks bs → StandsAtForkAgain (Rolls p counts bs)
    by_births [] none = absurd none
    by_births (child ∷ rest) on = record { process = p; counts = counts; child = child; births = rest; is = refl; forks = forks }

-- no step leaves it as it was
unmoved : (old new : RollingState) → rolled_on 0 (going_of old) ≡ Some (going_of new) → (new.process).since ≡ (old.process).since → held_standing (Some (IsRolling new)) ≡ held_standing (Some (IsRolling old))
unfolding rolled_on
unmoved old new rolled since =
    let same : going_of new ≡ going_of old = ap (λ o. unwrap_or o (going_of new)) (sym rolled) in
    λ i.
    Rolls (record {
      small = ((same i).state).small;
      ram = record { bytes = ((same i).state).memory; dirty = (same i).marks };
      mail = record { letters = ((same i).state).mail; next = ((same i).state).next };
      read = (same i).read;
      since = since i;
    }) (same i).counts (same i).births

module _ (most : ℕ) (old new : RollingState) (least : 1 ≤ most) (stands : StandsSo (Some (IsRolling old))) where
  rolls_on : (made : ℕ) → Rolled most made old new → RollsOn made new.ahead old.process old.counts old.births new.process new.counts new.births
  rolls_on made r =
      let count : old.ahead ≡ made + new.ahead = omega (arith, r.ahead) in
      record { runs_out = subst (λ n. RunsOut (state_of old.process) old.counts old.births n) count stands.1; rolled = r.rolled; since = r.since }

  -- nothing is left to withhold, and it runs
  pub caught_up : (made : ℕ) → Rolled most made old new → new.ahead ≡ 0 → HasRolled most made (held_standing (Some (IsRolling old))) (held_standing (Some (IsRunning new.process)))
  caught_up zero r none = absurd (omega (arith, none, r.ahead, stands.0))
  caught_up (suc n) r none = (r.few, (new.counts, new.births, subst (λ k. RollsOn (suc n) k old.process old.counts old.births new.process new.counts new.births) none (rolls_on (suc n) r)))

  -- something is left
  pub still_rolls : (made : ℕ) → Rolled most made old new → 1 ≤ new.ahead → HasRolled most made (held_standing (Some (IsRolling old))) (held_standing (Some (IsRolling new)))
  still_rolls zero r left = (unmoved old new r.rolled r.since, λ rolls. stands_at old.ahead old.process old.counts old.births stands.0 stands.1 (r.forks (omega (arith, least, stands.0)) refl))
  still_rolls (suc n) r left = (r.few, (new.ahead, left, rolls_on (suc n) r))

  pub stands_still : (made : ℕ) → Rolled most made old new → 1 ≤ new.ahead → StandsSo (Some (IsRolling new))
  stands_still made r left = (left, runs_on made new.ahead (going_of old) (going_of new) ((rolls_on made r).runs_out) r.rolled)
