-- How a process stands that rolled forward and made a fork again, and how its child stands where it begins.
use Rattle.std.proofs.Common.{◌≡◌, ℕ, zero, suc, ◌≤◌, cond, List, [], ◌∷◌, Bool, true, false, Option, Some, None, length, sym, ◌∙◌, ap, subst, arith}
use Rattle.t32_base.specs.declared.process.Pid.{Pid}
use Rattle.t32_base.specs.declared.process.Counts.{Counts}
use Rattle.proc_state.specs.declared.process.Process.{Process}
use Rattle.proc_state.specs.State.{ProcState, state_of}
use Rattle.sys_calls.specs.Calls.{Forks}
use Rattle.sys_calls.specs.Fork.{fork_parent}
use Rattle.sys_calls.specs.Next.{next_step}
use Rattle.sys_calls.specs.Steps.{read_after}
use Rattle.sys_calls.proofs.ForkLaws.{forks_marks_none, forks_takes_none}
use Rattle.roll_forward.specs.declared.rolled.Rolled.{Rolled}
use Rattle.roll_forward.specs.declared.rolled.Rolled.TheVariants.{Silent as WasSilent, Withheld, Born}
use Rattle.roll_forward.specs.Advancing.{Advances, IsMade, IsNewborn, MakesChild}
use Rattle.roll_forward.specs.Rolling.{RollingState}
use Rattle.roll_forward.specs.RunsOut.{RunsOut, nothing_left}
use Rattle.residents.specs.declared.resident.Standing.TheVariants.{Runs as IsRunning, Rolls as IsRolling}
use Rattle.residents.specs.Bearing.{forked, newborn}
use Rattle.residents.specs.ForkingAgain.{born_by, going_held, HasForkedAgain, StandsAtForkAgain}
use Rattle.residents.specs.Resident.{StandsSo, held_standing}
use Rattle.residents.specs.Held.{Held, Runs, Rolls}
use Rattle.residents.proofs.Standing.{forks_on}

-- ---- where something is left, and where nothing is

pub left_of : (n : ℕ) (s : ProcState) (counts : Counts) (births : List Pid) → 1 ≤ n → RunsOut s counts births n → nothing_left counts births ≡ false
left_of zero s counts births some runs = absurd (omega (arith, some))
left_of (suc n) s counts births some runs = runs.0

pub nothing_of : (n : ℕ) (s : ProcState) (counts : Counts) (births : List Pid) → n ≡ 0 → RunsOut s counts births n → nothing_left counts births ≡ true
nothing_of zero s counts births none runs = runs
nothing_of (suc n) s counts births none runs = cc

-- ---- the parent

-- its child as it was born
born_is : (s : Process) (child : Pid) (c : Process) → IsNewborn (state_of s) (length (s.ram).dirty) child c → c ≡ newborn s child
born_is s child c b = λ i. record {
  small = (b.state i).small;
  ram = record { bytes = (b.state i).memory; dirty = b.dirty i };
  mail = record { letters = (b.state i).mail; next = (b.state i).next };
  read = b.read i;
  since = b.since i;
}

-- a parent after its fork, from its state and what the fork left
parent_is : (old new : Process) (child : Pid) → state_of new ≡ fork_parent (state_of old) child → (new.ram).dirty ≡ (old.ram).dirty → new.read ≡ old.read → new.since ≡ old.since → new ≡ forked old child
parent_is old new child state dirty read since = λ i. record {
  small = (state i).small;
  ram = record { bytes = (state i).memory; dirty = dirty i };
  mail = record { letters = (state i).mail; next = (state i).next };
  read = read i;
  since = since i;
}

-- what a fork made of one that rolls forward
pub record ForkedSo (made : Bool) (process : Process) (counts : Counts) (child : Pid) (births : List Pid) (born : Option Process) (new : RollingState) : Type 0 where
  pub process_is : new.process ≡ forked process child
  pub counts_are : new.counts ≡ counts
  pub births_are : new.births ≡ births
  pub child_is : born ≡ cond made (Some (newborn process child)) None

module _ (made : Bool) (old new : RollingState) (child : Pid) (births : List Pid) (front : old.births ≡ child ∷ births) (forks : next_step (state_of old.process) ≡ Forks) where
  made_child : (process : Option Process) → IsMade made (state_of old.process) (length ((old.process).ram).dirty) child process → process ≡ cond made (Some (newborn old.process child)) None
  made_child None none = ap (λ b. cond b (Some (newborn old.process child)) None) (sym none)
  made_child (Some c) born = ap Some (born_is old.process child c born.1) ∙ ap (λ b. cond b (Some (newborn old.process child)) None) (sym born.0)

  pub forked_so : (r : Rolled) → Advances r old new → MakesChild made old.process r → ForkedSo made old.process old.counts child births (born_by r) new
  forked_so WasSilent adv makes = let two = sym adv.step ∙ forks in cc
  forked_so (Withheld letter) adv makes = let two = sym adv.step ∙ forks in cc
  forked_so (Born c process) adv makes =
      let whole : child ∷ births ≡ c ∷ new.births = sym front ∙ adv.births in
      let same : c ≡ child = sym (ap (λ (bs : List Pid). first_or child bs) whole) in
      let rest : new.births ≡ births = sym (ap (λ (bs : List Pid). rest_of bs) whole) in
      record {
        process_is =
            parent_is old.process new.process child ((adv.step).1 ∙ ap (fork_parent (state_of old.process)) same) (adv.marks ∙ forks_marks_none (state_of old.process) ((old.process).ram).dirty forks)
            ((adv.taken).read ∙ ap (read_after (old.process).read) (forks_takes_none (state_of old.process) forks)) (adv.taken).since;
        counts_are = adv.counts;
        births_are = rest;
        child_is = made_child process (subst (λ (d : Pid). IsMade made (state_of old.process) (length ((old.process).ram).dirty) d process) same makes);
      }
    where
      first_or : Pid → List Pid → Pid
      first_or d [] = d
      first_or d (x ∷ xs) = x

      rest_of : List Pid → List Pid
      rest_of [] = []
      rest_of (x ∷ xs) = xs

-- ---- how it stands

module _ (made : Bool) (old new : RollingState) (r : Rolled) (stands : StandsSo (Some (IsRolling old))) (at : StandsAtForkAgain (held_standing (Some (IsRolling old)))) (adv : Advances r old new) (makes : MakesChild made old.process r) where
  process_at : old.process ≡ at.process
  process_at = ap (λ (h : Held). process_or old.process h) at.is
    where
      process_or : Process → Held → Process
      process_or p (Rolls q counts births) = q
      process_or p h = p

  counts_at : old.counts ≡ at.counts
  counts_at = ap (λ (h : Held). counts_or old.counts h) at.is
    where
      counts_or : Counts → Held → Counts
      counts_or n (Rolls q counts births) = counts
      counts_or n h = n

  births_at : old.births ≡ at.child ∷ at.births
  births_at = ap (λ (h : Held). births_or h) at.is
    where
      births_or : Held → List Pid
      births_or (Rolls q counts births) = births
      births_or h = []

  forks : next_step (state_of old.process) ≡ Forks
  forks = ap (λ (p : Process). next_step (state_of p)) process_at ∙ at.forks

  so : ForkedSo made old.process old.counts at.child at.births (born_by r) new
  so = forked_so made old new at.child at.births births_at forks r adv makes

  -- what is left runs out
  runs_out : RunsOut (state_of new.process) new.counts new.births new.ahead
  runs_out =
      let ahead : old.ahead ≡ suc new.ahead = omega (arith, adv.ahead) in
      let before : RunsOut (state_of old.process) old.counts (at.child ∷ at.births) (suc new.ahead) = subst (λ n. RunsOut (state_of old.process) old.counts (at.child ∷ at.births) n) ahead (subst (λ bs. RunsOut (state_of old.process) old.counts bs old.ahead) births_at stands.1) in
      let after = forks_on new.ahead (state_of old.process) old.counts at.child at.births before forks in
      subst (λ (p : Process). RunsOut (state_of p) new.counts new.births new.ahead) (sym so.process_is)
      (subst (λ (n : Counts). RunsOut (fork_parent (state_of old.process) at.child) n new.births new.ahead) (sym so.counts_are)
      (subst (λ bs. RunsOut (fork_parent (state_of old.process) at.child) old.counts bs new.ahead) (sym so.births_are) after))

  pub stands_forked : 1 ≤ new.ahead → StandsSo (Some (IsRolling new))
  stands_forked left = (left, runs_out)

  now_is : going_held new.process new.counts new.births ≡ going_held (forked at.process at.child) at.counts at.births
  now_is = λ i. going_held ((so.process_is ∙ ap (λ (p : Process). forked p at.child) process_at) i) ((so.counts_are ∙ counts_at) i) (so.births_are i)

  child_is : born_by r ≡ cond made (Some (newborn at.process at.child)) None
  child_is = so.child_is ∙ ap (λ (p : Process). cond made (Some (newborn p at.child)) None) process_at

  pub forked_rolls : 1 ≤ new.ahead → HasForkedAgain made (held_standing (Some (IsRolling old))) (born_by r) (held_standing (Some (IsRolling new)))
  forked_rolls left = record { stood = at; child = child_is; now = ap (λ b. cond b (Runs new.process) (Rolls new.process new.counts new.births)) (sym (left_of new.ahead (state_of new.process) new.counts new.births left runs_out)) ∙ now_is }

  pub forked_runs : new.ahead ≡ 0 → HasForkedAgain made (held_standing (Some (IsRolling old))) (born_by r) (held_standing (Some (IsRunning new.process)))
  forked_runs none = record { stood = at; child = child_is; now = ap (λ b. cond b (Runs new.process) (Rolls new.process new.counts new.births)) (sym (nothing_of new.ahead (state_of new.process) new.counts new.births none runs_out)) ∙ now_is }
