-- Where a process that rolls forward stands beside the process in the kernel, which has not ended: steps that do what is left lead there, or nothing is left.
use Rattle.std.proofs.Common.{◌≡◌, ℕ, ◌+◌, ◌-◌, ◌≤◌, refl, sym, ◌∙◌, ap, subst, arith, List, [], ◌∷◌, ◌++◌, Bool, true, false, leb, Option, Some, None, is_some, true≢false, append_assoc}
use Rattle.std.specs.Prelude.{option_and_then}
use Rattle.std.specs.Option.{option_map_or}
use Rattle.std.proofs.lemmas.Bool.Decides.{nat_tests}
use Rattle.std.proofs.lemmas.Option.{same_Some}
use Rattle.t32_base.specs.declared.process.Pid.{Pid}
use Rattle.t32_base.specs.declared.process.Counts.{Counts}
use Rattle.sys_text.specs.declared.system.System.{System}
use Rattle.sys_text.specs.Valid.{is_system}
use Rattle.proc_state.specs.State.{ProcState, has_ended}
use Rattle.plain_kernel.specs.Kernel.{Kernel, process_at}
use Rattle.bus_msg.specs.declared.entry.Entry.{Entry}
use Rattle.roll_forward.specs.Deeds.{Deed}
use Rattle.cert_sched.specs.Schedule.{done, plain_after, process_after, done_after}
use Rattle.cert_sched.specs.Deeds.{start_of, since}
use Rattle.cert_sched.specs.Rolling.{refilled}
use Rattle.cert_sched.specs.Legal.{IsLegalBy}
use Rattle.cert_sched.specs.Simulation.{IsUnended}
use Rattle.cert_sched.proofs.ReplayLaws.{Replays, replays_on, replays_counts}
use Rattle.cert_sched.proofs.CameLaws.{IsStandingRule}
use Rattle.cert_sched.proofs.RollLaws.{all_roll}
use Rattle.cert_sched.proofs.RunsOutLaws.{AllFine, replays_fine, start_ends}
use Rattle.cert_sched.proofs.OpenLaws.{unended_open}
use Rattle.cert_sched.proofs.ThereLaws.{unended_there}
use Rattle.replay_laws.specs.rolling.Behind.{IsBehind}
use Rattle.replay_laws.proofs.rolling.Replaying.{Part, Rolling, replays_split, replays_beyond}

-- ---- the way of the process in the kernel

-- From its start, with the saved letters, so many steps do what it did since and lead to where it is, which is no end.
pub record Led (system : System) (log : List Entry) (p : Pid) (now : ProcState) : Type 0 where
  pub start : ProcState
  pub started : start_of system log p ≡ Some start
  pub made : ℕ
  pub replays : Replays made (refilled log p start) (since log p) now
  pub open_still : has_ended (now.small).status ≡ false
  pub fine : AllFine (since log p)
  pub count : done_after system log p ≡ (now.small).steps

-- the steps of a process in the kernel after a log
pub done_is : (system : System) (log : List Entry) (p : Pid) (now : ProcState) → process_after system log p ≡ Some now → done_after system log p ≡ (now.small).steps
done_is system log p now there = by_kernel (plain_after system log) there
  where
    by_kernel : (o : Option Kernel) → option_and_then (λ k. process_at k p) o ≡ Some now → option_map_or (λ k. done k p) o 0 ≡ (now.small).steps
    by_kernel None is = cc
    by_kernel (Some k) is = ap (λ o. option_map_or (λ (s : ProcState). (s.small).steps) o 0) is

pub led_open : (May : System → List Entry → Entry → Type 0) → IsStandingRule May → (system : System) (log : List Entry) (p : Pid) (now : ProcState) → is_system system ≡ true → IsLegalBy May system log
    → process_after system log p ≡ Some now → has_ended (now.small).status ≡ false → Led system log p now
led_open May standing system log p now valid legal there goes_on =
    let r = (all_roll May standing system log valid legal).rolls p now there goes_on in
    record {
      start = r.start;
      started = r.started;
      made = r.made;
      replays = r.replays;
      open_still = goes_on;
      fine = replays_fine r.made (refilled log p r.start) now (since log p) goes_on (start_ends system log p r.start r.started) r.replays;
      count = done_is system log p now there;
    }

-- so it is for each process that the placement has among those that have not ended
pub led_unended : (May : System → List Entry → Entry → Type 0) → IsStandingRule May → (system : System) (log : List Entry) (p : Pid) (now : ProcState) → is_system system ≡ true → IsLegalBy May system log
    → IsUnended system log p → process_after system log p ≡ Some now → Led system log p now
led_unended May standing system log p now valid legal unended there =
    led_open May standing system log p now valid legal there (unended_open May standing system log p valid legal unended now there)

-- it is in the kernel, and is led there
pub record LedThere (system : System) (log : List Entry) (p : Pid) : Type 0 where
  pub now : ProcState
  pub there : process_after system log p ≡ Some now
  pub led : Led system log p now

pub led_there : (May : System → List Entry → Entry → Type 0) → IsStandingRule May → (system : System) (log : List Entry) (p : Pid) → is_system system ≡ true → IsLegalBy May system log → IsUnended system log p → LedThere system log p
led_there May standing system log p valid legal unended = by_process (process_after system log p) refl (unended_there May standing system log p valid legal unended)
  where
    by_process : (o : Option ProcState) → process_after system log p ≡ o → is_some o ≡ true → LedThere system log p
    by_process None is there = absurd (true≢false (sym there))
    by_process (Some now) is there = record { now = now; there = is; led = led_unended May standing system log p now valid legal unended is }

-- ---- where a part of it stands

-- steps lead on to where the process is; or nothing is left, and silent steps led from there to here
pub data Reach (steps made : ℕ) (s : ProcState) (rest : List Deed) (now : ProcState) : Type 0 where
  on_way : (m : ℕ) → steps + m ≡ made → Replays m s rest now → Reach steps made s rest now
  beyond : (k : ℕ) → made + k ≡ steps → rest ≡ [] → Replays k now [] s → Reach steps made s rest now

pub reach : (from : ProcState) (all : List Deed) (s : ProcState) (rest : List Deed) (made : ℕ) (now : ProcState) → (part : Part from all s rest) → Replays made from all now → Reach part.steps made s rest now
reach from all s rest made now part whole = by_test (leb part.steps made) refl
  where
    not_more : (n m : ℕ) → leb n m ≡ true → n ≤ m
    not_more n m h = grind (arith, nat_tests)

    more : (n m : ℕ) → leb n m ≡ false → m ≤ n
    more n m h = grind (arith, nat_tests)

    parted : (n : ℕ) → made ≡ n → Replays n from (part.done ++ rest) now
    parted n is = subst (λ k. Replays k from (part.done ++ rest) now) is (subst (λ ds. Replays made from ds now) part.parts whole)

    by_test : (b : Bool) → leb part.steps made ≡ b → Reach part.steps made s rest now
    by_test true is =
        let within : part.steps ≤ made = not_more part.steps made is in
        let sum : part.steps + (made - part.steps) ≡ made = omega (arith, within) in
        on_way (made - part.steps) sum (replays_split part.steps (made - part.steps) from s now part.done rest part.replays (parted (part.steps + (made - part.steps)) (sym sum)))
    by_test false is =
        let past : made ≤ part.steps = more part.steps made is in
        let sum : made + (part.steps - made) ≡ part.steps = omega (arith, past) in
        let b = replays_beyond made (part.steps - made) from s now part.done rest (subst (λ k. Replays k from part.done s) (sym sum) part.replays) (parted made refl) in
        beyond (part.steps - made) sum b.none_left b.silent

-- ---- a part, on by one step

pub part_on : (from : ProcState) (all : List Deed) (s t : ProcState) (es rest : List Deed) → Part from all s (es ++ rest) → Replays 1 s es t → Part from all t rest
part_on from all s t es rest part one = record {
  steps = part.steps + 1;
  done = part.done ++ es;
  replays = replays_on part.steps 1 from s t part.done es part.replays one;
  parts = part.parts ∙ sym (append_assoc part.done es rest);
}

-- of the deeds that are left each is one that a process does before its end
pub fine_rest : (ds rest : List Deed) → AllFine (ds ++ rest) → AllFine rest
fine_rest [] rest fine = fine
fine_rest (d ∷ ds) rest fine = fine_rest ds rest fine.1

pub fine_left : (from : ProcState) (all : List Deed) (s : ProcState) (rest : List Deed) → Part from all s rest → AllFine all → AllFine rest
fine_left from all s rest part fine = fine_rest part.done rest (subst AllFine part.parts fine)

-- both start alike
pub same_part : (system : System) (log : List Entry) (p : Pid) (now s : ProcState) (counts : Counts) (births : List Pid) → (led : Led system log p now) → (r : Rolling system log p s counts births) → Part (refilled log p led.start) (since log p) s r.rest
same_part system log p now s counts births led r =
    subst (λ (x : ProcState). Part (refilled log p x) (since log p) s r.rest) (same_Some r.start led.start (sym r.started ∙ led.started)) r.part

-- it starts behind the process in the kernel
pub start_behind : (system : System) (log : List Entry) (p : Pid) (now : ProcState) → (led : Led system log p now) → IsBehind system log p (refilled log p led.start)
start_behind system log p now led =
    let count = led.count in
    let steps = (replays_counts led.made (refilled log p led.start) now (since log p) led.replays).steps in
    omega (arith, count, steps)
