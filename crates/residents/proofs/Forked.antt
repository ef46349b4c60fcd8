-- A process forks where it is kept, and the others stay.
use Rattle.std.proofs.Common.{◌≡◌, ℕ, refl, sym, ◌∙◌, ap, subst, List, true, false, eqb, Option, Some, None, is_some, true≢false}
use Rattle.std.specs.Prelude.{Result, Ok, Err, OnErr, IfOk}
use Rattle.std.specs.List.{AllByRecursion, list_any}
use Rattle.std.specs.Map.{lookup}
use Rattle.std.specs.Option.{option_map_or}
use Rattle.slab.specs.Slab.{Slab, get, Updates}
use Rattle.t32_base.specs.declared.process.Pid.{Pid}
use Rattle.t32_base.specs.declared.streams.NoMemory.{NoMemory}
use Rattle.proc_state.specs.declared.process.Process.{Process}
use Rattle.bus_msg.specs.Places.{same_pid}
use Rattle.plain_kernel.specs.Maps.{at_key, pid_of}
use Rattle.residents.specs.Duty.{DutyView}
use Rattle.residents.specs.Held.{Held, Runs, held_of, page_lacked}
use Rattle.residents.specs.Residents.{pids_in}
use Rattle.residents.specs.Changed.{with_changed, with_more}
use Rattle.residents.specs.Slots.{IsKept, stands_in}
use Rattle.residents.specs.Bearing.{ForksAt, ForksFrom, HasForked, forked, newborn, with_born, with_fork}
use Rattle.residents.proofs.Changing.{pids_changed, any_pids}
use Rattle.residents.proofs.Kept.{written_back}
use Rattle.residents.proofs.Slots.{nobody_held, one_key, process_there, written}

-- one that forks lacks no page that it did not lack before
fork_lacks : (child : Pid) (was now : Held) (born : Option Process) → HasForked child was born now → is_some (page_lacked now) ≡ true → is_some (page_lacked was) ≡ true
fork_lacks child (Runs p) now born f some = absurd (true≢false (sym some ∙ ap (λ (h : Held). is_some (page_lacked h)) f.1))
fork_lacks child _ now born f some = ap (λ (h : Held). is_some (page_lacked h)) (sym f.1) ∙ some

pub still_lacks_forked : (child : Pid) (was now : Held) (r : Result (Option Process) NoMemory) → IfOk r (λ born. HasForked child was born now) → OnErr r (now ≡ was) → is_some (page_lacked now) ≡ true → is_some (page_lacked was) ≡ true
still_lacks_forked child was now (Ok born) forks same some = fork_lacks child was now born forks some
still_lacks_forked child was now (Err fault) forks same some = ap (λ (h : Held). is_some (page_lacked h)) (sym same) ∙ some

-- ---- in its slot

module _ (duty : DutyView) (slots new : Slab Held) (n key : ℕ) (keys : List (ℕ × ℕ)) (ready asking : List ℕ) (was now : Held) (old : List (Pid × Held)) (kept : IsKept duty slots keys ready asking) (found : lookup (at_key n) keys ≡ Some key)
    (there : get slots key ≡ Some was) (updates : Updates slots new key (Some now)) (same : stands_in slots keys ≡ old) where
  changed : (h : Held) → now ≡ h → stands_in new keys ≡ with_changed (pid_of n) h old
  changed h is =
      written slots new n key was now (λ e. (pid_of n, now)) keys (one_key n key keys kept.ordered kept.apart found) there updates refl
      ∙ ap (with_changed (pid_of n) now) same ∙ ap (λ (x : Held). with_changed (pid_of n) x old) is

  stays : now ≡ was → stands_in new keys ≡ old
  stays is = written_back slots new key was now keys there updates is ∙ same

  held : held_of old (pid_of n) ≡ Some was
  held = ap (λ hs. held_of hs (pid_of n)) (sym same) ∙ process_there slots n key was keys found there

  forks_so : (child : Pid) (born : Option Process) → HasForked child was born now → ForksAt (pid_of n) child old born (stands_in new keys)
  forks_so child born f = subst (λ o. ForksFrom (pid_of n) child old o born (stands_in new keys)) (sym held) (by_held was refl f)
    where
      by_held : (h : Held) → was ≡ h → HasForked child h born now → ForksFrom (pid_of n) child old (Some h) born (stands_in new keys)
      by_held (Runs p) at f = (f.0, changed (Runs (forked p child)) f.1)
      by_held _ at f = (f.0, stays (f.1 ∙ sym at))

  pub forks_at : (child : Pid) (r : Result (Option Process) NoMemory) → IfOk r (λ born. HasForked child was born now) → IfOk r (λ born. ForksAt (pid_of n) child old born (stands_in new keys))
  forks_at child (Ok born) f = forks_so child born f
  forks_at child (Err fault) f = tt

  pub none_forked : (r : Result (Option Process) NoMemory) → OnErr r (now ≡ was) → OnErr r (stands_in new keys ≡ old)
  none_forked (Ok born) is = tt
  none_forked (Err fault) is = stays is

-- who is not here does not fork
pub nobody_forks : (slots : Slab Held) (n : ℕ) (keys : List (ℕ × ℕ)) (child : Pid) (old : List (Pid × Held)) → AllByRecursion (λ (e : ℕ × ℕ). eqb e.0 n ≡ false) keys → stands_in slots keys ≡ old → ForksAt (pid_of n) child old None old
nobody_forks slots n keys child old none same = subst (λ o. ForksFrom (pid_of n) child old o None old) (sym (ap (λ hs. held_of hs (pid_of n)) (sym same) ∙ nobody_held slots n keys none)) (refl, refl)

-- ---- with its child

-- what is here where one has forked
pub record Borne (p child : Pid) (old : List (Pid × Held)) (born : Process) (new : List (Pid × Held)) : Type 0 where
  pub process : Process
  pub there : held_of old p ≡ Some (Runs process)
  pub born_is : born ≡ newborn process child
  pub new_is : new ≡ with_changed p (Runs (forked process child)) old

pub borne : (p child : Pid) (old : List (Pid × Held)) (born : Process) (new : List (Pid × Held)) → ForksAt p child old (Some born) new → Borne p child old born new
borne p child old born new f = by_found (held_of old p) refl f
  where
    by_found : (o : Option Held) → held_of old p ≡ o → ForksFrom p child old o (Some born) new → Borne p child old born new
    by_found None there f = let none : Some born ≡ None = f.0 in cc
    by_found (Some (Runs process)) there f = record { process = process; there = there; born_is = let one : Some born ≡ Some (newborn process child) = f.0 in cc; new_is = f.1 }
    by_found (Some _) there f = let none : Some born ≡ None = f.0 in cc

-- the child is still not here
pub still_absent : (p child : Pid) (old : List (Pid × Held)) (born : Process) (new : List (Pid × Held)) → Borne p child old born new → ((h : Held) → held_of old p ≡ Some h → list_any (λ (e : Pid × Held). same_pid e.0 child) old ≡ false) → list_any (λ (e : Pid × Held). same_pid e.0 child) new ≡ false
still_absent p child old born new b absent =
    any_pids child new ∙ ap (λ hs. list_any (λ n. eqb n child.0) (pids_in hs)) b.new_is ∙ ap (list_any (λ n. eqb n child.0)) (pids_changed p (Runs (forked b.process child)) old) ∙ sym (any_pids child old) ∙ absent (Runs b.process) b.there

-- put beside its parent it is born
pub born_beside : (p child : Pid) (old : List (Pid × Held)) (born : Process) (new : List (Pid × Held)) → Borne p child old born new → with_more child (Runs born) new ≡ with_born p child old
born_beside p child old born new b =
    (λ i. with_more child (Runs (b.born_is i)) (b.new_is i)) ∙ ap (λ o. option_map_or (λ (h : Held). with_fork p child h old) o old) (sym b.there)
