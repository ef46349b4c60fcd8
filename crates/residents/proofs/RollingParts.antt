-- The steps of a quantum that a process makes again, part by part, over what is here.
use Rattle.std.proofs.Common.{◌≡◌, ℕ, zero, suc, ◌≤◌, inl, inr, is_none, cond, ltb, List, [], ◌∷◌, Bool, true, false, true≢false, eqb, eqb-true, eq-eqb, Option, Some, None, refl, sym, ◌∙◌, ap, subst, arith}
use Rattle.std.specs.Prelude.{find, option_and_then, option_map}
use Rattle.std.specs.List.{list_all}
use Rattle.std.specs.Option.{option_map_or}
use Rattle.std.proofs.lemmas.Bool.{and_parts}
use Rattle.std.proofs.lemmas.Bool.Decides.{nat_tests}
use Rattle.std.proofs.lemmas.Option.{same_Some}
use Rattle.t32_base.specs.declared.process.Pid.{Pid}
use Rattle.t32_base.specs.declared.process.Counts.{Counts}
use Rattle.proc_state.specs.declared.process.Process.{Process}
use Rattle.proc_state.specs.State.{state_of}
use Rattle.roll_forward.specs.RunsOut.{nothing_left}
use Rattle.bus_msg.specs.Places.{same_pid}
use Rattle.page_waits.specs.Waiting.{WaitingState}
use Rattle.residents.specs.Bearing.{forked, newborn}
use Rattle.residents.specs.Changed.{with_changed}
use Rattle.residents.specs.ForkingAgain.{begun_with, child_again, going_held, is_rolling, rolls_at, waits_for_fork_at, waits_for_fork, with_begun, with_mail_of, AtFront, BearsAgain, CanBeginAgain, CanBeginWith, CanForkAgainNow, ForksAgain, HasForkedAgain, NoPart, Part, RollsAgain, RollsPart}
use Rattle.residents.specs.Quantum.{RollsTo}
use Rattle.residents.specs.Residents.{are_rising, pids_in}
use Rattle.residents.specs.Held.{Held, Runs, Rolls, Waits, held_of, is_running, runs_at}
use Rattle.residents.proofs.Changing.{changed_there, pid_same, pids_changed}

-- ---- who is where

-- a child that begins is found so, and every other as it was
pub begun_found : (child : Pid) (born : Process) (here : List (Pid × Held)) (q : Pid) → held_of (with_begun child born here) q ≡ option_map (λ (h : Held). cond (same_pid q child) (begun_with born h) h) (held_of here q)
begun_found child born [] q = refl
begun_found child born (e ∷ here) q = by_test (same_pid e.0 q) refl (begun_found child born here q)
  where
    whole : same_pid e.0 q ≡ true → e.0 ≡ q
    whole is = pid_same e.0 q (eqb-true (e.0).0 q.0 is)

    first : (b : Bool) → same_pid (cond b (e.0, begun_with born e.1) e).0 q ≡ same_pid e.0 q
    first true = refl
    first false = refl

    second : (b : Bool) → (cond b (e.0, begun_with born e.1) e).1 ≡ cond b (begun_with born e.1) e.1
    second true = refl
    second false = refl

    by_test : (b : Bool) → same_pid e.0 q ≡ b → held_of (with_begun child born here) q ≡ option_map (λ (h : Held). cond (same_pid q child) (begun_with born h) h) (held_of here q)
        → option_map (λ (e : Pid × Held). e.1) (cond (same_pid (cond (same_pid e.0 child) (e.0, begun_with born e.1) e).0 q) (Some (cond (same_pid e.0 child) (e.0, begun_with born e.1) e)) (find (λ (e : Pid × Held). same_pid e.0 q) (with_begun child born here)))
        ≡ option_map (λ (h : Held). cond (same_pid q child) (begun_with born h) h) (option_map (λ (e : Pid × Held). e.1) (cond (same_pid e.0 q) (Some e) (find (λ (e : Pid × Held). same_pid e.0 q) here)))
    by_test true is more =
        ap (λ b. option_map (λ (e : Pid × Held). e.1) (cond b (Some (cond (same_pid e.0 child) (e.0, begun_with born e.1) e)) (find (λ (e : Pid × Held). same_pid e.0 q) (with_begun child born here)))) (first (same_pid e.0 child) ∙ is)
        ∙ ap Some (second (same_pid e.0 child) ∙ ap (λ r. cond (same_pid r child) (begun_with born e.1) e.1) (whole is))
        ∙ sym (ap (λ b. option_map (λ (h : Held). cond (same_pid q child) (begun_with born h) h) (option_map (λ (e : Pid × Held). e.1) (cond b (Some e) (find (λ (e : Pid × Held). same_pid e.0 q) here)))) is)
    by_test false is more =
        ap (λ b. option_map (λ (e : Pid × Held). e.1) (cond b (Some (cond (same_pid e.0 child) (e.0, begun_with born e.1) e)) (find (λ (e : Pid × Held). same_pid e.0 q) (with_begun child born here)))) (first (same_pid e.0 child) ∙ is)
        ∙ more ∙ sym (ap (λ b. option_map (λ (h : Held). cond (same_pid q child) (begun_with born h) h) (option_map (λ (e : Pid × Held). e.1) (cond b (Some e) (find (λ (e : Pid × Held). same_pid e.0 q) here)))) is)

-- the pids stay
pub pids_begun : (child : Pid) (born : Process) (here : List (Pid × Held)) → pids_in (with_begun child born here) ≡ pids_in here
pids_begun child born [] = refl
pids_begun child born (e ∷ here) = λ i. one (same_pid e.0 child) i ∷ pids_begun child born here i
  where
    one : (b : Bool) → ((cond b (e.0, begun_with born e.1) e).0).0 ≡ (e.0).0
    one true = refl
    one false = refl

-- one that is not the one that changed is found as it was
pub other_there : (p : Pid) (now : Held) (here : List (Pid × Held)) (q : Pid) → same_pid q p ≡ false → held_of (with_changed p now here) q ≡ held_of here q
other_there p now [] q other = refl
other_there p now (e ∷ here) q other = by_test (same_pid e.0 p) refl (other_there p now here q other)
  where
    apart : same_pid e.0 p ≡ true → same_pid p q ≡ false
    apart is = turned (same_pid p q) refl
      where
        turned : (b : Bool) → same_pid p q ≡ b → same_pid p q ≡ false
        turned true same = absurd (true≢false (sym (eq-eqb q.0 p.0 (sym (eqb-true p.0 q.0 same))) ∙ other))
        turned false same = same

    by_test : (b : Bool) → same_pid e.0 p ≡ b → held_of (with_changed p now here) q ≡ held_of here q → option_map (λ (e : Pid × Held). e.1) (find (λ (e : Pid × Held). same_pid e.0 q) (cond b (p, now) e ∷ with_changed p now here)) ≡ held_of (e ∷ here) q
    by_test true is more =
        ap (λ b. option_map (λ (e : Pid × Held). e.1) (cond b (Some (p, now)) (find (λ (e : Pid × Held). same_pid e.0 q) (with_changed p now here)))) (apart is) ∙ more
        ∙ sym (ap (λ b. option_map (λ (e : Pid × Held). e.1) (cond b (Some e) (find (λ (e : Pid × Held). same_pid e.0 q) here))) (ap (λ r. same_pid r q) (pid_same e.0 p (eqb-true (e.0).0 p.0 is)) ∙ apart is))
    by_test false is more = by_found (same_pid e.0 q) more
      where
        by_found : (c : Bool) → held_of (with_changed p now here) q ≡ held_of here q
            → option_map (λ (e : Pid × Held). e.1) (cond c (Some e) (find (λ (e : Pid × Held). same_pid e.0 q) (with_changed p now here))) ≡ option_map (λ (e : Pid × Held). e.1) (cond c (Some e) (find (λ (e : Pid × Held). same_pid e.0 q) here))
        by_found true more = refl
        by_found false more = more

-- where no pid stands twice, what is there already changes nothing,
above_apart : (n : ℕ) (ns : List ℕ) (p : Pid) → list_all (λ m. ltb n m) ns ≡ true → eqb n p.0 ≡ true → (m : ℕ) → ltb n m ≡ true → eqb m p.0 ≡ false
above_apart n ns p all is m above = grind (arith, nat_tests)

pub changed_same : (p : Pid) (h : Held) (here : List (Pid × Held)) → are_rising (pids_in here) ≡ true → held_of here p ≡ Some h → with_changed p h here ≡ here
changed_same p h [] rise there = refl
changed_same p h (e ∷ here) rise there = by_test (same_pid e.0 p) refl there (changed_same p h here parts.1)
  where
    parts : (list_all (λ m. ltb (e.0).0 m) (pids_in here) ≡ true) × (are_rising (pids_in here) ≡ true)
    parts = and_parts (list_all (λ m. ltb (e.0).0 m) (pids_in here)) (are_rising (pids_in here)) rise

    none_after : (rest : List (Pid × Held)) → list_all (λ m. ltb (e.0).0 m) (pids_in rest) ≡ true → same_pid e.0 p ≡ true → with_changed p h rest ≡ rest
    none_after [] all is = refl
    none_after (f ∷ rest) all is =
        let both = and_parts (ltb (e.0).0 (f.0).0) (list_all (λ m. ltb (e.0).0 m) (pids_in rest)) all in
        λ i. cond (above_apart (e.0).0 (pids_in rest) p both.1 is (f.0).0 both.0 i) (p, h) f ∷ none_after rest both.1 is i

    by_test : (b : Bool) → same_pid e.0 p ≡ b → option_map (λ (e : Pid × Held). e.1) (cond b (Some e) (find (λ (e : Pid × Held). same_pid e.0 p) here)) ≡ Some h → (held_of here p ≡ Some h → with_changed p h here ≡ here) → cond b (p, h) e ∷ with_changed p h here ≡ e ∷ here
    by_test true is at more =
        let same : h ≡ e.1 = cc in
        λ i. (pid_same p e.0 (sym (eqb-true (e.0).0 p.0 is)) i, same i) ∷ none_after here parts.0 is i
    by_test false is at more = ap (λ rest. e ∷ rest) (more at)

-- nor does the beginning of a child that does not wait for it
pub begun_none : (child : Pid) (born : Process) (here : List (Pid × Held)) → are_rising (pids_in here) ≡ true → waits_for_fork_at here child ≡ false → with_begun child born here ≡ here
begun_none child born [] rise none = refl
begun_none child born (e ∷ here) rise none = by_test (same_pid e.0 child) refl none (begun_none child born here parts.1)
  where
    parts : (list_all (λ m. ltb (e.0).0 m) (pids_in here) ≡ true) × (are_rising (pids_in here) ≡ true)
    parts = and_parts (list_all (λ m. ltb (e.0).0 m) (pids_in here)) (are_rising (pids_in here)) rise

    none_after : (rest : List (Pid × Held)) → list_all (λ m. ltb (e.0).0 m) (pids_in rest) ≡ true → same_pid e.0 child ≡ true → with_begun child born rest ≡ rest
    none_after [] all is = refl
    none_after (f ∷ rest) all is =
        let both = and_parts (ltb (e.0).0 (f.0).0) (list_all (λ m. ltb (e.0).0 m) (pids_in rest)) all in
        λ i. cond (above_apart (e.0).0 (pids_in rest) child both.1 is (f.0).0 both.0 i) (f.0, begun_with born f.1) f ∷ none_after rest both.1 is i

    stays : (h : Held) → waits_for_fork h ≡ false → begun_with born h ≡ h
    stays (Waits w) none = ap (λ b. cond b (going_held (with_mail_of w.kept born) (w.kept).counts (w.kept).births) (Waits w)) none
    stays _ none = refl

    by_test : (b : Bool) → same_pid e.0 child ≡ b → option_map_or waits_for_fork (option_map (λ (e : Pid × Held). e.1) (cond b (Some e) (find (λ (e : Pid × Held). same_pid e.0 child) here))) false ≡ false → (waits_for_fork_at here child ≡ false → with_begun child born here ≡ here)
        → cond b (e.0, begun_with born e.1) e ∷ with_begun child born here ≡ e ∷ here
    by_test true is at more = λ i. (e.0, stays e.1 at i) ∷ none_after here parts.0 is i
    by_test false is at more = ap (λ rest. e ∷ rest) (more at)

-- no step was made where a step would leave what is not so
pub none_made : (made : ℕ) → (1 ≤ made → false ≡ true) → made ≡ 0
none_made zero wrong = refl
none_made (suc n) wrong = absurd (true≢false (sym (wrong (omega arith))))

-- ---- the parts

-- one that is here and rolls forward
pub record RollsThere (p : Pid) (here : List (Pid × Held)) : Type 0 where
  pub process : Process
  pub counts : Counts
  pub births : List Pid
  pub there : held_of here p ≡ Some (Rolls process counts births)

-- who makes a step again rolls forward
rolled_some : (n : ℕ) (p : Pid) (old : List (Pid × Held)) (was now : Held) → 1 ≤ n → held_of old p ≡ Some was → RollsTo n was now → RollsThere p old
rolled_some n p old (Runs q) (Runs r) some there rolls = absurd (omega (arith, some, rolls.0))
rolled_some n p old (Rolls q counts births) now some there rolls = record { process = q; counts = counts; births = births; there = there }
rolled_some n p old was now some there rolls = absurd rolls

pub part_rolls : (p : Pid) (n : ℕ) (old new : List (Pid × Held)) → RollsPart p n old new → RollsThere p old
part_rolls p n old new (inl steps) = rolled_some n p old steps.was steps.now steps.some steps.there steps.rolls
part_rolls p n old new (inr fork) = let f = fork.1 in record { process = f.process; counts = f.counts; births = f.child ∷ f.births; there = f.there }

-- no part is empty
pub part_some : (p : Pid) (n : ℕ) (old new : List (Pid × Held)) → RollsPart p n old new → 1 ≤ n
part_some p n old new (inl steps) = steps.some
part_some p n old new (inr fork) = omega (arith, fork.0)

-- no steps leave all as it was
pub none_again : (p : Pid) (n : ℕ) (old new : List (Pid × Held)) → RollsAgain p n old new → n ≡ 0 → new ≡ old
none_again p _ _ _ NoPart is = refl
none_again p _ _ _ (Part {m} {old} {mid} before k new part) is = absurd (omega (arith, is, part_some p k mid new part))

-- who makes some again rolled forward before the first
pub again_rolls : (p : Pid) (n : ℕ) (old new : List (Pid × Held)) → RollsAgain p n old new → 1 ≤ n → RollsThere p old
again_rolls p _ _ _ NoPart some = absurd (omega (arith, some))
again_rolls p _ _ _ (Part {m} {old} {mid} before k new part) some = by_count m refl (λ made. again_rolls p m old mid before made)
  where
    by_count : (i : ℕ) → m ≡ i → (1 ≤ m → RollsThere p old) → RollsThere p old
    by_count zero none more = subst (RollsThere p) (none_again p m old mid before none) (part_rolls p k mid new part)
    by_count (suc i) is more = more (omega (arith, is))

-- who made a fork again is here after it, and goes on from there
pub fork_there : (p : Pid) (old new : List (Pid × Held)) → (f : ForksAgain p old new) → held_of new p ≡ Some (going_held (forked f.process f.child) f.counts f.births)
fork_there p old new f =
    ap (λ hs. held_of hs p) f.here ∙ begun_found f.child (newborn f.process f.child) (with_changed p goes old) p
    ∙ ap (option_map (λ (h : Held). cond (same_pid p f.child) (begun_with (newborn f.process f.child) h) h)) (changed_there p goes old (Rolls f.process f.counts (f.child ∷ f.births)) f.there) ∙ ap Some (kept (same_pid p f.child) (nothing_left f.counts f.births))
  where
    goes : Held
    goes = going_held (forked f.process f.child) f.counts f.births

    kept : (b left : Bool) → cond b (begun_with (newborn f.process f.child) (cond left (Runs (forked f.process f.child)) (Rolls (forked f.process f.child) f.counts f.births))) (cond left (Runs (forked f.process f.child)) (Rolls (forked f.process f.child) f.counts f.births))
        ≡ cond left (Runs (forked f.process f.child)) (Rolls (forked f.process f.child) f.counts f.births)
    kept true true = refl
    kept true false = refl
    kept false left = refl

-- who rolls forward is here
pub rolls_there : (p : Pid) (here : List (Pid × Held)) → rolls_at here p ≡ true → RollsThere p here
rolls_there p here rolls = by_found (held_of here p) refl rolls
  where
    by_held : (h : Held) → held_of here p ≡ Some h → is_rolling h ≡ true → RollsThere p here
    by_held (Rolls q counts births) at rolls = record { process = q; counts = counts; births = births; there = at }
    by_held _ at rolls = absurd (true≢false (sym rolls))

    by_found : (o : Option Held) → held_of here p ≡ o → option_map_or is_rolling o false ≡ true → RollsThere p here
    by_found None at rolls = absurd (true≢false (sym rolls))
    by_found (Some h) at rolls = by_held h at rolls

-- and runs after the last, where it does not roll forward still
part_runs : (p : Pid) (n : ℕ) (old new : List (Pid × Held)) → RollsPart p n old new → rolls_at new p ≡ false → runs_at new p ≡ true
part_runs p n old new (inl steps) stopped = by_now steps.was steps.now steps.rolls (ap (λ hs. held_of hs p) steps.here ∙ changed_there p steps.now old steps.was steps.there)
  where
    by_now : (was now : Held) → RollsTo n was now → held_of new p ≡ Some now → runs_at new p ≡ true
    by_now (Rolls p counts births) (Rolls q left unborn) rolls there = absurd (true≢false (sym (ap (λ o. option_map_or is_rolling o false) there) ∙ stopped))
    by_now was (Runs q) rolls there = ap (λ o. option_map_or is_running o false) there
    by_now was now rolls there = absurd rolls
part_runs p n old new (inr fork) stopped = by_going (nothing_left f.counts f.births) refl
  where
    f : ForksAgain p old new
    f = fork.1

    goes : Process
    goes = forked f.process f.child

    by_going : (b : Bool) → nothing_left f.counts f.births ≡ b → runs_at new p ≡ true
    by_going true is = ap (λ o. option_map_or is_running o false) (fork_there p old new f ∙ ap (λ b. Some (cond b (Runs goes) (Rolls goes f.counts f.births))) is)
    by_going false is = absurd (true≢false (sym (ap (λ o. option_map_or is_rolling o false) (fork_there p old new f ∙ ap (λ b. Some (cond b (Runs goes) (Rolls goes f.counts f.births))) is)) ∙ stopped))

pub again_runs : (p : Pid) (n : ℕ) (old new : List (Pid × Held)) → RollsAgain p n old new → 1 ≤ n → rolls_at new p ≡ false → runs_at new p ≡ true
again_runs p _ _ _ NoPart some stopped = absurd (omega (arith, some))
again_runs p _ _ _ (Part {m} {old} {mid} before k new part) some stopped = part_runs p k mid new part stopped

-- ---- the fork

going_unwaiting : (p : Process) (counts : Counts) (births : List Pid) → waits_for_fork (going_held p counts births) ≡ false
going_unwaiting p counts births = by_left (nothing_left counts births)
  where
    by_left : (b : Bool) → waits_for_fork (cond b (Runs p) (Rolls p counts births)) ≡ false
    by_left true = refl
    by_left false = refl

-- the child of the next fork of what is held can begin again
abbrev BeginsAt : List (Pid × Held) → Held → Type 0
BeginsAt here (Rolls q counts births) = AtFront (CanBeginAgain here) (state_of q) births
BeginsAt here _ = Unit {0}

module _ (p : Pid) (old mid : List (Pid × Held)) (made : Bool) (born : Option Process) (b : BearsAgain made p old born mid) where
  abbrev f : HasForkedAgain made b.was born b.now
  f = b.forks

  abbrev child : Pid
  child = (f.stood).child

  there : held_of old p ≡ Some (Rolls (f.stood).process (f.stood).counts (child ∷ (f.stood).births))
  there = b.there ∙ ap Some (f.stood).is

  mid_is : mid ≡ with_changed p (going_held (forked (f.stood).process child) (f.stood).counts (f.stood).births) old
  mid_is = b.here ∙ ap (λ (h : Held). with_changed p h old) f.now

  -- the child that its next fork takes is the one that it took
  pub bears_next : (next : Pid) → option_and_then child_again (held_of old p) ≡ Some next → next ≡ child
  bears_next next is = same_Some next child (sym is ∙ ap (option_and_then child_again) there)

  -- what was asked of it before the fork is asked of the fork
  pub begins_same : CanForkAgainNow p old → CanBeginAgain old (state_of (f.stood).process) child
  begins_same n =
      let s = n.stands in
      let one : Some (Rolls s.process s.counts (s.child ∷ s.births)) ≡ Some (Rolls (f.stood).process (f.stood).counts (child ∷ (f.stood).births)) = sym (n.there ∙ ap Some s.is) ∙ there in
      subst (BeginsAt old) (same_Some (Rolls s.process s.counts (s.child ∷ s.births)) (Rolls (f.stood).process (f.stood).counts (child ∷ (f.stood).births)) one) n.begins

  -- where the child waited, it begins
  pub fork_made : (q : Process) (new : List (Pid × Held)) → made ≡ true → born ≡ Some q → new ≡ with_begun child q mid → ForksAgain p old new
  fork_made q new is is_born begun =
      let same : Some (newborn (f.stood).process child) ≡ Some q = sym (f.child ∙ ap (λ b. cond b (Some (newborn (f.stood).process child)) None) is) ∙ is_born in
      let who : newborn (f.stood).process child ≡ q = same_Some (newborn (f.stood).process child) q same in
      record {
        process = (f.stood).process;
        counts = (f.stood).counts;
        child = child;
        births = (f.stood).births;
        there = there;
        forks = (f.stood).forks;
        here = begun ∙ (λ i. with_begun child (sym who i) (mid_is i));
      }

  -- where it did not, the parent's half is all
  pub fork_alone : are_rising (pids_in old) ≡ true → waits_for_fork_at old child ≡ false → ForksAgain p old mid
  fork_alone rise none = record {
    process = (f.stood).process;
    counts = (f.stood).counts;
    child = child;
    births = (f.stood).births;
    there = there;
    forks = (f.stood).forks;
    here = mid_is ∙ sym (begun_none child (newborn (f.stood).process child) changed (ap are_rising (pids_changed p (going_held (forked (f.stood).process child) (f.stood).counts (f.stood).births) old) ∙ rise) unwaiting);
  }
    where
      changed : List (Pid × Held)
      changed = with_changed p (going_held (forked (f.stood).process child) (f.stood).counts (f.stood).births) old

      unwaiting : waits_for_fork_at changed child ≡ false
      unwaiting = by_pid (same_pid child p) refl
        where
          by_pid : (b : Bool) → same_pid child p ≡ b → waits_for_fork_at changed child ≡ false
          by_pid true is =
              ap (waits_for_fork_at changed) (pid_same child p (eqb-true child.0 p.0 is)) ∙ ap (λ o. option_map_or waits_for_fork o false) (changed_there p (going_held (forked (f.stood).process child) (f.stood).counts (f.stood).births) old (Rolls (f.stood).process (f.stood).counts (child ∷ (f.stood).births)) there)
              ∙ going_unwaiting (forked (f.stood).process child) (f.stood).counts (f.stood).births
          by_pid false is = ap (λ o. option_map_or waits_for_fork o false) (other_there p (going_held (forked (f.stood).process child) (f.stood).counts (f.stood).births) old child is) ∙ none

  -- and where it waited, it can begin so
  pub begins_with : (q : Process) → CanBeginAgain old (state_of (f.stood).process) child → waits_for_fork_at old child ≡ true → made ≡ true → born ≡ Some q → (h : Held) → held_of mid child ≡ Some h → CanBeginWith q h
  begins_with q can waits is is_born h at = by_old (held_of old child) refl waits
    where
      same : newborn (f.stood).process child ≡ q
      same = same_Some (newborn (f.stood).process child) q (sym (f.child ∙ ap (λ b. cond b (Some (newborn (f.stood).process child)) None) is) ∙ is_born)

      apart : same_pid child p ≡ false
      apart = by_pid (same_pid child p) refl
        where
          by_pid : (b : Bool) → same_pid child p ≡ b → same_pid child p ≡ false
          by_pid true is =
              absurd (true≢false (sym waits ∙ ap (waits_for_fork_at old) (pid_same child p (eqb-true child.0 p.0 is)) ∙ ap (λ o. option_map_or waits_for_fork o false) there))
          by_pid false is = is

      found : held_of old child ≡ Some h
      found = sym (ap (λ hs. held_of hs child) mid_is ∙ other_there p (going_held (forked (f.stood).process child) (f.stood).counts (f.stood).births) old child apart) ∙ at

      stateless : (w : WaitingState) → waits_for_fork (Waits w) ≡ true → (w.kept).state ≡ None
      stateless w waits = none_is (w.kept).state waits
        where
          none_is : {X : Type 0} → (o : Option X) → is_none o ≡ true → o ≡ None
          none_is None is = refl
          none_is (Some x) is = absurd (true≢false (sym is))

      by_held : (k : Held) → k ≡ h → held_of old child ≡ Some k → waits_for_fork k ≡ true → CanBeginWith (newborn (f.stood).process child) k
      by_held (Waits w) is at_old waits = (stateless w waits, refl, refl, refl, can w at_old (stateless w waits))
      by_held _ is at_old waits = absurd (true≢false (sym waits))

      by_old : (o : Option Held) → held_of old child ≡ o → option_map_or waits_for_fork o false ≡ true → CanBeginWith q h
      by_old None at_old waits = absurd (true≢false (sym waits))
      by_old (Some k) at_old waits =
          let kept : k ≡ h = same_Some k h (sym at_old ∙ found) in
          subst (λ (x : Process). CanBeginWith x h) same (subst (CanBeginWith (newborn (f.stood).process child)) kept (by_held k kept at_old waits))
