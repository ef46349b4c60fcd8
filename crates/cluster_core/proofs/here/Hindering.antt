-- Where no process here can have a turn, none can move: no child hinders any.
use Rattle.std.proofs.Common.{◌≡◌, refl, sym, ◌∙◌, ap, subst, length, List, [], ◌∷◌, Bool, cond, not, ◌&&◌, ◌||◌, eqb-true, is_some, Option, Some, None, true, false, true≢false}
use Rattle.std.specs.Prelude.{find, option_map}
use Rattle.std.specs.List.{list_all, list_any}
use Rattle.std.specs.Option.{option_map_or}
use Rattle.std.proofs.lemmas.Bool.{and_from, and_parts}
use Rattle.t32_base.specs.declared.process.Pid.{Pid}
use Rattle.sys_text.specs.Valid.{is_system}
use Rattle.proc_state.specs.declared.process.Process.{Process}
use Rattle.bus_msg.specs.declared.entry.Entry.{Entry}
use Rattle.bus_msg.specs.declared.placed.Placed.{Placed}
use Rattle.bus_msg.specs.Places.{same_pid}
use Rattle.cert_sched.specs.Legal.{IsLegalBy, Stands}
use Rattle.cert_sched.specs.Schedule.{placement}
use Rattle.log_laws.proofs.records.Standing.{all_stand}
use Rattle.log_laws.specs.births.Unsynced.{unsynced_births}
use Rattle.log_laws.proofs.births.Filters.{passes_any}
use Rattle.log_laws.proofs.births.FirstChild.{within_has}
use Rattle.log_laws.proofs.births.UnsyncedChild.{lives_with_parent}
use Rattle.cluster_core.specs.View.{ClusterView, held_at, duty_of}
use Rattle.residents.specs.Held.{Held, Runs, Rolls, Waits, held_of, is_running, runs_at}
use Rattle.residents.specs.ChildrenFirst.{child_before, comes_after, has_turn, is_hindered}
use Rattle.residents.specs.Duty.{backup_owed, is_able}
use Rattle.cluster_core.specs.Follows.{Follows}
use Rattle.residents.specs.Residents.{are_stuck, none_has_turn, pids_in}
use Rattle.cluster_core.specs.Calls.{FollowsSome}
use Rattle.residents.proofs.ChildFirst.{before_is, none_before}
use Rattle.cluster_core.proofs.forks.ForksAgain.{bears_by}
use Rattle.cluster_core.proofs.losses.HeldAtHome.{held_at_home, home_found}
use Rattle.cluster_core.proofs.here.Here.{is_among}
use Rattle.residents.proofs.Changing.{pid_same, same_itself}
use Rattle.cluster_core.proofs.losses.Homes.{pids_apart, home_here}

-- what holds of all that are here holds of one that is found
all_found : (t : Pid × Held → Bool) (here : List (Pid × Held)) (p : Pid) (h : Held) → list_all t here ≡ true → held_of here p ≡ Some h → t (p, h) ≡ true
all_found t [] p h all there = cc
all_found t (e ∷ here) p h all there = by_test (same_pid e.0 p) refl there (all_found t here p h parts.1)
  where
    parts : (t e ≡ true) × (list_all t here ≡ true)
    parts = and_parts (t e) (list_all t here) all

    by_test : (b : Bool) → same_pid e.0 p ≡ b → option_map (λ (e : Pid × Held). e.1) (cond b (Some e) (find (λ (e : Pid × Held). same_pid e.0 p) here)) ≡ Some h → (held_of here p ≡ Some h → t (p, h) ≡ true) → t (p, h) ≡ true
    by_test true is at more =
        let same : e.1 ≡ h = cc in
        (λ i. t (pid_same p e.0 (sym (eqb-true (e.0).0 p.0 is)) i, sym same i)) ∙ parts.0
    by_test false is at more = more at

module _ (c : ClusterView) (valid : is_system c.system ≡ true) (some : FollowsSome c) (none : none_has_turn (duty_of c) c.family c.here ≡ true) where
  abbrev log : List Entry
  log = some.log

  abbrev f : Follows c.system some.log c
  f = some.follows

  legal : IsLegalBy Stands c.system some.log
  legal = all_stand c.system some.log (some.open_log).0

  -- a child that never synchronised of one that runs here is here and runs: it does not wait for a fork that was made, and where it rolls forward it has a turn
  child_runs : (p x : Pid) → list_any (bears_by p x) c.family ≡ true → runs_at c.here p ≡ true → runs_at c.here x ≡ true
  child_runs p x born runs = by_parent (held_at c p) refl runs
    where
      among : list_any (bears_by p x) (unsynced_births c.system some.log) ≡ true
      among = subst (λ bs. list_any (bears_by p x) bs ≡ true) f.family born

      rolls_first : (o : Bool) → ((o && false) || false) ≡ false
      rolls_first true = refl
      rolls_first false = refl

      rolls_able : (o : Bool) → not (((o && false) || true) && not false) ≡ false
      rolls_able true = refl
      rolls_able false = refl

      by_child : (process : Process) (h : Held) → held_at c p ≡ Some (Runs process) → held_at c x ≡ Some h → runs_at c.here x ≡ true
      by_child process (Runs q) at there = ap (λ o. option_map_or is_running o false) there
      by_child process (Rolls q counts births) at there =
          let free : is_hindered (duty_of c) c.family c.here x ≡ false = ap (λ o. option_map_or (λ (q : Pid). not (runs_at c.here q)) o false) (none_before (duty_of c) c.family c.here x (Rolls q counts births) there (rolls_first (is_some (backup_owed (duty_of c) x)))) in
          absurd (true≢false (sym (all_found (λ (e : Pid × Held). not (has_turn (duty_of c) c.family c.here e)) c.here x (Rolls q counts births) none there) ∙ ap (λ b. not (is_able (duty_of c) (x, Rolls q counts births) && not b)) free ∙ rolls_able (is_some (backup_owed (duty_of c) x))))
      by_child process (Waits w) at there = absurd (true≢false (f.forks p x (Runs process) (Waits w) at there born))

      by_held : (h : Held) → held_at c p ≡ Some h → is_running h ≡ true → runs_at c.here x ≡ true
      by_held (Runs process) at runs =
          let home = home_here (placement c.system some.log) c.number (pids_in c.here) p (pids_apart c.system some.log valid (some.open_log).0) (f.processes).each_once (is_among c.here p (Runs process) at) in
          let child = home_found (placement c.system some.log) x c.number (home.placed).home (lives_with_parent c.system some.log p x valid legal among ∙ ap (option_map (λ (q : Placed). q.home)) home.found) home.home in
          let held = held_at_home (placement c.system some.log) c.number c.here x (f.processes).each_once child in
          by_child process held.0 at held.1
      by_held _ at runs = absurd (true≢false (sym runs))

      by_parent : (o : Option Held) → held_at c p ≡ o → option_map_or is_running o false ≡ true → runs_at c.here x ≡ true
      by_parent None at runs = absurd (true≢false (sym runs))
      by_parent (Some h) at runs = by_held h at runs

  -- so is the one that is to come first
  first_runs : (p child : Pid) → child_before (duty_of c) c.family c.here p ≡ Some child → runs_at c.here child ≡ true
  first_runs p child is =
      let b = before_is (duty_of c) c.family c.here p child is in
      within_has c.family (λ q. runs_at c.here q ≡ true) (λ q. runs_at c.here q ≡ true) (λ birth m runs. child_runs birth.0 birth.1 (passes_any (bears_by birth.0 birth.1) c.family birth m (and_from (same_pid birth.0 birth.0) (same_pid birth.1 birth.1) (same_itself birth.0) (same_itself birth.1))) runs)
      (λ q runs. runs) (length c.family) p child b.first (ap (λ o. option_map_or is_running o false) b.there ∙ runs b.held b.comes)
    where
      by_owed : (o : Bool) → ((o && false) || false) ≡ true → false ≡ true
      by_owed true comes = comes
      by_owed false comes = comes

      runs : (h : Held) → comes_after (duty_of c) (p, h) ≡ true → is_running h ≡ true
      runs (Runs process) comes = refl
      runs _ comes = by_owed (is_some (backup_owed (duty_of c) p)) comes

  unhindered : (p : Pid) → is_hindered (duty_of c) c.family c.here p ≡ false
  unhindered p = by_child (child_before (duty_of c) c.family c.here p) refl
    where
      by_child : (o : Option Pid) → child_before (duty_of c) c.family c.here p ≡ o → option_map_or (λ (child : Pid). not (runs_at c.here child)) o false ≡ false
      by_child None is = refl
      by_child (Some child) is = ap not (first_runs p child is)

  stuck_of : (here : List (Pid × Held)) → list_all (λ (e : Pid × Held). not (has_turn (duty_of c) c.family c.here e)) here ≡ true → are_stuck (duty_of c) here ≡ true
  stuck_of [] all = refl
  stuck_of (e ∷ here) all =
      let parts = and_parts (not (has_turn (duty_of c) c.family c.here e)) (list_all (λ (e : Pid × Held). not (has_turn (duty_of c) c.family c.here e)) here) all in
      and_from (not (is_able (duty_of c) e)) (are_stuck (duty_of c) here) (one (is_able (duty_of c) e) (is_hindered (duty_of c) c.family c.here e.0) (unhindered e.0) parts.0) (stuck_of here parts.1)
    where
      one : (b h : Bool) → h ≡ false → not (b && not h) ≡ true → not b ≡ true
      one true true free is = absurd (true≢false free)
      one true false free is = is
      one false h free is = refl

  pub none_moves : are_stuck (duty_of c) c.here ≡ true
  none_moves = stuck_of c.here none
