-- What a cluster tells where nothing in it can move.
use Rattle.std.proofs.Common.{◌≡◌, ℕ, refl, sym, ◌∙◌, ap, subst, arith, Result, Ok, Err, List, [], ◌∷◌, map, Bool, true, false, cond, ◌&&◌, ◌||◌, eqb, eqb-true, ltb, Option, Some, None, true≢false, is_none, not}
use Rattle.std.specs.Prelude.{IfOk, IfSome, find, is_some, nat_le, option_map, filter}
use Rattle.std.specs.List.{list_any, list_all}
use Rattle.std.proofs.lemmas.Bool.{le-leb, and_parts, and_from}
use Rattle.std.proofs.lemmas.Bool.Decides.{nat_tests}
use Rattle.std.specs.Option.{option_map_or}
use Rattle.t32_base.specs.declared.process.Pid.{Pid}
use Rattle.sys_text.specs.declared.system.System.{System}
use Rattle.proc_state.specs.State.{ProcState, state_of}
use Rattle.bus_msg.specs.declared.entry.Entry.{Entry}
use Rattle.cert_sched.specs.Parts.{rising, put_rising}
use Rattle.cert_sched.specs.Schedule.{done_after, placement}
use Rattle.cert_sched.specs.Steps.{silent_upto}
use Rattle.cert_sched.specs.Rests.{is_idle, is_idle_at, owes_no_backup_at}
use Rattle.proc_state.specs.declared.process.Process.{Process}
use Rattle.residents.specs.Duty.{DutyView, backup_owed}
use Rattle.cluster_core.specs.View.{ClusterView, duty_of, limits_of}
use Rattle.residents.specs.Held.{Held, Runs, Rolls, Waits, held_of, steps_of_held, can_act}
use Rattle.bus_msg.specs.Places.{same_pid, is_at_home, same_cluster, unended_at}
use Rattle.cert_sched.proofs.RisingLaws.{NoTwo}
use Rattle.cluster_core.proofs.here.Here.{is_among}
use Rattle.residents.proofs.Changing.{same_itself}
use Rattle.residents.specs.Residents.{are_rising, pids_in, are_settled, is_settled, is_stuck}
use Rattle.cluster_core.specs.Calls.{RestsIn, is_resting, rests_of}
use Rattle.residents.specs.Told.{rests_in}
use Rattle.cluster_core.proofs.here.Owning.{rolls_unsettled, settled_idle}
use Rattle.cluster_core.proofs.working.Working.{ahead, held_before}
use Rattle.t32_base.specs.declared.process.ClusterNo.{ClusterNo}
use Rattle.bus_msg.specs.declared.placed.Placed.{Placed}
use Rattle.cert_sched.proofs.PidLaws.{placed_pids}
use Rattle.cert_sched.proofs.ThereLaws.{found_among}
use Rattle.std.proofs.lemmas.Option.{same_Some}
use Rattle.sys_text.specs.Valid.{is_system}
use Rattle.cluster_core.specs.Follows.{IsOpen, Follows}
use Rattle.cert_sched.specs.Legal.{MayStand}
use Rattle.bus_msg.specs.NewBackup.{next_backup, next_backup_at}
use Rattle.cert_sched.proofs.RollLaws.{two_apart, all_roll}
use Rattle.cluster_core.proofs.losses.Homes.{HomeHere}
use Rattle.cluster_core.proofs.losses.HeldAtHome.{held_at_home}
use Rattle.residents.proofs.OwingLaws.{owed_here}

-- ---- a process at rest

idle_at : (system : System) (log : List Entry) (p : Pid) (s : ProcState) → silent_upto system log p (s.small).steps ≡ Some s → is_idle s ≡ true → is_idle_at system log (p, (s.small).steps) ≡ true
idle_at system log p s silent idle =
    let a = ahead system log p s silent in
    let enough : nat_le (done_after system log p) (s.small).steps ≡ true = le-leb (done_after system log p) (s.small).steps (omega (arith, a.done, a.counts)) in
    (λ i. (enough i && is_some (silent i)) && option_map_or is_idle (silent i) false) ∙ idle

-- ---- numbers that rise

in_front : (n : ℕ) (ns : List ℕ) → list_all (λ m. ltb n m) ns ≡ true → put_rising n ns ≡ n ∷ ns
in_front n [] below = refl
in_front n (m ∷ ns) below = ap (λ b. cond b (n ∷ m ∷ ns) (m ∷ put_rising n ns)) (and_parts (ltb n m) (list_all (λ m. ltb n m) ns) below).0

-- they are in their order
rises : (ns : List ℕ) → are_rising ns ≡ true → rising ns ≡ ns
rises [] h = refl
rises (n ∷ ns) h = let parts = and_parts (list_all (λ m. ltb n m) ns) (are_rising ns) h in ap (put_rising n) (rises ns parts.1) ∙ in_front n ns parts.0

none_equal : (n : ℕ) (ns : List ℕ) → list_all (λ m. ltb n m) ns ≡ true → list_any (λ m. eqb m n) ns ≡ false
none_equal n [] below = refl
none_equal n (m ∷ ns) below =
    let parts = and_parts (ltb n m) (list_all (λ m. ltb n m) ns) below in
    ap (λ b. b || list_any (λ m. eqb m n) ns) (other n m parts.0) ∙ none_equal n ns parts.1
  where
    other : (n m : ℕ) → ltb n m ≡ true → eqb m n ≡ false
    other n m less = grind (arith, nat_tests)

-- none stands twice
apart : (ns : List ℕ) → are_rising ns ≡ true → NoTwo ns
apart [] h = tt
apart (n ∷ ns) h = let parts = and_parts (list_all (λ m. ltb n m) ns) (are_rising ns) h in (none_equal n ns parts.0, apart ns parts.1)

-- ---- what is told

-- what is settled runs, and is idle in each log in which it is found after silent steps
rest_idle : (system : System) (duty : DutyView) (log : List Entry) (p : Pid) (h : Held) → ((s : Process) → h ≡ Runs s → silent_upto system log p (s.small).steps ≡ Some (state_of s)) → is_settled duty (p, h) ≡ true → is_idle_at system log (p, steps_of_held h) ≡ true
rest_idle system duty log p (Runs s) there rest = idle_at system log p (state_of s) (there s refl) (settled_idle duty p s rest)
rest_idle system duty log p (Rolls s counts births) there rest = absurd (rolls_unsettled duty p s counts births rest)
rest_idle system duty log p (Waits waiting) there rest = absurd (true≢false (sym (and_parts (is_stuck duty (p, Waits waiting)) false rest).1))

-- each that is settled here is so in each log that the cluster follows
each_idle : (c : ClusterView) (duty : DutyView) (log : List Entry) (here : List (Pid × Held)) → ((p : Pid) (s : Process) → held_of here p ≡ Some (Runs s) → silent_upto c.system log p (s.small).steps ≡ Some (state_of s)) → NoTwo (pids_in here)
    → are_settled duty here ≡ true → list_all (is_idle_at c.system log) (rests_in here) ≡ true
each_idle c duty log [] there two rest = refl
each_idle c duty log (e ∷ here) there two rest =
    let parts = and_parts (is_settled duty e) (are_settled duty here) rest in
    let first : held_of (e ∷ here) e.0 ≡ Some e.1 = ap (λ b. option_map (λ (e : Pid × Held). e.1) (cond b (Some e) (find (λ (q : Pid × Held). same_pid q.0 e.0) here))) (same_itself e.0) in
    and_from (is_idle_at c.system log (e.0, steps_of_held e.1)) _ (rest_idle c.system duty log e.0 e.1 (λ s is. there e.0 s (first ∙ ap Some is)) parts.0)
    (each_idle c duty log here (λ p s at. there p s (beside p s at (same_pid e.0 p) refl)) two.1 parts.1)
  where
    beside : (p : Pid) (s : Process) → held_of here p ≡ Some (Runs s) → (b : Bool) → same_pid e.0 p ≡ b → held_of (e ∷ here) p ≡ Some (Runs s)
    beside p s at true is = absurd (true≢false (sym (ap (λ n. list_any (λ m. eqb m n) (pids_in here)) (eqb-true (e.0).0 p.0 is) ∙ is_among here p (Runs s) at) ∙ two.0))
    beside p s at false is = ap (λ b. option_map (λ (e : Pid × Held). e.1) (cond b (Some e) (find (λ (q : Pid × Held). same_pid q.0 p) here))) is ∙ at

-- ---- who is owed a backup

-- what holds of each that is found among those placed, where it is at home in a cluster, holds of each that is at home there
each_home : (k : ClusterNo) (t : Placed → Bool) (qs : List Placed) → NoTwo (placed_pids qs)
    → ((q : Placed) → find (λ (r : Placed). same_pid r.pid q.pid && not r.ended) qs ≡ Some q → is_at_home k q ≡ true → t q ≡ true) → list_all t (filter (is_at_home k) qs) ≡ true
each_home k t [] two found = refl
each_home k t (q ∷ qs) two found = by_home (is_at_home k q) refl (each_home k t qs two.1 later)
  where
    here : is_at_home k q ≡ true → t q ≡ true
    here at =
        let halves = and_parts (same_cluster q.home k) (not q.ended) at in
        found q (ap (λ b. cond b (Some q) (find (λ (r : Placed). same_pid r.pid q.pid && not r.ended) qs)) (and_from (same_pid q.pid q.pid) (not q.ended) (same_itself q.pid) halves.1)) at

    later : (r : Placed) → find (λ (s : Placed). same_pid s.pid r.pid && not s.ended) qs ≡ Some r → is_at_home k r ≡ true → t r ≡ true
    later r there = found r (by_test (same_pid q.pid r.pid && not q.ended) refl)
      where
        by_test : (b : Bool) → (same_pid q.pid r.pid && not q.ended) ≡ b → cond b (Some q) (find (λ (s : Placed). same_pid s.pid r.pid && not s.ended) qs) ≡ Some r
        by_test false is = there
        by_test true is =
            let same : (q.pid).0 ≡ (r.pid).0 = eqb-true (q.pid).0 (r.pid).0 (and_parts (same_pid q.pid r.pid) (not q.ended) is).0 in
            absurd (true≢false (sym (found_among r.pid qs (ap is_some there)) ∙ ap (λ n. list_any (λ m. eqb m n) (placed_pids qs)) (sym same) ∙ two.0))

    by_home : (b : Bool) → is_at_home k q ≡ b → list_all t (filter (is_at_home k) qs) ≡ true → list_all t (cond b (q ∷ filter (is_at_home k) qs) (filter (is_at_home k) qs)) ≡ true
    by_home true at more = and_from (t q) _ (here at) more
    by_home false at more = more

-- what is settled is owed no backup
settled_backed : (duty : DutyView) (p : Pid) (h : Held) → is_settled duty (p, h) ≡ true → is_none (backup_owed duty p) ≡ true
settled_backed duty p (Runs s) rest = none_owed (backup_owed duty p) (and_parts (is_stuck duty (p, Runs s)) true rest).0
  where
    none_owed : (o : Option ClusterNo) → not ((is_some o && true) || can_act duty.limits (Runs s)) ≡ true → is_none o ≡ true
    none_owed None stuck = refl
    none_owed (Some k) stuck = absurd (true≢false (sym stuck))
settled_backed duty p (Rolls s counts births) rest = absurd (rolls_unsettled duty p s counts births rest)
settled_backed duty p (Waits waiting) rest = absurd (true≢false (sym (and_parts (is_stuck duty (p, Waits waiting)) false rest).1))

-- of those that are settled each is, by its pid
settled_at : (duty : DutyView) (here : List (Pid × Held)) (p : Pid) (h : Held) → are_settled duty here ≡ true → held_of here p ≡ Some h → is_settled duty (p, h) ≡ true
settled_at duty [] p h all there = cc
settled_at duty (e ∷ here) p h all there = by_test (same_pid e.0 p) refl there (settled_at duty here p h parts.1)
  where
    parts : (is_settled duty e ≡ true) × (are_settled duty here ≡ true)
    parts = and_parts (is_settled duty e) (are_settled duty here) all

    by_test : (b : Bool) → same_pid e.0 p ≡ b → option_map (λ (e : Pid × Held). e.1) (cond b (Some e) (find (λ (q : Pid × Held). same_pid q.0 p) here)) ≡ Some h
        → (held_of here p ≡ Some h → is_settled duty (p, h) ≡ true) → is_settled duty (p, h) ≡ true
    by_test false is at more = more at
    by_test true is at more =
        let same : e.0 ≡ p = λ i. record { 0 = eqb-true (e.0).0 p.0 is i } in
        let held : e.1 ≡ h = same_Some e.1 h at in
        (λ i. is_settled duty (sym same i, sym held i)) ∙ parts.0

-- in a cluster where all are settled none at home is owed a backup
rest_backed : (c : ClusterView) (log : List Entry) → is_system c.system ≡ true → is_resting c ≡ true → IsOpen MayStand c.system log → Follows c.system log c → owes_no_backup_at c.system log c.number ≡ true
rest_backed c log valid at_rest go f = each_home c.number (λ q. is_none (next_backup (placement c.system log) q)) (placement c.system log).placed (two_apart c.system log (all_roll MayStand (λ system log e may. may.stands) c.system log valid go.0)) one
  where
    one : (q : Placed) → unended_at (placement c.system log) q.pid ≡ Some q → is_at_home c.number q ≡ true → is_none (next_backup (placement c.system log) q) ≡ true
    one q found at =
        let home : HomeHere (placement c.system log) q.pid c.number = record { placed = q; found = found; home = (and_parts (same_cluster q.home c.number) (not q.ended) at).0 } in
        let held = held_at_home (placement c.system log) c.number c.here q.pid (f.processes).each_once home in
        let none : is_none (backup_owed (duty_of c) q.pid) ≡ true = settled_backed (duty_of c) q.pid held.0 (settled_at (duty_of c) c.here q.pid held.0 at_rest held.1) in
        let owed : backup_owed (duty_of c) q.pid ≡ next_backup_at (placement c.system log) q.pid = owed_here (limits_of c.system) c.places c.here q.pid held.0 held.1 ∙ ap (λ places. next_backup_at places q.pid) (f.log).places in
        sym (ap is_none (owed ∙ ap (λ o. option_map_or (next_backup (placement c.system log)) o None) found)) ∙ none

-- the processes that a cluster tells rest in each log that it follows
pub rests_told : (c : ClusterView) → is_system c.system ≡ true → are_rising (pids_in c.here) ≡ true → is_resting c ≡ true → RestsIn c (rests_in c.here)
rests_told c valid ordered at_rest empty log now f = record {
  named = same_pids c.here ∙ sym (rises (pids_in c.here) ordered) ∙ (f.processes).each_once;
  idle = each_idle c (duty_of c) log c.here (λ p s there. held_before c log p s empty f there) (apart (pids_in c.here) ordered) at_rest;
  backed = rest_backed c log valid at_rest now f;
}
  where
    same_pids : (here : List (Pid × Held)) → map (λ (r : Pid × ℕ). (r.0).0) (rests_in here) ≡ pids_in here
    same_pids [] = refl
    same_pids (e ∷ here) = ap (λ ns. (e.0).0 ∷ ns) (same_pids here)

-- what a call answers that tells them
pub told_rests : {E : Type 0} (c : ClusterView) (result : Result (Option (List (Pid × ℕ))) E) → is_system c.system ≡ true → are_rising (pids_in c.here) ≡ true
    → IfOk result (λ rests. rests ≡ cond (is_resting c) (Some (rests_of c)) None) → IfOk result (λ rests. IfSome rests (RestsIn c))
told_rests c (Err e) valid ordered told = tt
told_rests c (Ok o) valid ordered told = by_test (is_resting c) refl told
  where
    by_test : (b : Bool) → is_resting c ≡ b → o ≡ cond b (Some (rests_of c)) None → IfSome o (RestsIn c)
    by_test true settled is = let P : Option (List (Pid × ℕ)) → Type 0 = λ o. IfSome o (RestsIn c) in subst P (sym is) (rests_told c valid ordered settled)
    by_test false settled is = let P : Option (List (Pid × ℕ)) → Type 0 = λ o. IfSome o (RestsIn c) in subst P (sym is) tt
