-- A cluster that works has less left to do: fewer steps, or a synchronisation fewer before the next of them; or as much where it answers or asks for a page.
use Rattle.std.proofs.Common.{◌≡◌, ◌⊎◌, ℕ, zero, suc, ◌+◌, ◌*◌, ◌≤◌, refl, sym, ◌∙◌, ap, subst, arith, List, [], ◌∷◌, Bool, true, false, cond, ◌||◌, eqb, ltb, eqb-true, eq-eqb, true≢false, Some, inl, inr}
use Rattle.std.specs.List.{list_any}
use Rattle.std.proofs.lemmas.Bool.Decides.{nat_tests}
use Rattle.std.proofs.lemmas.Bool.{or_parts}
use Rattle.t32_base.specs.declared.process.Pid.{Pid}
use Rattle.t32_base.specs.declared.process.ClusterNo.{ClusterNo}
use Rattle.sys_text.specs.declared.system.System.{System}
use Rattle.sys_text.specs.Valid.{is_system}
use Rattle.proc_state.specs.declared.process.Process.{Process}
use Rattle.proc_state.specs.State.{can_take, state_of}
use Rattle.backup_mode.specs.Renewal.{cleared}
use Rattle.sync_point.specs.Batch.{after_take, synced}
use Rattle.sync_point.proofs.Cuts.{cut_keeps}
use Rattle.sys_calls.proofs.TakeLaws.{taken_strikes}
use Rattle.sys_calls.specs.Small.{weight_with_children}
use Rattle.sys_calls.proofs.Bearing.{emits_lightens, silently_lightens}
use Rattle.bus_msg.specs.declared.entry.Entry.{Entry}
use Rattle.bus_msg.specs.Places.{is_at_home}
use Rattle.cert_sched.specs.Legal.{MayStand}
use Rattle.cert_sched.specs.Legal.{IsLegalBy}
use Rattle.cert_sched.specs.Parts.{put_rising, rising}
use Rattle.cert_sched.specs.Rests.{home_pids}
use Rattle.cert_sched.specs.Schedule.{placement}
use Rattle.cert_sched.proofs.PidLaws.{apart_fewer}
use Rattle.cert_sched.proofs.RisingLaws.{NoTwo, rising-any, rising-apart}
use Rattle.cert_sched.proofs.RollLaws.{all_roll, two_apart}
use Rattle.cluster_core.specs.declared.worked.Worked.TheVariants.{Moved, Queued}
use Rattle.cluster_core.proofs.rolling.AgainLightens.{again_lightens, again_no_heavier, again_pids}
use Rattle.cluster_core.proofs.here.HeldLoads.{fewer_loads, held_weight, one_lighter, process_bounds, silent_leaves, silent_load, silent_no_heavier, sum_held}
use Rattle.residents.specs.ForkingAgain.{RollsAgain}
use Rattle.cluster_core.specs.View.{ClusterView, has_moved, held_load, limits_of, load, process_load}
use Rattle.residents.specs.Held.{Held, Runs, asked_held, held_of}
use Rattle.cluster_core.specs.Follows.{Follows}
use Rattle.cluster_core.specs.Calls.{FollowsSome, QueuesBatch, QueuesBirth, QueuesFresh, QueuesFetch, QueuesOne, WorkIs}
use Rattle.residents.specs.Quantum.{Moves}
use Rattle.residents.specs.Residents.{pids_in}
use Rattle.residents.specs.Changed.{with_changed}

-- ---- no pid stands twice

put_any : (t : ℕ → Bool) (n : ℕ) (xs : List ℕ) → list_any t (put_rising n xs) ≡ false → (t n ≡ false) × (list_any t xs ≡ false)
put_any t n [] none = or_parts (t n) false none
put_any t n (x ∷ xs) none = by_test (ltb n x) none (put_any t n xs)
  where
    both : (a b c : Bool) → a ≡ false → b ≡ false → c ≡ false → (b ≡ false) × ((a || c) ≡ false)
    both true b c g h k = absurd (true≢false g)
    both false b c g h k = (h, k)

    by_test : (b : Bool) → list_any t (cond b (n ∷ x ∷ xs) (x ∷ put_rising n xs)) ≡ false → (list_any t (put_rising n xs) ≡ false → (t n ≡ false) × (list_any t xs ≡ false)) → (t n ≡ false) × ((t x || list_any t xs) ≡ false)
    by_test true none more = or_parts (t n) (t x || list_any t xs) none
    by_test false none more =
        let parts = or_parts (t x) (list_any t (put_rising n xs)) none in
        let rest = more parts.1 in
        both (t x) (t n) (list_any t xs) parts.0 rest.0 rest.1

put_two : (n : ℕ) (xs : List ℕ) → NoTwo (put_rising n xs) → (list_any (λ m. eqb m n) xs ≡ false) × NoTwo xs
put_two n [] two = (refl, tt)
put_two n (x ∷ xs) two = by_test (ltb n x) two (put_two n xs)
  where
    turned : (b : Bool) → eqb x n ≡ b → eqb n x ≡ false → b ≡ false
    turned true is other = absurd (true≢false (sym (eq-eqb n x (sym (eqb-true x n is))) ∙ other))
    turned false is other = refl

    either : (a b : Bool) → a ≡ false → b ≡ false → (a || b) ≡ false
    either true b g h = absurd (true≢false g)
    either false b g h = h

    by_test : (b : Bool) → NoTwo (cond b (n ∷ x ∷ xs) (x ∷ put_rising n xs)) → (NoTwo (put_rising n xs) → (list_any (λ m. eqb m n) xs ≡ false) × NoTwo xs) → (list_any (λ m. eqb m n) (x ∷ xs) ≡ false) × NoTwo (x ∷ xs)
    by_test true two more = two
    by_test false two more =
        let parts = put_any (λ m. eqb m x) n xs two.0 in
        let rest = more two.1 in
        (either (eqb x n) (list_any (λ m. eqb m n) xs) (turned (eqb x n) refl parts.0) rest.0, (parts.1, rest.1))

apart_unsorted : (xs : List ℕ) → NoTwo (rising xs) → NoTwo xs
apart_unsorted [] two = tt
apart_unsorted (x ∷ xs) two =
    let parts = put_two x (rising xs) two in
    (sym (rising-any (λ m. eqb m x) xs) ∙ parts.0, apart_unsorted xs parts.1)

homes_apart : (system : System) (log : List Entry) (k : ClusterNo) → is_system system ≡ true → IsLegalBy MayStand system log → NoTwo (home_pids system log k)
homes_apart system log k valid legal =
    apart_fewer (is_at_home k) (placement system log).placed (two_apart system log (all_roll MayStand (λ system log e may. may.stands) system log valid legal))

pub pids_apart : (c : ClusterView) (log : List Entry) → is_system c.system ≡ true → IsLegalBy MayStand c.system log → Follows c.system log c → NoTwo (pids_in c.here)
pids_apart c log valid legal f = apart_unsorted (pids_in c.here) (subst NoTwo (sym (f.processes).each_once) (rising-apart (home_pids c.system log c.number) (homes_apart c.system log c.number valid legal)))

pub held_apart : (c : ClusterView) → is_system c.system ≡ true → FollowsSome c → NoTwo (pids_in c.here)
held_apart c valid f = pids_apart c f.log valid (f.open_log).0 f.follows

-- ---- a work

-- the pids stay where steps are made again
module _ (old : ClusterView) (valid : is_system old.system ≡ true) (f : FollowsSome old) where
  apart_again : (p : Pid) (made : ℕ) (mid : List (Pid × Held)) → RollsAgain p made old.here mid → NoTwo (pids_in mid)
  apart_again p made mid again = subst NoTwo (sym (again_pids p made old.here mid again)) (held_apart old valid f)

  -- where a process moved there is less left to do
  pub moved_lightens : (new : ClusterView) → WorkIs old Moved new → load new + 1 ≤ load old
  moved_lightens new work =
      let one = work.2 in
      let two = apart_again one.pid one.made one.mid one.again in
      subst (λ (c : ClusterView). load c + 1 ≤ load old) (sym one.rest) (by_made one.made one.mid one.was one.now one.again one.moves one.there two)
    where
      by_made : (made : ℕ) (mid : List (Pid × Held)) (was now : Held) → RollsAgain (work.2).pid made old.here mid → Moves (limits_of old.system) 64 made was now → held_of mid (work.2).pid ≡ Some was → NoTwo (pids_in mid) → sum_held (with_changed (work.2).pid now mid) + 1 ≤ sum_held old.here
      by_made zero mid was now again m there two =
          let fewer : held_weight now + 1 ≤ held_weight was = omega (arith, m.some, silent_leaves m.silent was now m.runs) in
          omega (arith, one_lighter (work.2).pid was now 1 mid two there (fewer_loads was now fewer), again_no_heavier (work.2).pid 0 old.here mid again (held_apart old valid f))
      by_made (suc n) mid was now again m there two =
          omega (arith, one_lighter (work.2).pid was now 0 mid two there (silent_no_heavier m.silent was now m.runs), again_lightens (work.2).pid (suc n) old.here mid again (held_apart old valid f) (omega arith))

  -- one that sent something has a step fewer left
  sent_lightens : (new : ClusterView) → QueuesOne old new → load new + 1 ≤ load old
  sent_lightens new one =
      let s = one.sends in
      let same : weight_with_children (s.now).small ≡ weight_with_children (one.now).small = ap held_weight (sym s.new_is) in
      let fewer : held_weight (Runs one.now) + 1 ≤ held_weight one.was =
      omega (arith, same, ap held_weight s.old_is, silently_lightens s.silent (state_of s.between) (state_of s.before) (s.runs).silent, emits_lightens (state_of s.before) (state_of s.now) one.emission s.sends) in
      let less = one_lighter one.pid one.was (Runs one.now) 1 one.mid (apart_again one.pid one.made one.mid one.again) one.there (fewer_loads one.was (Runs one.now) fewer) in
      omega (arith, less, again_no_heavier one.pid one.made old.here one.mid one.again (held_apart old valid f), ap load one.rest)

  -- one that came to its fork has no more left
  birth_lightens : (new : ClusterView) → QueuesBirth old new → load new ≤ load old
  birth_lightens new one =
      let k = one.comes in
      let same : held_load (Runs k.now) + 0 ≤ held_load one.was = omega (arith, ap held_load k.old_is, silent_load k.silent k.between k.now k.runs) in
      let less = one_lighter one.pid one.was (Runs k.now) 0 one.mid (apart_again one.pid one.made one.mid one.again) one.there same in
      omega (arith, less, again_no_heavier one.pid one.made old.here one.mid one.again (held_apart old valid f), ap load one.rest)

-- one that has just synchronised has not moved since
synced_unmoved : (p : Process) → has_moved (synced p) ≡ false
synced_unmoved p = (λ i. ltb (p.small).steps ((cut_keeps p).steps i) || false) ∙ not_itself (p.small).steps
  where
    not_itself : (n : ℕ) → (ltb n n || false) ≡ false
    not_itself n = grind (arith, nat_tests)

-- and has no more steps left where it took a signal
synced_weight : (p : Process) → weight_with_children (synced p).small ≤ weight_with_children p.small
synced_weight p = by_take (can_take (state_of p)) refl
  where
    by_take : (b : Bool) → can_take (state_of p) ≡ b → weight_with_children (cond b (after_take p) p).small ≤ weight_with_children p.small
    by_take true can = (taken_strikes (state_of p) can).weight_children
    by_take false none = omega arith

-- one that synchronised has as many steps left, and no synchronisation before the next of them
batch_lightens : (old new : ClusterView) → is_system old.system ≡ true → FollowsSome old → QueuesBatch old new → load new ≤ load old
batch_lightens old new valid f one =
    let after : process_load (synced one.process) ≡ 2 * weight_with_children (synced one.process).small + 0 = ap (λ b. 2 * weight_with_children (synced one.process).small + cond b 1 0) (synced_unmoved one.process) in
    let less : held_load (Runs (synced one.process)) + 0 ≤ held_load (Runs one.process) = omega (arith, (process_bounds one.process).0, after, synced_weight one.process) in
    let fewer : sum_held (with_changed one.pid (Runs (synced one.process)) old.here) + 0 ≤ sum_held old.here = one_lighter one.pid (Runs one.process) (Runs (synced one.process)) 0 old.here (held_apart old valid f) one.there less in
    omega (arith, fewer, ap load one.rest)

-- one whose new backup is queued has as much left
fresh_lightens : (old new : ClusterView) → is_system old.system ≡ true → FollowsSome old → QueuesFresh old new → load new ≤ load old
fresh_lightens old new valid f one =
    let fewer : sum_held (with_changed one.pid (Runs (cleared one.process)) old.here) + 0 ≤ sum_held old.here = one_lighter one.pid (Runs one.process) (Runs (cleared one.process)) 0 old.here (held_apart old valid f) one.there (omega arith) in
    omega (arith, fewer, ap load one.rest)

-- a page that is asked for is no step
asked_load : (h : Held) → held_load (asked_held h) ≡ held_load h
asked_load (Runs p) = refl
asked_load _ = refl

asked_lightens : (old new : ClusterView) → is_system old.system ≡ true → FollowsSome old → QueuesFetch old new → load new ≤ load old
asked_lightens old new valid f one =
    let asks = one.asks in
    let alike : held_load (asked_held asks.was) + 0 ≤ held_load asks.was = omega (arith, asked_load asks.was) in
    let less : sum_held (with_changed one.pid (asked_held asks.was) old.here) + 0 ≤ sum_held old.here = one_lighter one.pid asks.was (asked_held asks.was) 0 old.here (held_apart old valid f) asks.there alike in
    omega (arith, less, ap sum_held asks.new_is, ap load one.rest)

-- where something is queued there is no more left to do
pub queued_lightens : (old new : ClusterView) → is_system old.system ≡ true → FollowsSome old → WorkIs old Queued new → load new ≤ load old
queued_lightens old new valid f (inl handed) = omega (arith, ap load handed.rest)
queued_lightens old new valid f (inr (inl answer)) = omega (arith, ap load (answer.1).rest)
queued_lightens old new valid f (inr (inr (inl asked))) = asked_lightens old new valid f asked.2
queued_lightens old new valid f (inr (inr (inr acted))) = by_kind acted.2
  where
    by_kind : QueuesOne old new ⊎ QueuesBatch old new ⊎ QueuesBirth old new ⊎ QueuesFresh old new → load new ≤ load old
    by_kind (inl sent) = omega (arith, sent_lightens old valid f new sent)
    by_kind (inr (inl batch)) = batch_lightens old new valid f batch
    by_kind (inr (inr (inl birth))) = birth_lightens old valid f new birth
    by_kind (inr (inr (inr fresh))) = fresh_lightens old new valid f fresh
