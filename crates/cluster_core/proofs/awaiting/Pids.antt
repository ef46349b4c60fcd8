-- Which pids stand in a list of those that wait, after more came or some went.
use Rattle.std.proofs.Common.{◌≡◌, ℕ, ◌+◌, ◌<◌, refl, sym, ◌∙◌, ap, List, [], ◌∷◌, ◌++◌, length, take, get_or, slice_get, map, Bool, true, false, cond, not, ◌&&◌, ◌||◌, eqb, eqb-true, Option, Some, None, arith}
use Rattle.std.specs.Prelude.{filter, find}
use Rattle.std.specs.BTreeSet.{insert_key}
use Rattle.std.specs.List.{list_any}
use Rattle.std.specs.Option.{option_map_or}
use Rattle.std.specs.Ordering.{nat_cmp}
use Rattle.std.proofs.lemmas.Bool.{and_parts, not-true, or_parts}
use Rattle.std.proofs.lemmas.List.{map-append, take_more}
use Rattle.std.proofs.lemmas.List.Elements.{filter-append}
use Rattle.std.proofs.lemmas.List.Sums.{fold-append}
use Rattle.std.proofs.lemmas.Option.{slice_get-get_or, same_Some}
use Rattle.std.proofs.lemmas.Map.Views.{any-filter_same}
use Rattle.t32_base.specs.declared.process.Pid.{Pid}
use Rattle.t32_base.specs.declared.process.ClusterNo.{ClusterNo}
use Rattle.bus_msg.specs.declared.placed.Placed.{Placed}
use Rattle.bus_msg.specs.Places.{same_cluster, same_pid, is_at_home, is_cluster}
use Rattle.plain_kernel.specs.Maps.{at_key, pid_of}
use Rattle.cert_sched.specs.Rules.{is_full}
use Rattle.cert_sched.proofs.PidLaws.{placed_pids}
use Rattle.cert_sched.proofs.RisingLaws.{NoTwo}
use Rattle.cluster_core.specs.Owed.{begins_wait, pids_waiting, with_pids}
use Rattle.residents.proofs.Slots.{at_key_is}

-- ---- fewer of them

-- those are left that pass a test
pub any_left : (t : Pid → Bool) (p : Pid) (owed : List ℕ) → list_any (at_key p.0) (filter (λ n. t (pid_of n)) owed) ≡ (list_any (at_key p.0) owed && t p)
any_left t p owed = any-filter_same (at_key p.0) (λ n. t (pid_of n)) (t p) alike owed ∙ turned (t p) (list_any (at_key p.0) owed)
  where
    alike : (m : ℕ) → at_key p.0 m ≡ true → t (pid_of m) ≡ t p
    alike m at = ap (λ (n : ℕ). t (pid_of n)) (eqb-true m p.0 (sym (at_key_is p.0 m) ∙ at))

    turned : (a b : Bool) → (a && b) ≡ (b && a)
    turned true true = refl
    turned true false = refl
    turned false true = refl
    turned false false = refl

-- ---- those that a loss makes wait

module _ (lost here : ClusterNo) where
  -- one more process
  pub waiting_more : (q : Placed) (qs : List Placed) → pids_waiting lost here (q ∷ qs) ≡ cond (begins_wait lost here q) ((q.pid).0 ∷ pids_waiting lost here qs) (pids_waiting lost here qs)
  waiting_more q qs = by_test (begins_wait lost here q)
    where
      by_test : (b : Bool) → map (λ (q : Placed). (q.pid).0) (cond b (q ∷ filter (begins_wait lost here) qs) (filter (begins_wait lost here) qs))
          ≡ cond b ((q.pid).0 ∷ pids_waiting lost here qs) (pids_waiting lost here qs)
      by_test true = refl
      by_test false = refl

  -- none of them has a pid that nobody has
  none_waits : (p : Pid) (qs : List Placed) → list_any (λ m. eqb m p.0) (placed_pids qs) ≡ false → list_any (at_key p.0) (pids_waiting lost here qs) ≡ false
  none_waits p [] none = refl
  none_waits p (q ∷ qs) none =
      let parts = or_parts (eqb (q.pid).0 p.0) (list_any (λ m. eqb m p.0) (placed_pids qs)) none in
      ap (list_any (at_key p.0)) (waiting_more q qs) ∙ by_test (begins_wait lost here q) (at_key_is p.0 (q.pid).0 ∙ parts.0) (none_waits p qs parts.1)
    where
      by_test : (b : Bool) → at_key p.0 (q.pid).0 ≡ false → list_any (at_key p.0) (pids_waiting lost here qs) ≡ false
          → list_any (at_key p.0) (cond b ((q.pid).0 ∷ pids_waiting lost here qs) (pids_waiting lost here qs)) ≡ false
      by_test true other more = λ i. other i || more i
      by_test false other more = more

  -- one that begins to wait has not ended
  begun_open : (q : Placed) → begins_wait lost here q ≡ true → q.ended ≡ false
  begun_open q begins =
      let moved = (and_parts (is_at_home lost q && is_cluster q.backup here) (is_full q.mode) begins).0 in
      not-true q.ended (and_parts (same_cluster q.home lost) (not q.ended) (and_parts (is_at_home lost q) (is_cluster q.backup here) moved).0).1

  -- where no two have one pid, it is the one that is found and has not ended
  pub any_waiting : (p : Pid) (qs : List Placed) → NoTwo (placed_pids qs)
      → list_any (at_key p.0) (pids_waiting lost here qs) ≡ option_map_or (begins_wait lost here) (find (λ (q : Placed). same_pid q.pid p && not q.ended) qs) false
  any_waiting p [] two = refl
  any_waiting p (q ∷ qs) two = ap (list_any (at_key p.0)) (waiting_more q qs) ∙ by_tests (begins_wait lost here q) refl (same_pid q.pid p) refl (any_waiting p qs two.1)
    where
      rest : Bool
      rest = list_any (at_key p.0) (pids_waiting lost here qs)

      found : Option Placed
      found = find (λ (q : Placed). same_pid q.pid p && not q.ended) qs

      of : Option Placed → Bool
      of o = option_map_or (begins_wait lost here) o false

      none_more : same_pid q.pid p ≡ true → rest ≡ false
      none_more is = none_waits p qs (ap (λ n. list_any (λ m. eqb m n) (placed_pids qs)) (sym (eqb-true (q.pid).0 p.0 is)) ∙ two.0)

      by_end : (b : Bool) → q.ended ≡ b → begins_wait lost here q ≡ false → same_pid q.pid p ≡ true → rest ≡ of found → rest ≡ of (cond (true && not b) (Some q) found)
      by_end true ended waits is more = more
      by_end false ended waits is more = none_more is ∙ sym waits

      by_tests : (w : Bool) → begins_wait lost here q ≡ w → (s : Bool) → same_pid q.pid p ≡ s → rest ≡ of found
          → list_any (at_key p.0) (cond w ((q.pid).0 ∷ pids_waiting lost here qs) (pids_waiting lost here qs)) ≡ of (cond (same_pid q.pid p && not q.ended) (Some q) found)
      by_tests true waits true is more =
          ap (λ b. b || rest) (at_key_is p.0 (q.pid).0 ∙ is) ∙ sym waits ∙ (λ i. of (cond (sym is i && not (sym (begun_open q waits) i)) (Some q) found))
      by_tests true waits false is more =
          ap (λ b. b || rest) (at_key_is p.0 (q.pid).0 ∙ is) ∙ more ∙ ap (λ b. of (cond (b && not q.ended) (Some q) found)) (sym is)
      by_tests false waits true is more =
          by_end q.ended refl waits is more ∙ ap (λ b. of (cond (b && not q.ended) (Some q) found)) (sym is)
      by_tests false waits false is more = more ∙ ap (λ b. of (cond (b && not q.ended) (Some q) found)) (sym is)

  -- those of some processes, and then those of others
  waiting_append : (qs rs : List Placed) → pids_waiting lost here (qs ++ rs) ≡ pids_waiting lost here qs ++ pids_waiting lost here rs
  waiting_append qs rs =
      ap (map (λ (q : Placed). (q.pid).0)) (filter-append (begins_wait lost here) qs rs)
      ∙ map-append (λ (q : Placed). (q.pid).0) (filter (begins_wait lost here) qs) (filter (begins_wait lost here) rs)

  -- those of one process more
  pub waiting_next : (qs : List Placed) (n : ℕ) (q : Placed) (owed between : List ℕ) → n < length qs → Some q ≡ slice_get qs n → between ≡ with_pids owed (pids_waiting lost here (take n qs))
      → with_pids between (pids_waiting lost here (q ∷ [])) ≡ with_pids owed (pids_waiting lost here (take (n + 1) qs))
  waiting_next qs n q owed between within same so_far =
      let one : get_or qs n q ≡ q = sym (same_Some q (get_or qs n q) (same ∙ slice_get-get_or qs n q within)) in
      ap (λ ks. with_pids ks (pids_waiting lost here (q ∷ []))) so_far
      ∙ sym (fold-append (insert_key nat_cmp) owed (pids_waiting lost here (take n qs)) (pids_waiting lost here (q ∷ [])))
      ∙ ap (with_pids owed) (sym (waiting_append (take n qs) (q ∷ [])))
      ∙ ap (λ rs. with_pids owed (pids_waiting lost here rs)) (ap (λ r. take n qs ++ r ∷ []) (sym one) ∙ sym (take_more qs n q within))

-- each place of a list has one
pub none_beyond : (qs : List Placed) (n : ℕ) → n < length qs → None ≡ slice_get qs n → ⊥
none_beyond [] n within at = omega (arith, within)
none_beyond (q ∷ qs) n within at = let there = at ∙ slice_get-get_or (q ∷ qs) n q within in cc
