-- Sums over processes of which no two have one pid: where one process rises by so much at most, so does the sum.
use Rattle.std.proofs.Common.{◌≡◌, ℕ, ◌+◌, ◌≤◌, refl, sym, ◌∙◌, ap, arith, List, [], ◌∷◌, map, Bool, true, false, cond, not, eqb, eqb-true}
use Rattle.std.specs.Prelude.{filter, sum_by}
use Rattle.std.specs.List.{list_any}
use Rattle.std.proofs.lemmas.List.Sums.{sum_by-cons}
use Rattle.t32_base.specs.declared.process.Pid.{Pid}
use Rattle.bus_msg.specs.declared.placed.Placed.{Placed}
use Rattle.bus_msg.specs.Places.{same_pid}
use Rattle.bus_msg.specs.PlacedAfter.{after_sync}
use Rattle.cert_sched.proofs.RisingLaws.{NoTwo}
use Rattle.cert_sched.proofs.PidLaws.{placed_pids}
use Rattle.log_laws.proofs.pages.BornSums.{others_most}

module _ (f g : Placed → ℕ) (p : Pid) (more : ℕ) (others : (q : Placed) → same_pid q.pid p ≡ false → g q ≤ f q) (each : (q : Placed) → same_pid q.pid p ≡ true → g q ≤ f q + more) where
  pub one_rises : (qs : List Placed) → NoTwo (placed_pids qs) → sum_by g qs ≤ sum_by f qs + more
  one_rises [] apart = omega arith
  one_rises (q ∷ qs) apart = by_test (same_pid q.pid p) refl (one_rises qs apart.1)
    where
      by_test : (b : Bool) → same_pid q.pid p ≡ b → sum_by g qs ≤ sum_by f qs + more → sum_by g (q ∷ qs) ≤ sum_by f (q ∷ qs) + more
      by_test true is rest =
          let none : list_any (λ m. eqb m p.0) (placed_pids qs) ≡ false = ap (λ n. list_any (λ m. eqb m n) (placed_pids qs)) (sym (eqb-true (q.pid).0 p.0 is)) ∙ apart.0 in
          let most = others_most g f p others qs none in
          omega (arith, sum_by-cons g q qs, sum_by-cons f q qs, each q is, most)
      by_test false is rest = omega (arith, sum_by-cons g q qs, sum_by-cons f q qs, others q is, rest)

-- who synchronises is counted as before
pub sync_sum : (g : Pid → ℕ) (p : Pid) (qs : List Placed) → sum_by (λ (q : Placed). g q.pid) (filter (λ (q : Placed). not q.ended) (map (after_sync p) qs)) ≡ sum_by (λ (q : Placed). g q.pid) (filter (λ (q : Placed). not q.ended) qs)
sync_sum g p [] = refl
sync_sum g p (q ∷ qs) = by_pid (same_pid q.pid p) (sync_sum g p qs)
  where
    counted : (r : Placed) (d : Bool) → r.pid ≡ q.pid → sum_by (λ (q : Placed). g q.pid) (filter (λ (q : Placed). not q.ended) (map (after_sync p) qs)) ≡ sum_by (λ (q : Placed). g q.pid) (filter (λ (q : Placed). not q.ended) qs)
        → sum_by (λ (q : Placed). g q.pid) (cond (not d) (r ∷ filter (λ (q : Placed). not q.ended) (map (after_sync p) qs)) (filter (λ (q : Placed). not q.ended) (map (after_sync p) qs)))
        ≡ sum_by (λ (q : Placed). g q.pid) (cond (not d) (q ∷ filter (λ (q : Placed). not q.ended) qs) (filter (λ (q : Placed). not q.ended) qs))
    counted r true same more = more
    counted r false same more =
        sum_by-cons (λ (q : Placed). g q.pid) r (filter (λ (q : Placed). not q.ended) (map (after_sync p) qs))
        ∙ (λ i. g (same i) + more i)
        ∙ sym (sum_by-cons (λ (q : Placed). g q.pid) q (filter (λ (q : Placed). not q.ended) qs))

    by_pid : (s : Bool) → sum_by (λ (q : Placed). g q.pid) (filter (λ (q : Placed). not q.ended) (map (after_sync p) qs)) ≡ sum_by (λ (q : Placed). g q.pid) (filter (λ (q : Placed). not q.ended) qs)
        → sum_by (λ (q : Placed). g q.pid) (filter (λ (q : Placed). not q.ended) (cond s (record q { synced = true }) q ∷ map (after_sync p) qs))
        ≡ sum_by (λ (q : Placed). g q.pid) (filter (λ (q : Placed). not q.ended) (q ∷ qs))
    by_pid true more = counted (record q { synced = true }) q.ended refl more
    by_pid false more = counted q q.ended refl more
