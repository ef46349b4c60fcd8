-- That no two processes of a placement have one pid, as a list of numbers, and as much of some of them.
use Rattle.std.proofs.Common.{◌≡◌, ℕ, ◌∙◌, refl, ap, List, [], ◌∷◌, map, Bool, true, false, cond, not, ◌||◌, eqb, true≢false}
use Rattle.std.specs.Prelude.{filter}
use Rattle.std.specs.List.{list_any}
use Rattle.std.proofs.lemmas.Bool.{and_parts, not-true}
use Rattle.bus_msg.specs.declared.placed.Placed.{Placed}
use Rattle.bus_msg.specs.Places.{same_pid}
use Rattle.channel_table.specs.Changes.{pids_differ}
use Rattle.cert_sched.proofs.RisingLaws.{NoTwo}

-- the pids of these processes, as numbers
abbrev pub placed_pids : List Placed → List ℕ
placed_pids qs = map (λ (q : Placed). (q.pid).0) qs

any_pid : (n : ℕ) (qs : List Placed) → list_any (λ m. eqb m n) (placed_pids qs) ≡ list_any (λ (q : Placed). eqb (q.pid).0 n) qs
any_pid n [] = refl
any_pid n (q ∷ qs) = ap (λ b. eqb (q.pid).0 n || b) (any_pid n qs)

pub apart_of : (qs : List Placed) → pids_differ qs ≡ true → NoTwo (placed_pids qs)
apart_of [] differ = tt
apart_of (q ∷ qs) differ =
    let parts = and_parts (not (list_any (λ (p : Placed). same_pid p.pid q.pid) qs)) (pids_differ qs) differ in
    (any_pid (q.pid).0 qs ∙ not-true (list_any (λ (p : Placed). same_pid p.pid q.pid) qs) parts.0, apart_of qs parts.1)

any_fewer : (t : ℕ → Bool) (u : Placed → Bool) (qs : List Placed) → list_any t (placed_pids qs) ≡ false → list_any t (placed_pids (filter u qs)) ≡ false
any_fewer t u [] none = refl
any_fewer t u (q ∷ qs) none = by_tests (u q) (t (q.pid).0) refl none (any_fewer t u qs)
  where
    by_tests : (b c : Bool) → t (q.pid).0 ≡ c → (c || list_any t (placed_pids qs)) ≡ false → (list_any t (placed_pids qs) ≡ false → list_any t (placed_pids (filter u qs)) ≡ false)
        → list_any t (placed_pids (cond b (q ∷ filter u qs) (filter u qs))) ≡ false
    by_tests b true is e more = absurd (true≢false e)
    by_tests true false is e more = ap (λ b. b || list_any t (placed_pids (filter u qs))) is ∙ more e
    by_tests false false is e more = more e

pub apart_fewer : (u : Placed → Bool) (qs : List Placed) → NoTwo (placed_pids qs) → NoTwo (placed_pids (filter u qs))
apart_fewer u [] two = tt
apart_fewer u (q ∷ qs) two = by_test (u q) (apart_fewer u qs two.1)
  where
    by_test : (b : Bool) → NoTwo (placed_pids (filter u qs)) → NoTwo (placed_pids (cond b (q ∷ filter u qs) (filter u qs)))
    by_test true more = (any_fewer (λ m. eqb m (q.pid).0) u qs two.0, more)
    by_test false more = more
