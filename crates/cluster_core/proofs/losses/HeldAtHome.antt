-- Who is at home in a cluster that follows a log is held there.
use Rattle.std.proofs.Common.{◌≡◌, refl, sym, ◌∙◌, ap, List, [], ◌∷◌, Bool, true, false, cond, not, ◌&&◌, ◌||◌, eqb, Option, Some, None, true≢false}
use Rattle.std.specs.Prelude.{find, option_map}
use Rattle.std.specs.List.{list_any}
use Rattle.t32_base.specs.declared.process.Pid.{Pid}
use Rattle.t32_base.specs.declared.process.ClusterNo.{ClusterNo}
use Rattle.bus_msg.specs.declared.placed.Placed.{Placed}
use Rattle.bus_msg.specs.Places.{Places, is_at_home, same_cluster, same_pid, unended_at}
use Rattle.cert_sched.specs.Parts.{rising}
use Rattle.cert_sched.specs.Rules.{home_at}
use Rattle.cert_sched.proofs.RisingLaws.{rising-any}
use Rattle.residents.specs.Held.{Held, held_of}
use Rattle.residents.specs.Residents.{pids_in}
use Rattle.cluster_core.proofs.losses.Homes.{HomeHere, home_more, pids_home}

-- where the one that is found under a pid is at home, its pid is one of those at home
pub home_listed : (k : ClusterNo) (qs : List Placed) (p : Pid) (q : Placed) → find (λ (q : Placed). same_pid q.pid p && not q.ended) qs ≡ Some q → same_cluster q.home k ≡ true → list_any (λ n. eqb n p.0) (pids_home k qs) ≡ true
home_listed k [] p q found home = cc
home_listed k (r ∷ qs) p q found home = ap (list_any (λ n. eqb n p.0)) (home_more k r qs) ∙ by_tests (same_pid r.pid p) (not r.ended) refl refl found (λ more. home_listed k qs p q more home)
  where
    later : (b : Bool) → list_any (λ n. eqb n p.0) (pids_home k qs) ≡ true → list_any (λ n. eqb n p.0) (cond b ((r.pid).0 ∷ pids_home k qs) (pids_home k qs)) ≡ true
    later true more = either (eqb (r.pid).0 p.0)
      where
        either : (b : Bool) → (b || list_any (λ n. eqb n p.0) (pids_home k qs)) ≡ true
        either true = refl
        either false = more
    later false more = more

    by_tests : (b c : Bool) → same_pid r.pid p ≡ b → not r.ended ≡ c → cond (b && c) (Some r) (find (λ (q : Placed). same_pid q.pid p && not q.ended) qs) ≡ Some q
        → (find (λ (q : Placed). same_pid q.pid p && not q.ended) qs ≡ Some q → list_any (λ n. eqb n p.0) (pids_home k qs) ≡ true)
        → list_any (λ n. eqb n p.0) (cond (is_at_home k r) ((r.pid).0 ∷ pids_home k qs) (pids_home k qs)) ≡ true
    by_tests true true own runs is more =
        let same : r ≡ q = cc in
        let at : is_at_home k r ≡ true = (λ i. (ap (λ (x : Placed). same_cluster x.home k) same ∙ home) i && runs i) in
        ap (λ b. list_any (λ n. eqb n p.0) (cond b ((r.pid).0 ∷ pids_home k qs) (pids_home k qs))) at ∙ ap (λ b. b || list_any (λ n. eqb n p.0) (pids_home k qs)) own
    by_tests true false own runs is more = later (is_at_home k r) (more is)
    by_tests false c own runs is more = later (is_at_home k r) (more is)

-- who is among them is held
pub held_there : (here : List (Pid × Held)) (p : Pid) → list_any (λ n. eqb n p.0) (pids_in here) ≡ true → (h : Held) × (held_of here p ≡ Some h)
held_there [] p is = absurd (true≢false (sym is))
held_there (e ∷ here) p is = by_test (same_pid e.0 p) is (held_there here p)
  where
    by_test : (b : Bool) → (b || list_any (λ n. eqb n p.0) (pids_in here)) ≡ true → (list_any (λ n. eqb n p.0) (pids_in here) ≡ true → (h : Held) × (held_of here p ≡ Some h))
        → (h : Held) × (option_map (λ (e : Pid × Held). e.1) (cond b (Some e) (find (λ (e : Pid × Held). same_pid e.0 p) here)) ≡ Some h)
    by_test true is more = (e.1, refl)
    by_test false is more = more is

-- who is at home there is found
pub home_found : (places : Places) (p : Pid) (k j : ClusterNo) → home_at places p ≡ Some j → same_cluster j k ≡ true → HomeHere places p k
home_found places p k j at same = by_found (unended_at places p) refl at
  where
    by_found : (o : Option Placed) → unended_at places p ≡ o → option_map (λ (q : Placed). q.home) o ≡ Some j → HomeHere places p k
    by_found None found is = cc
    by_found (Some q) found is =
        let home : q.home ≡ j = cc in
        record { placed = q; found = found; home = ap (λ h. same_cluster h k) home ∙ same }

-- so where the pids here are those at home, who is at home there is held
pub held_at_home : (places : Places) (k : ClusterNo) (here : List (Pid × Held)) (p : Pid) → rising (pids_in here) ≡ rising (pids_home k places.placed) → HomeHere places p k → (h : Held) × (held_of here p ≡ Some h)
held_at_home places k here p once home =
    held_there here p
    (sym (rising-any (λ n. eqb n p.0) (pids_in here)) ∙ ap (list_any (λ n. eqb n p.0)) once ∙ rising-any (λ n. eqb n p.0) (pids_home k places.placed) ∙ home_listed k places.placed p home.placed home.found home.home)
