-- Where processes are after the cut of one: where they were, and so are their backups.
use Rattle.std.proofs.Common.{◌≡◌, ℕ, refl, sym, ◌∙◌, ap, List, [], ◌∷◌, map, Bool, true, false, cond, Option}
use Rattle.std.specs.Prelude.{option_map}
use Rattle.t32_base.specs.declared.process.Pid.{Pid}
use Rattle.t32_base.specs.declared.process.ClusterNo.{ClusterNo}
use Rattle.t32_base.specs.Small.{SmallState}
use Rattle.bus_msg.specs.declared.entry.What.TheVariants.{Sync}
use Rattle.bus_msg.specs.declared.placed.Placed.{Placed}
use Rattle.bus_msg.specs.Places.{Places, is_at_home, same_cluster, same_pid, unended_at}
use Rattle.bus_msg.specs.PlacedAfter.{after_sync, placed_after}
use Rattle.cert_sched.proofs.UnendedLaws.{sync_keeps, unended_map}
use Rattle.cluster_core.proofs.losses.Homes.{HomeHere, home_more, pids_home}

-- a process stays where it is
pub home_kept : (r : Pid) (q : Placed) → (after_sync r q).home ≡ q.home
home_kept r q = by_test (same_pid q.pid r)
  where
    by_test : (b : Bool) → (cond b (record q { synced = true }) q).home ≡ q.home
    by_test true = refl
    by_test false = refl

-- who has not ended is found as before, but for that it may have synchronised
pub synced_found : (places : Places) (r p : Pid) (small : SmallState) (read : List ℕ) (took : Option ℕ) → unended_at (placed_after places (Sync r small read took)) p ≡ option_map (after_sync r) (unended_at places p)
synced_found places r p small read took = unended_map (after_sync r) (sync_keeps r) places (placed_after places (Sync r small read took)) refl p

-- who is at home somewhere is so after it
pub home_synced : (places : Places) (r p : Pid) (k : ClusterNo) (small : SmallState) (read : List ℕ) (took : Option ℕ) → HomeHere places p k → HomeHere (placed_after places (Sync r small read took)) p k
home_synced places r p k small read took here = record {
  placed = after_sync r here.placed;
  found = synced_found places r p small read took ∙ ap (option_map (after_sync r)) here.found;
  home = ap (λ h. same_cluster h k) (home_kept r here.placed) ∙ here.home;
}

-- the pids at home are those before it
pub pids_synced : (k : ClusterNo) (r : Pid) (qs : List Placed) → pids_home k (map (after_sync r) qs) ≡ pids_home k qs
pids_synced k r [] = refl
pids_synced k r (q ∷ qs) = home_more k (after_sync r q) (map (after_sync r) qs) ∙ by_test (same_pid q.pid r) (pids_synced k r qs)
  where
    one : (s : Placed) (more : List ℕ) → is_at_home k s ≡ is_at_home k q → (s.pid).0 ≡ (q.pid).0 → more ≡ pids_home k qs → cond (is_at_home k s) ((s.pid).0 ∷ more) more ≡ pids_home k (q ∷ qs)
    one s more home pid same = (λ i. cond (home i) (pid i ∷ same i) (same i)) ∙ sym (home_more k q qs)

    by_test : (b : Bool) → pids_home k (map (after_sync r) qs) ≡ pids_home k qs
        → cond (is_at_home k (cond b (record q { synced = true }) q)) (((cond b (record q { synced = true }) q).pid).0 ∷ pids_home k (map (after_sync r) qs)) (pids_home k (map (after_sync r) qs)) ≡ pids_home k (q ∷ qs)
    by_test true more = one (record q { synced = true }) (pids_home k (map (after_sync r) qs)) refl refl more
    by_test false more = one q (pids_home k (map (after_sync r) qs)) refl refl more
