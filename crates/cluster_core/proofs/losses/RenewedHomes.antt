-- Where processes are after a new backup: where they were.
use Rattle.std.proofs.Common.{◌≡◌, ℕ, refl, sym, ◌∙◌, ap, List, [], ◌∷◌, map, Bool, true, false, cond, ◌||◌, Some}
use Rattle.std.specs.Prelude.{option_map}
use Rattle.t32_base.specs.declared.process.Pid.{Pid}
use Rattle.t32_base.specs.declared.process.ClusterNo.{ClusterNo}
use Rattle.t32_base.specs.declared.letter.BackRec.{BackRec}
use Rattle.bus_msg.specs.declared.entry.What.TheVariants.{Rebackup}
use Rattle.bus_msg.specs.declared.placed.Placed.{Placed}
use Rattle.bus_msg.specs.Places.{Places, is_at_home, same_cluster}
use Rattle.bus_msg.specs.PlacedAfter.{after_rebackup, is_named, placed_after}
use Rattle.cert_sched.proofs.UnendedLaws.{backup_keeps, unended_map}
use Rattle.cluster_core.proofs.losses.Homes.{HomeHere, home_more, pids_home}

-- a process stays where it is
pub home_renewed : (to : ClusterNo) (fresh : Bool) (recs : List BackRec) (q : Placed) → (after_rebackup to fresh recs q).home ≡ q.home
home_renewed to fresh recs q = by_test (is_named recs q)
  where
    by_test : (b : Bool) → (cond b (record q { backup = Some to; synced = q.synced || fresh }) q).home ≡ q.home
    by_test true = refl
    by_test false = refl

-- the pids at home are those before it
pub pids_renewed : (k to : ClusterNo) (fresh : Bool) (recs : List BackRec) (qs : List Placed) → pids_home k (map (after_rebackup to fresh recs) qs) ≡ pids_home k qs
pids_renewed k to fresh recs [] = refl
pids_renewed k to fresh recs (q ∷ qs) = home_more k (after_rebackup to fresh recs q) (map (after_rebackup to fresh recs) qs) ∙ by_test (is_named recs q) (pids_renewed k to fresh recs qs)
  where
    one : (s : Placed) (more : List ℕ) → is_at_home k s ≡ is_at_home k q → (s.pid).0 ≡ (q.pid).0 → more ≡ pids_home k qs → cond (is_at_home k s) ((s.pid).0 ∷ more) more ≡ pids_home k (q ∷ qs)
    one s more home pid same = (λ i. cond (home i) (pid i ∷ same i) (same i)) ∙ sym (home_more k q qs)

    after : Bool → Placed
    after b = cond b (record q { backup = Some to; synced = q.synced || fresh }) q

    by_test : (b : Bool) → pids_home k (map (after_rebackup to fresh recs) qs) ≡ pids_home k qs
        → cond (is_at_home k (after b)) (((after b).pid).0 ∷ pids_home k (map (after_rebackup to fresh recs) qs)) (pids_home k (map (after_rebackup to fresh recs) qs)) ≡ pids_home k (q ∷ qs)
    by_test true more = one (record q { backup = Some to; synced = q.synced || fresh }) (pids_home k (map (after_rebackup to fresh recs) qs)) refl refl more
    by_test false more = one q (pids_home k (map (after_rebackup to fresh recs) qs)) refl refl more

-- who is at home somewhere is so after it
pub home_renewed_here : (places : Places) (p : Pid) (k to : ClusterNo) (fresh : Bool) (recs : List BackRec) → HomeHere places p k → HomeHere (placed_after places (Rebackup to fresh recs)) p k
home_renewed_here places p k to fresh recs here = record {
  placed = after_rebackup to fresh recs here.placed;
  found = unended_map (after_rebackup to fresh recs) (backup_keeps to fresh recs) places (placed_after places (Rebackup to fresh recs)) refl p ∙ ap (option_map (after_rebackup to fresh recs)) here.found;
  home = ap (λ h. same_cluster h k) (home_renewed to fresh recs here.placed) ∙ here.home;
}
