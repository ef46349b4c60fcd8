-- The processes that have not ended, after a change of each process that leaves its pid and whether it has ended.
use Rattle.std.proofs.Common.{◌≡◌, refl, sym, ◌∙◌, ap, List, [], ◌∷◌, map, Bool, true, false, cond, not, ◌&&◌, ◌||◌, eqb-true, Option, Some, None}
use Rattle.std.specs.Prelude.{find, option_map}
use Rattle.std.proofs.lemmas.Bool.{and_parts, not-true}
use Rattle.t32_base.specs.declared.process.Pid.{Pid}
use Rattle.t32_base.specs.declared.process.ClusterNo.{ClusterNo}
use Rattle.t32_base.specs.declared.letter.BackRec.{BackRec}
use Rattle.bus_msg.specs.declared.placed.Placed.{Placed}
use Rattle.bus_msg.specs.Places.{Places, same_pid, same_cluster, is_cluster, unended_at}
use Rattle.bus_msg.specs.PlacedAfter.{after_exit, after_sync, after_loss, moved_to, after_rebackup, is_named}
use Rattle.cert_sched.proofs.PidLaws.{placed_pids}

-- ---- the pids that stay

-- a change of each process that leaves its pid leaves the pids
pub each_pid : (f : Placed → Placed) → ((q : Placed) → (f q).pid ≡ q.pid) → (qs : List Placed) → placed_pids (map f qs) ≡ placed_pids qs
each_pid f same [] = refl
each_pid f same (q ∷ qs) = λ i. (same q i).0 ∷ each_pid f same qs i

pub pid_if : (b : Bool) (x y q : Placed) → x.pid ≡ q.pid → y.pid ≡ q.pid → (cond b x y).pid ≡ q.pid
pid_if true x y q h g = h
pid_if false x y q h g = g

pub moved_pid : (q : Placed) (k : ClusterNo) (o : Option ClusterNo) → (moved_to q k o).pid ≡ q.pid
moved_pid q k None = refl
moved_pid q k (Some b) = refl

pub loss_pid : (k : ClusterNo) (q : Placed) → (after_loss k q).pid ≡ q.pid
loss_pid k q =
    pid_if q.ended q _ q refl (pid_if (same_cluster q.home k) (moved_to q k q.backup) _ q (moved_pid q k q.backup) (pid_if (is_cluster q.backup k) (record q { backup = None; lost = Some k }) q q refl refl))

-- an exit leaves the pids
pub exit_pid : (p : Pid) (q : Placed) → (after_exit p q).pid ≡ q.pid
exit_pid p q = pid_if (same_pid q.pid p) (record q { ended = true }) q q refl refl

-- ---- the processes that have not ended, after a change

-- what is found after a change that leaves the pids and who has ended
find_map : (t : Placed → Bool) (f : Placed → Placed) → ((q : Placed) → t (f q) ≡ t q) → (qs : List Placed) → find t (map f qs) ≡ option_map f (find t qs)
find_map t f same [] = refl
find_map t f same (q ∷ qs) = ap (λ b. cond b (Some (f q)) (find t (map f qs))) (same q) ∙ by_test (t q) (find_map t f same qs)
  where
    by_test : (b : Bool) → find t (map f qs) ≡ option_map f (find t qs) → cond b (Some (f q)) (find t (map f qs)) ≡ option_map f (cond b (Some q) (find t qs))
    by_test true more = refl
    by_test false more = more

-- of what is found the test holds
find_passes : (t : Placed → Bool) (qs : List Placed) (q : Placed) → find t qs ≡ Some q → t q ≡ true
find_passes t [] q found = cc
find_passes t (r ∷ qs) q found = by_test (t r) refl found (find_passes t qs q)
  where
    by_test : (b : Bool) → t r ≡ b → cond b (Some r) (find t qs) ≡ Some q → (find t qs ≡ Some q → t q ≡ true) → t q ≡ true
    by_test true passes e more = let same : r ≡ q = cc in ap t (sym same) ∙ passes
    by_test false passes e more = more e

-- a process that is found among those that have not ended has not ended, and has that pid
pub unended_open_at : (places : Places) (p : Pid) (q : Placed) → unended_at places p ≡ Some q → q.ended ≡ false
unended_open_at places p q found = not-true q.ended (and_parts (same_pid q.pid p) (not q.ended) (find_passes (λ (q : Placed). same_pid q.pid p && not q.ended) places.placed q found)).1

pub unended_pid : (places : Places) (p : Pid) (q : Placed) → unended_at places p ≡ Some q → q.pid ≡ p
unended_pid places p q found =
    let same = (and_parts (same_pid q.pid p) (not q.ended) (find_passes (λ (q : Placed). same_pid q.pid p && not q.ended) places.placed q found)).0 in
    λ i. record { 0 = eqb-true (q.pid).0 p.0 same i }

-- a change of each process that leaves the pids and who has ended
pub record Keeps (f : Placed → Placed) : Type 0 where
  pub pid : (q : Placed) → (f q).pid ≡ q.pid
  pub ended : (q : Placed) → (f q).ended ≡ q.ended

pub unended_map : (f : Placed → Placed) → Keeps f → (places after : Places) → after.placed ≡ map f places.placed → (p : Pid) → unended_at after p ≡ option_map f (unended_at places p)
unended_map f keeps places after is p =
    ap (find (λ (q : Placed). same_pid q.pid p && not q.ended)) is
    ∙ find_map (λ (q : Placed). same_pid q.pid p && not q.ended) f (λ q i. same_pid (keeps.pid q i) p && not (keeps.ended q i)) places.placed

ended_if : (b : Bool) (x y q : Placed) → x.ended ≡ q.ended → y.ended ≡ q.ended → (cond b x y).ended ≡ q.ended
ended_if true x y q h g = h
ended_if false x y q h g = g

pub sync_keeps : (p : Pid) → Keeps (after_sync p)
sync_keeps p = record { pid = λ q. pid_if (same_pid q.pid p) (record q { synced = true }) q q refl refl; ended = λ q. ended_if (same_pid q.pid p) (record q { synced = true }) q q refl refl }

pub backup_keeps : (to : ClusterNo) (fresh : Bool) (recs : List BackRec) → Keeps (after_rebackup to fresh recs)
backup_keeps to fresh recs = record {
  pid = λ q. pid_if (is_named recs q) (record q { backup = Some to; synced = q.synced || fresh }) q q refl refl;
  ended = λ q. ended_if (is_named recs q) (record q { backup = Some to; synced = q.synced || fresh }) q q refl refl;
}

moved_ended : (q : Placed) (k : ClusterNo) (o : Option ClusterNo) → (moved_to q k o).ended ≡ q.ended
moved_ended q k None = refl
moved_ended q k (Some b) = refl

pub loss_keeps : (k : ClusterNo) → Keeps (after_loss k)
loss_keeps k = record {
  pid = λ q. pid_if q.ended q _ q refl (pid_if (same_cluster q.home k) (moved_to q k q.backup) _ q (moved_pid q k q.backup) (pid_if (is_cluster q.backup k) (record q { backup = None; lost = Some k }) q q refl refl));
  ended = λ q. ended_if q.ended q _ q refl (ended_if (same_cluster q.home k) (moved_to q k q.backup) _ q (moved_ended q k q.backup) (ended_if (is_cluster q.backup k) (record q { backup = None; lost = Some k }) q q refl refl));
}
