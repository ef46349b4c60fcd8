-- The mode of a process never changes, and which crash moves it is said by where it is placed.
use Rattle.std.proofs.Common.{◌≡◌, refl, sym, ◌∙◌, ap, List, [], ◌∷◌, map, Bool, true, false, cond, ◌&&◌, ◌||◌, eqb, eqb-true, Option, Some, None, is_some, true≢false}
use Rattle.std.specs.Prelude.{find, option_map}
use Rattle.std.specs.List.{list_any}
use Rattle.std.proofs.lemmas.Bool.{or_parts}
use Rattle.t32_base.specs.declared.process.Pid.{Pid}
use Rattle.t32_base.specs.declared.process.ClusterNo.{ClusterNo}
use Rattle.t32_base.specs.declared.letter.BackRec.{BackRec}
use Rattle.bus_msg.specs.declared.entry.What.{What}
use Rattle.bus_msg.specs.declared.entry.What.TheVariants.{Birth, Exit, Sync, Crash, Rebackup}
use Rattle.bus_msg.specs.declared.placed.Placed.{Placed}
use Rattle.bus_msg.specs.Places.{Places, same_pid, same_cluster, is_cluster, placed_at, unended_at, is_moved_by}
use Rattle.bus_msg.specs.PlacedAfter.{placed_after, after_sync, after_loss, moved_to, after_rebackup, is_named}
use Rattle.cert_sched.specs.Deeds.{is_birth_of}
use Rattle.cert_sched.specs.Told.{is_moved}
use Rattle.cert_sched.proofs.RisingLaws.{NoTwo}
use Rattle.cert_sched.proofs.PidLaws.{placed_pids}
use Rattle.cert_sched.proofs.FreshLaws.{only_one}
use Rattle.cert_sched.proofs.BirthPlaces.{born_beside}
use Rattle.cert_sched.proofs.FamilyLaws.{exit_there, exit_elsewhere}
use Rattle.cert_sched.proofs.UnendedLaws.{Keeps, unended_map, sync_keeps, loss_keeps, backup_keeps}
use Rattle.backup_laws.proofs.Since.{mode_at}

-- ---- the mode

-- a change of each process that leaves the pids, the ends and the modes
mode_map : (f : Placed → Placed) → Keeps f → ((q : Placed) → (f q).mode ≡ q.mode) → (places after : Places) → after.placed ≡ map f places.placed → (p : Pid) → mode_at after p ≡ mode_at places p
mode_map f keeps same places after is p = ap (option_map (λ (q : Placed). q.mode)) (unended_map f keeps places after is p) ∙ by_found (unended_at places p)
  where
    by_found : (o : Option Placed) → option_map (λ (q : Placed). q.mode) (option_map f o) ≡ option_map (λ (q : Placed). q.mode) o
    by_found None = refl
    by_found (Some q) = ap Some (same q)

pub sync_mode : (r : Pid) (q : Placed) → (after_sync r q).mode ≡ q.mode
sync_mode r q = by_test (same_pid q.pid r)
  where
    by_test : (b : Bool) → (cond b (record q { synced = true }) q).mode ≡ q.mode
    by_test true = refl
    by_test false = refl

pub loss_mode : (k : ClusterNo) (q : Placed) → (after_loss k q).mode ≡ q.mode
loss_mode k q = by_tests q.ended (same_cluster q.home k) (is_cluster q.backup k)
  where
    moved : (o : Option ClusterNo) → (moved_to q k o).mode ≡ q.mode
    moved None = refl
    moved (Some b) = refl

    by_tests : (e h b : Bool) → (cond e q (cond h (moved_to q k q.backup) (cond b (record q { backup = None; lost = Some k }) q))).mode ≡ q.mode
    by_tests true h b = refl
    by_tests false true b = moved q.backup
    by_tests false false true = refl
    by_tests false false false = refl

pub backup_mode : (to : ClusterNo) (fresh : Bool) (recs : List BackRec) (q : Placed) → (after_rebackup to fresh recs q).mode ≡ q.mode
backup_mode to fresh recs q = by_test (is_named recs q)
  where
    by_test : (b : Bool) → (cond b (record q { backup = Some to; synced = q.synced || fresh }) q).mode ≡ q.mode
    by_test true = refl
    by_test false = refl

-- a process that an entry neither bears nor ends keeps its mode
pub mode_stays : (w : What) (places : Places) (p : Pid) → is_birth_of p w ≡ false → is_some (unended_at (placed_after places w) p) ≡ true → mode_at (placed_after places w) p ≡ mode_at places p
mode_stays (Birth parent at child end) places p other there = ap (option_map (λ (q : Placed). q.mode)) (born_beside p child places (placed_at places parent) other)
mode_stays (Exit r at end) places p other there = by_pid (same_pid p r) refl
  where
    by_pid : (b : Bool) → same_pid p r ≡ b → mode_at (placed_after places (Exit r at end)) p ≡ mode_at places p
    by_pid true same = absurd (true≢false (sym there ∙ ap is_some (exit_there places r p at end same)))
    by_pid false apart = ap (option_map (λ (q : Placed). q.mode)) (exit_elsewhere places r p at end apart)
mode_stays (Sync r small read took) places p other there = mode_map (after_sync r) (sync_keeps r) (sync_mode r) places (placed_after places (Sync r small read took)) refl p
mode_stays (Crash k cause) places p other there = mode_map (after_loss k) (loss_keeps k) (loss_mode k) places (placed_after places (Crash k cause)) refl p
mode_stays (Rebackup to fresh recs) places p other there =
    mode_map (after_rebackup to fresh recs) (backup_keeps to fresh recs) (backup_mode to fresh recs) places (placed_after places (Rebackup to fresh recs)) refl p
mode_stays _ places p other there = refl

-- ---- who is moved

none_named : (t : Placed → Bool) (p : Pid) (qs : List Placed) → list_any (λ m. eqb m p.0) (placed_pids qs) ≡ false → list_any (λ (r : Placed). same_pid r.pid p && t r) qs ≡ false
none_named t p [] none = refl
none_named t p (r ∷ qs) none =
    let parts = or_parts (eqb (r.pid).0 p.0) (list_any (λ m. eqb m p.0) (placed_pids qs)) none in
    λ i. (parts.0 i && t r) || none_named t p qs parts.1 i

-- where no two have one pid, one with the pid passes exactly where the one that is found does
one_passes_so : (t : Placed → Bool) (p : Pid) (qs : List Placed) (q : Placed) → NoTwo (placed_pids qs) → find (λ (q : Placed). same_pid q.pid p) qs ≡ Some q
    → list_any (λ (r : Placed). same_pid r.pid p && t r) qs ≡ t q
one_passes_so t p [] q two found = cc
one_passes_so t p (r ∷ qs) q two found = by_pid (same_pid r.pid p) refl found (one_passes_so t p qs q two.1)
  where
    or_none : (b : Bool) → (b || false) ≡ b
    or_none true = refl
    or_none false = refl

    by_pid : (b : Bool) → same_pid r.pid p ≡ b → cond b (Some r) (find (λ (q : Placed). same_pid q.pid p) qs) ≡ Some q
        → (find (λ (q : Placed). same_pid q.pid p) qs ≡ Some q → list_any (λ (r : Placed). same_pid r.pid p && t r) qs ≡ t q)
        → ((b && t r) || list_any (λ (r : Placed). same_pid r.pid p && t r) qs) ≡ t q
    by_pid true is found more =
        let same : r ≡ q = cc in
        ap (λ b. t r || b) (none_named t p qs (ap (λ n. list_any (λ m. eqb m n) (placed_pids qs)) (sym (eqb-true (r.pid).0 p.0 is)) ∙ two.0)) ∙ or_none (t r) ∙ ap t same
    by_pid false is found more = more found

-- a crash of k moves the process exactly where it moves it as it is placed
pub moved_is : (places : Places) (p : Pid) (k : ClusterNo) (q : Placed) → NoTwo (placed_pids places.placed) → unended_at places p ≡ Some q → is_moved p places k ≡ is_moved_by k q
moved_is places p k q two found = one_passes_so (is_moved_by k) p places.placed q two (only_one p places.placed q two found)
