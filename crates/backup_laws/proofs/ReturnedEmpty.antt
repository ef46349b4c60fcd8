-- A cluster that is lost has no process at home and no backup, so it returns empty: the backup of each process that has not ended lives, whatever stood before.
use Rattle.std.proofs.Common.{◌≡◌, ℕ, ◌+◌, ◌<◌, ◌≤◌, refl, sym, ◌∙◌, ap, subst, length, List, [], ◌∷◌, ◌++◌, map, Bool, true, false, cond, not, ◌&&◌, ◌||◌, eqb, eqb-true, Option, Some, None, unwrap_or, true≢false, is_some}
use Rattle.std.specs.Prelude.{count_by, find, option_map, slice_get}
use Rattle.std.specs.Option.{option_map_or}
use Rattle.std.specs.List.{list_all}
use Rattle.t32_base.specs.declared.process.Pid.{Pid}
use Rattle.t32_base.specs.declared.process.End.{End}
use Rattle.t32_base.specs.declared.process.ClusterNo.{ClusterNo}
use Rattle.t32_base.specs.declared.letter.BackRec.{BackRec}
use Rattle.sys_text.specs.declared.system.System.{System}
use Rattle.sys_text.specs.declared.system.Root.{Root}
use Rattle.sys_text.specs.Valid.{is_system, is_root}
use Rattle.sys_text.specs.Boot.{pid_of, with_pids, roots_of}
use Rattle.sys_text.proofs.Bounds.{first_of_two, second_of_two, root_fits, root_tests, system_bounds, tests}
use Rattle.bus_msg.specs.declared.entry.What.{What}
use Rattle.bus_msg.specs.declared.entry.What.TheVariants.{Birth, Exit, Sync, Crash, Return, Rebackup}
use Rattle.bus_msg.specs.declared.entry.Entry.{Entry}
use Rattle.bus_msg.specs.declared.placed.Placed.{Placed}
use Rattle.bus_msg.specs.Places.{ClusterPlace, Places, same_pid, same_cluster, is_cluster, lives_in, unended_at, is_lost_in, all_clusters}
use Rattle.bus_msg.specs.PlacedAfter.{what, placed_after, returned_cluster, raised_serial, child_of, after_sync, after_loss, after_rebackup, moved_to, is_named}
use Rattle.cert_sched.specs.Schedule.{placement, placed_root}
use Rattle.cert_sched.specs.Rules.{is_by_right}
use Rattle.cert_sched.specs.Kinds.{KindHolds}
use Rattle.cert_sched.specs.Legal.{IsLegalBy, Stands}
use Rattle.cert_sched.proofs.LogLaws.{placement-snoc, IsLegal-before, IsLegal-last}
use Rattle.cert_sched.proofs.Induction.{legal_induction}
use Rattle.cert_sched.proofs.FreshLaws.{BornRightly, born_rightly, born_places}
use Rattle.cert_sched.proofs.FamilyLaws.{Families, sync_home, exit_there, exit_elsewhere, found_born, found_child, families_at_boot, families_more}
use Rattle.cert_sched.proofs.UnendedLaws.{Keeps, unended_map, sync_keeps, backup_keeps, loss_keeps, unended_open_at}
use Rattle.cert_sched.proofs.CoverLaws.{lives_on}
use Rattle.std.proofs.lemmas.Bool.{and_parts}
use Rattle.bus_msg.specs.NewBackup.{next_backup, next_backup_at, backup_by_mode, lost_alive}
use Rattle.t32_base.specs.declared.process.Mode.{Mode}
use Rattle.t32_base.specs.declared.process.Mode.TheVariants.{Quarter, Half, Full}
use Rattle.cert_sched.proofs.LiveLaws.{boot_lives, homes_live}
use Rattle.log_laws.specs.records.Kept.{KeepsRecords}
use Rattle.log_laws.proofs.records.Standing.{itself}
use Rattle.cert_sched.specs.Record.{backup_record}
use Rattle.backup_laws.proofs.SpreadSafe.{kept_at}

-- ---- a new backup lives

other_lives : (places : Places) (home : ClusterNo) (ks : List ClusterNo) (to : ClusterNo) → find (λ k. lives_in places k && not (same_cluster k home)) ks ≡ Some to → lives_in places to ≡ true
other_lives places home [] to is = absurd (true≢false (sym (ap is_some is)))
other_lives places home (k ∷ ks) to is = by_test (lives_in places k && not (same_cluster k home)) refl is (other_lives places home ks to)
  where
    by_test : (b : Bool) → (lives_in places k && not (same_cluster k home)) ≡ b → cond b (Some k) (find (λ k. lives_in places k && not (same_cluster k home)) ks) ≡ Some to
        → (find (λ k. lives_in places k && not (same_cluster k home)) ks ≡ Some to → lives_in places to ≡ true) → lives_in places to ≡ true
    by_test true passes e more = let same : k ≡ to =
        ap (λ (o : Option ClusterNo). unwrap_or o k) e in ap (lives_in places) (sym same) ∙ (and_parts (lives_in places k) (not (same_cluster k home)) passes).0
    by_test false passes e more = more e

mode_lives : (places : Places) (q : Placed) (mode : Mode) (to : ClusterNo) → backup_by_mode places q mode ≡ Some to → lives_in places to ≡ true
mode_lives places q Quarter to is = absurd (true≢false (sym (ap is_some is)))
mode_lives places q Half to is = by_lost q.lost is
  where
    by_life : (k : ClusterNo) (b : Bool) → lives_in places k ≡ b → cond b (Some k) None ≡ Some to → lives_in places to ≡ true
    by_life k true lives e = let same : k ≡ to = ap (λ (o : Option ClusterNo). unwrap_or o k) e in ap (lives_in places) (sym same) ∙ lives
    by_life k false lives e = absurd (true≢false (sym (ap is_some e)))

    by_lost : (o : Option ClusterNo) → lost_alive places o ≡ Some to → lives_in places to ≡ true
    by_lost None e = absurd (true≢false (sym (ap is_some e)))
    by_lost (Some k) e = by_life k (lives_in places k) refl e
mode_lives places q Full to is = other_lives places q.home (all_clusters places) to is

next_lives : (places : Places) (p : Pid) (to : ClusterNo) → next_backup_at places p ≡ Some to → lives_in places to ≡ true
next_lives places p to is = by_found (unended_at places p) is
  where
    by_test : (q : Placed) (b : Bool) → cond b None (backup_by_mode places q q.mode) ≡ Some to → lives_in places to ≡ true
    by_test q true e = absurd (true≢false (sym (ap is_some e)))
    by_test q false e = mode_lives places q q.mode to e

    by_found : (o : Option Placed) → option_map_or (next_backup places) o None ≡ Some to → lives_in places to ≡ true
    by_found None e = absurd (true≢false (sym (ap is_some e)))
    by_found (Some q) e = by_test q (q.ended || is_some q.backup) e

-- so does the cluster of any new backup
pub renewed_lives : (system : System) (log : List Entry) (e : Entry) (to : ClusterNo) (fresh : Bool) (recs : List BackRec) → KindHolds system log e (Rebackup to fresh recs) → lives_in (placement system log) to ≡ true
renewed_lives system log e to true [] kind = absurd kind
renewed_lives system log e to false [] kind = absurd kind
renewed_lives system log e to true (r ∷ rs) kind = next_lives (placement system log) r.pid to kind.backup
renewed_lives system log e to false (r ∷ rs) kind = next_lives (placement system log) r.pid to kind.backup

-- ---- the backups of those that have not ended

BackedAt : Places → Placed → Type 0
BackedAt places q = (b : ClusterNo) → q.backup ≡ Some b → lives_in places b ≡ true

AllBacked : Places → Type 0
AllBacked places = (p : Pid) (q : Placed) → unended_at places p ≡ Some q → BackedAt places q

longer : (places after : Places) → ((b : ClusterNo) → lives_in places b ≡ true → lives_in after b ≡ true) → (q r : Placed) → r.backup ≡ q.backup → BackedAt places q → BackedAt after r
unfolding BackedAt
longer places after lives q r backup backed b is = lives b (backed b (sym backup ∙ is))

by_map : (places after : Places) (f : Placed → Placed) → Keeps f → after.placed ≡ map f places.placed → ((p : Pid) (q : Placed) → unended_at places p ≡ Some q → BackedAt after (f q)) → AllBacked after
unfolding AllBacked
by_map places after f keeps placed backed p q found = by_found (unended_at places p) refl (sym (unended_map f keeps places after placed p) ∙ found)
  where
    by_found : (o : Option Placed) → unended_at places p ≡ o → option_map f o ≡ Some q → BackedAt after q
    by_found None there e = cc
    by_found (Some r) there e = let same : f r ≡ q = ap (λ (o : Option Placed). unwrap_or o q) e in subst (BackedAt after) same (backed p r there)

-- what is left of a backup after a loss was one before, in another cluster
left_backup : (k : ClusterNo) (q : Placed) (b : ClusterNo) → q.ended ≡ false → (after_loss k q).backup ≡ Some b → (q.backup ≡ Some b) × (same_cluster b k ≡ false)
left_backup k q b ended is = by_home (same_cluster q.home k) refl (is_cluster q.backup k) refl
  where
    loss_is : (h t : Bool) → same_cluster q.home k ≡ h → is_cluster q.backup k ≡ t → after_loss k q ≡ cond h (moved_to q k q.backup) (cond t (record q { backup = None; lost = Some k }) q)
    loss_is h t home backup = λ i. cond (ended i) q (cond (home i) (moved_to q k q.backup) (cond (backup i) (record q { backup = None; lost = Some k }) q))

    moved : (o : Option ClusterNo) → q.backup ≡ o → (moved_to q k o).backup ≡ Some b → (q.backup ≡ Some b) × (same_cluster b k ≡ false)
    moved None there e = absurd (true≢false (ap is_some (sym e) ∙ ap is_some there))
    moved (Some c) there e = absurd (true≢false (sym (ap is_some e)))

    by_home : (h : Bool) → same_cluster q.home k ≡ h → (t : Bool) → is_cluster q.backup k ≡ t → (q.backup ≡ Some b) × (same_cluster b k ≡ false)
    by_home true home t there = moved q.backup refl (sym (ap (λ (x : Placed). x.backup) (loss_is true t home there)) ∙ is)
    by_home false home true there = absurd (true≢false (sym (ap is_some (sym (ap (λ (x : Placed). x.backup) (loss_is false true home there)) ∙ is))))
    by_home false home false there =
        let same : q.backup ≡ Some b = sym (ap (λ (x : Placed). x.backup) (loss_is false false home there)) ∙ is in
        (same, sym (ap (λ o. is_cluster o k) same) ∙ there)

record AllIn (system : System) (log : List Entry) : Type 0 where
  pub families : Families system log
  pub backed : AllBacked (placement system log)

module _ (system : System) (log : List Entry) (e : Entry) (stands : Stands system log e) (all : AllIn system log) where
  abbrev here : Places
  here = placement system log

  after_is : (w : What) → what e ≡ w → AllBacked (placed_after here w) → AllBacked (placement system (log ++ e ∷ []))
  after_is w is h = subst AllBacked (sym (placement-snoc system log e ∙ ap (placed_after here) is)) h

  exit_backed : (r : Pid) (at : ℕ) (end : End) → AllBacked (placed_after here (Exit r at end))
  unfolding AllBacked BackedAt
  exit_backed r at end p q found b is = by_pid (same_pid p r) refl
    where
      by_pid : (x : Bool) → same_pid p r ≡ x → lives_in here b ≡ true
      by_pid true same = absurd (true≢false (sym (ap is_some found) ∙ ap is_some (exit_there here r p at end same)))
      by_pid false apart = all.backed p q (sym (exit_elsewhere here r p at end apart) ∙ found) b is

  birth_backed : (parent : Pid) (at : ℕ) (child : Pid) (end : ℕ) → what e ≡ Birth parent at child end → BornRightly here parent child → AllBacked (placement system (log ++ e ∷ []))
  unfolding AllBacked
  birth_backed parent at child end is born p q found = by_pid (same_pid child p) refl
    where
      after : Places
      after = placement system (log ++ e ∷ [])

      lives : (h : ClusterNo) → lives_in here h ≡ true → lives_in after h ≡ true
      lives h alive =
          ap (λ places. lives_in places h) (placement-snoc system log e ∙ ap (placed_after here) is ∙ born_places here parent child (all.families).numbered born)
          ∙ kept_at (λ (c : ClusterPlace). c.lives) raised_serial (λ c h. h) here.clusters ((born.at).home).0 h.0 alive

      by_pid : (b : Bool) → same_pid child p ≡ b → BackedAt after q
      by_pid true same =
          let pid : child ≡ p = λ i. record { 0 = eqb-true child.0 p.0 same i } in
          let to : child_of born.at child ≡ q =
          ap (λ (o : Option Placed). unwrap_or o q) (sym (found_child system log e stands all.families parent at child end is born) ∙ ap (unended_at after) pid ∙ found) in
          longer here after lives born.at q (ap (λ (x : Placed). x.backup) (sym to)) (all.backed parent born.at born.found)
      by_pid false other = longer here after lives q q refl (all.backed p q (sym (found_born system log e stands all.families parent at child end is born p other) ∙ found))

  renewed_backed : (to : ClusterNo) (fresh : Bool) (recs : List BackRec) (q : Placed) → lives_in here to ≡ true → BackedAt here q → BackedAt here (after_rebackup to fresh recs q)
  unfolding BackedAt
  renewed_backed to fresh recs q lives backed b is = by_name (is_named recs q) is
    where
      by_name : (n : Bool) → (cond n (record q { backup = Some to; synced = q.synced || fresh }) q).backup ≡ Some b → lives_in here b ≡ true
      by_name true e = let same : to ≡ b = ap (λ (o : Option ClusterNo). unwrap_or o to) e in ap (lives_in here) (sym same) ∙ lives
      by_name false e = backed b e

  backed_by : (w : What) → what e ≡ w → KindHolds system log e w → is_by_right here (e.post).by w ≡ true → AllBacked (placement system (log ++ e ∷ []))
  unfolding AllBacked placement BackedAt
  backed_by (Birth parent at child end) is kind right = birth_backed parent at child end is (born_rightly here (e.post).by parent child right kind.child_is)
  backed_by (Exit r at end) is kind right = after_is (Exit r at end) is (exit_backed r at end)
  backed_by (Sync r small read took) is kind right =
      after_is (Sync r small read took) is
      (by_map here (placed_after here (Sync r small read took)) (after_sync r) (sync_keeps r) refl
      (λ p q found. longer here here (λ b lives. lives) q (after_sync r q) (sync_home r q).1 (all.backed p q found)))
  backed_by (Crash k cause) is kind right =
      after_is (Crash k cause) is
      (by_map here (placed_after here (Crash k cause)) (after_loss k) (loss_keeps k) refl
      (λ p q found b left. let was = left_backup k q b (unended_open_at here p q found) left in lives_on here k b cause was.1 (all.backed p q found b was.0)))
  backed_by (Return k) is kind right =
      after_is (Return k) is
      (λ p q found. longer here (placed_after here (Return k)) (λ b lives. kept_at (λ (c : ClusterPlace). c.lives) returned_cluster (λ c h. refl) here.clusters k.0 b.0 lives) q q refl
      (all.backed p q found))
  backed_by (Rebackup to fresh recs) is kind right =
      after_is (Rebackup to fresh recs) is
      (by_map here (placed_after here (Rebackup to fresh recs)) (after_rebackup to fresh recs) (backup_keeps to fresh recs) refl
      (λ p q found. renewed_backed to fresh recs q (renewed_lives system log e to fresh recs kind) (all.backed p q found)))
  backed_by w is kind right = after_is w is all.backed

-- ---- the start

roots_below : (s : System) → s.clusters ≤ 16 → (earlier roots : List Root) → list_all (is_root s.clusters (length s.images)) roots ≡ true → (p : Pid) (q : Placed) (b : ClusterNo)
    → find (λ (q : Placed). same_pid q.pid p && not q.ended) (map placed_root (with_pids earlier roots)) ≡ Some q → q.backup ≡ Some b → b.0 < s.clusters
roots_below s few earlier [] fit p q b found backup = cc
roots_below s few earlier (r ∷ roots) fit p q b found backup =
    by_pid (same_pid (pid_of (r.home).0 (1 + count_by (λ (q : Root). eqb (q.home).0 (r.home).0) earlier)) p) found
    (λ more. roots_below s few (earlier ++ r ∷ []) roots (second_of_two (is_root s.clusters (length s.images) r) _ fit) p q b more backup)
  where
    here : (r.backup).0 < s.clusters
    here = (root_fits s r few (first_of_two _ (list_all (is_root s.clusters (length s.images)) roots) fit)).backup

    by_pid : (t : Bool) → cond (t && true) (Some (placed_root (pid_of (r.home).0 (1 + count_by (λ (q : Root). eqb (q.home).0 (r.home).0) earlier), r)))
        (find (λ (q : Placed). same_pid q.pid p && not q.ended) (map placed_root (with_pids (earlier ++ r ∷ []) roots))) ≡ Some q
        → (find (λ (q : Placed). same_pid q.pid p && not q.ended) (map placed_root (with_pids (earlier ++ r ∷ []) roots)) ≡ Some q → b.0 < s.clusters) → b.0 < s.clusters
    by_pid true e more =
        let to : placed_root (pid_of (r.home).0 (1 + count_by (λ (q : Root). eqb (q.home).0 (r.home).0) earlier), r) ≡ q = ap (λ (o : Option Placed). unwrap_or o q) e in
        let is : Some r.backup ≡ Some b = ap (λ (x : Placed). x.backup) to ∙ backup in
        let same : r.backup ≡ b = ap (λ (o : Option ClusterNo). unwrap_or o b) is in
        subst (λ (k : ClusterNo). k.0 < s.clusters) same here
    by_pid false e more = more e

all_at_boot : (system : System) → is_system system ≡ true → AllIn system []
unfolding placement AllBacked BackedAt
all_at_boot system valid = record {
  families = families_at_boot system valid;
  backed = λ p q found b backup.
      boot_lives system (map placed_root (roots_of system)) b.0
      (roots_below system (system_bounds system valid).clusters [] system.roots (root_tests system.clusters (length system.images) system.roots (tests system valid).roots).each p q b found backup);
}

all_in : (system : System) (log : List Entry) → is_system system ≡ true → IsLegalBy Stands system log → AllIn system log
all_in system log valid legal =
    legal_induction Stands system (AllIn system) (all_at_boot system valid)
    (λ log e all stands. record { families = families_more system log e stands all.families; backed = backed_by system log e stands all (what e) refl stands.kind stands.by_right }) log legal

-- in any legal log the backup of a process that has not ended lives
pub backups_live : (system : System) (log : List Entry) (p : Pid) (q : Placed) (b : ClusterNo) → is_system system ≡ true → IsLegalBy Stands system log → unended_at (placement system log) p ≡ Some q
    → q.backup ≡ Some b → lives_in (placement system log) b ≡ true
unfolding AllBacked BackedAt
backups_live system log p q b valid legal found is = (all_in system log valid legal).backed p q found b is

-- ---- a cluster that returns

lost_lives_not : (places : Places) (k : ClusterNo) → is_lost_in places k ≡ true → lives_in places k ≡ false
lost_lives_not places k lost = by_cluster (slice_get places.clusters k.0) lost
  where
    by_life : (b : Bool) → not b ≡ true → b ≡ false
    by_life false h = refl
    by_life true h = absurd (true≢false (sym h))

    by_cluster : (o : Option ClusterPlace) → option_map_or (λ (c : ClusterPlace). not c.lives) o false ≡ true → option_map_or (λ (c : ClusterPlace). c.lives) o false ≡ false
    by_cluster None h = refl
    by_cluster (Some c) h = by_life c.lives h

module _ (system : System) (log : List Entry) (e : Entry) (k : ClusterNo) (valid : is_system system ≡ true) (legal : IsLegalBy Stands system (log ++ e ∷ [])) (is : what e ≡ Return k) where
  gone : lives_in (placement system log) k ≡ false
  gone = lost_lives_not (placement system log) k (subst (KindHolds system log e) is (IsLegal-last Stands system log e legal).kind)

  same_places : (p : Pid) → unended_at (placement system (log ++ e ∷ [])) p ≡ unended_at (placement system log) p
  same_places p = ap (λ places. unended_at places p) (placement-snoc system log e ∙ ap (placed_after (placement system log)) is)

  not_there : (b : ClusterNo) → lives_in (placement system log) b ≡ true → same_cluster b k ≡ false
  not_there b lives = by_test (same_cluster b k) refl
    where
      by_test : (x : Bool) → same_cluster b k ≡ x → x ≡ false
      by_test false same = refl
      by_test true same =
          let one : b ≡ k = λ i. record { 0 = eqb-true b.0 k.0 same i } in
          absurd (true≢false (sym lives ∙ ap (lives_in (placement system log)) one ∙ gone))

  -- no process is at home there,
  pub returned_home : (p : Pid) (q : Placed) → unended_at (placement system (log ++ e ∷ [])) p ≡ Some q → same_cluster q.home k ≡ false
  returned_home p q found =
      not_there q.home (homes_live Stands itself system log valid (IsLegal-before Stands system log e legal) ((IsLegal-last Stands system log e legal).placed).2 p q (sym (same_places p) ∙ found))

  -- and none has its backup there: it keeps no record
  pub returned_records : KeepsRecords system (log ++ e ∷ []) k []
  returned_records p = ap (λ b. cond b (backup_record system (log ++ e ∷ []) p) None) (sym (by_placed (unended_at (placement system (log ++ e ∷ [])) p) refl))
    where
      by_backup : (q : Placed) → unended_at (placement system (log ++ e ∷ [])) p ≡ Some q → (o : Option ClusterNo) → q.backup ≡ o → is_cluster o k ≡ false
      by_backup q found None there = refl
      by_backup q found (Some b) there = not_there b (backups_live system log p q b valid (IsLegal-before Stands system log e legal) (sym (same_places p) ∙ found) there)

      by_placed : (o : Option Placed) → unended_at (placement system (log ++ e ∷ [])) p ≡ o → option_map_or (λ (q : Placed). is_cluster q.backup k) o false ≡ false
      by_placed None found = refl
      by_placed (Some q) found = by_backup q found q.backup refl
