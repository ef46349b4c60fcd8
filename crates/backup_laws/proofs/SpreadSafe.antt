-- Where the words of a script lose neither both clusters of a root nor both page servers, each loss of one of these clusters is covered, whatever stood before: new backups, returns and other losses too.
use Rattle.std.proofs.Common.{◌≡◌, ℕ, ◌+◌, ◌<◌, ◌≤◌, refl, sym, ◌∙◌, ap, subst, arith, length, List, [], ◌∷◌, ◌++◌, map, Bool, true, false, cond, not, ◌&&◌, ◌||◌, eqb, eqb-true, eq-eqb, Option, Some, None, unwrap_or, true≢false, inl, inr, ◌⊎◌, is_some}
use Rattle.std.specs.Prelude.{count_by, find, option_map, slice_get, filter}
use Rattle.std.specs.Option.{option_map_or}
use Rattle.std.specs.List.{list_all, range_with_len, list_any}
use Rattle.std.proofs.lemmas.List.FromFn.{length-map-range_with_len, get_or-map-range_with_len}
use Rattle.std.proofs.lemmas.Option.{slice_get-get_or}
use Rattle.t32_base.specs.declared.process.Pid.{Pid}
use Rattle.t32_base.specs.declared.process.End.{End}
use Rattle.t32_base.specs.declared.process.ClusterNo.{ClusterNo}
use Rattle.t32_base.specs.declared.letter.BackRec.{BackRec}
use Rattle.t32_base.proofs.Facts.{and_false}
use Rattle.sys_text.specs.declared.system.System.{System}
use Rattle.sys_text.specs.declared.system.Root.{Root}
use Rattle.sys_text.specs.Valid.{is_system, is_root}
use Rattle.sys_text.specs.Boot.{pid_of, with_pids, roots_of}
use Rattle.sys_text.proofs.Bounds.{first_of_two, second_of_two, root_fits, root_tests, system_bounds, tests}
use Rattle.bus_msg.specs.declared.entry.What.{What}
use Rattle.bus_msg.specs.declared.entry.What.TheVariants.{Birth, Exit, Sync, Crash, Return, Rebackup}
use Rattle.bus_msg.specs.declared.entry.Cause.{Cause}
use Rattle.bus_msg.specs.declared.entry.Entry.{Entry}
use Rattle.bus_msg.specs.declared.placed.Placed.{Placed}
use Rattle.bus_msg.specs.Places.{ClusterPlace, Places, boot_cluster, same_pid, same_cluster, is_cluster, is_covered, lives_in, unended_at, is_at_home, never_lost, servers_in, placed_at}
use Rattle.bus_msg.specs.PlacedAfter.{what, placed_after, changed_at, returned_cluster, raised_serial, child_of, after_sync, after_loss, after_rebackup, moved_to, is_named, with_birth, lost_cluster}
use Rattle.cert_sched.specs.Schedule.{placement, places_at_boot, placed_root}
use Rattle.cert_sched.specs.Rules.{is_by_right}
use Rattle.cert_sched.specs.Kinds.{KindHolds}
use Rattle.cert_sched.specs.Legal.{IsLegalBy, Stands}
use Rattle.cert_sched.proofs.LogLaws.{placement-snoc}
use Rattle.cert_sched.proofs.Induction.{legal_induction}
use Rattle.cert_sched.proofs.FreshLaws.{kept_elsewhere, put_here, BornRightly, born_rightly, born_places}
use Rattle.cert_sched.proofs.FamilyLaws.{Families, sync_home, exit_there, exit_elsewhere, found_born, found_child, families_at_boot, families_more}
use Rattle.cert_sched.proofs.UnendedLaws.{Keeps, unended_map, sync_keeps, backup_keeps, loss_keeps, unended_open_at, unended_pid}
use Rattle.cert_sched.proofs.CoverLaws.{lives_on}
use Rattle.std.proofs.lemmas.Bool.{and_from, and_parts, or_right}
use Rattle.cert_sched.specs.declared.script.ScriptWord.{ScriptWord}
use Rattle.cert_sched.specs.Scripted.{is_lost_by, is_spread}
use Rattle.cert_sched.specs.Told.{cluster_lost}
use Rattle.cert_sched.proofs.RisingLaws.{NoTwo}
use Rattle.cert_sched.proofs.PidLaws.{placed_pids}
use Rattle.cert_sched.proofs.ThereLaws.{found_among}
use Rattle.std.proofs.lemmas.List.Folds.{list_all-append}
use Rattle.backup_laws.specs.LostBy.{AllLostBy}
use Rattle.log_laws.proofs.records.Named.{named_unbacked}

-- ---- clusters that change

-- what every change of a cluster keeps, one of them keeps
pub kept_at : (g : ClusterPlace → Bool) (f : ClusterPlace → ClusterPlace) → ((c : ClusterPlace) → g c ≡ true → g (f c) ≡ true) → (clusters : List ClusterPlace) (k h : ℕ)
    → option_map_or g (slice_get clusters h) false ≡ true
    → option_map_or g (slice_get (changed_at k f (slice_get clusters k) clusters) h) false ≡ true
kept_at g f keeps clusters k h has = by_cluster (slice_get clusters k) refl
  where
    by_number : (c : ClusterPlace) → slice_get clusters k ≡ Some c → (b : Bool) → eqb h k ≡ b → option_map_or g (slice_get (changed_at k f (Some c) clusters) h) false ≡ true
    by_number c there true same =
        let was : g c ≡ true = ap (λ o. option_map_or g o false) (sym there) ∙ ap (λ n. option_map_or g (slice_get clusters n) false) (sym (eqb-true h k same)) ∙ has in
        ap (λ n. option_map_or g (slice_get (changed_at k f (Some c) clusters) n) false) (eqb-true h k same)
        ∙ ap (λ o. option_map_or g o false) (put_here clusters k (f c) c there) ∙ keeps c was
    by_number c there false apart = ap (λ o. option_map_or g o false) (kept_elsewhere clusters k h (f c) (λ e. true≢false (sym (eq-eqb h k e) ∙ apart))) ∙ has

    by_cluster : (o : Option ClusterPlace) → slice_get clusters k ≡ o → option_map_or g (slice_get (changed_at k f o clusters) h) false ≡ true
    by_cluster None there = has
    by_cluster (Some c) there = by_number c there (eqb h k) refl

-- the loss of another leaves one as it was
kept_apart : (g : ClusterPlace → Bool) (f : ClusterPlace → ClusterPlace) (clusters : List ClusterPlace) (k h : ℕ) → eqb h k ≡ false → option_map_or g (slice_get clusters h) false ≡ true
    → option_map_or g (slice_get (changed_at k f (slice_get clusters k) clusters) h) false ≡ true
kept_apart g f clusters k h apart has = by_cluster (slice_get clusters k)
  where
    by_cluster : (o : Option ClusterPlace) → option_map_or g (slice_get (changed_at k f o clusters) h) false ≡ true
    by_cluster None = has
    by_cluster (Some c) = ap (λ o. option_map_or g o false) (kept_elsewhere clusters k h (f c) (λ e. true≢false (sym (eq-eqb h k e) ∙ apart))) ∙ has

-- each cluster at boot
boot_at : (g : ClusterPlace → Bool) (system : System) (placed : List Placed) (h : ℕ) → ((n : ℕ) → g (boot_cluster placed n) ≡ true) → h < system.clusters
    → option_map_or g (slice_get (map (boot_cluster placed) (range_with_len 0 system.clusters)) h) false ≡ true
boot_at g system placed h all within =
    let long = length-map-range_with_len (boot_cluster placed) 0 system.clusters in
    ap (λ o. option_map_or g o false)
    (slice_get-get_or (map (boot_cluster placed) (range_with_len 0 system.clusters)) h (boot_cluster placed h) (omega (arith, long, within))
    ∙ ap Some (get_or-map-range_with_len (boot_cluster placed) 0 system.clusters h h (boot_cluster placed h) within (omega arith)))
    ∙ all h

-- ---- what stays

module _ (lost : ClusterNo → Bool) where
  -- two of one number are both lost by words or both not
  apart_from : (b k : ClusterNo) → lost b ≡ false → lost k ≡ true → same_cluster b k ≡ false
  apart_from b k safe by_word = by_test (same_cluster b k) refl
    where
      by_test : (x : Bool) → same_cluster b k ≡ x → x ≡ false
      by_test false is = refl
      by_test true is =
          let same : b ≡ k = λ i. record { 0 = eqb-true b.0 k.0 is i } in
          absurd (true≢false (sym by_word ∙ sym (ap lost same) ∙ safe))

  -- no word loses its home, or it has a backup that lives and that no word loses
  SafeAt : Places → Placed → Type 0
  SafeAt places q = (lost q.home ≡ false) ⊎ ((b : ClusterNo) × (q.backup ≡ Some b) × (lost b ≡ false) × (lives_in places b ≡ true))

  AllSafe : Places → Type 0
  AllSafe places = (p : Pid) (q : Placed) → unended_at places p ≡ Some q → SafeAt places q

  -- where no word loses it, the cluster was never lost
  NeverLost : Places → ClusterNo → Type 0
  NeverLost places s = lost s ≡ false → never_lost places s ≡ true

  safe_home : (places : Places) (q : Placed) → lost q.home ≡ false → SafeAt places q
  unfolding SafeAt
  safe_home places q is = inl is

  safe_backup : (places : Places) (q : Placed) (b : ClusterNo) → q.backup ≡ Some b → lost b ≡ false → lives_in places b ≡ true → SafeAt places q
  unfolding SafeAt
  safe_backup places q b is safe lives = inr (b, is, safe, lives)

  -- the same in places in which each cluster that lived lives
  longer : (places after : Places) → ((b : ClusterNo) → lost b ≡ false → lives_in places b ≡ true → lives_in after b ≡ true) → (q r : Placed) → r.home ≡ q.home → r.backup ≡ q.backup → SafeAt places q
      → SafeAt after r
  unfolding SafeAt
  longer places after lives q r home backup (inl safe) = inl (ap lost home ∙ safe)
  longer places after lives q r home backup (inr b) = inr (b.0, backup ∙ b.1, b.2, lives b.0 b.2 b.3)

  by_map : (places after : Places) (f : Placed → Placed) → Keeps f → after.placed ≡ map f places.placed → ((p : Pid) (q : Placed) → unended_at places p ≡ Some q → SafeAt after (f q)) → AllSafe after
  unfolding AllSafe
  by_map places after f keeps placed safe p q found = by_found (unended_at places p) refl (sym (unended_map f keeps places after placed p) ∙ found)
    where
      by_found : (o : Option Placed) → unended_at places p ≡ o → option_map f o ≡ Some q → SafeAt after q
      by_found None there e = cc
      by_found (Some r) there e = let same : f r ≡ q = ap (λ (o : Option Placed). unwrap_or o q) e in subst (SafeAt after) same (safe p r there)

  -- ---- a loss by a word

  loss_is : (k : ClusterNo) (q : Placed) (h b : Bool) → q.ended ≡ false → same_cluster q.home k ≡ h → is_cluster q.backup k ≡ b
      → after_loss k q ≡ cond h (moved_to q k q.backup) (cond b (record q { backup = None; lost = Some k }) q)
  loss_is k q h b ended home backup = λ i. cond (ended i) q (cond (home i) (moved_to q k q.backup) (cond (backup i) (record q { backup = None; lost = Some k }) q))

  loss_safe : (places : Places) (k : ClusterNo) (cause : Cause) (q : Placed) → lost k ≡ true → q.ended ≡ false → SafeAt places q → SafeAt (placed_after places (Crash k cause)) (after_loss k q)
  unfolding SafeAt
  loss_safe places k cause q by_word ended (inl safe) = inl (ap lost (by_backup (is_cluster q.backup k) refl) ∙ safe)
    where
      by_backup : (b : Bool) → is_cluster q.backup k ≡ b → (after_loss k q).home ≡ q.home
      by_backup true is = ap (λ (x : Placed). x.home) (loss_is k q false true ended (apart_from q.home k safe by_word) is)
      by_backup false is = ap (λ (x : Placed). x.home) (loss_is k q false false ended (apart_from q.home k safe by_word) is)
  loss_safe places k cause q by_word ended (inr b) = by_home (same_cluster q.home k) refl
    where
      other : is_cluster q.backup k ≡ false
      other = ap (λ o. is_cluster o k) b.1 ∙ apart_from b.0 k b.2 by_word

      by_home : (h : Bool) → same_cluster q.home k ≡ h
          → (lost (after_loss k q).home ≡ false) ⊎ ((c : ClusterNo) × ((after_loss k q).backup ≡ Some c) × (lost c ≡ false) × (lives_in (placed_after places (Crash k cause)) c ≡ true))
      by_home true home = inl (ap (λ (x : Placed). lost x.home) (loss_is k q true false ended home other) ∙ ap (λ o. lost (moved_to q k o).home) b.1 ∙ b.2)
      by_home false home =
          inr (b.0, ap (λ (x : Placed). x.backup) (loss_is k q false false ended home other) ∙ b.1, b.2, lives_on places k b.0 cause (apart_from b.0 k b.2 by_word) b.3)

  -- ---- a new backup

  renewed_is : (to : ClusterNo) (fresh : Bool) (recs : List BackRec) (q : Placed) (b : Bool) → is_named recs q ≡ b
      → after_rebackup to fresh recs q ≡ cond b (record q { backup = Some to; synced = q.synced || fresh }) q
  renewed_is to fresh recs q b is = ap (λ b. cond b (record q { backup = Some to; synced = q.synced || fresh }) q) is

  renewed_safe : (places : Places) (to : ClusterNo) (fresh : Bool) (recs : List BackRec) (q : Placed) → (is_named recs q ≡ true → q.backup ≡ None) → SafeAt places q
      → SafeAt places (after_rebackup to fresh recs q)
  unfolding SafeAt
  renewed_safe places to fresh recs q none safe = by_name (is_named recs q) refl safe
    where
      by_name : (b : Bool) → is_named recs q ≡ b → (lost q.home ≡ false) ⊎ ((c : ClusterNo) × (q.backup ≡ Some c) × (lost c ≡ false) × (lives_in places c ≡ true))
          → (lost (after_rebackup to fresh recs q).home ≡ false) ⊎ ((c : ClusterNo) × ((after_rebackup to fresh recs q).backup ≡ Some c) × (lost c ≡ false) × (lives_in places c ≡ true))
      by_name true is (inl home) = inl (ap (λ (x : Placed). lost x.home) (renewed_is to fresh recs q true is) ∙ home)
      by_name true is (inr c) = absurd (true≢false (ap is_some (sym c.1) ∙ ap is_some (none is)))
      by_name false is (inl home) = inl (ap (λ (x : Placed). lost x.home) (renewed_is to fresh recs q false is) ∙ home)
      by_name false is (inr c) = inr (c.0, ap (λ (x : Placed). x.backup) (renewed_is to fresh recs q false is) ∙ c.1, c.2, c.3)

  -- ---- one more entry

  lost_word : What → Bool
  lost_word w = option_map_or lost (cluster_lost w) true

  record AllIn (system : System) (log : List Entry) : Type 0 where
    pub families : Families system log
    pub safe : AllSafe (placement system log)
    pub pager : (placement system log).pager ≡ system.pager
    pub first : NeverLost (placement system log) (system.pager).0
    pub second : NeverLost (placement system log) (system.pager).1

  same_pager : (w : What) (places : Places) → (placed_after places w).pager ≡ places.pager
  same_pager (Birth parent at child end) places = by_parent (placed_at places parent)
    where
      by_parent : (o : Option Placed) → (with_birth places child o).pager ≡ places.pager
      by_parent None = refl
      by_parent (Some q) = refl
  same_pager _ places = refl

  never_kept : (w : What) (places : Places) (s : ClusterNo) → lost_word w ≡ true → NeverLost places s → NeverLost (placed_after places w) s
  unfolding NeverLost lost_word
  never_kept (Birth parent at child end) places s by_word never safe = by_parent (placed_at places parent)
    where
      by_parent : (o : Option Placed) → never_lost (with_birth places child o) s ≡ true
      by_parent None = never safe
      by_parent (Some q) = kept_at (λ (c : ClusterPlace). not c.was_lost) raised_serial (λ c h. h) places.clusters (q.home).0 s.0 (never safe)
  never_kept (Crash k cause) places s by_word never safe = kept_apart (λ (c : ClusterPlace). not c.was_lost) lost_cluster places.clusters k.0 s.0 (apart_from s k safe by_word) (never safe)
  never_kept (Return k) places s by_word never safe = kept_at (λ (c : ClusterPlace). not c.was_lost) returned_cluster (λ c h. h) places.clusters k.0 s.0 (never safe)
  never_kept _ places s by_word never safe = never safe

  module _ (system : System) (log : List Entry) (e : Entry) (stands : Stands system log e) (all : AllIn system log) (by_word : lost_word (what e) ≡ true) where
    abbrev here : Places
    here = placement system log

    after_is : (w : What) → what e ≡ w → AllSafe (placed_after here w) → AllSafe (placement system (log ++ e ∷ []))
    after_is w is h = subst AllSafe (sym (placement-snoc system log e ∙ ap (placed_after here) is)) h

    exit_safe : (r : Pid) (at : ℕ) (end : End) → AllSafe (placed_after here (Exit r at end))
    unfolding AllSafe SafeAt
    exit_safe r at end p q found = by_pid (same_pid p r) refl
      where
        by_pid : (b : Bool) → same_pid p r ≡ b → (lost q.home ≡ false) ⊎ ((c : ClusterNo) × (q.backup ≡ Some c) × (lost c ≡ false) × (lives_in here c ≡ true))
        by_pid true same = absurd (true≢false (sym (ap is_some found) ∙ ap is_some (exit_there here r p at end same)))
        by_pid false apart = all.safe p q (sym (exit_elsewhere here r p at end apart) ∙ found)

    birth_safe : (parent : Pid) (at : ℕ) (child : Pid) (end : ℕ) → what e ≡ Birth parent at child end → BornRightly here parent child → AllSafe (placement system (log ++ e ∷ []))
    unfolding AllSafe
    birth_safe parent at child end is born p q found = by_pid (same_pid child p) refl
      where
        after : Places
        after = placement system (log ++ e ∷ [])

        lives : (h : ClusterNo) → lost h ≡ false → lives_in here h ≡ true → lives_in after h ≡ true
        lives h safe alive =
            ap (λ places. lives_in places h) (placement-snoc system log e ∙ ap (placed_after here) is ∙ born_places here parent child (all.families).numbered born)
            ∙ kept_at (λ (c : ClusterPlace). c.lives) raised_serial (λ c h. h) here.clusters ((born.at).home).0 h.0 alive

        by_pid : (b : Bool) → same_pid child p ≡ b → SafeAt after q
        by_pid true same =
            let pid : child ≡ p = λ i. record { 0 = eqb-true child.0 p.0 same i } in
            let to : child_of born.at child ≡ q =
            ap (λ (o : Option Placed). unwrap_or o q) (sym (found_child system log e stands all.families parent at child end is born) ∙ ap (unended_at after) pid ∙ found) in
            longer here after lives born.at q (ap (λ (x : Placed). x.home) (sym to)) (ap (λ (x : Placed). x.backup) (sym to)) (all.safe parent born.at born.found)
        by_pid false other = longer here after lives q q refl refl (all.safe p q (sym (found_born system log e stands all.families parent at child end is born p other) ∙ found))

    safe_by : (w : What) → what e ≡ w → KindHolds system log e w → is_by_right here (e.post).by w ≡ true → lost_word w ≡ true → AllSafe (placement system (log ++ e ∷ []))
    unfolding lost_word AllSafe placement SafeAt
    safe_by (Birth parent at child end) is kind right word = birth_safe parent at child end is (born_rightly here (e.post).by parent child right kind.child_is)
    safe_by (Exit r at end) is kind right word = after_is (Exit r at end) is (exit_safe r at end)
    safe_by (Sync r small read took) is kind right word =
        after_is (Sync r small read took) is
        (by_map here (placed_after here (Sync r small read took)) (after_sync r) (sync_keeps r) refl
        (λ p q found. longer here here (λ b safe lives. lives) q (after_sync r q) (sync_home r q).0 (sync_home r q).1 (all.safe p q found)))
    safe_by (Crash k cause) is kind right word =
        after_is (Crash k cause) is
        (by_map here (placed_after here (Crash k cause)) (after_loss k) (loss_keeps k) refl (λ p q found. loss_safe here k cause q word (unended_open_at here p q found) (all.safe p q found)))
    safe_by (Return k) is kind right word =
        after_is (Return k) is
        (λ p q found. longer here (placed_after here (Return k)) (λ b safe lives. kept_at (λ (c : ClusterPlace). c.lives) returned_cluster (λ c h. refl) here.clusters k.0 b.0 lives) q q refl refl
        (all.safe p q found))
    safe_by (Rebackup to fresh recs) is kind right word =
        after_is (Rebackup to fresh recs) is
        (by_map here (placed_after here (Rebackup to fresh recs)) (after_rebackup to fresh recs) (backup_keeps to fresh recs) refl
        (λ p q found. renewed_safe here to fresh recs q (λ named. none p q found named) (all.safe p q found)))
      where
        none : (p : Pid) (q : Placed) → unended_at here p ≡ Some q → is_named recs q ≡ true → q.backup ≡ None
        none p q found named =
            let u = named_unbacked system log all.families e to fresh recs kind p (ap (λ x. list_any (λ (r : BackRec). same_pid r.pid x) recs) (sym (unended_pid here p q found)) ∙ named) in
            let same : u.at ≡ q = ap (λ (o : Option Placed). unwrap_or o q) (sym u.found ∙ found) in
            ap (λ (x : Placed). x.backup) (sym same) ∙ u.none
    safe_by w is kind right word = after_is w is all.safe

    all_more : AllIn system (log ++ e ∷ [])
    all_more = record {
      families = families_more system log e stands all.families;
      safe = safe_by (what e) refl stands.kind stands.by_right by_word;
      pager = ap (λ (places : Places). places.pager) (placement-snoc system log e) ∙ same_pager (what e) here ∙ all.pager;
      first = subst (λ places. NeverLost places (system.pager).0) (sym (placement-snoc system log e)) (never_kept (what e) here (system.pager).0 by_word all.first);
      second = subst (λ places. NeverLost places (system.pager).1) (sym (placement-snoc system log e)) (never_kept (what e) here (system.pager).1 by_word all.second);
    }

  -- ---- the start

  not_both : (a b : Bool) → not (a && b) ≡ true → a ≡ true → b ≡ false
  not_both a b h is = by_test b (sym (ap (λ x. not (x && b)) is) ∙ h)
    where
      by_test : (b : Bool) → not b ≡ true → b ≡ false
      by_test false h = refl
      by_test true h = absurd (true≢false (sym h))

  roots_safe : (s : System) → s.clusters ≤ 16 → (places : Places) → ((b : ClusterNo) → b.0 < s.clusters → lives_in places b ≡ true) → (earlier roots : List Root)
      → list_all (is_root s.clusters (length s.images)) roots ≡ true → list_all (λ (r : Root). not (lost r.home && lost r.backup)) roots ≡ true
      → (p : Pid) (q : Placed) → find (λ (q : Placed). same_pid q.pid p && not q.ended) (map placed_root (with_pids earlier roots)) ≡ Some q → SafeAt places q
  roots_safe s few places lives earlier [] fit spread p q found = cc
  roots_safe s few places lives earlier (r ∷ roots) fit spread p q found =
      by_pid (same_pid (pid_of (r.home).0 (1 + count_by (λ (q : Root). eqb (q.home).0 (r.home).0) earlier)) p) found
      (roots_safe s few places lives (earlier ++ r ∷ []) roots (second_of_two (is_root s.clusters (length s.images) r) _ fit) (second_of_two (not (lost r.home && lost r.backup)) _ spread) p q)
    where
      below : (r.backup).0 < s.clusters
      below = (root_fits s r few (first_of_two _ (list_all (is_root s.clusters (length s.images)) roots) fit)).backup

      apart : not (lost r.home && lost r.backup) ≡ true
      apart = first_of_two (not (lost r.home && lost r.backup)) (list_all (λ (r : Root). not (lost r.home && lost r.backup)) roots) spread

      own : (pid : Pid) (b : Bool) → lost r.home ≡ b → SafeAt places (placed_root (pid, r))
      own pid false is = safe_home places (placed_root (pid, r)) is
      own pid true is = safe_backup places (placed_root (pid, r)) r.backup refl (not_both (lost r.home) (lost r.backup) apart is) (lives r.backup below)

      by_pid : (b : Bool) → cond (b && true) (Some (placed_root (pid_of (r.home).0 (1 + count_by (λ (q : Root). eqb (q.home).0 (r.home).0) earlier), r)))
          (find (λ (q : Placed). same_pid q.pid p && not q.ended) (map placed_root (with_pids (earlier ++ r ∷ []) roots))) ≡ Some q
          → (find (λ (q : Placed). same_pid q.pid p && not q.ended) (map placed_root (with_pids (earlier ++ r ∷ []) roots)) ≡ Some q → SafeAt places q) → SafeAt places q
      by_pid true e more =
          let to : placed_root (pid_of (r.home).0 (1 + count_by (λ (q : Root). eqb (q.home).0 (r.home).0) earlier), r) ≡ q = ap (λ (o : Option Placed). unwrap_or o q) e in
          subst (SafeAt places) to (own (pid_of (r.home).0 (1 + count_by (λ (q : Root). eqb (q.home).0 (r.home).0) earlier)) (lost r.home) refl)
      by_pid false e more = more e

  all_at_boot : (system : System) → is_system system ≡ true → not (lost (system.pager).0 && lost (system.pager).1) ≡ true
      → list_all (λ (r : Root). not (lost r.home && lost r.backup)) system.roots ≡ true → AllIn system []
  unfolding placement AllSafe NeverLost
  all_at_boot system valid servers spread =
      let bounds = system_bounds system valid in
      record {
        families = families_at_boot system valid;
        safe =
            roots_safe system bounds.clusters (places_at_boot system) (λ b within. boot_at (λ (c : ClusterPlace). c.lives) system (map placed_root (roots_of system)) b.0 (λ n. refl) within) []
            system.roots
            (root_tests system.clusters (length system.images) system.roots (tests system valid).roots).each spread;
        pager = refl;
        first = λ safe. boot_at (λ (c : ClusterPlace). not c.was_lost) system (map placed_root (roots_of system)) ((system.pager).0).0 (λ n. refl) bounds.first;
        second = λ safe. boot_at (λ (c : ClusterPlace). not c.was_lost) system (map placed_root (roots_of system)) ((system.pager).1).0 (λ n. refl) bounds.second;
      }

  -- ---- covered

  -- what holds of each that is found among those that have not ended, and of each that has ended, holds of each
  each_of : (t : Placed → Bool) → ((q : Placed) → q.ended ≡ true → t q ≡ true) → (qs : List Placed) → NoTwo (placed_pids qs)
      → ((p : Pid) (q : Placed) → find (λ (q : Placed). same_pid q.pid p && not q.ended) qs ≡ Some q → t q ≡ true) → list_all t qs ≡ true
  each_of t gone [] two found = refl
  each_of t gone (q ∷ qs) two found = and_from (t q) (list_all t qs) (here q.ended refl) (each_of t gone qs two.1 later)
    where
      here : (b : Bool) → q.ended ≡ b → t q ≡ true
      here true is = gone q is
      here false is =
          found q.pid q (ap (λ b. cond b (Some q) (find (λ (r : Placed). same_pid r.pid q.pid && not r.ended) qs))
          (and_from (same_pid q.pid q.pid) (not q.ended) (eq-eqb (q.pid).0 (q.pid).0 refl) (ap not is)))

      later : (p : Pid) (r : Placed) → find (λ (q : Placed). same_pid q.pid p && not q.ended) qs ≡ Some r → t r ≡ true
      later p r there = found p r (by_test (same_pid q.pid p && not q.ended) refl)
        where
          by_test : (b : Bool) → (same_pid q.pid p && not q.ended) ≡ b → cond b (Some q) (find (λ (q : Placed). same_pid q.pid p && not q.ended) qs) ≡ Some r
          by_test false is = there
          by_test true is =
              let same : (q.pid).0 ≡ p.0 = eqb-true (q.pid).0 p.0 (and_parts (same_pid q.pid p) (not q.ended) is).0 in
              absurd (true≢false (sym (found_among p qs (ap is_some there)) ∙ ap (λ n. list_any (λ m. eqb m n) (placed_pids qs)) (sym same) ∙ two.0))

  backed : Places → ClusterNo → Placed → Bool
  backed places k q = not (is_at_home k q) || option_map_or (lives_in places) q.backup false

  one_backed : (places : Places) (k : ClusterNo) (q : Placed) → lost k ≡ true → SafeAt places q → backed places k q ≡ true
  unfolding SafeAt backed
  one_backed places k q by_word (inl safe) = ap (λ b. not (b && not q.ended) || option_map_or (lives_in places) q.backup false) (apart_from q.home k safe by_word)
  one_backed places k q by_word (inr b) = or_right (not (is_at_home k q)) (option_map_or (lives_in places) q.backup false) (ap (λ o. option_map_or (lives_in places) o false) b.1 ∙ b.3)

  gone_backed : (places : Places) (k : ClusterNo) (q : Placed) → q.ended ≡ true → backed places k q ≡ true
  unfolding backed
  gone_backed places k q ended =
      ap (λ b. not (same_cluster q.home k && not b) || option_map_or (lives_in places) q.backup false) ended
      ∙ ap (λ b. not b || option_map_or (lives_in places) q.backup false) (and_false (same_cluster q.home k))

  covered : (system : System) (log : List Entry) (k : ClusterNo) → AllIn system log → not (lost (system.pager).0 && lost (system.pager).1) ≡ true → lost k ≡ true
      → is_covered (placement system log) k ≡ true
  unfolding AllSafe NeverLost backed
  covered system log k all servers by_word =
      and_from (list_all (λ (q : Placed). not (is_at_home k q) || option_map_or (lives_in places) q.backup false) places.placed) (list_any (λ s. not (same_cluster s k)) (servers_in places))
      (each_of (backed places k) (gone_backed places k) places.placed ((all.families).numbered).two (λ p q found. one_backed places k q by_word (all.safe p q found)))
      (ap (λ (pager : ClusterNo × ClusterNo). list_any (λ s. not (same_cluster s k)) (filter (never_lost places) (pager.0 ∷ pager.1 ∷ []))) all.pager ∙ by_first (lost (system.pager).0) refl)
    where
      places : Places
      places = placement system log

      a : ClusterNo
      a = (system.pager).0

      b : ClusterNo
      b = (system.pager).1

      by_first : (x : Bool) → lost a ≡ x → list_any (λ s. not (same_cluster s k)) (filter (never_lost places) (a ∷ b ∷ [])) ≡ true
      by_first false safe =
          ap (λ x. list_any (λ s. not (same_cluster s k)) (cond x (a ∷ filter (never_lost places) (b ∷ [])) (filter (never_lost places) (b ∷ [])))) (all.first safe)
          ∙ ap (λ x. not x || list_any (λ s. not (same_cluster s k)) (filter (never_lost places) (b ∷ []))) (apart_from a k safe by_word)
      by_first true word =
          let safe = not_both (lost a) (lost b) servers word in
          let last : list_any (λ s. not (same_cluster s k)) (filter (never_lost places) (b ∷ [])) ≡ true =
          ap (λ x. list_any (λ s. not (same_cluster s k)) (cond x (b ∷ []) [])) (all.second safe) ∙ ap (λ x. not x || false) (apart_from b k safe by_word) in
          by_never (never_lost places a) last
        where
          by_never : (x : Bool) → list_any (λ s. not (same_cluster s k)) (filter (never_lost places) (b ∷ [])) ≡ true
              → list_any (λ s. not (same_cluster s k)) (cond x (a ∷ filter (never_lost places) (b ∷ [])) (filter (never_lost places) (b ∷ []))) ≡ true
          by_never true last = or_right (not (same_cluster a k)) (list_any (λ s. not (same_cluster s k)) (filter (never_lost places) (b ∷ []))) last
          by_never false last = last

-- ---- the whole

pub spread_covered : (system : System) (script : List ScriptWord) (log : List Entry) (k : ClusterNo) → is_system system ≡ true → is_spread system script ≡ true → IsLegalBy Stands system log
    → AllLostBy script log → is_lost_by script k ≡ true → is_covered (placement system log) k ≡ true
unfolding lost_word
spread_covered system script log k valid spread legal losses by_word =
    let lost : ClusterNo → Bool = is_lost_by script in
    let parts = and_parts (not (lost (system.pager).0 && lost (system.pager).1)) (list_all (λ (r : Root). not (lost r.home && lost r.backup)) system.roots) spread in
    let all = legal_induction Stands system (λ log. AllLostBy script log → AllIn lost system log) (λ none. all_at_boot lost system valid parts.0 parts.1)
    (λ log e before stands more.
    let both = and_parts (list_all (λ (e : Entry). option_map_or lost (cluster_lost (what e)) true) log) (list_all (λ (e : Entry). option_map_or lost (cluster_lost (what e)) true) (e ∷ []))
    (sym (list_all-append (λ (e : Entry). option_map_or lost (cluster_lost (what e)) true) log (e ∷ [])) ∙ more) in
    all_more lost system log e stands (before both.0) (and_parts (option_map_or lost (cluster_lost (what e)) true) true both.1).0)
    log legal losses in
    covered lost system log k all parts.0 by_word
