-- Whether a fullback gets a new backup now: it has none, and a cluster lives other than its home.
use Rattle.std.proofs.Common.{◌≡◌, refl, sym, ◌∙◌, ap, List, [], ◌∷◌, length, map, Bool, true, false, cond, not, ◌&&◌, ◌||◌, Some, None, is_some, true≢false}
use Rattle.std.specs.Prelude.{find}
use Rattle.std.specs.List.{list_all, range_with_len}
use Rattle.std.specs.Option.{option_map_or}
use Rattle.std.proofs.lemmas.Bool.{and_parts}
use Rattle.t32_base.specs.declared.process.Pid.{Pid}
use Rattle.t32_base.specs.declared.process.ClusterNo.{ClusterNo}
use Rattle.t32_base.specs.declared.process.Mode.{Mode}
use Rattle.t32_base.specs.declared.process.Mode.TheVariants.{Quarter, Half, Full}
use Rattle.t32_base.proofs.Facts.{or_true}
use Rattle.bus_msg.specs.declared.placed.Placed.{Placed}
use Rattle.bus_msg.specs.Places.{Places, all_clusters, cluster_no, lives_in, same_cluster, unended_at}
use Rattle.bus_msg.specs.NewBackup.{backup_by_mode, next_backup, next_backup_at}
use Rattle.cert_sched.specs.Rules.{is_alone, is_full}

-- ---- where it gets none

-- no cluster but the home lives: none is the lowest other
none_other : (places : Places) (home : ClusterNo) (ks : List ClusterNo) → list_all (λ k. same_cluster k home || not (lives_in places k)) ks ≡ true
    → is_some (find (λ k. lives_in places k && not (same_cluster k home)) ks) ≡ false
none_other places home [] alone = refl
none_other places home (k ∷ ks) alone =
    let parts = and_parts (same_cluster k home || not (lives_in places k)) (list_all (λ k. same_cluster k home || not (lives_in places k)) ks) alone in
    by_tests (same_cluster k home) (lives_in places k) parts.0 (none_other places home ks parts.1)
  where
    by_tests : (s l : Bool) → (s || not l) ≡ true → is_some (find (λ k. lives_in places k && not (same_cluster k home)) ks) ≡ false
        → is_some (cond (l && not s) (Some k) (find (λ k. lives_in places k && not (same_cluster k home)) ks)) ≡ false
    by_tests true true h more = more
    by_tests true false h more = more
    by_tests false true h more = absurd (true≢false (sym h))
    by_tests false false h more = more

module _ (places : Places) (p : Pid) (q : Placed) (found : unended_at places p ≡ Some q) where
  next_is : next_backup_at places p ≡ next_backup places q
  next_is = ap (λ o. option_map_or (next_backup places) o None) found

  pub none_alone : is_full q.mode ≡ true → is_alone p places ≡ true → is_some (next_backup_at places p) ≡ false
  none_alone full alone = ap is_some next_is ∙ by_test (q.ended || is_some q.backup)
    where
      others : list_all (λ k. same_cluster k q.home || not (lives_in places k)) (all_clusters places) ≡ true
      others = sym (ap (λ o. option_map_or (λ (q : Placed). list_all (λ k. same_cluster k q.home || not (lives_in places k)) (all_clusters places)) o false) found) ∙ alone

      by_mode : (mode : Mode) → is_full mode ≡ true → is_some (backup_by_mode places q mode) ≡ false
      by_mode Quarter is = absurd (true≢false (sym is))
      by_mode Half is = absurd (true≢false (sym is))
      by_mode Full is = none_other places q.home (all_clusters places) others

      by_test : (b : Bool) → is_some (cond b None (backup_by_mode places q q.mode)) ≡ false
      by_test true = refl
      by_test false = by_mode q.mode full

  -- it has one
  pub none_backed : is_some q.backup ≡ true → is_some (next_backup_at places p) ≡ false
  none_backed backed =
      ap is_some next_is ∙ ap (λ b. is_some (cond (q.ended || b) None (backup_by_mode places q q.mode))) backed
      ∙ ap (λ b. is_some (cond b None (backup_by_mode places q q.mode))) (or_true q.ended)

-- ---- where others live still

module _ (places after : Places) (home : ClusterNo) (lives : (k : ClusterNo) → lives_in places k ≡ true → lives_in after k ≡ true) where
  others_live : (ks : List ClusterNo) → list_all (λ k. same_cluster k home || not (lives_in places k)) ks ≡ false → list_all (λ k. same_cluster k home || not (lives_in after k)) ks ≡ false
  others_live [] some = absurd (true≢false some)
  others_live (k ∷ ks) some = by_tests (same_cluster k home) (lives_in places k) (lives k) some (others_live ks)
    where
      none_true : (s : Bool) → (s && false) ≡ false
      none_true true = refl
      none_true false = refl

      by_tests : (s l : Bool) → (l ≡ true → lives_in after k ≡ true) → ((s || not l) && list_all (λ k. same_cluster k home || not (lives_in places k)) ks) ≡ false
          → (list_all (λ k. same_cluster k home || not (lives_in places k)) ks ≡ false → list_all (λ k. same_cluster k home || not (lives_in after k)) ks ≡ false)
          → ((s || not (lives_in after k)) && list_all (λ k. same_cluster k home || not (lives_in after k)) ks) ≡ false
      by_tests true l still h more = more h
      by_tests false true still h more = ap (λ b. not b && list_all (λ k. same_cluster k home || not (lives_in after k)) ks) (still refl)
      by_tests false false still h more = ap (λ b. not (lives_in after k) && b) (more h) ∙ none_true (not (lives_in after k))

-- a process that is at home where it was is not alone there, where it was not and each cluster lives that did
pub beside_others : (places after : Places) (p : Pid) (q r : Placed) → unended_at places p ≡ Some q → unended_at after p ≡ Some r → r.home ≡ q.home → length after.clusters ≡ length places.clusters
    → ((k : ClusterNo) → lives_in places k ≡ true → lives_in after k ≡ true) → is_alone p places ≡ false → is_alone p after ≡ false
beside_others places after p q r found now home long lives others =
    ap (λ o. option_map_or (λ (q : Placed). list_all (λ k. same_cluster k q.home || not (lives_in after k)) (all_clusters after)) o false) now
    ∙ (λ i. list_all (λ k. same_cluster k (home i) || not (lives_in after k)) (clusters i))
    ∙ others_live places after q.home lives (all_clusters places)
    (sym (ap (λ o. option_map_or (λ (q : Placed). list_all (λ k. same_cluster k q.home || not (lives_in places k)) (all_clusters places)) o false) found) ∙ others)
  where
    clusters : all_clusters after ≡ all_clusters places
    clusters = ap (λ n. map cluster_no (range_with_len 0 n)) long
