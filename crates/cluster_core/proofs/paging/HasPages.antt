-- What a process at home in a cluster has of its pages it has after an entry that does not lose that cluster, and so its post may still be sent.
use Rattle.std.proofs.Common.{◌≡◌, sym, ◌∙◌, ap, refl, List, [], ◌∷◌, ◌++◌, true, false, eqb, eqb-true, Option, Some, None, is_some, true≢false}
use Rattle.std.specs.Prelude.{option_map}
use Rattle.std.proofs.lemmas.Bool.{and_parts}
use Rattle.t32_base.specs.declared.process.Pid.{Pid}
use Rattle.t32_base.specs.declared.process.ClusterNo.{ClusterNo}
use Rattle.sys_text.specs.declared.system.System.{System}
use Rattle.sys_text.specs.Valid.{is_system}
use Rattle.bus_msg.specs.declared.entry.By.{By}
use Rattle.bus_msg.specs.declared.entry.By.TheVariants.{Cluster, Bus}
use Rattle.bus_msg.specs.declared.entry.Entry.{Entry}
use Rattle.bus_msg.specs.declared.entry.Post.{Post}
use Rattle.bus_msg.specs.declared.placed.Placed.{Placed}
use Rattle.bus_msg.specs.Places.{Places, lives_in, unended_at}
use Rattle.bus_msg.specs.PlacedAfter.{what}
use Rattle.channel_table.specs.Changes.{pids_differ}
use Rattle.cert_sched.specs.Appended.{entry_of}
use Rattle.cert_sched.specs.Legal.{MayStand, KeepsWaits}
use Rattle.cert_sched.specs.Legal.{IsLegalBy, Stands}
use Rattle.cert_sched.specs.Losses.{is_crash_of, is_from}
use Rattle.cert_sched.specs.Rules.{awaits_pages, has_its_pages, holds_of, home_at, is_by, is_by_home, tells_or_closes}
use Rattle.cert_sched.specs.Schedule.{placement}
use Rattle.cert_sched.specs.Steps.{process_of}
use Rattle.cert_sched.proofs.ThereLaws.{unended_not_born}
use Rattle.log_laws.proofs.pages.Keeping.{pages_kept}
use Rattle.cluster_core.proofs.absorbing.ByKind.{by_kind}
use Rattle.cluster_core.proofs.losses.Homes.{HomeHere}
use Rattle.cluster_core.proofs.losses.NotMoved.{home_not_moved}

-- a process that has its pages has them after an entry that does not lose its home
pub pages_after : (system : System) (log : List Entry) (e : Entry) (p : Pid) (k : ClusterNo) → is_system system ≡ true → IsLegalBy MayStand system log → Stands system log e → pids_differ (placement system log).placed ≡ true → HomeHere (placement system log) p k → is_crash_of k (what e) ≡ false
    → has_its_pages system log p ≡ true → has_its_pages system (log ++ e ∷ []) p ≡ true
pages_after system log e p k valid legal stands differ here away =
    pages_kept system log e p stands (unended_not_born MayStand (λ system log e may. may.stands) system log e p valid legal stands (ap is_some here.found)) (home_not_moved system log e p k differ here away)

-- the process of which a cluster sends is at home there
pub home_of_sender : (places : Places) (k : ClusterNo) (by : By) (p : Pid) → is_from k by ≡ true → is_by_home places by (Some p) ≡ true → HomeHere places p k
home_of_sender places k Bus p from right = absurd (true≢false (sym from))
home_of_sender places k (Cluster j) p from right = by_found (unended_at places p) refl (and_parts (lives_in places j) (is_by (Cluster j) (home_at places p)) right).1
  where
    by_found : (o : Option Placed) → unended_at places p ≡ o → is_by (Cluster j) (option_map (λ (q : Placed). q.home) o) ≡ true → HomeHere places p k
    by_found None found is = absurd (true≢false (sym is))
    by_found (Some q) found is = record { placed = q; found = found; home = ap (λ n. eqb n k.0) (sym (eqb-true j.0 (q.home).0 is)) ∙ from }

-- a post of a cluster that tells of steps waits for no pages after an entry that does not lose the cluster, where it waited for none before
pub waits_after : (system : System) (log : List Entry) (e : Entry) (k : ClusterNo) (post : Post) → is_system system ≡ true → IsLegalBy MayStand system log → Stands system log e → pids_differ (placement system log).placed ≡ true → is_crash_of k (what e) ≡ false → tells_or_closes post.what ≡ true
    → is_by_home (placement system log) post.by (process_of post.what) ≡ true → is_from k post.by ≡ true → KeepsWaits system log (entry_of system log post) → KeepsWaits system (log ++ e ∷ []) (entry_of system (log ++ e ∷ []) post)
waits_after system log e k post valid legal stands differ away tells right from =
    by_kind
    (λ w. is_by_home (placement system log) post.by (process_of w) ≡ true → holds_of (awaits_pages w) (process_of w) (has_its_pages system log) ≡ true → holds_of (awaits_pages w) (process_of w) (has_its_pages system (log ++ e ∷ [])) ≡ true)
    (λ at letter. of_process letter.from) (λ pid at end. of_process pid) (λ rests right has. refl) (λ right has. refl) post.what tells right
  where
    of_process : (p : Pid) → is_by_home (placement system log) post.by (Some p) ≡ true → has_its_pages system log p ≡ true → has_its_pages system (log ++ e ∷ []) p ≡ true
    of_process p right = pages_after system log e p k valid legal stands differ (home_of_sender (placement system log) k post.by p from right) away
