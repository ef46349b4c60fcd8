-- A cluster that takes in an entry by which a process of another cluster synchronises, a changed page or the cut, goes on to follow the log.
use Rattle.std.proofs.Common.{◌≡◌, ℕ, ◌+◌, refl, sym, ◌∙◌, ap, subst, List, [], ◌∷◌, ◌++◌, Bool, true, false, cond, eq-eqb, ne_eqb, Option, Some, None, slice_get, true≢false}
use Rattle.std.specs.Prelude.{◌≢◌, option_map}
use Rattle.std.specs.Option.{option_map_or}
use Rattle.std.proofs.lemmas.Option.{same_Some}
use Rattle.t32_base.specs.declared.process.Pid.{Pid}
use Rattle.t32_base.specs.declared.process.ClusterNo.{ClusterNo}
use Rattle.t32_base.specs.declared.letter.BackRec.{BackRec}
use Rattle.t32_base.specs.Small.{SmallState}
use Rattle.sys_text.specs.declared.system.System.{System}
use Rattle.sys_text.specs.Valid.{is_system}
use Rattle.proc_state.specs.State.{ProcState}
use Rattle.plain_kernel.specs.Kernel.{Kernel}
use Rattle.bus_msg.specs.declared.entry.What.{What}
use Rattle.bus_msg.specs.declared.entry.What.TheVariants.{Page, Sync}
use Rattle.bus_msg.specs.declared.entry.By.{By}
use Rattle.bus_msg.specs.declared.entry.By.TheVariants.{Cluster, Bus}
use Rattle.bus_msg.specs.declared.entry.Entry.{Entry}
use Rattle.bus_msg.specs.declared.placed.Placed.{Placed}
use Rattle.bus_msg.specs.Places.{ClusterPlace, Places, same_pid, unended_at}
use Rattle.bus_msg.specs.PlacedAfter.{after_sync, placed_after, what}
use Rattle.channel_table.specs.Changes.{pids_differ}
use Rattle.cert_sched.specs.CertAfter.{count_in}
use Rattle.cert_sched.specs.Deeds.{deeds_in, is_cut, letter_for, is_birth_of}
use Rattle.cert_sched.specs.Kinds.{KindHolds, took_is}
use Rattle.cert_sched.specs.Legal.{Stands, MayStand}
use Rattle.cert_sched.specs.Losses.{is_by_cluster, is_crash_of}
use Rattle.cert_sched.specs.Moved.{is_fetch, is_page_is}
use Rattle.cert_sched.specs.Rules.{home_at, is_by, is_by_home, is_by_right, is_living}
use Rattle.cert_sched.specs.Schedule.{done_after, items_of, placement, process_after}
use Rattle.cert_sched.specs.Scripted.{is_done}
use Rattle.cert_sched.specs.Steps.{emission_at, process_of, silent_upto}
use Rattle.cert_sched.proofs.LogLaws.{IsLegal-last, placement-snoc}
use Rattle.cert_sched.proofs.StepLaws.{done_after-other}
use Rattle.checkpoint_laws.proofs.posts.SyncMade.{sync_made}
use Rattle.backup_records.specs.Records.{record_after, records_after, with_cut}
use Rattle.log_laws.specs.records.Kept.{KeepsRecords, changes_in_place}
use Rattle.log_laws.proofs.records.KeptLaws.{records_kept}
use Rattle.log_laws.proofs.records.Standing.{all_stand}
use Rattle.page_server.specs.Account.{PagerState}
use Rattle.page_waits.specs.Waiting.{WaitingState}
use Rattle.cluster_core.specs.Families.{family_after}
use Rattle.cluster_core.specs.Owed.{owed_after}
use Rattle.cluster_core.specs.View.{ClusterView, next_count, with_server}
use Rattle.residents.specs.Held.{Held, Waits}
use Rattle.cluster_core.specs.Parts.{AllOwn}
use Rattle.cluster_core.specs.Queue.{AreTogether, Queued, posts_of, is_lone}
use Rattle.cluster_core.specs.Recovered.{left_by, moved_by, with_all_waiting}
use Rattle.cluster_core.specs.Holds.{IsHeldAs}
use Rattle.cluster_core.specs.Follows.{IsOpen}
use Rattle.cluster_core.proofs.here.Beside.{FollowsBeside}
use Rattle.cluster_core.specs.Calls.{with_entry, here_after}
use Rattle.cluster_core.specs.Serving.{Serves}
use Rattle.cluster_core.proofs.absorbing.ByKind.{by_sync, is_of_sync}
use Rattle.cluster_core.proofs.absorbing.Following.{by_home_of, by_one}
use Rattle.residents.proofs.Changing.{pid_same}
use Rattle.cluster_core.proofs.losses.Homes.{HomeHere, pids_apart, pids_home}
use Rattle.cluster_core.proofs.syncs.SyncedHomes.{home_kept, pids_synced, synced_found}
use Rattle.cluster_core.proofs.absorbing.Unmoved.{emission_same, silent_same}
use Rattle.cert_sched.specs.Account.{is_exit_of}
use Rattle.cert_sched.specs.Told.{cluster_lost}
use Rattle.checkpoint_laws.specs.marks.Beside.{is_some_page}
use Rattle.cluster_core.proofs.forks.ForksAgain.{forks_synced}
use Rattle.cluster_core.proofs.absorbing.Spared.{BringsNothing, Spares, emission_stays, follows_passed, held_stays, passed, silent_stays}

pub sync_taken : (c : ClusterView) (e : Entry) → is_of_sync (what e) ≡ true → with_entry c e ≡ passed c e
sync_taken c e =
    by_sync (λ w. record c {
      cursor = c.cursor + 1;
      places = placed_after c.places w;
      here = with_all_waiting (moved_by c.places c.number w (records_after c.number w c.records)) (here_after w c.here);
      records = left_by c.places c.number w (records_after c.number w c.records);
      family = family_after w c.family;
      owed = owed_after c.number c.places w c.owed;
      steps = next_count c.steps;
    } ≡ record c { cursor = c.cursor + 1; places = placed_after c.places w; records = records_after c.number w c.records; family = family_after w c.family; owed = owed_after c.number c.places w c.owed; steps = next_count c.steps }) (λ pid at index bytes. refl) (λ pid small read took. refl) (what e)

module _ (system : System) (valid : is_system system ≡ true) (log : List Entry) (e : Entry) (of : is_of_sync (what e) ≡ true) (now : IsOpen MayStand system log) (next : IsOpen MayStand system (log ++ e ∷ [])) where
  abbrev later : List Entry
  later = log ++ e ∷ []

  abbrev places : Places
  places = placement system log

  pub stands : Stands system log e
  stands = (IsLegal-last MayStand system log e next.0).stands

  pub differ : pids_differ places.placed ≡ true
  differ = pids_apart system log valid now.0

  -- ---- the process that synchronises

  -- its home sent the entry, and every other process stands where it stood
  pub record Synced : Type 0 where
    pub pid : Pid
    pub process : process_of (what e) ≡ Some pid
    pub by_home : is_by_home places (e.post).by (Some pid) ≡ true
    pub silent : (q : Pid) → q.0 ≢ pid.0 → (n : ℕ) → silent_upto system later q n ≡ silent_upto system log q n
    pub emission : (q : Pid) → q.0 ≢ pid.0 → (at : ℕ) → emission_at system later q at ≡ emission_at system log q at

  by_changed : (pid : Pid) (at index : ℕ) (bytes : List ℕ) → what e ≡ Page pid at index bytes → is_by_right places (e.post).by (Page pid at index bytes) ≡ true → Synced
  by_changed pid at index bytes is right = record {
    pid = pid;
    process = ap process_of is;
    by_home = right;
    silent = λ q other n. silent_same system log e none q n;
    emission = λ q other at. emission_same system log e none q at;
  }
    where
      none : (k : Kernel) → items_of k (what e) ≡ []
      none k = ap (items_of k) is

  by_cut : (pid : Pid) (small : SmallState) (read : List ℕ) (took : Option ℕ) → what e ≡ Sync pid small read took → is_by_right places (e.post).by (Sync pid small read took) ≡ true → KindHolds system log e (Sync pid small read took) → Synced
  by_cut pid small read took is right kind = by_run (silent_upto system log pid small.steps) refl kind.took_first
    where
      by_run : (o : Option ProcState) → silent_upto system log pid small.steps ≡ o → option_map (took_is took) o ≡ Some true → Synced
      by_run None reached can = cc
      by_run (Some t) reached can = record {
        pid = pid;
        process = ap process_of is;
        by_home = right;
        silent = λ q other. silent_stays system log later q (process q other) (steps q other);
        emission = λ q other. emission_stays system log later q (process q other) (steps q other);
      }
        where
          process : (q : Pid) → q.0 ≢ pid.0 → process_after system later q ≡ process_after system log q
          process q other = (sync_made system log e pid small read took t is reached (same_Some (took_is took t) true can)).others q (ne_eqb pid.0 q.0 (λ same. other (sym same)))

          steps : (q : Pid) → q.0 ≢ pid.0 → done_after system later q ≡ done_after system log q
          steps q other = done_after-other system log e pid q small.steps (ap is_done is) stands.applies (ap count_in is) other

  pub s : Synced
  s = by_sync (λ w. what e ≡ w → is_by_right places (e.post).by w ≡ true → KindHolds system log e w → Synced)
      (λ pid at index bytes is right kind. by_changed pid at index bytes is right) (λ pid small read took is right kind. by_cut pid small read took is right kind) (what e) of refl stands.by_right stands.kind

  -- a process that is at home in another cluster than the one that sent the entry is another
  other_here : (k : ClusterNo) (p : Pid) → HomeHere places p k → is_by_cluster k e ≡ false → p.0 ≢ (s.pid).0
  other_here k p here foreign same =
      let home : home_at places s.pid ≡ Some (here.placed).home = ap (home_at places) (pid_same s.pid p (sym same)) ∙ ap (option_map (λ (q : Placed). q.home)) here.found in
      let by : is_by (e.post).by (Some (here.placed).home) ≡ true = subst (λ h. is_by (e.post).by h ≡ true) home (by_home_of places (e.post).by s.pid s.by_home) in
      true≢false (sym (by_one k (Cluster (here.placed).home) (e.post).by (Some (here.placed).home) (eq-eqb ((here.placed).home).0 ((here.placed).home).0 refl) by here.home) ∙ foreign)

  apart : (p r : Pid) → p.0 ≢ (s.pid).0 → Some r ≡ Some s.pid → same_pid r p ≡ false
  apart p r other is = ne_eqb r.0 p.0 (λ same. other (sym same ∙ ap (λ (x : Pid). x.0) (same_Some r s.pid is)))

  -- which it does not cut
  no_cut : (p : Pid) → p.0 ≢ (s.pid).0 → is_cut p (what e) ≡ false
  no_cut p other = by_sync (λ w. process_of w ≡ Some s.pid → is_cut p w ≡ false) (λ pid at index bytes is. refl) (λ pid small read took is. apart p pid other is) (what e) of s.process

  -- and of whose record it makes nothing
  record_stays : (p : Pid) (r : BackRec) → r.pid ≡ p → p.0 ≢ (s.pid).0 → record_after (what e) r ≡ r
  record_stays p r own other =
      by_sync (λ w. is_cut p w ≡ false → record_after w r ≡ r) (λ pid at index bytes none. refl)
      (λ pid small read took none. ap (λ b. cond b (with_cut small read r) r) (ap (same_pid pid) own ∙ none)) (what e) of (no_cut p other)

  pub loses_none : (k : ClusterNo) → is_crash_of k (what e) ≡ false
  loses_none k = by_sync (λ w. is_crash_of k w ≡ false) (λ pid at index bytes. refl) (λ pid small read took. refl) (what e) of

  -- ---- where processes are

  pub home_same : (q : Pid) → home_at (placement system later) q ≡ home_at places q
  home_same q = ap (λ places. home_at places q) (placement-snoc system log e) ∙ by_sync (λ w. home_at (placed_after places w) q ≡ home_at places q) (λ pid at index bytes. refl) (λ pid small read took. cut_home pid small read took) (what e) of
    where
      each : (r : Pid) (o : Option Placed) → option_map (λ (q : Placed). q.home) (option_map (after_sync r) o) ≡ option_map (λ (q : Placed). q.home) o
      each r None = refl
      each r (Some x) = ap Some (home_kept r x)

      cut_home : (r : Pid) (small : SmallState) (read : List ℕ) (took : Option ℕ) → home_at (placed_after places (Sync r small read took)) q ≡ home_at places q
      cut_home r small read took = ap (option_map (λ (q : Placed). q.home)) (synced_found places r q small read took) ∙ each r (unended_at places q)

  clusters_same : (placement system later).clusters ≡ places.clusters
  clusters_same = ap (λ (places : Places). places.clusters) (placement-snoc system log e) ∙ by_sync (λ w. (placed_after places w).clusters ≡ places.clusters) (λ pid at index bytes. refl) (λ pid small read took. refl) (what e) of

  living_same : (by : By) → is_living (placement system later) by ≡ is_living places by
  living_same (Cluster k) = ap (λ (cs : List ClusterPlace). option_map_or (λ (c : ClusterPlace). c.lives) (slice_get cs k.0) false) clusters_same
  living_same Bus = refl

  pub pids_same : (k : ClusterNo) → pids_home k (placement system later).placed ≡ pids_home k places.placed
  pids_same k =
      ap (λ (places : Places). pids_home k places.placed) (placement-snoc system log e)
      ∙ by_sync (λ w. pids_home k (placed_after places w).placed ≡ pids_home k places.placed) (λ pid at index bytes. refl) (λ pid small read took. pids_synced k pid places.placed) (what e) of

  -- ---- what it leaves

  brings_nothing : BringsNothing system log e
  brings_nothing = record {
    no_loss = by_sync (λ w. cluster_lost w ≡ None) (λ pid at index bytes. refl) (λ pid small read took. refl) (what e) of;
    no_letter = λ p. by_sync (λ w. letter_for p w ≡ []) (λ pid at index bytes. refl) (λ pid small read took. refl) (what e) of;
    no_fetch = λ p i. by_sync (λ w. is_fetch p i w ≡ false) (λ pid at index bytes. refl) (λ pid small read took. refl) (what e) of;
    no_page_is = λ p i. by_sync (λ w. is_page_is p i w ≡ false) (λ pid at index bytes. refl) (λ pid small read took. refl) (what e) of;
    no_exit = λ p. by_sync (λ w. is_exit_of p w ≡ false) (λ pid at index bytes. refl) (λ pid small read took. refl) (what e) of;
    living = λ by lives. living_same by ∙ lives;
  }

  -- every other process
  spares_other : (p : Pid) → p.0 ≢ (s.pid).0 → Spares system log e p
  spares_other p other = record {
    silent = s.silent p other;
    emission = s.emission p other;
    home = home_same p;
    no_cut = no_cut p other;
    no_birth = by_sync (λ w. is_birth_of p w ≡ false) (λ pid at index bytes. refl) (λ pid small read took. refl) (what e) of;
    no_page = by_sync (λ w. process_of w ≡ Some s.pid → is_some_page p w ≡ false) (λ pid at index bytes is. apart p pid other is) (λ pid small read took is. refl) (what e) of s.process;
    no_deed = by_sync (λ w. deeds_in p w ≡ []) (λ pid at index bytes. refl) (λ pid small read took. refl) (what e) of;
    kept = λ r own. record_stays p r own other;
  }

  -- ---- the whole

  -- what is held of such a process stays what the log says
  pub held_still : (k : ClusterNo) (q : Queued) (p : Pid) (h : Held) → AreTogether q → HomeHere places p k → p.0 ≢ (s.pid).0 → ((waiting : WaitingState) → h ≡ Waits waiting → (waiting.kept).pid ≡ p) → IsHeldAs system log (posts_of q) p h → IsHeldAs system later (posts_of q) p h
  held_still k q p h together home other own held = held_stays system valid log e now next brings_nothing k q p h together home (spares_other p other) own held

  pub records_stay : (k : ClusterNo) (recs : List BackRec) → KeepsRecords system log k recs → KeepsRecords system later k (records_after k (what e) recs)
  records_stay k recs keeps = records_kept system log e k recs valid (all_stand system later next.0) (by_sync (λ w. changes_in_place w ≡ true) (λ pid at index bytes. refl) (λ pid small read took. refl) (what e) of) keeps

  pub follows_sync : (which : Pid → Bool) (c : ClusterView) (server : Option PagerState) → AllOwn c.cursor c.here → Serves places e c.server server → FollowsBeside which system log c → is_by_cluster c.number e ≡ false
      → FollowsBeside which system later (with_server server (with_entry c e))
  follows_sync which c server own serves f foreign =
      follows_passed system valid log e now next brings_nothing which c server (sync_taken c e of) (λ p home. spares_other p (other_here c.number p home foreign)) (pids_same c.number)
      (records_stay c.number c.records f.records) (forks_synced (what e) c.family c.here of f.forks) own serves f foreign

-- one that is sent alone is no such entry
pub sync_not_alone : (w : What) → is_of_sync w ≡ true → is_lone w ≡ false
sync_not_alone = by_sync (λ w. is_lone w ≡ false) (λ pid at index bytes. refl) (λ pid small read took. refl)
