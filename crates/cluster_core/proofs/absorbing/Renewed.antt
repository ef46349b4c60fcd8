-- A cluster that takes in a new backup of a process of another cluster, of either form, goes on to follow the log.
use Rattle.std.proofs.Common.{◌≡◌, ℕ, ◌+◌, ◌≤◌, cond, ◌&&◌, refl, sym, ◌∙◌, ap, subst, List, [], ◌∷◌, ◌++◌, Bool, true, false, eq-eqb, ne_eqb, Option, Some, None, is_some, slice_get, true≢false}
use Rattle.std.specs.Prelude.{◌≢◌, option_map}
use Rattle.std.specs.Option.{option_map_or}
use Rattle.t32_base.specs.declared.process.Pid.{Pid}
use Rattle.t32_base.specs.declared.process.ClusterNo.{ClusterNo}
use Rattle.t32_base.specs.declared.letter.BackRec.{BackRec}
use Rattle.sys_text.specs.declared.system.System.{System}
use Rattle.sys_text.specs.Valid.{is_system}
use Rattle.proc_state.specs.State.{ProcState}
use Rattle.plain_kernel.specs.Kernel.{Kernel}
use Rattle.bus_msg.specs.declared.entry.What.{What}
use Rattle.bus_msg.specs.declared.entry.What.TheVariants.{Rebackup}
use Rattle.bus_msg.specs.declared.entry.By.{By}
use Rattle.bus_msg.specs.declared.entry.By.TheVariants.{Cluster, Bus}
use Rattle.bus_msg.specs.declared.entry.Entry.{Entry}
use Rattle.bus_msg.specs.declared.placed.Placed.{Placed}
use Rattle.bus_msg.specs.Places.{ClusterPlace, Places, unended_at}
use Rattle.bus_msg.specs.PlacedAfter.{after_rebackup, placed_after, what}
use Rattle.cert_sched.specs.Account.{is_exit_of}
use Rattle.cert_sched.specs.CertAfter.{count_in}
use Rattle.cert_sched.specs.Deeds.{deeds_in, is_cut, letter_for, is_birth_of}
use Rattle.cert_sched.specs.Kinds.{KindHolds, RebackupHolds}
use Rattle.cert_sched.specs.Legal.{Stands, MayStand}
use Rattle.cert_sched.specs.Losses.{capped, is_by_cluster, is_page_is_entry, least_steps, was_lost_in}
use Rattle.cert_sched.specs.Moved.{is_fetch, is_page_is}
use Rattle.cert_sched.specs.Rules.{home_at, is_by, is_by_home, is_by_right, is_living}
use Rattle.cert_sched.specs.Schedule.{done_after, items_of, placement, process_after, run_upto, steps_in}
use Rattle.cert_sched.specs.Scripted.{is_done}
use Rattle.cert_sched.specs.Steps.{after_items, emission_at, first_record, silent_upto}
use Rattle.cert_sched.specs.Told.{cluster_lost}
use Rattle.cert_sched.proofs.LogLaws.{IsLegal-last, placement-snoc}
use Rattle.cert_sched.proofs.MadeLaws.{apart_from}
use Rattle.cert_sched.proofs.StepLaws.{done_after-other, process_after-beside}
use Rattle.cert_sched.proofs.UnendedLaws.{backup_keeps, unended_map}
use Rattle.backup_records.specs.Records.{record_after, records_after}
use Rattle.checkpoint_laws.specs.marks.Beside.{is_some_page}
use Rattle.log_laws.specs.records.Kept.{changes_in_place}
use Rattle.log_laws.proofs.records.KeptLaws.{records_kept}
use Rattle.log_laws.proofs.records.Standing.{all_stand}
use Rattle.page_server.specs.Account.{PagerState}
use Rattle.cluster_core.specs.Calls.{with_entry, here_after}
use Rattle.cluster_core.specs.Families.{family_after}
use Rattle.cluster_core.specs.Owed.{owed_after}
use Rattle.cluster_core.specs.Follows.{IsOpen}
use Rattle.cluster_core.specs.ForksAgain.{ForksLeft}
use Rattle.cluster_core.specs.Parts.{AllOwn}
use Rattle.cluster_core.specs.Queue.{IsQueueLegal}
use Rattle.cluster_core.specs.Sent.{SentMayStand}
use Rattle.cluster_core.specs.Recovered.{left_by, moved_by, with_all_waiting}
use Rattle.cluster_core.specs.Serving.{Serves}
use Rattle.cluster_core.specs.View.{ClusterView, next_count, with_server}
use Rattle.cluster_core.proofs.absorbing.ByKind.{IsRenewal}
use Rattle.cluster_core.proofs.absorbing.Following.{by_home_of, by_one}
use Rattle.cluster_core.proofs.absorbing.Spared.{BringsNothing, Spares, emission_stays, follows_passed, follows_passed_so, passed, silent_stays}
use Rattle.cluster_core.proofs.absorbing.Unmoved.{emission_same, silent_same}
use Rattle.cluster_core.proofs.forks.ForksAgain.{forks_renewed}
use Rattle.cluster_core.proofs.here.Beside.{FollowsBeside, all_of}
use Rattle.residents.proofs.Changing.{pid_same}
use Rattle.cluster_core.proofs.losses.Homes.{HomeHere, pids_home}
use Rattle.cluster_core.proofs.losses.RenewedHomes.{home_renewed, pids_renewed}

-- ---- what the cluster is then

pub renewal_taken : (c : ClusterView) (e : Entry) (to : ClusterNo) (fresh : Bool) (recs : List BackRec) → what e ≡ Rebackup to fresh recs → with_entry c e ≡ passed c e
renewal_taken c e to fresh recs is = ap taken is ∙ sym (ap made is)
  where
    taken : What → ClusterView
    taken w = record c {
      cursor = c.cursor + 1;
      places = placed_after c.places w;
      here = with_all_waiting (moved_by c.places c.number w (records_after c.number w c.records)) (here_after w c.here);
      records = left_by c.places c.number w (records_after c.number w c.records);
      family = family_after w c.family;
      owed = owed_after c.number c.places w c.owed;
      steps = next_count c.steps;
    }

    made : What → ClusterView
    made w = record c { cursor = c.cursor + 1; places = placed_after c.places w; records = records_after c.number w c.records; family = family_after w c.family; owed = owed_after c.number c.places w c.owed; steps = next_count c.steps }

module _ (system : System) (valid : is_system system ≡ true) (log : List Entry) (e : Entry) (r : IsRenewal (what e)) (now : IsOpen MayStand system log) (next : IsOpen MayStand system (log ++ e ∷ [])) where
  abbrev later : List Entry
  later = log ++ e ∷ []

  abbrev places : Places
  places = placement system log

  stands : Stands system log e
  stands = (IsLegal-last MayStand system log e next.0).stands

  -- ---- the process that gets it

  -- its home sent the entry, and every other process stands where it stood, and is not cut
  record Renewed : Type 0 where
    pub pid : Pid
    pub by_home : is_by_home places (e.post).by (Some pid) ≡ true
    pub silent : (q : Pid) → q.0 ≢ pid.0 → (n : ℕ) → silent_upto system later q n ≡ silent_upto system log q n
    pub emission : (q : Pid) → q.0 ≢ pid.0 → (at : ℕ) → emission_at system later q at ≡ emission_at system log q at
    pub no_cut : (q : Pid) → q.0 ≢ pid.0 → is_cut q (what e) ≡ false

  -- the records of a family that was moved tell of no step
  by_standing : (x : BackRec) (rest : List BackRec) → what e ≡ Rebackup r.to false (x ∷ rest) → is_by_home places (e.post).by (Some x.pid) ≡ true → Renewed
  by_standing x rest is right = record {
    pid = x.pid;
    by_home = right;
    silent = λ q other n. silent_same system log e none q n;
    emission = λ q other at. emission_same system log e none q at;
    no_cut = λ q other. ap (is_cut q) is;
  }
    where
      none : (k : Kernel) → items_of k (what e) ≡ []
      none k = ap (items_of k) is

  -- that of one that has run tells of its silent steps
  by_fresh : (x : BackRec) (rest : List BackRec) → what e ≡ Rebackup r.to true (x ∷ rest) → is_by_home places (e.post).by (Some x.pid) ≡ true → is_some (silent_upto system log x.pid (steps_in x.state)) ≡ true → Renewed
  by_fresh x rest is right silent = by_run (silent_upto system log x.pid (steps_in x.state)) refl silent
    where
      items : (k : Kernel) → items_of k (what e) ≡ run_upto k x.pid (steps_in x.state)
      items k = ap (items_of k) is

      by_run : (o : Option ProcState) → silent_upto system log x.pid (steps_in x.state) ≡ o → is_some o ≡ true → Renewed
      by_run None reached some = absurd (true≢false (sym some))
      by_run (Some t) reached some = record {
        pid = x.pid;
        by_home = right;
        silent = λ q other. silent_stays system log later q (process q other) (steps q other);
        emission = λ q other. emission_stays system log later q (process q other) (steps q other);
        no_cut = λ q other. ap (is_cut q) is ∙ ne_eqb (x.pid).0 q.0 (λ same. other (sym same));
      }
        where
          process : (q : Pid) → q.0 ≢ (x.pid).0 → process_after system later q ≡ process_after system log q
          process q other = process_after-beside system log e x.pid (steps_in x.state) t q reached items (apart_from x.pid q (ne_eqb (x.pid).0 q.0 (λ same. other (sym same))))

          steps : (q : Pid) → q.0 ≢ (x.pid).0 → done_after system later q ≡ done_after system log q
          steps q other = done_after-other system log e x.pid q (steps_in x.state) (ap is_done is) stands.applies (ap count_in is) other

  s : Renewed
  s = by_form r.fresh r.recs r.same (sym (ap (is_by_right places (e.post).by) r.same) ∙ stands.by_right) (subst (KindHolds system log e) r.same stands.kind)
    where
      by_form : (fresh : Bool) (recs : List BackRec) → what e ≡ Rebackup r.to fresh recs → is_by_right places (e.post).by (Rebackup r.to fresh recs) ≡ true → RebackupHolds system log e r.to fresh recs (first_record recs) → Renewed
      by_form true [] is right kind = absurd kind
      by_form false [] is right kind = absurd kind
      by_form false (x ∷ rest) is right kind = by_standing x rest is right
      by_form true (x ∷ rest) is right kind = by_fresh x rest is right (sym (ap (λ w. is_some (after_items system log w)) is) ∙ kind.silent)

  -- a process that is at home in another cluster than the one that sent the entry is another
  other_here : (k : ClusterNo) (p : Pid) → HomeHere places p k → is_by_cluster k e ≡ false → p.0 ≢ (s.pid).0
  other_here k p here foreign same =
      let home : home_at places s.pid ≡ Some (here.placed).home = ap (home_at places) (pid_same s.pid p (sym same)) ∙ ap (option_map (λ (q : Placed). q.home)) here.found in
      let by : is_by (e.post).by (Some (here.placed).home) ≡ true = subst (λ h. is_by (e.post).by h ≡ true) home (by_home_of places (e.post).by s.pid s.by_home) in
      true≢false (sym (by_one k (Cluster (here.placed).home) (e.post).by (Some (here.placed).home) (eq-eqb ((here.placed).home).0 ((here.placed).home).0 refl) by here.home) ∙ foreign)

  -- ---- where processes are

  pub home_same : (q : Pid) → home_at (placement system later) q ≡ home_at places q
  home_same q =
      ap (λ places. home_at places q) (placement-snoc system log e) ∙ ap (λ w. home_at (placed_after places w) q) r.same
      ∙ ap (option_map (λ (q : Placed). q.home)) (unended_map (after_rebackup r.to r.fresh r.recs) (backup_keeps r.to r.fresh r.recs) places (placed_after places (Rebackup r.to r.fresh r.recs)) refl q) ∙ each (unended_at places q)
    where
      each : (o : Option Placed) → option_map (λ (q : Placed). q.home) (option_map (after_rebackup r.to r.fresh r.recs) o) ≡ option_map (λ (q : Placed). q.home) o
      each None = refl
      each (Some x) = ap Some (home_renewed r.to r.fresh r.recs x)

  clusters_same : (placement system later).clusters ≡ places.clusters
  clusters_same = ap (λ (places : Places). places.clusters) (placement-snoc system log e) ∙ ap (λ w. (placed_after places w).clusters) r.same

  living_same : (by : By) → is_living (placement system later) by ≡ is_living places by
  living_same (Cluster k) = ap (λ (cs : List ClusterPlace). option_map_or (λ (c : ClusterPlace). c.lives) (slice_get cs k.0) false) clusters_same
  living_same Bus = refl

  pub pids_same : (k : ClusterNo) → pids_home k (placement system later).placed ≡ pids_home k places.placed
  pids_same k = ap (λ (places : Places). pids_home k places.placed) (placement-snoc system log e) ∙ ap (λ w. pids_home k (placed_after places w).placed) r.same ∙ pids_renewed k r.to r.fresh r.recs places.placed

  -- ---- what it leaves

  pub brings_nothing : BringsNothing system log e
  brings_nothing = record {
    no_loss = ap cluster_lost r.same;
    no_letter = λ p. ap (letter_for p) r.same;
    no_fetch = λ p i. ap (is_fetch p i) r.same;
    no_page_is = λ p i. ap (is_page_is p i) r.same;
    no_exit = λ p. ap (is_exit_of p) r.same;
    living = λ by lives. living_same by ∙ lives;
  }

  -- every other process
  pub spares_renewed : (k : ClusterNo) → is_by_cluster k e ≡ false → (p : Pid) → HomeHere places p k → Spares system log e p
  spares_renewed k foreign p home = record {
    silent = s.silent p other;
    emission = s.emission p other;
    home = home_same p;
    no_cut = s.no_cut p other;
    no_birth = ap (is_birth_of p) r.same;
    no_page = ap (is_some_page p) r.same;
    no_deed = ap (deeds_in p) r.same;
    kept = λ x own. ap (λ w. record_after w x) r.same;
  }
    where
      other : p.0 ≢ (s.pid).0
      other = other_here k p home foreign

  -- every process, where it is of a family that was moved
  spares_standing : (recs : List BackRec) → what e ≡ Rebackup r.to false recs → (p : Pid) → Spares system log e p
  spares_standing recs is p = record {
    silent = λ n. silent_same system log e none p n;
    emission = λ at. emission_same system log e none p at;
    home = home_same p;
    no_cut = ap (is_cut p) is;
    no_birth = ap (is_birth_of p) is;
    no_page = ap (is_some_page p) is;
    no_deed = ap (deeds_in p) is;
    kept = λ x own. ap (λ w. record_after w x) is;
  }
    where
      none : (k : Kernel) → items_of k (what e) ≡ []
      none k = ap (items_of k) is

  -- ---- the whole

  -- a cluster follows the log with its own post of such a family, where nothing more is queued
  pub follows_handed : (c : ClusterView) (server : Option PagerState) (recs : List BackRec) → what e ≡ Rebackup r.to false recs → AllOwn c.cursor c.here → Serves places e c.server server → (f : FollowsBeside all_of system log c) → c.queue ≡ []
      → (was_lost_in later c.number ≡ false → capped (least_steps later later c.number + cond c.tried 1 0) ≤ next_count c.steps) → FollowsBeside all_of system later (with_server server (with_entry c e))
  follows_handed c server recs is own serves f empty counted =
      follows_passed_so system valid log e now next brings_nothing all_of c server (renewal_taken c e r.to r.fresh r.recs r.same) (λ p home. spares_standing recs is p) (pids_same c.number)
      (records_kept system log e c.number c.records valid (all_stand system later next.0) (ap changes_in_place r.same) f.records)
      (subst (λ w. ForksLeft (family_after w c.family) c.here) (sym r.same) (forks_renewed r.to r.fresh r.recs c.family c.here f.forks)) own serves f
      (ap (λ w. is_page_is_entry w && is_by_cluster c.number e) is) (subst (IsQueueLegal SentMayStand system later) (sym empty ∙ (f.queued).posts) tt) counted

  pub follows_renewed : (which : Pid → Bool) (c : ClusterView) (server : Option PagerState) → AllOwn c.cursor c.here → Serves places e c.server server → FollowsBeside which system log c → is_by_cluster c.number e ≡ false
      → FollowsBeside which system later (with_server server (with_entry c e))
  follows_renewed which c server own serves f foreign =
      follows_passed system valid log e now next brings_nothing which c server (renewal_taken c e r.to r.fresh r.recs r.same) (spares_renewed c.number foreign) (pids_same c.number)
      (records_kept system log e c.number c.records valid (all_stand system later next.0) (ap changes_in_place r.same) f.records)
      (subst (λ w. ForksLeft (family_after w c.family) c.here) (sym r.same) (forks_renewed r.to r.fresh r.recs c.family c.here f.forks)) own serves f foreign
