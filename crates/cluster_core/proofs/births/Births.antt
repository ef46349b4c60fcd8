-- A cluster that takes in the birth of a child of a process of another cluster goes on to follow the log.
use Rattle.std.proofs.Common.{◌≡◌, ℕ, ◌+◌, refl, sym, ◌∙◌, ap, subst, List, [], ◌∷◌, ◌++◌, Bool, true, false, cond, eq-eqb, ne_eqb, Option, Some, None, is_some, true≢false}
use Rattle.std.specs.Prelude.{◌≢◌, option_map}
use Rattle.std.specs.Option.{option_map_or}
use Rattle.t32_base.specs.declared.process.Pid.{Pid}
use Rattle.t32_base.specs.declared.process.ClusterNo.{ClusterNo}
use Rattle.sys_text.specs.declared.system.System.{System}
use Rattle.sys_text.specs.Valid.{is_system}
use Rattle.proc_state.specs.State.{ProcState}
use Rattle.bus_msg.specs.declared.entry.What.{What}
use Rattle.bus_msg.specs.declared.entry.What.TheVariants.{Birth}
use Rattle.bus_msg.specs.declared.entry.By.TheVariants.{Cluster}
use Rattle.bus_msg.specs.declared.entry.Entry.{Entry}
use Rattle.bus_msg.specs.declared.placed.Placed.{Placed}
use Rattle.bus_msg.specs.Places.{Places, placed_at, same_cluster, same_pid, unended_at}
use Rattle.bus_msg.specs.PlacedAfter.{placed_after, what, with_birth}
use Rattle.channel_table.specs.Changes.{pids_differ}
use Rattle.cert_sched.specs.Account.{is_exit_of}
use Rattle.cert_sched.specs.Deeds.{deeds_in, is_birth_of, is_cut, letter_for}
use Rattle.roll_forward.specs.Deeds.{Bears}
use Rattle.cert_sched.specs.Kinds.{BirthHolds, KindHolds, next_child_at}
use Rattle.cert_sched.specs.Legal.{Stands, MayStand}
use Rattle.cert_sched.specs.Losses.{is_by_cluster}
use Rattle.cert_sched.specs.Moved.{is_fetch, is_page_is}
use Rattle.cert_sched.specs.Rules.{home_at, is_by, is_by_home, is_by_right, is_living}
use Rattle.cert_sched.specs.Schedule.{done_after, placement, process_after}
use Rattle.cert_sched.specs.Told.{cluster_lost}
use Rattle.cert_sched.proofs.BornLaws.{birth_applied}
use Rattle.cert_sched.proofs.FreshLaws.{only_one}
use Rattle.cert_sched.proofs.LogLaws.{IsLegal-last, placement-snoc}
use Rattle.cert_sched.proofs.MadeLaws.{BirthMade}
use Rattle.cert_sched.proofs.PidLaws.{apart_of}
use Rattle.cert_sched.proofs.ThereLaws.{unended_not_born}
use Rattle.backup_records.specs.Records.{record_after, records_after, with_child}
use Rattle.log_laws.specs.records.Kept.{KeepsRecords}
use Rattle.checkpoint_laws.specs.marks.Beside.{is_some_page}
use Rattle.page_server.specs.Account.{PagerState}
use Rattle.cert_sched.specs.Parts.{rising}
use Rattle.cert_sched.specs.Rests.{home_pids}
use Rattle.residents.specs.Bearing.{with_fork}
use Rattle.residents.specs.Residents.{pids_in}
use Rattle.cluster_core.specs.Families.{family_after}
use Rattle.cluster_core.specs.Owed.{owed_after}
use Rattle.cluster_core.specs.View.{ClusterView, next_count, with_server}
use Rattle.residents.specs.Held.{Held, held_of}
use Rattle.cluster_core.specs.Parts.{AllOwn}
use Rattle.cluster_core.specs.Recovered.{left_by, moved_by, with_all_waiting}
use Rattle.cluster_core.specs.Follows.{IsOpen}
use Rattle.cluster_core.specs.Calls.{with_entry, here_after}
use Rattle.cluster_core.specs.Serving.{Serves}
use Rattle.cluster_core.proofs.here.Beside.{FollowsBeside}
use Rattle.cert_sched.proofs.BirthClusters.{birth_living}
use Rattle.cert_sched.proofs.BirthPlaces.{born_beside}
use Rattle.cluster_core.proofs.births.BirthHomes.{child_elsewhere}
use Rattle.cluster_core.proofs.absorbing.Following.{by_home_of, by_one}
use Rattle.cluster_core.proofs.here.Here.{is_among}
use Rattle.residents.proofs.Changing.{pid_same}
use Rattle.cluster_core.proofs.losses.Homes.{HomeHere, pids_apart, home_here, pids_home}
use Rattle.cluster_core.specs.ForksAgain.{ForksLeft}
use Rattle.cluster_core.proofs.forks.ForksAgain.{forks_elsewhere}
use Rattle.cluster_core.proofs.absorbing.Spared.{BringsNothing, Spares, emission_stays, follows_passed, passed, silent_stays}
use Rattle.cluster_core.proofs.absorbing.Telling.{done_is}

-- ---- what the cluster is then

pub birth_taken : (c : ClusterView) (e : Entry) (parent : Pid) (at : ℕ) (child : Pid) (end : ℕ) → what e ≡ Birth parent at child end → held_of c.here parent ≡ None → with_entry c e ≡ passed c e
birth_taken c e parent at child end is away = ap taken is ∙ ap (λ o. record (spared (Birth parent at child end)) { here = option_map_or (λ (h : Held). with_fork parent child h c.here) o c.here }) away ∙ sym (ap spared is)
  where
    taken : What → ClusterView
    taken w = record c {
      cursor = c.cursor + 1;
      places = placed_after c.places w;
      here = with_all_waiting (moved_by c.places c.number w (records_after c.number w c.records)) (here_after w c.here);
      records = left_by c.places c.number w (records_after c.number w c.records);
      family = family_after w c.family;
      owed = owed_after c.number c.places w c.owed;
      steps = next_count c.steps;
    }

    spared : What → ClusterView
    spared w = record c { cursor = c.cursor + 1; places = placed_after c.places w; records = records_after c.number w c.records; family = family_after w c.family; owed = owed_after c.number c.places w c.owed; steps = next_count c.steps }

module _ (system : System) (valid : is_system system ≡ true) (log : List Entry) (e : Entry) (parent : Pid) (at : ℕ) (child : Pid) (end : ℕ) (is : what e ≡ Birth parent at child end) (now : IsOpen MayStand system log) (next : IsOpen MayStand system (log ++ e ∷ [])) where
  abbrev later : List Entry
  later = log ++ e ∷ []

  abbrev places : Places
  places = placement system log

  stands : Stands system log e
  stands = (IsLegal-last MayStand system log e next.0).stands

  differ : pids_differ places.placed ≡ true
  differ = pids_apart system log valid now.0

  kind : BirthHolds system log parent at child end
  kind = subst (KindHolds system log e) is stands.kind

  by_parent : is_by_home places (e.post).by (Some parent) ≡ true
  by_parent = ap (is_by_right places (e.post).by) (sym is) ∙ stands.by_right

  made : BirthMade system log e parent child
  made = birth_applied system log e parent at child end is stands.applies kind.end_is

  places_later : placement system later ≡ with_birth places child (placed_at places parent)
  places_later = placement-snoc system log e ∙ ap (placed_after places) is

  -- ---- a process at home in another cluster than the parent's

  module _ (k : ClusterNo) (foreign : is_by_cluster k e ≡ false) where
    not_parent : (p : Pid) → HomeHere places p k → p.0 ≢ parent.0
    not_parent p here same =
        let home : home_at places parent ≡ Some (here.placed).home = ap (home_at places) (pid_same parent p (sym same)) ∙ ap (option_map (λ (q : Placed). q.home)) here.found in
        let by : is_by (e.post).by (Some (here.placed).home) ≡ true = subst (λ h. is_by (e.post).by h ≡ true) home (by_home_of places (e.post).by parent by_parent) in
        true≢false (sym (by_one k (Cluster (here.placed).home) (e.post).by (Some (here.placed).home) (eq-eqb ((here.placed).home).0 ((here.placed).home).0 refl) by here.home) ∙ foreign)

    not_child : (p : Pid) → HomeHere places p k → same_pid child p ≡ false
    not_child p here = sym (ap (is_birth_of p) is) ∙ unended_not_born MayStand (λ system log e may. may.stands) system log e p valid now.0 stands (ap is_some here.found)

    -- the parent is at home elsewhere
    parent_away : (q : Placed) → placed_at places parent ≡ Some q → same_cluster q.home k ≡ false
    parent_away q placed = by_found (unended_at places parent) refl kind.child_is
      where
        by_home : (r : Placed) → unended_at places parent ≡ Some r → (b : Bool) → same_cluster r.home k ≡ b → b ≡ false
        by_home r found true here = absurd (not_parent parent (record { placed = r; found = found; home = here }) refl)
        by_home r found false here = refl

        by_found : (o : Option Placed) → unended_at places parent ≡ o → option_map (next_child_at places) o ≡ Some child → same_cluster q.home k ≡ false
        by_found None found child_is = cc
        by_found (Some r) found child_is =
            let same : Some q ≡ Some r = sym placed ∙ only_one parent places.placed r (apart_of places.placed differ) found in
            let one : q ≡ r = cc in
            ap (λ (x : Placed). same_cluster x.home k) one ∙ by_home r found (same_cluster r.home k) refl

    -- so it is not here
    pub parent_not_here : (here : List (Pid × Held)) → rising (pids_in here) ≡ rising (home_pids system log k) → held_of here parent ≡ None
    parent_not_here here once = by_found (held_of here parent) refl
      where
        by_found : (o : Option Held) → held_of here parent ≡ o → o ≡ None
        by_found None none = refl
        by_found (Some h) there = absurd (not_parent parent (home_here places k (pids_in here) parent differ once (is_among here parent h there)) refl)

    pids_same : pids_home k (placement system later).placed ≡ pids_home k places.placed
    pids_same = ap (λ (places : Places). pids_home k places.placed) places_later ∙ child_elsewhere k places child (placed_at places parent) parent_away

    pub spares_here : (p : Pid) → HomeHere places p k → Spares system log e p
    spares_here p here = record {
      silent = silent_stays system log later p process steps;
      emission = emission_stays system log later p process steps;
      home = ap (λ places. home_at places p) places_later ∙ ap (option_map (λ (q : Placed). q.home)) (born_beside p child places (placed_at places parent) (not_child p here));
      no_cut = ap (is_cut p) is;
      no_birth = ap (is_birth_of p) is ∙ not_child p here;
      no_page = ap (is_some_page p) is;
      no_deed = ap (deeds_in p) is ∙ ap (λ b. cond b (Bears child ∷ []) []) apart;
      kept = λ r own. ap (λ w. record_after w r) is ∙ ap (λ b. cond b (with_child child r) r) (ap (same_pid parent) own ∙ apart);
    }
      where
        apart : same_pid parent p ≡ false
        apart = ne_eqb parent.0 p.0 (λ same. not_parent p here (sym same))

        process : process_after system later p ≡ process_after system log p
        process = made.others p apart (not_child p here)

        steps : done_after system later p ≡ done_after system log p
        steps = done_is system later p ∙ ap (λ o. option_map_or (λ (s : ProcState). (s.small).steps) o 0) process ∙ sym (done_is system log p)

  -- ---- the whole

  brings_nothing : BringsNothing system log e
  brings_nothing = record {
    no_loss = ap cluster_lost is;
    no_letter = λ p. ap (letter_for p) is;
    no_fetch = λ p i. ap (is_fetch p i) is;
    no_page_is = λ p i. ap (is_page_is p i) is;
    no_exit = λ p. ap (is_exit_of p) is;
    living = λ by lives. ap (λ places. is_living places by) places_later ∙ birth_living places child (placed_at places parent) by ∙ lives;
  }

  pub follows_birth : (which : Pid → Bool) (c : ClusterView) (server : Option PagerState) → KeepsRecords system later c.number (records_after c.number (what e) c.records) → AllOwn c.cursor c.here → Serves places e c.server server → FollowsBeside which system log c → is_by_cluster c.number e ≡ false
      → FollowsBeside which system later (with_server server (with_entry c e))
  follows_birth which c server records own serves f foreign =
      follows_passed system valid log e now next brings_nothing which c server (birth_taken c e parent at child end is (parent_not_here c.number foreign c.here (f.processes).each_once)) (spares_here c.number foreign) (pids_same c.number foreign) records
      (subst (λ w. ForksLeft (family_after w c.family) c.here) (sym is) (forks_elsewhere c.family c.here parent child (parent_not_here c.number foreign c.here (f.processes).each_once) f.forks)) own serves f foreign
