-- A cluster that takes in an entry which leaves each process at home there, and each place, as it was, goes on to follow the log.
use Rattle.std.proofs.Common.{◌≡◌, ◌⊎◌, ℕ, ◌+◌, ◌-◌, refl, sym, ◌∙◌, ap, subst, List, [], ◌∷◌, ◌++◌, length-append, Bool, true, false, cond, ◌&&◌, ◌||◌, Option, Some, None, is_some, inl, inr, ◌≤◌}
use Rattle.std.specs.Prelude.{option_and_then, option_map}
use Rattle.std.specs.List.{list_all}
use Rattle.std.specs.Option.{option_map_or}
use Rattle.std.proofs.lemmas.Bool.{and_parts}
use Rattle.std.proofs.lemmas.Option.{same_Some}
use Rattle.t32_base.specs.declared.process.Pid.{Pid}
use Rattle.t32_base.specs.declared.process.ClusterNo.{ClusterNo}
use Rattle.t32_base.specs.declared.letter.BackRec.{BackRec}
use Rattle.sys_text.specs.declared.system.System.{System}
use Rattle.sys_text.specs.Valid.{is_system}
use Rattle.proc_state.specs.State.{ProcState, state_of}
use Rattle.sys_calls.specs.declared.steps.Emission.{Emission}
use Rattle.sys_calls.specs.Next.{silently, last_emission}
use Rattle.sys_calls.proofs.RunLemma.{all_delivered}
use Rattle.bus_msg.specs.declared.entry.What.{What}
use Rattle.bus_msg.specs.declared.entry.By.{By}
use Rattle.bus_msg.specs.declared.entry.Post.{Post}
use Rattle.bus_msg.specs.declared.entry.Entry.{Entry}
use Rattle.bus_msg.specs.declared.placed.Placed.{Placed}
use Rattle.bus_msg.specs.Places.{Places, unended_at, same_cluster}
use Rattle.bus_msg.specs.PlacedAfter.{placed_after, what}
use Rattle.channel_table.specs.Changes.{pids_differ}
use Rattle.cert_sched.specs.Appended.{entry_of}
use Rattle.cluster_core.specs.Sent.{TellingMayStand}
use Rattle.cluster_core.specs.Sent.{SentMayStand}
use Rattle.cert_sched.specs.Deeds.{deeds_in, is_cut, letter_for, is_birth_of}
use Rattle.cert_sched.specs.Legal.{Stands, MayStand}
use Rattle.cert_sched.specs.Losses.{capped, is_by_cluster, is_from, is_crash_of, least_steps, was_lost_in}
use Rattle.cert_sched.specs.Moved.{is_fetch, is_page_is}
use Rattle.cert_sched.specs.Parts.{rising}
use Rattle.cert_sched.specs.Rests.{home_pids}
use Rattle.cert_sched.specs.Rules.{home_at, is_by, is_by_home, is_living, keeps_limits, tells_or_closes}
use Rattle.cert_sched.specs.Schedule.{done_after, placement, process_after}
use Rattle.cert_sched.specs.Steps.{after_items, emission_at, process_of, silent_upto}
use Rattle.cert_sched.proofs.LogLaws.{IsLegal-last, placement-snoc}
use Rattle.backup_records.specs.Records.{record_after, records_after}
use Rattle.log_laws.specs.records.Kept.{KeepsRecords}
use Rattle.log_laws.proofs.records.Standing.{all_stand}
use Rattle.replay_laws.specs.rolling.Behind.{RollsBehind}
use Rattle.replay_laws.proofs.rolling.ByRule.{standing}
use Rattle.replay_laws.proofs.rolling.KeepingBehind.{behind_standing}
use Rattle.page_server.specs.Account.{PagerState}
use Rattle.page_waits.specs.Waiting.{WaitingState}
use Rattle.replay_laws.specs.forks.ForkWaits.{WaitsSo}
use Rattle.cluster_core.specs.Families.{family_after}
use Rattle.cluster_core.specs.Owed.{owed_after}
use Rattle.cluster_core.specs.ForksAgain.{ForksLeft}
use Rattle.replay_laws.proofs.forks.EitherWait.{so_alike, so_follows}
use Rattle.cluster_core.specs.View.{ClusterView, next_count, with_server}
use Rattle.residents.specs.Held.{Held, Runs, Rolls, Waits, held_of}
use Rattle.residents.specs.Residents.{pids_in}
use Rattle.cluster_core.specs.Parts.{AllOwn}
use Rattle.cluster_core.specs.Queue.{AreTogether, Queued, Nothing, One, posts_of, IsQueueLegal, is_move_of, state_by, state_now, taken_by, with_queue}
use Rattle.cluster_core.specs.Holds.{IsHeldAs, is_fetch_queued, CarriesMarks, MarkedIfThere, unended_process}
use Rattle.cluster_core.specs.Follows.{IsOpen}
use Rattle.cluster_core.proofs.births.FamilyNext.{family_next}
use Rattle.cluster_core.proofs.awaiting.Awaited.{awaited_after}
use Rattle.cluster_core.proofs.awaiting.OwedNext.{owed_next}
use Rattle.cluster_core.proofs.here.Beside.{FollowsBeside, HeldOf, of_them, one_of_them}
use Rattle.cluster_core.specs.Calls.{with_entry}
use Rattle.cluster_core.specs.Serving.{Serves}
use Rattle.cluster_core.proofs.absorbing.ByKind.{by_kind, is_of_page, lone_is, may_told, told_may}
use Rattle.cluster_core.proofs.absorbing.Counted.{lost_before}
use Rattle.cluster_core.proofs.absorbing.Fallen.{page_stays_queued}
use Rattle.cluster_core.proofs.absorbing.Following.{counted_foreign, may_end_still, post_may}
use Rattle.cluster_core.proofs.absorbing.Posted.{moves_it, no_end}
use Rattle.cluster_core.proofs.syncs.Marking.{marked_after, queue_tells}
use Rattle.cluster_core.proofs.paging.HasPages.{home_of_sender, pages_after, waits_after}
use Rattle.cluster_core.proofs.here.Here.{is_among}
use Rattle.cluster_core.proofs.losses.Homes.{HomeHere, pids_apart, home_here, pids_home}
use Rattle.cluster_core.proofs.losses.NotMoved.{home_not_moved}
use Rattle.cluster_core.proofs.here.Owning.{own_at}
use Rattle.cluster_core.proofs.paging.PagePosts.{page_post_stays}
use Rattle.cluster_core.proofs.absorbing.Served.{accounts_next, ahead_after, answers, foreign_no_answer}
use Rattle.cluster_core.proofs.absorbing.Telling.{Telling, telling}
use Rattle.cluster_core.proofs.absorbing.Unmoved.{page_moves_none}
use Rattle.cert_sched.specs.Account.{is_exit_of}
use Rattle.cert_sched.specs.Told.{cluster_lost, is_moved}
use Rattle.checkpoint_laws.specs.marks.Beside.{is_some_page}
use Rattle.cert_sched.specs.Simulation.{IsUnended}
use Rattle.cert_sched.proofs.CutLaws.{by_home_there}
use Rattle.cluster_core.proofs.working.KeptLimits.{told_within}
use Rattle.checkpoint_laws.proofs.limits.StayingLimits.{sent_stays}

-- ---- what an entry leaves

-- where a process and its count stay, so do its silent steps and what it sends
pub silent_stays : (system : System) (log later : List Entry) (q : Pid) → process_after system later q ≡ process_after system log q → done_after system later q ≡ done_after system log q → (n : ℕ) → silent_upto system later q n ≡ silent_upto system log q n
unfolding silent_upto
silent_stays system log later q process steps n = λ i. option_and_then (silently (n - steps i)) (process i)

pub emission_stays : (system : System) (log later : List Entry) (q : Pid) → process_after system later q ≡ process_after system log q → done_after system later q ≡ done_after system log q → (at : ℕ) → emission_at system later q at ≡ emission_at system log q at
unfolding emission_at
emission_stays system log later q process steps at = λ i. option_and_then (last_emission (at - steps i)) (process i)

-- The entry leaves a process: its home, what it does ahead of the log, and its record; it is no cut, no birth and no page of it, and tells of none of its deeds.
pub record Spares (system : System) (log : List Entry) (e : Entry) (p : Pid) : Type 0 where
  pub silent : (n : ℕ) → silent_upto system (log ++ e ∷ []) p n ≡ silent_upto system log p n
  pub emission : (at : ℕ) → emission_at system (log ++ e ∷ []) p at ≡ emission_at system log p at
  pub home : home_at (placement system (log ++ e ∷ [])) p ≡ home_at (placement system log) p
  pub no_cut : is_cut p (what e) ≡ false
  pub no_birth : is_birth_of p (what e) ≡ false
  pub no_page : is_some_page p (what e) ≡ false
  pub no_deed : deeds_in p (what e) ≡ []
  pub kept : (r : BackRec) → r.pid ≡ p → record_after (what e) r ≡ r

-- it brings nobody a letter or a page, asks for none, ends none, loses no cluster, and leaves alive those that live
pub record BringsNothing (system : System) (log : List Entry) (e : Entry) : Type 0 where
  pub no_loss : cluster_lost (what e) ≡ None
  pub no_letter : (p : Pid) → letter_for p (what e) ≡ []
  pub no_fetch : (p : Pid) (i : ℕ) → is_fetch p i (what e) ≡ false
  pub no_page_is : (p : Pid) (i : ℕ) → is_page_is p i (what e) ≡ false
  pub no_exit : (p : Pid) → is_exit_of p (what e) ≡ false
  pub living : (by : By) → is_living (placement system log) by ≡ true → is_living (placement system (log ++ e ∷ [])) by ≡ true

-- what the cluster is then
abbrev pub passed : ClusterView → Entry → ClusterView
passed c e = record c { cursor = c.cursor + 1; places = placed_after c.places (what e); records = records_after c.number (what e) c.records; family = family_after (what e) c.family; owed = owed_after c.number c.places (what e) c.owed; steps = next_count c.steps }

module _ (system : System) (valid : is_system system ≡ true) (log : List Entry) (e : Entry) (now : IsOpen MayStand system log) (next : IsOpen MayStand system (log ++ e ∷ [])) (n : BringsNothing system log e) where
  abbrev later : List Entry
  later = log ++ e ∷ []

  abbrev places : Places
  places = placement system log

  stands : Stands system log e
  stands = (IsLegal-last MayStand system log e next.0).stands

  differ : pids_differ places.placed ≡ true
  differ = pids_apart system log valid now.0

  loses_none : (k : ClusterNo) → is_crash_of k (what e) ≡ false
  loses_none k = ap (λ o. option_map_or (λ j. same_cluster j k) o false) n.no_loss

  moves_none : (p : Pid) → option_map_or (is_moved p places) (cluster_lost (what e)) false ≡ false
  moves_none p = ap (λ o. option_map_or (is_moved p places) o false) n.no_loss

  no_letter : (p : Pid) (s : ProcState) → all_delivered s (letter_for p (what e)) ≡ s
  no_letter p s = ap (all_delivered s) (n.no_letter p)

  unended_later : (p : Pid) → Spares system log e p → IsUnended system log p → IsUnended system later p
  unended_later p s unended = sym (homed (unended_at (placement system later) p)) ∙ ap is_some s.home ∙ homed (unended_at places p) ∙ unended
    where
      homed : (o : Option Placed) → is_some (option_map (λ (q : Placed). q.home) o) ≡ is_some o
      homed None = refl
      homed (Some q) = refl

  -- ---- the queue

  still_by_home : (by : By) (p : Pid) → home_at (placement system later) p ≡ home_at places p → is_by_home places by (Some p) ≡ true → is_by_home (placement system later) by (Some p) ≡ true
  still_by_home by p home right =
      let parts = and_parts (is_living places by) (is_by by (home_at places p)) right in
      (λ i. n.living by parts.0 i && is_by by (home i)) ∙ parts.1

  -- a post of a cluster that tells of such a process may follow after it
  post_stays : (k : ClusterNo) (post : Post) → ((p : Pid) → HomeHere places p k → Spares system log e p) → is_from k post.by ≡ true → TellingMayStand system log (entry_of system log post) → TellingMayStand system later (entry_of system later post)
  post_stays k post spares own may =
      post_may system later post u.pid u.at u.emission u.after next.0 next.1 may.of_kind u.tells (s.emission u.at ∙ u.is) (still_by_home post.by u.pid (s.home) u.by_home) keeps
      (waits_after system log e k post valid now.0 stands differ (loses_none k) may.of_kind (ap (is_by_home places post.by) u.process ∙ u.by_home) own may.pages)
      (may_end_still system log e (entry_of system log post) u.pid u.at u.emission post.what valid (all_stand system log now.0) stands s.no_deed u.tells (may.stands).kind)
    where
      u : Telling system log (entry_of system log post)
      u = telling system log (entry_of system log post) may (no_end k places post.by post.what may.of_kind own (may.stands).by_right)

      s : Spares system log e u.pid
      s = spares u.pid (home_of_sender places k post.by u.pid own u.by_home)

      keeps : keeps_limits system later u.pid u.after ≡ true
      keeps =
          subst (λ t. keeps_limits system later u.pid t ≡ true) (no_letter u.pid u.after)
          (sent_stays system log e u.pid u.at u.emission u.after valid (all_stand system log now.0) (by_home_there places post.by u.pid u.by_home) (λ i. s.no_cut i || s.no_birth i) u.is
          (told_within system log u.pid u.at u.emission u.after u.is post.what u.tells may.limits))

  queue_stays : (k : ClusterNo) (q : Queued) → ((p : Pid) → HomeHere places p k → Spares system log e p) → AreTogether q → is_by_cluster k e ≡ false → list_all (λ (post : Post). is_from k post.by) (posts_of q) ≡ true → IsQueueLegal SentMayStand system log (posts_of q)
      → IsQueueLegal SentMayStand system later (posts_of q)
  queue_stays k Nothing spares together foreign own legal = tt
  queue_stays k (One post) spares together foreign own legal = (by_kind_of (lone_is post.what together), tt)
    where
      from : is_from k post.by ≡ true
      from = (and_parts (is_from k post.by) true own).0

      by_kind_of : (tells_or_closes post.what ≡ true) ⊎ (is_of_page post.what ≡ true) → SentMayStand system later (entry_of system later post)
      by_kind_of (inl tells) = may_told system later (entry_of system later post) (post_stays k post spares from (told_may system log (entry_of system log post) legal.0 tells))
      by_kind_of (inr page) = page_post_stays system valid log e k post now next foreign (loses_none k) from page (page_stays_queued places (what e) post.what page n.no_loss) legal.0

  -- ---- the processes

  -- what a post tells of such a process stays
  items_stay : (w : What) → tells_or_closes w ≡ true → (p : Pid) → process_of w ≡ Some p → Spares system log e p → after_items system later w ≡ after_items system log w
  items_stay w tells p =
      by_kind (λ w. process_of w ≡ Some p → Spares system log e p → after_items system later w ≡ after_items system log w)
      (λ at letter is s. ap (option_map (λ (r : Emission × ProcState). r.1)) (named letter.from is s at))
      (λ pid at end is s. ap (option_map (λ (r : Emission × ProcState). r.1)) (named pid is s at)) (λ rests is s. refl) (λ is s. refl) w tells
    where
      named : (r : Pid) → Some r ≡ Some p → Spares system log e p → (at : ℕ) → emission_at system later r at ≡ emission_at system log r at
      named r is s at = let same : p ≡ r = sym (same_Some r p is) in subst (λ q. emission_at system later q at ≡ emission_at system log q at) same (s.emission at)

  -- it stands where it stood, beside at most one post
  state_stays : (q : Queued) (p : Pid) (steps : ℕ) → AreTogether q → Spares system log e p → state_now system later (posts_of q) p steps ≡ state_now system log (posts_of q) p steps
  state_stays Nothing p steps together s = s.silent steps
  state_stays (One post) p steps together s = by_what (lone_is post.what together)
    where
      now_at : List Entry → Bool → Option ProcState
      now_at entries b = state_by system entries p steps (option_map (λ (post : Post). post.what) (cond b (Some post) None))

      by_move : (b : Bool) → is_move_of p post ≡ b → tells_or_closes post.what ≡ true → now_at later b ≡ now_at log b
      by_move true is tells =
          ap (option_map (taken_by post.what))
          (items_stay post.what tells p (moves_it p (post ∷ []) post.what (ap (λ b. option_map (λ (post : Post). post.what) (cond b (Some post) None)) is)) s)
      by_move false is tells = s.silent steps

      by_what : (tells_or_closes post.what ≡ true) ⊎ (is_of_page post.what ≡ true) → now_at later (is_move_of p post) ≡ now_at log (is_move_of p post)
      by_what (inl tells) = by_move (is_move_of p post) refl tells
      by_what (inr page) = ap (now_at later) (page_moves_none p post page) ∙ s.silent steps ∙ ap (now_at log) (sym (page_moves_none p post page))

  -- what is held of it stays what the log says
  pub held_stays : (k : ClusterNo) (q : Queued) (p : Pid) (h : Held) → AreTogether q → HomeHere places p k → Spares system log e p → ((waiting : WaitingState) → h ≡ Waits waiting → (waiting.kept).pid ≡ p) → IsHeldAs system log (posts_of q) p h → IsHeldAs system later (posts_of q) p h
  held_stays k q p (Runs process) together home s own held = state_stays q p (process.small).steps together s ∙ held
  held_stays k q p (Rolls process counts births) together home s own held = (
    held.0,
    subst (λ t. RollsBehind system later p t counts births) (no_letter p (state_of process))
        (behind_standing system log e p MayStand standing (state_of process) counts births valid next.0 (ap is_some home.found) s.no_cut s.no_deed held.1),
  )
  held_stays k q p (Waits waiting) together home s own held = (
    held.0,
    subst (λ r. WaitsSo system later p (is_fetch_queued p (posts_of q)) (record waiting { kept = r })) (s.kept waiting.kept (own waiting refl))
        (so_follows system log e p (is_fetch_queued p (posts_of q)) waiting valid next.0 (ap is_some home.found) (home_not_moved system log e p k differ home (loses_none k)) s.no_cut s.no_deed (n.no_page_is p) s.no_page
        (so_alike system log p (is_fetch_queued p (posts_of q)) (λ i. is_fetch p i (what e) || is_fetch_queued p (posts_of q) i) waiting (λ i. ap (λ b. b || is_fetch_queued p (posts_of q) i) (sym (n.no_fetch p i))) held.1)),
  )

  -- ---- the whole

  -- where what is queued may follow still, and the kernel steps are enough
  pub follows_passed_so : (which : Pid → Bool) (c : ClusterView) (server : Option PagerState) → with_entry c e ≡ passed c e → ((p : Pid) → HomeHere places p c.number → Spares system log e p)
      → pids_home c.number (placement system later).placed ≡ pids_home c.number places.placed → KeepsRecords system later c.number (records_after c.number (what e) c.records) → ForksLeft (family_after (what e) c.family) c.here → AllOwn c.cursor c.here → Serves places e c.server server → (f : FollowsBeside which system log c)
      → answers c.number e ≡ false → IsQueueLegal SentMayStand system later (posts_of (f.queued).queued) → (was_lost_in later c.number ≡ false → capped (least_steps later later c.number + cond c.tried 1 0) ≤ next_count c.steps)
      → FollowsBeside which system later (with_server server (with_entry c e))
  follows_passed_so which c server taken spares pids records forks own serves f unanswered posts_still counted = subst (λ v. FollowsBeside which system later (with_server server v)) (sym taken) (record {
    log = record {
      cursor = ap (λ m. m + 1) (f.log).cursor ∙ sym (length-append log (e ∷ []));
      places = ap (λ (places : Places). placed_after places (what e)) (f.log).places ∙ sym (placement-snoc system log e);
    };
    processes = record { held = held; each_once = once ∙ ap rising (sym pids) };
    queue = record {
      own = (f.queue).own;
      legal = legal_still;
    };
    queued = f.queued;
    steps = record { counted = counted };
    limits = f.limits;
    pages = λ p h at runs. pages_after system log e p c.number valid now.0 stands differ (home_of p h at) (loses_none c.number) (f.pages p h at runs);
    marks = marks;
    family = family_next system log e c.family valid now next f.family;
    owed = owed_next system log e c.number c.places c.owed valid next (f.log).places (loses_none c.number) f.owed;
    backups = λ p h at begun. awaited_after system log e p c.number valid now.0 stands differ (home_of p h at) (loses_none c.number) (f.backups p h at begun);
    forks = forks;
    records = records;
    accounts = accounts_next system log e c (with_server server (passed c e)) q unanswered serves refl queue_is queue_is (f.queued).together f.accounts;
    disk = ((f.disk).0, ahead_after places e c.server server serves (f.disk).1);
  })
    where
      q : Queued
      q = (f.queued).queued

      queue_is : c.queue ≡ posts_of q
      queue_is = (f.queued).posts

      once : rising (pids_in c.here) ≡ rising (home_pids system log c.number)
      once = (f.processes).each_once

      posts_own : list_all (λ (post : Post). is_from c.number post.by) (posts_of q) ≡ true
      posts_own = subst (λ ps. list_all (λ (post : Post). is_from c.number post.by) ps ≡ true) queue_is (f.queue).own

      posts_legal : IsQueueLegal SentMayStand system log (posts_of q)
      posts_legal = subst (IsQueueLegal SentMayStand system log) queue_is (f.queue).legal

      legal_still : IsQueueLegal SentMayStand system later c.queue
      legal_still = subst (IsQueueLegal SentMayStand system later) (sym queue_is) posts_still

      home_of : (p : Pid) (h : Held) → held_of c.here p ≡ Some h → HomeHere places p c.number
      home_of p h there = home_here places c.number (pids_in c.here) p differ once (is_among c.here p h there)

      mine : (p : Pid) (h : Held) → held_of c.here p ≡ Some h → (waiting : WaitingState) → h ≡ Waits waiting → (waiting.kept).pid ≡ p
      mine p h there waiting is = (own_at c.cursor c.here p (Waits waiting) own (there ∙ ap Some is)).pid_is

      held : (p : Pid) (h : Held) → held_of c.here p ≡ Some h → HeldOf which system later c.queue p h
      held p h there =
          let home = home_of p h there in
          of_them which system log later c.queue c.queue p h
          (λ was. subst (λ ps. IsHeldAs system later ps p h) (sym queue_is) (held_stays c.number q p h (f.queued).together home (spares p home) (mine p h there) (subst (λ ps. IsHeldAs system log ps p h) queue_is was)))
          ((f.processes).held p h there)

      marks : (p : Pid) (h : Held) → held_of c.here p ≡ Some h → which p ≡ true → MarkedIfThere CarriesMarks system (with_queue system later c.queue) p (unended_process h)
      marks p h there among =
          let home = home_of p h there in
          let s = spares p home in
          subst (λ ps. MarkedIfThere CarriesMarks system (with_queue system later ps) p (unended_process h)) (sym queue_is)
          (marked_after system log e p q h h valid (all_stand system later next.0) (ap is_some home.found) (unended_later p s (ap is_some home.found)) (f.queued).together
          (queue_tells system log c.number q posts_own posts_legal) (queue_tells system later c.number q posts_own posts_still)
          (subst (λ ps. IsHeldAs system log ps p h) queue_is (one_of_them which system log c.queue p h among ((f.processes).held p h there)))
          (subst (λ ps. IsHeldAs system later ps p h) queue_is (one_of_them which system later c.queue p h among (held p h there)))
          (s.no_cut, s.no_birth, s.no_page, moves_none p) (n.no_exit p) (λ m. m)
          (subst (λ ps. MarkedIfThere CarriesMarks system (with_queue system log ps) p (unended_process h)) queue_is (f.marks p h there among)))

  -- so it is where the entry is another's
  pub follows_passed : (which : Pid → Bool) (c : ClusterView) (server : Option PagerState) → with_entry c e ≡ passed c e → ((p : Pid) → HomeHere places p c.number → Spares system log e p)
      → pids_home c.number (placement system later).placed ≡ pids_home c.number places.placed → KeepsRecords system later c.number (records_after c.number (what e) c.records) → ForksLeft (family_after (what e) c.family) c.here → AllOwn c.cursor c.here → Serves places e c.server server → FollowsBeside which system log c
      → is_by_cluster c.number e ≡ false → FollowsBeside which system later (with_server server (with_entry c e))
  follows_passed which c server taken spares pids records forks own serves f foreign =
      follows_passed_so which c server taken spares pids records forks own serves f (foreign_no_answer c.number e foreign)
      (queue_stays c.number (f.queued).queued spares (f.queued).together foreign (subst (λ ps. list_all (λ (post : Post). is_from c.number post.by) ps ≡ true) (f.queued).posts (f.queue).own)
      (subst (IsQueueLegal SentMayStand system log) (f.queued).posts (f.queue).legal))
      (λ kept. counted_foreign c log e foreign ((f.steps).counted (lost_before log e c.number kept)))
