-- A cluster that takes in an entry of a page goes on to follow the log.
use Rattle.std.proofs.Common.{◌≡◌, ◌⊎◌, ℕ, ◌+◌, refl, sym, ◌∙◌, ap, subst, List, [], ◌∷◌, ◌++◌, length-append, Bool, true, false, ◌&&◌, Option, Some, None, is_some, true≢false, inl, inr, cond, eqb, eqb-true, eq-eqb, ◌||◌}
use Rattle.std.specs.List.{list_all}
use Rattle.std.proofs.lemmas.Bool.{and_parts}
use Rattle.t32_base.specs.declared.process.Pid.{Pid}
use Rattle.t32_base.specs.declared.process.ClusterNo.{ClusterNo}
use Rattle.t32_base.specs.declared.letter.BackRec.{BackRec}
use Rattle.sys_text.specs.declared.system.System.{System}
use Rattle.sys_text.specs.Valid.{is_system}
use Rattle.proc_state.specs.State.{state_of, ProcState}
use Rattle.sys_calls.proofs.RunLemma.{all_delivered}
use Rattle.plain_kernel.specs.Kernel.{Kernel}
use Rattle.bus_msg.specs.declared.entry.What.{What}
use Rattle.bus_msg.specs.declared.entry.Post.{Post}
use Rattle.bus_msg.specs.declared.entry.Entry.{Entry}
use Rattle.bus_msg.specs.Places.{Places, unended_at, same_pid}
use Rattle.bus_msg.specs.PlacedAfter.{what, placed_after}
use Rattle.cert_sched.specs.Appended.{entry_of}
use Rattle.cert_sched.specs.Legal.{MayStand}
use Rattle.cluster_core.specs.Sent.{TellingMayStand}
use Rattle.cluster_core.specs.Sent.{SentMayStand}
use Rattle.cert_sched.specs.Deeds.{deeds_in, is_cut, letter_for, is_birth_of, starts}
use Rattle.cert_sched.specs.Losses.{is_by_cluster, is_from, is_crash_of}
use Rattle.cert_sched.specs.Parts.{rising}
use Rattle.cert_sched.specs.Rests.{home_pids}
use Rattle.cert_sched.specs.Rules.{is_by_home, has_its_pages, home_at, is_by, is_by_right, keeps_limits, has_awaited_backup, tells_or_closes}
use Rattle.cert_sched.specs.Schedule.{items_of, placement}
use Rattle.cert_sched.proofs.LogLaws.{IsLegal-last, placement-snoc}
use Rattle.backup_records.specs.Records.{records_after}
use Rattle.log_laws.specs.records.Kept.{KeepsRecords, changes_in_place}
use Rattle.log_laws.proofs.records.KeptLaws.{records_kept}
use Rattle.log_laws.proofs.records.Standing.{all_stand}
use Rattle.replay_laws.specs.rolling.Behind.{RollsBehind}
use Rattle.replay_laws.proofs.rolling.KeepingBehind.{behind_standing}
use Rattle.replay_laws.proofs.rolling.ByRule.{standing}
use Rattle.cluster_core.specs.Families.{family_after}
use Rattle.cluster_core.specs.Owed.{HoldsOwed, owed_after}
use Rattle.cluster_core.proofs.awaiting.OwedNext.{owed_next}
use Rattle.residents.specs.Held.{page_held, Held, Runs, Rolls, Waits, held_of, IsHeldWithin, rolling_held}
use Rattle.cluster_core.specs.View.{ClusterView, next_count, with_server, limits_of}
use Rattle.residents.specs.Residents.{pids_in}
use Rattle.cluster_core.specs.Queue.{AreTogether, Queued, Nothing, One, posts_of, IsQueueLegal, move_of, state_by, state_now, with_queue}
use Rattle.cluster_core.specs.Recovered.{left_by, moved_by, with_all_waiting}
use Rattle.cluster_core.specs.Holds.{IsHeldAs, is_fetch_queued, process_in, CarriesMarks, MarkedIfThere, unended_process, HoldsLimits}
use Rattle.cluster_core.specs.Follows.{Follows, IsOpen}
use Rattle.cluster_core.specs.Calls.{with_entry, here_after}
use Rattle.cluster_core.proofs.births.FamilyNext.{family_next}
use Rattle.cluster_core.proofs.absorbing.ByKind.{by_page, is_of_page, lone_is, may_told, told_may}
use Rattle.cluster_core.proofs.here.Beside.{FollowsBeside, HeldOf, WaitsAs, any_of, one_of_them, told_waits, waits_as}
use Rattle.cluster_core.proofs.here.Here.{is_among}
use Rattle.residents.proofs.Changing.{pid_same}
use Rattle.cluster_core.proofs.losses.Homes.{HomeHere, pids_apart, home_here, pids_home}
use Rattle.cluster_core.proofs.absorbing.Telling.{Telling, telling}
use Rattle.cluster_core.proofs.absorbing.Counted.{lost_before}
use Rattle.cluster_core.proofs.absorbing.Fallen.{page_stays_queued}
use Rattle.cert_sched.specs.Told.{cluster_lost}
use Rattle.cluster_core.proofs.absorbing.Posted.{no_end}
use Rattle.cluster_core.proofs.absorbing.Following.{counted_foreign, may_end_still, post_may, Left, by_home_of, by_one, counted_left, letter_pids, page_queued, marked_own}
use Rattle.cluster_core.proofs.absorbing.Served.{accounts_next, foreign_no_answer, accounts_sent, ahead_after, plain_kind}
use Rattle.cluster_core.specs.Serving.{IsAheadThere, Serves}
use Rattle.page_server.specs.Account.{PagerState}
use Rattle.cluster_core.proofs.absorbing.Unmoved.{emission_same, state_same, silent_same}
use Rattle.cert_sched.specs.Simulation.{IsUnended}
use Rattle.page_waits.specs.Waiting.{WaitingState, is_whole, rolling_of, start_of, with_page}
use Rattle.replay_laws.proofs.forks.EitherWait.{so_alike}
use Rattle.cluster_core.specs.ForksAgain.{HoldsForks}
use Rattle.cluster_core.proofs.forks.ForksPaged.{forks_paged}
use Rattle.cluster_core.proofs.paging.Paged.{page_at, was_paged}
use Rattle.cluster_core.proofs.paging.Waiting.{has_come, waits_page, waits_come, come_marked}
use Rattle.cert_sched.specs.Moved.{is_fetch, is_page_is}
use Rattle.channel_table.specs.Changes.{pids_differ}
use Rattle.cluster_core.proofs.paging.HasPages.{pages_after, waits_after}
use Rattle.cluster_core.proofs.paging.PagePosts.{page_post_stays}
use Rattle.std.specs.Prelude.{option_map}
use Rattle.bus_msg.specs.declared.entry.What.TheVariants.{PageIs}
use Rattle.bus_msg.specs.declared.entry.By.TheVariants.{Cluster}
use Rattle.bus_msg.specs.declared.placed.Placed.{Placed}
use Rattle.proc_state.specs.declared.process.Process.{Process}
use Rattle.t32_base.specs.declared.process.Counts.{Counts}
use Rattle.cert_sched.specs.Account.{is_exit_of}
use Rattle.cluster_core.proofs.syncs.Marking.{marked_after, page_leaves, queue_tells}
use Rattle.quanta.specs.declared.limits.Limits.{Limits}
use Rattle.t32_base.specs.Small.{SmallState}
use Rattle.page_waits.specs.Begun.{begun}
use Rattle.roll_forward.specs.RunsOut.{nothing_left}
use Rattle.std.specs.Option.{option_map_or}
use Rattle.cluster_core.proofs.here.Within.{start_within}
use Rattle.cert_sched.proofs.CutLaws.{by_home_there}
use Rattle.cluster_core.proofs.working.KeptLimits.{told_within}
use Rattle.checkpoint_laws.proofs.limits.StayingLimits.{sent_stays}
use Rattle.cluster_core.specs.Standing.{has_begun}
use Rattle.cluster_core.proofs.awaiting.Awaited.{awaited_after, come_asked}
use Rattle.replay_laws.specs.forks.ForkWaits.{WaitsSo}

-- ---- what is here then

-- who goes on once all its pages have come has read nothing and made no step since its start
pub page_within : (limits : Limits) (w : What) (p : Pid) (h : Held) → is_of_page w ≡ true → IsHeldWithin limits h → IsHeldWithin limits (page_at w p h)
page_within limits w p h of within = by_page (λ w. IsHeldWithin limits (page_at w p h)) (λ pid index. within) (λ pid index bytes. by_pid index bytes (same_pid pid p)) w of
  where
    begins : (start : ProcState) (r : BackRec) (b : Bool) → IsHeldWithin limits (cond b (Runs (begun start r).process) (Rolls (begun start r).process r.counts r.births))
    begins start r true = start_within limits (begun start r).process refl refl
    begins start r false = tt

    goes : (w : WaitingState) (o : Option SmallState) → IsHeldWithin limits (option_map_or rolling_held (option_map (λ (small : SmallState). begun (start_of w small) w.kept) o) (Waits w))
    goes w None = tt
    goes w (Some small) = begins (start_of w small) w.kept (nothing_left (w.kept).counts (w.kept).births)

    comes : (w : WaitingState) (b : Bool) → IsHeldWithin limits (cond b (option_map_or rolling_held (rolling_of w) (Waits w)) (Waits w))
    comes w true = goes w (w.kept).state
    comes w false = tt

    by_held : (index : ℕ) (bytes : List ℕ) (h : Held) → IsHeldWithin limits h → IsHeldWithin limits (page_held index bytes h)
    by_held index bytes (Runs s) within = within
    by_held index bytes (Rolls s counts births) within = tt
    by_held index bytes (Waits waiting) within = comes (with_page index bytes waiting) (is_whole (with_page index bytes waiting))

    by_pid : (index : ℕ) (bytes : List ℕ) (b : Bool) → IsHeldWithin limits (cond b (page_held index bytes h) h)
    by_pid index bytes true = by_held index bytes h within
    by_pid index bytes false = within

pids_paged : (w : What) (here : List (Pid × Held)) → is_of_page w ≡ true → pids_in (here_after w here) ≡ pids_in here
pids_paged w here = by_page (λ w. pids_in (here_after w here) ≡ pids_in here) (λ pid index. refl) (λ pid index bytes. letter_pids (λ q. same_pid q pid) (λ h. page_held index bytes h) here) w

-- what the cluster is then
abbrev pub paged : ClusterView → Entry → ClusterView
paged c e = record c { cursor = c.cursor + 1; places = placed_after c.places (what e); here = here_after (what e) c.here; family = family_after (what e) c.family; owed = owed_after c.number c.places (what e) c.owed; steps = next_count c.steps }

pub page_taken : (c : ClusterView) (e : Entry) → is_of_page (what e) ≡ true → with_entry c e ≡ paged c e
page_taken c e =
    by_page (λ w. record c {
      cursor = c.cursor + 1;
      places = placed_after c.places w;
      here = with_all_waiting (moved_by c.places c.number w (records_after c.number w c.records)) (here_after w c.here);
      records = left_by c.places c.number w (records_after c.number w c.records);
      family = family_after w c.family;
      owed = owed_after c.number c.places w c.owed;
      steps = next_count c.steps;
    } ≡ record c { cursor = c.cursor + 1; places = placed_after c.places w; here = here_after w c.here; family = family_after w c.family; owed = owed_after c.number c.places w c.owed; steps = next_count c.steps }) (λ pid index. refl) (λ pid index bytes. refl) (what e)

module _ (system : System) (valid : is_system system ≡ true) (log : List Entry) (e : Entry) (of : is_of_page (what e) ≡ true) (now : IsOpen MayStand system log) (next : IsOpen MayStand system (log ++ e ∷ [])) where
  abbrev later : List Entry
  later = log ++ e ∷ []

  none : (k : Kernel) → items_of k (what e) ≡ []
  none k = by_page (λ w. items_of k w ≡ []) (λ pid index. refl) (λ pid index bytes. refl) (what e) of

  pub places_same : placement system later ≡ placement system log
  places_same = placement-snoc system log e ∙ by_page (λ w. placed_after (placement system log) w ≡ placement system log) (λ pid index. refl) (λ pid index bytes. refl) (what e) of

  differ : pids_differ (placement system log).placed ≡ true
  differ = pids_apart system log valid now.0

  unended_later : (p : Pid) → IsUnended system log p → IsUnended system later p
  unended_later p unended = ap (λ (places : Places). is_some (unended_at places p)) places_same ∙ unended

  -- it loses no cluster
  loses_none : (k : ClusterNo) → is_crash_of k (what e) ≡ false
  loses_none k = by_page (λ w. is_crash_of k w ≡ false) (λ pid index. refl) (λ pid index bytes. refl) (what e) of

  no_loss : cluster_lost (what e) ≡ None
  no_loss = by_page (λ w. cluster_lost w ≡ None) (λ pid index. refl) (λ pid index bytes. refl) (what e) of

  -- ---- the queue

  -- a post of the cluster that tells may follow after it
  post_stays : (k : ClusterNo) (post : Post) → is_from k post.by ≡ true → TellingMayStand system log (entry_of system log post) → TellingMayStand system later (entry_of system later post)
  post_stays k post own may =
      post_may system later post u.pid u.at u.emission u.after next.0 next.1 may.of_kind u.tells (emission_same system log e none u.pid u.at ∙ u.is) (ap (λ (places : Places). is_by_home places post.by (Some u.pid)) places_same ∙ u.by_home) keeps
      (waits_after system log e k post valid now.0 (IsLegal-last MayStand system log e next.0).stands differ (loses_none k) may.of_kind (ap (is_by_home (placement system log) post.by) u.process ∙ u.by_home) own may.pages)
      (may_end_still system log e (entry_of system log post) u.pid u.at u.emission post.what valid (all_stand system log now.0) (IsLegal-last MayStand system log e next.0).stands (by_page (λ w. deeds_in u.pid w ≡ []) (λ pid index. refl) (λ pid index bytes. refl) (what e) of) u.tells (may.stands).kind)
    where
      u : Telling system log (entry_of system log post)
      u = telling system log (entry_of system log post) may (no_end k (placement system log) post.by post.what may.of_kind own (may.stands).by_right)

      no_letter : all_delivered u.after (letter_for u.pid (what e)) ≡ u.after
      no_letter = by_page (λ w. all_delivered u.after (letter_for u.pid w) ≡ u.after) (λ pid index. refl) (λ pid index bytes. refl) (what e) of

      quiet : starts u.pid e ≡ false
      quiet = by_page (λ w. (is_cut u.pid w || is_birth_of u.pid w) ≡ false) (λ pid index. refl) (λ pid index bytes. refl) (what e) of

      keeps : keeps_limits system later u.pid u.after ≡ true
      keeps =
          subst (λ s. keeps_limits system later u.pid s ≡ true) no_letter
          (sent_stays system log e u.pid u.at u.emission u.after valid (all_stand system log now.0) (by_home_there (placement system log) post.by u.pid u.by_home) quiet u.is
          (told_within system log u.pid u.at u.emission u.after u.is post.what u.tells may.limits))

  queue_stays : (k : ClusterNo) (q : Queued) → AreTogether q → is_by_cluster k e ≡ false → list_all (λ (post : Post). is_from k post.by) (posts_of q) ≡ true → IsQueueLegal SentMayStand system log (posts_of q) → IsQueueLegal SentMayStand system later (posts_of q)
  queue_stays k Nothing together foreign own legal = tt
  queue_stays k (One post) together foreign own legal = (by_kind_of (lone_is post.what together), tt)
    where
      from : is_from k post.by ≡ true
      from = (and_parts (is_from k post.by) true own).0

      by_kind_of : (tells_or_closes post.what ≡ true) ⊎ (is_of_page post.what ≡ true) → SentMayStand system later (entry_of system later post)
      by_kind_of (inl tells) = may_told system later (entry_of system later post) (post_stays k post from (told_may system log (entry_of system log post) legal.0 tells))
      by_kind_of (inr page) = page_post_stays system valid log e k post now next foreign (loses_none k) from page (page_stays_queued (placement system log) (what e) post.what page no_loss) legal.0

  -- ---- the processes

  -- how the queues before and after it are alike for a process
  record QueuesAlike (before after : List Post) (p : Pid) : Type 0 where
    pub states : (steps : ℕ) → state_now system later after p steps ≡ state_now system log before p steps
    pub unmoved : move_of p before ≡ None → move_of p after ≡ None
    pub fetches : (i : ℕ) → is_fetch_queued p before i ≡ (is_fetch p i (what e) || is_fetch_queued p after i)

  -- one that runs stays what the log says
  runs_still : (before after : List Post) (p : Pid) (s : Process) → QueuesAlike before after p → IsHeldAs system log before p (Runs s) → IsHeldAs system later after p (Runs s)
  runs_still before after p s alike held = alike.states (s.small).steps ∙ held

  -- so does one that rolls forward
  rolls_still : (before after : List Post) (p : Pid) (s : Process) (counts : Counts) (births : List Pid) → IsUnended system log p → QueuesAlike before after p → IsHeldAs system log before p (Rolls s counts births) → IsHeldAs system later after p (Rolls s counts births)
  rolls_still before after p s counts births unended alike held = (alike.unmoved held.0, subst (λ t. RollsBehind system later p t counts births) no_letter behind)
    where
      behind : RollsBehind system later p (all_delivered (state_of s) (letter_for p (what e))) counts births
      behind =
          behind_standing system log e p MayStand standing (state_of s) counts births valid next.0 unended (by_page (λ w. is_cut p w ≡ false) (λ pid index. refl) (λ pid index bytes. refl) (what e) of) (by_page (λ w. deeds_in p w ≡ []) (λ pid index. refl) (λ pid index bytes. refl) (what e) of) held.1

      no_letter : all_delivered (state_of s) (letter_for p (what e)) ≡ state_of s
      no_letter = by_page (λ w. all_delivered (state_of s) (letter_for p w) ≡ state_of s) (λ pid index. refl) (λ pid index bytes. refl) (what e) of

  -- and one that waits, where the entry is no page of it
  held_still : (before after : List Post) (p : Pid) (h : Held) → IsUnended system log p → QueuesAlike before after p → ((i : ℕ) → is_page_is p i (what e) ≡ false) → IsHeldAs system log before p h → IsHeldAs system later after p h
  held_still before after p (Runs s) unended alike other held = runs_still before after p s alike held
  held_still before after p (Rolls s counts births) unended alike other held = rolls_still before after p s counts births unended alike held
  held_still before after p (Waits waiting) unended alike other held = waits_page system log e before after p waiting valid next.0 unended of other (alike.unmoved held.0) alike.fetches held.1

  -- where it is one, that comes to it
  held_come : (before after : List Post) (p : Pid) (i : ℕ) (bytes : List ℕ) (h : Held) → IsUnended system log p → QueuesAlike before after p → what e ≡ PageIs p i bytes → IsHeldAs system log before p h → IsHeldAs system later after p (page_held i bytes h)
  held_come before after p i bytes (Runs s) unended alike is held = runs_still before after p s alike held
  held_come before after p i bytes (Rolls s counts births) unended alike is held = rolls_still before after p s counts births unended alike held
  held_come before after p i bytes (Waits waiting) unended alike is held =
      waits_come system log e after p i bytes waiting valid next unended (unended_later p unended) is (alike.unmoved held.0)
      (so_alike system log p (is_fetch_queued p before) (is_fetch_queued p after) waiting (λ j. alike.fetches j ∙ ap (λ w. is_fetch p j w || is_fetch_queued p after j) is) held.1)

  -- one that runs goes on as it is
  still_runs : (p : Pid) (s : Process) → page_at (what e) p (Runs s) ≡ Runs s
  still_runs p s = by_page (λ w. page_at w p (Runs s) ≡ Runs s) (λ pid index. refl) (λ pid index bytes. either (same_pid pid p)) (what e) of
    where
      either : (b : Bool) → cond b (Runs s) (Runs s) ≡ Runs s
      either true = refl
      either false = refl

  held_after : (before after : List Post) (p : Pid) (was : Held) → IsUnended system log p → QueuesAlike before after p → IsHeldAs system log before p was → IsHeldAs system later after p (page_at (what e) p was)
  held_after before after p was unended alike held =
      by_page (λ w. what e ≡ w → IsHeldAs system later after p (page_at w p was))
      (λ pid index is. held_still before after p was unended alike (λ i. ap (is_page_is p i) is) held) (λ pid index bytes is. by_pid pid index bytes is (same_pid pid p) refl) (what e) of refl
    where
      by_pid : (pid : Pid) (index : ℕ) (bytes : List ℕ) → what e ≡ PageIs pid index bytes → (b : Bool) → same_pid pid p ≡ b → IsHeldAs system later after p (cond b (page_held index bytes was) was)
      by_pid pid index bytes is true own = held_come before after p index bytes was unended alike (is ∙ ap (λ q. PageIs q index bytes) (pid_same pid p (eqb-true pid.0 p.0 own))) held
      by_pid pid index bytes is false other = held_still before after p was unended alike (λ i. ap (is_page_is p i) is ∙ ap (λ b. b && eqb index i) other) held

  -- so it is for those of which it is asked
  held_of_them : (which : Pid → Bool) (before after : List Post) (p : Pid) (was : Held) → IsUnended system log p → QueuesAlike before after p → HeldOf which system log before p was → HeldOf which system later after p (page_at (what e) p was)
  held_of_them which before after p (Runs s) unended alike held = subst (HeldOf which system later after p) (sym (still_runs p s)) (λ passes. runs_still before after p s alike (held passes))
  held_of_them which before after p h unended alike held = any_of which system later after p (page_at (what e) p h) (held_after before after p h unended alike held)

  -- who runs or rolls forward then has its pages
  has_after : (before : List Post) (k : ClusterNo) (p : Pid) (was : Held) → HomeHere (placement system log) p k → WaitsAs system log before p was → (is_some (process_in was) ≡ true → has_its_pages system log p ≡ true) → is_some (process_in (page_at (what e) p was)) ≡ true
      → has_its_pages system later p ≡ true
  has_after before k p was home held pages = by_was was held pages
    where
      stays : has_its_pages system log p ≡ true → has_its_pages system later p ≡ true
      stays has = pages_after system log e p k valid now.0 (IsLegal-last MayStand system log e next.0).stands differ home (loses_none k) has

      come : (waiting : WaitingState) → IsHeldAs system log before p (Waits waiting) → (w : What) → is_of_page w ≡ true → what e ≡ w → is_some (process_in (page_at w p (Waits waiting))) ≡ true → has_its_pages system later p ≡ true
      come waiting held = by_page (λ w. what e ≡ w → is_some (process_in (page_at w p (Waits waiting))) ≡ true → has_its_pages system later p ≡ true) (λ pid index is runs. absurd (true≢false (sym runs))) (λ pid index bytes is. by_pid pid index bytes is (same_pid pid p) refl)
        where
          by_pid : (pid : Pid) (index : ℕ) (bytes : List ℕ) → what e ≡ PageIs pid index bytes → (b : Bool) → same_pid pid p ≡ b → is_some (process_in (cond b (page_held index bytes (Waits waiting)) (Waits waiting))) ≡ true → has_its_pages system later p ≡ true
          by_pid pid index bytes is true own runs = has_come system log e before p index bytes waiting valid next.0 (ap is_some home.found) (is ∙ ap (λ q. PageIs q index bytes) (pid_same pid p (eqb-true pid.0 p.0 own))) held.1 runs
          by_pid pid index bytes is false other runs = absurd (true≢false (sym runs))

      same : (h : Held) → page_at (what e) p h ≡ h → is_some (process_in (page_at (what e) p h)) ≡ true → is_some (process_in h) ≡ true
      same h is runs = ap (λ h. is_some (process_in h)) (sym is) ∙ runs

      rolls_same : (s : Process) (counts : Counts) (births : List Pid) → page_at (what e) p (Rolls s counts births) ≡ Rolls s counts births
      rolls_same s counts births = by_page (λ w. page_at w p (Rolls s counts births) ≡ Rolls s counts births) (λ pid index. refl) (λ pid index bytes. either (same_pid pid p)) (what e) of
        where
          either : (b : Bool) → cond b (Rolls s counts births) (Rolls s counts births) ≡ Rolls s counts births
          either true = refl
          either false = refl

      by_was : (was : Held) → WaitsAs system log before p was → (is_some (process_in was) ≡ true → has_its_pages system log p ≡ true) → is_some (process_in (page_at (what e) p was)) ≡ true → has_its_pages system later p ≡ true
      by_was (Runs s) held pages runs = stays (pages (same (Runs s) (still_runs p s) runs))
      by_was (Rolls s counts births) held pages runs = stays (pages (same (Rolls s counts births) (rolls_same s counts births) runs))
      by_was (Waits waiting) held pages runs = come waiting held (what e) of refl runs

  -- who runs or rolls forward then has its marks
  paged_marked : (before : List Post) (p : Pid) (was : Held) → IsUnended system log p → IsHeldAs system log before p was → MarkedIfThere CarriesMarks system later p (unended_process was) → MarkedIfThere CarriesMarks system later p (unended_process (page_at (what e) p was))
  paged_marked before p was unended held m =
      by_page (λ w. what e ≡ w → MarkedIfThere CarriesMarks system later p (unended_process (page_at w p was))) (λ pid index is. m) (λ pid index bytes is. by_pid pid index bytes is (same_pid pid p) refl) (what e) of refl
    where
      come : (index : ℕ) (bytes : List ℕ) → what e ≡ PageIs p index bytes → (h : Held) → IsHeldAs system log before p h → MarkedIfThere CarriesMarks system later p (unended_process h) → MarkedIfThere CarriesMarks system later p (unended_process (page_held index bytes h))
      come index bytes is (Waits waiting) held m = come_marked system log e before p index bytes waiting valid next.0 unended (unended_later p unended) is held.1
      come index bytes is _ held m = m

      by_pid : (pid : Pid) (index : ℕ) (bytes : List ℕ) → what e ≡ PageIs pid index bytes → (b : Bool) → same_pid pid p ≡ b → MarkedIfThere CarriesMarks system later p (unended_process (cond b (page_held index bytes was) was))
      by_pid pid index bytes is true own = come index bytes (is ∙ ap (λ q. PageIs q index bytes) (pid_same pid p (eqb-true pid.0 p.0 own))) was held m
      by_pid pid index bytes is false other = m

  -- ---- the queues

  -- an entry of another cluster asks for no page of a process that is at home here
  foreign_fetch : (k : ClusterNo) (p : Pid) (i : ℕ) → HomeHere (placement system log) p k → is_by_cluster k e ≡ false → is_fetch p i (what e) ≡ false
  foreign_fetch k p i home foreign = by_page (λ w. is_by_right (placement system log) (e.post).by w ≡ true → is_fetch p i w ≡ false) (λ pid index right. by_pid pid index right (same_pid pid p) refl) (λ pid index bytes right. refl) (what e) of ((IsLegal-last MayStand system log e next.0).stands).by_right
    where
      by_pid : (pid : Pid) (index : ℕ) → is_by_home (placement system log) (e.post).by (Some pid) ≡ true → (b : Bool) → same_pid pid p ≡ b → (b && eqb index i) ≡ false
      by_pid pid index right true own =
          let at_home : home_at (placement system log) pid ≡ Some (home.placed).home = ap (home_at (placement system log)) (pid_same pid p (eqb-true pid.0 p.0 own)) ∙ ap (option_map (λ (q : Placed). q.home)) home.found in
          let by : is_by (e.post).by (Some (home.placed).home) ≡ true = subst (λ h. is_by (e.post).by h ≡ true) at_home (by_home_of (placement system log) (e.post).by pid right) in
          absurd (true≢false (sym (by_one k (Cluster (home.placed).home) (e.post).by (Some (home.placed).home) (eq-eqb ((home.placed).home).0 ((home.placed).home).0 refl) by home.home) ∙ foreign))
      by_pid pid index right false other = refl

  alike_foreign : (k : ClusterNo) (q : Queued) (p : Pid) → HomeHere (placement system log) p k → is_by_cluster k e ≡ false → AreTogether q → QueuesAlike (posts_of q) (posts_of q) p
  alike_foreign k q p home foreign together = record {
    states = λ steps. state_same system log e none q p steps together;
    unmoved = λ unmoved. unmoved;
    fetches = λ i. ap (λ b. b || is_fetch_queued p (posts_of q) i) (sym (foreign_fetch k p i home foreign));
  }

  -- what the cluster sent itself was its only post
  alike_own : (p : Pid) → QueuesAlike (e.post ∷ []) [] p
  alike_own p = record {
    states = λ steps. silent_same system log e none p steps ∙ sym (ap (state_by system log p steps) (page_queued p e.post of));
    unmoved = λ unmoved. refl;
    fetches = λ i. refl;
  }

  -- ---- the whole

  records_stay : (k : ClusterNo) (recs : List BackRec) → KeepsRecords system log k recs → KeepsRecords system later k recs
  records_stay k recs keeps =
      subst (KeepsRecords system later k) (by_page (λ w. records_after k w recs ≡ recs) (λ pid index. refl) (λ pid index bytes. refl) (what e) of)
      (records_kept system log e k recs valid (all_stand system later next.0) (by_page (λ w. changes_in_place w ≡ true) (λ pid index. refl) (λ pid index bytes. refl) (what e) of) keeps)

  once_stays : (k : ClusterNo) (here : List (Pid × Held)) → rising (pids_in here) ≡ rising (home_pids system log k) → rising (pids_in (here_after (what e) here)) ≡ rising (home_pids system later k)
  once_stays k here once = ap rising (pids_paged (what e) here of) ∙ once ∙ ap (λ (places : Places). rising (pids_home k places.placed)) (sym places_same)

  limits_after : (c : ClusterView) → HoldsLimits system c → (p : Pid) (h : Held) → held_of (here_after (what e) c.here) p ≡ Some h → IsHeldWithin (limits_of system) h
  limits_after c limits p h at =
      let before = was_paged (what e) c.here p h of at in
      subst (IsHeldWithin (limits_of system)) (sym before.same) (page_within (limits_of system) (what e) p before.was of (limits p before.was before.there))

  places_after : (places : Places) → places ≡ placement system log → placed_after places (what e) ≡ placement system later
  places_after places same = ap (λ places. placed_after places (what e)) same ∙ sym (placement-snoc system log e)

  home_of : (k : ClusterNo) (here : List (Pid × Held)) (p : Pid) (h : Held) → rising (pids_in here) ≡ rising (home_pids system log k) → held_of here p ≡ Some h → HomeHere (placement system log) p k
  home_of k here p h once there = home_here (placement system log) k (pids_in here) p differ once (is_among here p h there)

  -- who has begun then had before: a page comes to a process that has asked for it
  begun_before : (queued : ℕ → Bool) (p : Pid) (was : Held) → ((w : WaitingState) → was ≡ Waits w → WaitsSo system log p queued w) → has_begun (page_at (what e) p was) ≡ true → has_begun was ≡ true
  begun_before queued p was waits =
      by_page (λ w. what e ≡ w → has_begun (page_at w p was) ≡ true → has_begun was ≡ true) (λ pid index is begun. begun) (λ pid index bytes is. by_pid pid index bytes is (same_pid pid p) refl) (what e) of refl
    where
      comes : (h : Held) (i : ℕ) (bytes : List ℕ) → what e ≡ PageIs p i bytes → ((w : WaitingState) → h ≡ Waits w → WaitsSo system log p queued w) → has_begun h ≡ true
      comes (Waits w) i bytes is so = come_asked system log e p i bytes queued w valid next.0 is (so w refl)
      comes _ i bytes is so = refl

      by_pid : (pid : Pid) (index : ℕ) (bytes : List ℕ) → what e ≡ PageIs pid index bytes → (b : Bool) → same_pid pid p ≡ b → has_begun (cond b (page_held index bytes was) was) ≡ true → has_begun was ≡ true
      by_pid pid index bytes is true own begun = comes was index bytes (is ∙ ap (λ q. PageIs q index bytes) (pid_same pid p (eqb-true pid.0 p.0 own))) waits
      by_pid pid index bytes is false other begun = begun

  -- so it waits for no new backup still
  backups_after : (k : ClusterNo) (queue : List Post) (p : Pid) (was h : Held) → HomeHere (placement system log) p k → WaitsAs system log queue p was → h ≡ page_at (what e) p was → (has_begun was ≡ true → has_awaited_backup system log p ≡ true)
      → has_begun h ≡ true → has_awaited_backup system later p ≡ true
  backups_after k queue p was h home waits same backups begun =
      awaited_after system log e p k valid now.0 ((IsLegal-last MayStand system log e next.0).stands) differ home (loses_none k)
      (backups (begun_before (is_fetch_queued p queue) p was (λ w is. (subst (WaitsAs system log queue p) is waits).1) (ap has_begun (sym same) ∙ begun)))

  pub follows_page : (which : Pid → Bool) (c : ClusterView) (server : Option PagerState) → Serves (placement system log) e c.server server → FollowsBeside which system log c → is_by_cluster c.number e ≡ false
      → FollowsBeside which system later (with_server server (with_entry c e))
  follows_page which c server serves f foreign = subst (λ v. FollowsBeside which system later (with_server server v)) (sym (page_taken c e of)) (record {
    log = record {
      cursor = ap (λ m. m + 1) (f.log).cursor ∙ sym (length-append log (e ∷ []));
      places = places_after c.places (f.log).places;
    };
    processes = record { held = held; each_once = once_stays c.number c.here once };
    queue = record {
      own = (f.queue).own;
      legal = legal_still;
    };
    queued = f.queued;
    steps = record { counted = λ kept. counted_foreign c log e foreign ((f.steps).counted (lost_before log e c.number kept)) };
    limits = limits_after c f.limits;
    pages = pages;
    marks = marks;
    family = family_next system log e c.family valid now next f.family;
    owed = owed_next system log e c.number c.places c.owed valid next (f.log).places (loses_none c.number) f.owed;
    backups = backups;
    forks = forks_paged system valid log e now.0 next.0 of c.queue c.family c.here f.family (λ p h there. waits_as which system log c.queue p h ((f.processes).held p h there)) f.forks;
    records = records_stay c.number c.records f.records;
    accounts = accounts_next system log e c (with_server server (paged c e)) q (foreign_no_answer c.number e foreign) serves refl queue_is queue_is (f.queued).together f.accounts;
    disk = ((f.disk).0, ahead_after (placement system log) e c.server server serves (f.disk).1);
  })
    where
      q : Queued
      q = (f.queued).queued

      queue_is : c.queue ≡ posts_of q
      queue_is = (f.queued).posts

      once : rising (pids_in c.here) ≡ rising (home_pids system log c.number)
      once = (f.processes).each_once

      posts_own : list_all (λ (post : Post). is_from c.number post.by) (posts_of q) ≡ true
      posts_own = subst (λ ps. list_all (λ (post : Post). is_from c.number post.by) ps ≡ true) queue_is (f.queue).own

      posts_legal : IsQueueLegal SentMayStand system log (posts_of q)
      posts_legal = subst (IsQueueLegal SentMayStand system log) queue_is (f.queue).legal

      legal_still : IsQueueLegal SentMayStand system later c.queue
      legal_still = subst (IsQueueLegal SentMayStand system later) (sym queue_is) (queue_stays c.number q (f.queued).together foreign posts_own posts_legal)

      held : (p : Pid) (h : Held) → held_of (here_after (what e) c.here) p ≡ Some h → HeldOf which system later c.queue p h
      held p h at =
          let before = was_paged (what e) c.here p h of at in
          let home = home_of c.number c.here p before.was once before.there in
          let was : HeldOf which system log (posts_of q) p before.was = subst (λ ps. HeldOf which system log ps p before.was) queue_is ((f.processes).held p before.was before.there) in
          subst (λ ps. HeldOf which system later ps p h) (sym queue_is)
          (subst (λ x. HeldOf which system later (posts_of q) p x) (sym before.same) (held_of_them which (posts_of q) (posts_of q) p before.was (ap is_some home.found) (alike_foreign c.number q p home foreign (f.queued).together) was))

      marks : (p : Pid) (h : Held) → held_of (here_after (what e) c.here) p ≡ Some h → which p ≡ true → MarkedIfThere CarriesMarks system (with_queue system later c.queue) p (unended_process h)
      marks p h at among =
          let before = was_paged (what e) c.here p h of at in
          let home = home_of c.number c.here p before.was once before.there in
          let unended = ap is_some home.found in
          let was : IsHeldAs system log (posts_of q) p before.was = subst (λ ps. IsHeldAs system log ps p before.was) queue_is (one_of_them which system log c.queue p before.was among ((f.processes).held p before.was before.there)) in
          let comes : MarkedIfThere CarriesMarks system later p (unended_process before.was) → MarkedIfThere CarriesMarks system later p (unended_process h) =
          λ m. subst (λ x. MarkedIfThere CarriesMarks system later p (unended_process x)) (sym before.same) (paged_marked (posts_of q) p before.was unended was m) in
          subst (λ ps. MarkedIfThere CarriesMarks system (with_queue system later ps) p (unended_process h)) (sym queue_is)
          (marked_after system log e p q before.was h valid (all_stand system later next.0) unended (unended_later p unended) (f.queued).together
          (queue_tells system log c.number q posts_own posts_legal) (queue_tells system later c.number q posts_own (queue_stays c.number q (f.queued).together foreign posts_own posts_legal))
          was (subst (λ ps. IsHeldAs system later ps p h) queue_is (one_of_them which system later c.queue p h among (held p h at))) (page_leaves system log p (what e) of) no_exit comes
          (subst (λ ps. MarkedIfThere CarriesMarks system (with_queue system log ps) p (unended_process before.was)) queue_is (f.marks p before.was before.there among)))
        where
          no_exit : is_exit_of p (what e) ≡ false
          no_exit = by_page (λ w. is_exit_of p w ≡ false) (λ pid index. refl) (λ pid index bytes. refl) (what e) of

      pages : (p : Pid) (h : Held) → held_of (here_after (what e) c.here) p ≡ Some h → is_some (process_in h) ≡ true → has_its_pages system later p ≡ true
      pages p h at runs =
          let before = was_paged (what e) c.here p h of at in
          has_after c.queue c.number p before.was (home_of c.number c.here p before.was once before.there) (waits_as which system log c.queue p before.was ((f.processes).held p before.was before.there)) (f.pages p before.was before.there) (ap (λ x. is_some (process_in x)) (sym before.same) ∙ runs)

      backups : (p : Pid) (h : Held) → held_of (here_after (what e) c.here) p ≡ Some h → has_begun h ≡ true → has_awaited_backup system later p ≡ true
      backups p h at =
          let before = was_paged (what e) c.here p h of at in
          backups_after c.number c.queue p before.was h (home_of c.number c.here p before.was once before.there) (waits_as which system log c.queue p before.was ((f.processes).held p before.was before.there)) before.same
          (f.backups p before.was before.there)

  pub follows_own_page : (c : ClusterView) (l : Left c log e) (server : Option PagerState) → system ≡ c.system → Serves (placement system log) e c.server server → Follows system later (with_server server (with_entry c e))
  follows_own_page c l server system_is serves = subst (λ v. Follows system later (with_server server v)) (sym (page_taken c e of)) (record {
    log = record {
      cursor = ap (λ m. m + 1) (ap (λ (d : ClusterView). d.cursor) l.same ∙ (f.log).cursor) ∙ sym (length-append log (e ∷ []));
      places = places_after c.places (ap (λ (d : ClusterView). d.places) l.same ∙ (f.log).places);
    };
    processes = record { held = λ p h at. subst (λ ps. IsHeldAs system later ps p h) (sym empty) (held p h at); each_once = once_stays c.number c.here once };
    queue = record {
      own = ap (λ ps. list_all (λ (post : Post). is_from c.number post.by) ps) empty;
      legal = subst (IsQueueLegal SentMayStand system later) (sym empty) tt;
    };
    queued = inl (record { queued = Nothing; posts = empty; together = tt });
    steps = record { counted = counted_left c log e l };
    limits = limits_after c (subst (λ hs. (p : Pid) (h : Held) → held_of hs p ≡ Some h → IsHeldWithin (limits_of system) h) here f.limits);
    pages = pages;
    marks = λ p h at. subst (λ ps. MarkedIfThere CarriesMarks system (with_queue system later ps) p (unended_process h)) (sym empty) (marks p h at);
    family = family_next system log e c.family valid now next (ap (λ (d : ClusterView). d.family) l.same ∙ f.family);
    owed = owed_next system log e c.number c.places c.owed valid next (ap (λ (d : ClusterView). d.places) l.same ∙ (f.log).places) (loses_none c.number) (subst (HoldsOwed system log) (sym l.same) f.owed);
    backups = backups;
    forks = forks_paged system valid log e now.0 next.0 of (e.post ∷ []) c.family c.here (ap (λ (d : ClusterView). d.family) l.same ∙ f.family) (λ p h there. told_waits system log (e.post ∷ []) p h (was_held p h there)) (subst HoldsForks (sym l.same) f.forks);
    records = records_stay c.number c.records (subst (λ recs. KeepsRecords system log c.number recs) (sym (ap (λ (d : ClusterView). d.records) l.same)) (subst (λ k. KeepsRecords system log k (l.before).records) number f.records));
    accounts =
        accounts_sent system log e l.before (with_server server (paged c e)) (plain_kind (what e) l.lone) (subst (λ old. Serves (placement system log) e old server) (ap (λ (d : ClusterView). d.server) l.same) serves) (sym number) l.posts empty f.accounts;
    disk = (ap (λ (d : ClusterView). d.failed) l.same ∙ (f.disk).0, ahead_after (placement system log) e c.server server serves (subst IsAheadThere (sym (ap (λ (d : ClusterView). d.server) l.same)) (f.disk).1));
  })
    where
      f : Follows system log l.before
      f = subst (λ s. Follows s log l.before) (sym system_is) l.followed

      empty : c.queue ≡ []
      empty = ap (λ (d : ClusterView). d.queue) l.same

      number : (l.before).number ≡ c.number
      number = sym (ap (λ (d : ClusterView). d.number) l.same)

      here : (l.before).here ≡ c.here
      here = sym (ap (λ (d : ClusterView). d.here) l.same)

      once : rising (pids_in c.here) ≡ rising (home_pids system log c.number)
      once = ap (λ hs. rising (pids_in hs)) (sym here) ∙ (f.processes).each_once ∙ ap (λ k. rising (home_pids system log k)) number

      was_held : (p : Pid) (h : Held) → held_of c.here p ≡ Some h → IsHeldAs system log (e.post ∷ []) p h
      was_held p h there = subst (λ ps. IsHeldAs system log ps p h) l.posts ((f.processes).held p h (ap (λ hs. held_of hs p) here ∙ there))

      held : (p : Pid) (h : Held) → held_of (here_after (what e) c.here) p ≡ Some h → IsHeldAs system later [] p h
      held p h at =
          let before = was_paged (what e) c.here p h of at in
          let home = home_of c.number c.here p before.was once before.there in
          subst (λ x. IsHeldAs system later [] p x) (sym before.same) (held_after (e.post ∷ []) [] p before.was (ap is_some home.found) (alike_own p) (was_held p before.was before.there))

      marks : (p : Pid) (h : Held) → held_of (here_after (what e) c.here) p ≡ Some h → MarkedIfThere CarriesMarks system later p (unended_process h)
      marks p h at =
          let before = was_paged (what e) c.here p h of at in
          let home = home_of c.number c.here p before.was once before.there in
          let was : MarkedIfThere CarriesMarks system later p (unended_process before.was) =
          subst (λ s. MarkedIfThere CarriesMarks s later p (unended_process before.was)) (sym system_is) (marked_own c log e l l.lone p before.was before.there) in
          subst (λ x. MarkedIfThere CarriesMarks system later p (unended_process x)) (sym before.same) (paged_marked (e.post ∷ []) p before.was (ap is_some home.found) (was_held p before.was before.there) was)

      pages : (p : Pid) (h : Held) → held_of (here_after (what e) c.here) p ≡ Some h → is_some (process_in h) ≡ true → has_its_pages system later p ≡ true
      pages p h at runs =
          let before = was_paged (what e) c.here p h of at in
          has_after (e.post ∷ []) c.number p before.was (home_of c.number c.here p before.was once before.there) (told_waits system log (e.post ∷ []) p before.was (was_held p before.was before.there)) (f.pages p before.was (ap (λ hs. held_of hs p) here ∙ before.there))
          (ap (λ x. is_some (process_in x)) (sym before.same) ∙ runs)

      backups : (p : Pid) (h : Held) → held_of (here_after (what e) c.here) p ≡ Some h → has_begun h ≡ true → has_awaited_backup system later p ≡ true
      backups p h at =
          let before = was_paged (what e) c.here p h of at in
          backups_after c.number (e.post ∷ []) p before.was h (home_of c.number c.here p before.was once before.there) (told_waits system log (e.post ∷ []) p before.was (was_held p before.was before.there)) before.same
          (f.backups p before.was (ap (λ hs. held_of hs p) here ∙ before.there))
