-- A cluster that takes in a post of its own batch goes on to follow the log: a page of the process that synchronises, or the cut at the end of the batch.
use Rattle.std.proofs.Common.{◌≡◌, ℕ, ◌+◌, refl, sym, ◌∙◌, ap, subst, arith, List, [], ◌∷◌, ◌++◌, length-append, Bool, true, false, cond, eqb-true, eq-eqb, Option, Some, None, true≢false, inl, inr}
use Rattle.std.specs.Prelude.{◌≢◌, option_map}
use Rattle.std.specs.List.{list_all}
use Rattle.std.proofs.lemmas.Bool.{and_parts}
use Rattle.std.proofs.lemmas.Option.{same_Some}
use Rattle.t32_base.specs.declared.process.Pid.{Pid}
use Rattle.t32_base.specs.declared.process.ClusterNo.{ClusterNo}
use Rattle.sys_text.specs.declared.system.System.{System}
use Rattle.sys_text.specs.Valid.{is_system}
use Rattle.proc_state.specs.declared.process.Process.{Process}
use Rattle.proc_state.specs.State.{ProcState, state_of}
use Rattle.bus_msg.specs.declared.entry.Entry.{Entry}
use Rattle.bus_msg.specs.declared.entry.Post.{Post}
use Rattle.bus_msg.specs.Places.{Places, same_pid}
use Rattle.bus_msg.specs.PlacedAfter.{placed_after, what}
use Rattle.cert_sched.specs.Appended.{entry_of}
use Rattle.cert_sched.specs.Legal.{MayStand}
use Rattle.cluster_core.specs.Sent.{SentMayStand}
use Rattle.cert_sched.specs.Losses.{is_from, is_page_entry, least_calls}
use Rattle.cert_sched.specs.Parts.{rising}
use Rattle.cert_sched.specs.Rests.{home_pids}
use Rattle.cert_sched.specs.Schedule.{placement}
use Rattle.cert_sched.specs.Steps.{process_of}
use Rattle.cert_sched.proofs.LogLaws.{placement-snoc}
use Rattle.checkpoint_laws.proofs.posts.CutEntry.{cut_process}
use Rattle.checkpoint_laws.specs.batches.Underway.{BatchMay, page_left, posts_left, sync_left}
use Rattle.checkpoint_laws.proofs.batches.PageSent.{page_sent}
use Rattle.checkpoint_laws.proofs.batches.RestMarks.{last_cuts}
use Rattle.page_server.specs.Account.{PagerState}
use Rattle.page_waits.specs.Waiting.{WaitingState}
use Rattle.cluster_core.specs.View.{ClusterView, after_sent, head_of, held_at, with_server}
use Rattle.residents.specs.Held.{Held, Runs, Waits}
use Rattle.residents.specs.Residents.{pids_in}
use Rattle.cluster_core.specs.Parts.{AllOwn}
use Rattle.cluster_core.specs.Queue.{Nothing, IsQueueLegal, is_rebackup, move_of, state_by, state_now, with_queue}
use Rattle.cluster_core.specs.Holds.{IsHeldAs, is_fetch_queued, CarriesMarks, MarkedIfThere, unended_process}
use Rattle.cluster_core.specs.Syncing.{Synchronises}
use Rattle.cluster_core.specs.Follows.{Follows, IsOpen, QueuedIn, StandsBetween}
use Rattle.cluster_core.specs.Calls.{with_entry}
use Rattle.cluster_core.specs.Serving.{Serves}
use Rattle.cluster_core.proofs.births.FamilyNext.{family_next}
use Rattle.cluster_core.proofs.awaiting.OwedNext.{owed_next}
use Rattle.cluster_core.proofs.syncs.BatchPosts.{batch_fetches_none, batch_moves, batch_moves_other}
use Rattle.cluster_core.proofs.absorbing.ByKind.{by_sync, is_of_sync}
use Rattle.cluster_core.proofs.absorbing.Counted.{count_by-snoc, lost_before}
use Rattle.cluster_core.proofs.absorbing.Following.{counted_own}
use Rattle.cluster_core.proofs.paging.HasPages.{pages_after}
use Rattle.cluster_core.proofs.here.Here.{is_among}
use Rattle.residents.proofs.Changing.{pid_same}
use Rattle.cluster_core.proofs.losses.Homes.{HomeHere, home_here}
use Rattle.cluster_core.proofs.here.Owning.{own_at}
use Rattle.cluster_core.proofs.absorbing.Served.{accounts_on, ahead_after, brought}
use Rattle.cluster_core.proofs.absorbing.Spared.{passed}
use Rattle.cluster_core.proofs.syncs.Synchronising.{s as tells, differ, held_still, loses_none, pids_same, records_stay, stands, sync_taken}
use Rattle.cluster_core.proofs.absorbing.Telling.{at_once}
use Rattle.cluster_core.proofs.forks.ForksAgain.{forks_synced}
use Rattle.checkpoint_laws.proofs.limits.RestLimits.{page_leaves_sync}
use Rattle.cluster_core.proofs.syncs.Batching.{batch_state, held_alike}
use Rattle.cluster_core.proofs.awaiting.Awaited.{awaited_after}

-- ---- what a batch leaves of the other processes

-- posts that tell of no other process, and ask for no page
pub record AsideOf (p : Pid) (posts : List Post) : Type 0 where
  pub moves : (q : Pid) → same_pid p q ≡ false → move_of q posts ≡ None
  pub fetches : (q : Pid) (i : ℕ) → is_fetch_queued q posts i ≡ false

-- what is held of another process is what the log says without them
unqueued : (system : System) (log : List Entry) (p q : Pid) (posts : List Post) (h : Held) → AsideOf p posts → same_pid p q ≡ false → IsHeldAs system log posts q h → IsHeldAs system log [] q h
unqueued system log p q posts h aside apart held = held_alike system log posts [] q h (aside.moves q apart) refl (aside.fetches q) held

-- and with them
requeued : (system : System) (log : List Entry) (p q : Pid) (posts : List Post) (h : Held) → AsideOf p posts → same_pid p q ≡ false → IsHeldAs system log [] q h → IsHeldAs system log posts q h
requeued system log p q posts h aside apart held = held_alike system log [] posts q h refl (aside.moves q apart) (λ i. sym (aside.fetches q i)) held

none_aside : (p : Pid) → AsideOf p []
none_aside p = record { moves = λ q apart. refl; fetches = λ q i. refl }

-- so are those that are left of a batch
batch_aside : (k : ClusterNo) (p : Pid) (s : ProcState) (read : List ℕ) (took : Option ℕ) (indices : List ℕ) → AsideOf p (posts_left k p s read took indices)
batch_aside k p s read took indices = record { moves = λ q. batch_moves_other k p s read took q indices; fetches = λ q i. batch_fetches_none k p s read took q i indices }

-- ---- the head of a batch in the log

-- a cluster whose head was sent has the rest
abbrev pub left : ClusterView → List Post → ClusterView
left b rest = record b { queue = rest; tried = false }

module _ (system : System) (valid : is_system system ≡ true) (log : List Entry) (b : ClusterView) (f : Follows system log b) (tried : b.tried ≡ true) (own : AllOwn b.cursor b.here) (p : Pid) (process : Process) (there : held_at b p ≡ Some (Runs process)) (head : Post) (rest : List Post) (posts : b.queue ≡ head ∷ rest) (of : is_of_sync head.what ≡ true) (told : process_of head.what ≡ Some p)
    (now : IsOpen MayStand system log) (next : IsOpen MayStand system (log ++ entry_of system log head ∷ [])) where
  abbrev e : Entry
  e = entry_of system log head

  abbrev later : List Entry
  later = log ++ e ∷ []

  -- it is no new backup, so the log with the queue stays
  same_whole : with_queue system log b.queue ≡ with_queue system later rest
  same_whole =
      ap (with_queue system log) posts
      ∙ ap (λ plain. cond plain (with_queue system log rest) (with_queue system later rest)) (by_sync (λ w. is_rebackup w ≡ false) (λ pid at index bytes. refl) (λ pid small read took. refl) head.what of)

  once : rising (pids_in b.here) ≡ rising (home_pids system log b.number)
  once = (f.processes).each_once

  home : (q : Pid) (h : Held) → held_at b q ≡ Some h → HomeHere (placement system log) q b.number
  home q h at = home_here (placement system log) b.number (pids_in b.here) q (differ system valid log e of now next) once (is_among b.here q h at)

  mine : (q : Pid) (h : Held) → held_at b q ≡ Some h → (waiting : WaitingState) → h ≡ Waits waiting → (waiting.kept).pid ≡ q
  mine q h at waiting is = (own_at b.cursor b.here q (Waits waiting) own (at ∙ ap Some is)).pid_is

  -- who is not the process that synchronises
  other : (q : Pid) → same_pid p q ≡ false → q.0 ≢ ((tells system valid log e of now next).pid).0
  other q apart same =
      let of_it : (tells system valid log e of now next).pid ≡ p = same_Some (tells system valid log e of now next).pid p (sym (tells system valid log e of now next).process ∙ told) in
      true≢false (sym (eq-eqb p.0 q.0 (sym (same ∙ ap (λ (r : Pid). r.0) of_it))) ∙ apart)

  -- what is held stays what the log says
  held : AsideOf p (head ∷ rest) → AsideOf p rest → state_now system later rest p (process.small).steps ≡ Some (state_of process) → (q : Pid) (h : Held) → held_at b q ≡ Some h → IsHeldAs system later rest q h
  held aside_all aside runs q h at = by_pid (same_pid p q) refl
    where
      by_pid : (same : Bool) → same_pid p q ≡ same → IsHeldAs system later rest q h
      by_pid true is =
          let me : p ≡ q = pid_same p q (eqb-true p.0 q.0 is) in
          let running : Runs process ≡ h = same_Some (Runs process) h (sym there ∙ ap (held_at b) me ∙ at) in
          subst (λ h. IsHeldAs system later rest q h) running (subst (λ r. state_now system later rest r (process.small).steps ≡ Some (state_of process)) me runs)
      by_pid false is =
          requeued system later p q rest h aside is
          (held_still system valid log e of now next b.number Nothing q h tt (home q h at) (other q is) (mine q h at)
          (unqueued system log p q (head ∷ rest) h aside_all is (subst (λ ps. IsHeldAs system log ps q h) posts ((f.processes).held q h at))))

  -- the least calls of its disk rise by a page
  calls : least_calls system later (with_queue system later rest) b.number ≡ least_calls system log (with_queue system log b.queue) b.number + brought e
  calls =
      let same = ap (λ sent. least_calls system log sent b.number) same_whole in
      let pages = count_by-snoc (λ (e : Entry). is_page_entry (what e)) log e in
      omega (arith, same, pages)

  pub follows_head : (server : Option PagerState) → Serves (placement system log) e b.server server → AsideOf p (head ∷ rest) → AsideOf p rest → state_now system later rest p (process.small).steps ≡ Some (state_of process)
      → QueuedIn system later (with_server server (passed (left b rest) e)) → Follows system later (with_server server (passed (left b rest) e))
  follows_head server serves aside_all aside runs queued = record {
    log = record {
      cursor = ap (λ m. m + 1) (f.log).cursor ∙ sym (length-append log (e ∷ []));
      places = ap (λ (places : Places). placed_after places (what e)) (f.log).places ∙ sym (placement-snoc system log e);
    };
    processes = record { held = held aside_all aside runs; each_once = once ∙ ap rising (sym (pids_same system valid log e of now next b.number)) };
    queue = record {
      own = (and_parts (is_from b.number head.by) _ (subst (λ ps. list_all (λ (post : Post). is_from b.number post.by) ps ≡ true) posts (f.queue).own)).1;
      legal = (subst (IsQueueLegal SentMayStand system log) posts (f.queue).legal).1;
    };
    queued = queued;
    steps = record { counted = λ kept. counted_own system log e b.number b.tried b.steps tried ((f.steps).counted (lost_before log e b.number kept)) };
    limits = f.limits;
    pages = λ q h at runs. pages_after system log e q b.number valid now.0 (stands system valid log e of now next) (differ system valid log e of now next) (home q h at) (loses_none system valid log e of now next b.number) (f.pages q h at runs);
    marks = λ q h at. subst (λ whole. MarkedIfThere CarriesMarks system whole q (unended_process h)) same_whole (f.marks q h at);
    family = family_next system log e b.family valid now next f.family;
    owed = owed_next system log e b.number b.places b.owed valid next (f.log).places (loses_none system valid log e of now next b.number) f.owed;
    backups = λ q h at begun. awaited_after system log e q b.number valid now.0 (stands system valid log e of now next) (differ system valid log e of now next) (home q h at) (loses_none system valid log e of now next b.number) (f.backups q h at begun);
    forks = forks_synced (what e) b.family b.here of f.forks;
    records = records_stay system valid log e of now next b.number b.records f.records;
    accounts = accounts_on system log e b (with_server server (passed (left b rest) e)) serves refl calls f.accounts;
    disk = ((f.disk).0, ahead_after (placement system log) e b.server server serves (f.disk).1);
  }

-- ---- the whole

-- After the entry that the head of its batch became, a cluster follows the log with it: it has the rest of the batch to send, or nothing once that was the cut.
pub follows_own_batch : (c : ClusterView) (log : List Entry) (e : Entry) (server : Option PagerState) → is_system c.system ≡ true → AllOwn c.cursor c.here → IsOpen MayStand c.system log → IsOpen MayStand c.system (log ++ e ∷ [])
    → (s : StandsBetween Follows c.system log e c) → Synchronises c.system log s.before → Serves (placement c.system log) e c.server server → Follows c.system (log ++ e ∷ []) (with_server server (with_entry c e))
follows_own_batch c log e server valid own now next s y serves = by_indices y.indices y.posts y.may
  where
    system : System
    system = c.system

    b : ClusterView
    b = s.before

    state : ProcState
    state = state_of y.process

    -- the entry is the head of its queue, and the cluster has the rest
    from_head : (head : Post) (rest : List Post) → b.queue ≡ head ∷ rest → after_sent b (head ∷ rest) ≡ left b rest → is_of_sync head.what ≡ true → process_of head.what ≡ Some y.pid → AsideOf y.pid (head ∷ rest) → AsideOf y.pid rest
        → state_now system (log ++ entry_of system log head ∷ []) rest y.pid ((y.process).small).steps ≡ Some state
        → QueuedIn system (log ++ entry_of system log head ∷ []) (with_server server (passed (left b rest) (entry_of system log head)))
        → Follows system (log ++ e ∷ []) (with_server server (with_entry c e))
    from_head head rest posts sent of told aside_all aside runs queued =
        subst (λ x. Follows system (log ++ x ∷ []) (with_server server (with_entry c x))) whole
        (subst (λ v. Follows system (log ++ entry_of system log head ∷ []) (with_server server (with_entry v (entry_of system log head)))) (sym same)
        (subst (λ v. Follows system (log ++ entry_of system log head ∷ []) (with_server server v)) (sym (sync_taken (left b rest) (entry_of system log head) of))
        (follows_head system valid log b s.followed s.tried (subst (λ (v : ClusterView). AllOwn v.cursor v.here) same own) y.pid y.process y.there head rest posts of told now (subst (λ x. IsOpen MayStand system (log ++ x ∷ [])) (sym whole) next)
        server (subst (λ x. Serves (placement system log) x b.server server) (sym whole) (subst (λ (v : ClusterView). Serves (placement system log) e v.server server) same serves)) aside_all aside runs queued)))
      where
        whole : entry_of system log head ≡ e
        whole = same_Some (entry_of system log head) e (ap (λ ps. option_map (entry_of system log) (head_of ps)) (sym posts) ∙ s.head)

        same : c ≡ left b rest
        same = s.sent ∙ ap (after_sent b) posts ∙ sent

    by_indices : (indices : List ℕ) → b.queue ≡ posts_left b.number y.pid state y.read y.took indices → BatchMay system log b.number y.pid state y.read y.took indices → Follows system (log ++ e ∷ []) (with_server server (with_entry c e))
    by_indices [] posts may =
        from_head (sync_left b.number y.pid state y.read y.took) [] posts refl refl refl (batch_aside b.number y.pid state y.read y.took []) (none_aside y.pid)
        (at_once system _ y.pid state (cut_process system log _ y.pid state (last_cuts system log b.number y.pid state y.read y.took may))) (inl (record { queued = Nothing; posts = refl; together = tt }))
    by_indices (i ∷ indices) posts may =
        let sent = page_sent system log b.number y.pid state i y.read y.took indices may in
        from_head (page_left b.number y.pid state i) (posts_left b.number y.pid state y.read y.took indices) posts refl refl refl (batch_aside b.number y.pid state y.read y.took (i ∷ indices)) (batch_aside b.number y.pid state y.read y.took indices)
        (ap (state_by system _ y.pid (state.small).steps) (batch_moves b.number y.pid state y.read y.took indices) ∙ batch_state system _ b.number y.pid state y.read y.took indices sent)
        (inr (inl (record {
          pid = y.pid;
          process = y.process;
          read = y.read;
          took = y.took;
          indices = indices;
          posts = refl;
          there = y.there;
          within = page_leaves_sync system log b.number y.pid state i state.small y.read y.took ∙ y.within;
          may = sent;
          unread = y.unread;
          since = y.since;
          unmarked = y.unmarked;
        })))
