use Rattle.std.proofs.Common.{◌≡◌, ◌⊎◌, ℕ, ◌<◌, Bool, ◌&&◌, ◌||◌, cond, is_some, not, refl, sym, ◌∙◌, ap, subst, List, [], ◌∷◌, ◌++◌, map, Option, Some, None, is_none, true, false, eq-eqb, inl, inr}
use Rattle.std.specs.List.{list_all}
use Rattle.std.specs.Option.{option_map_or}
use Rattle.std.proofs.lemmas.Bool.{and_from, or_left, or_right}
use Rattle.t32_base.specs.declared.process.Pid.{Pid}
use Rattle.proc_state.specs.declared.process.Process.{Process}
use Rattle.proc_state.specs.State.{state_of}
use Rattle.sync_point.specs.Batch.{batch, marked_pages, page_post, sync_post, synced}
use Rattle.sys_calls.specs.declared.steps.Emission.{Emission}
use Rattle.sys_calls.specs.declared.steps.Emission.TheVariants.{Mail as SentMail, Exit as SentExit}
use Rattle.bus_msg.specs.declared.entry.Post.{Post}
use Rattle.sys_text.specs.Valid.{is_system}
use Rattle.cluster_core.specs.Sent.{is_sent}
use Rattle.cert_sched.specs.Losses.{is_from}
use Rattle.t32_base.specs.declared.process.ClusterNo.{ClusterNo}
use Rattle.page_server.specs.Account.{PagerState}
use Rattle.residents.specs.declared.quantum.Sending.{Sending}
use Rattle.residents.specs.declared.quantum.Quantum.{Quantum}
use Rattle.residents.specs.declared.quantum.Forking.{Forking}
use Rattle.residents.specs.declared.quantum.Quantum.TheVariants.{Moved as QuantumMoved, Sent as QuantumSent, Synced as QuantumSynced, Renewed as QuantumRenewed, Forks as QuantumForks}
use Rattle.cluster_core.specs.declared.worked.Worked.{Worked}
use Rattle.cluster_core.specs.declared.worked.Worked.TheVariants.{Moved, Queued, Waits, Rests}
use Rattle.cluster_core.specs.View.{ClusterView, counted_once, held_at, limits_of, next_count, duty_of}
use Rattle.residents.specs.Held.{Held, Runs, asked_held, held_of}
use Rattle.plain_kernel.specs.Maps.{pid_of}
use Rattle.residents.specs.Residents.{ChosenTurn, HasTurn, ResidentsView, SyncsChild, TakesTurn, none_has_turn, pids_in, Renews}
use Rattle.residents.specs.Changed.{with_changed}
use Rattle.cluster_core.specs.Parts.{AllOwn}
use Rattle.birth_notice.specs.Family.{first_unsynced}
use Rattle.cert_sched.specs.Record.{has_state}
use Rattle.quanta.specs.Limited.{is_due}
use Rattle.sys_calls.specs.Next.{is_exit, next_step}
use Rattle.residents.specs.ChildrenFirst.{comes_after_children}
use Rattle.cluster_core.specs.Calls.{FollowsSome, GoesOn, IsNextToSync, OwesNothing, WorkIs, is_resting}
use Rattle.cluster_core.specs.Bearing.{birth_post}
use Rattle.residents.specs.Quantum.{ComesToFork, Sends, Syncs, forking_of, post_told}
use Rattle.cluster_core.specs.Work.{AnswersNext, NoPages, QueuesAnswer, QueuesFetch, RunsNext, WorksOn, WorksUnowed, birth_told, child_of, fetch_post, owes_answer}
use Rattle.residents.specs.Asking.{AsksNext, any_lacks, any_waits}
use Rattle.standing_backups.specs.Standing.{IsNextStanding}
use Rattle.cluster_core.proofs.handing.Queued.{handed_sent, handed_goes_on, handed_own, handed_work}
use Rattle.cluster_core.proofs.paging.Answering.{answered_sent, answered_goes_on, answered_own, answered_work}
use Rattle.cluster_core.proofs.paging.Fetching.{asked_goes_on, asked_work, fetch_own}
use Rattle.cluster_core.proofs.paging.Lacking.{rested_work, waited_work}
use Rattle.cluster_core.proofs.births.BirthTurn.{birth_goes_on}
use Rattle.cluster_core.proofs.here.Owning.{acts_able, comes_able, some_moves, own_asked, own_at, own_at_fork, own_before_sent, own_changed, own_quantum, own_sent, own_synced}
use Rattle.cluster_core.proofs.syncs.BeginSync.{MayCutIn, batch_goes_on, due_or_takes}
use Rattle.residents.proofs.ChildFirst.{before_from, before_is}
use Rattle.residents.proofs.OwingLaws.{owed_here}
use Rattle.residents.specs.ChildrenFirst.{comes_after, comes_after_children}
use Rattle.residents.specs.Duty.{backup_owed, is_able, is_owed}
use Rattle.backup_mode.specs.Renewal.{cleared, renewal}
use Rattle.bus_msg.specs.NewBackup.{next_backup_at}
use Rattle.cluster_core.proofs.renewing.BeginRenewal.{own_cleared, renewal_sent, renewal_goes_on, renewal_own}
use Rattle.residents.specs.Held.{is_running}
use Rattle.residents.proofs.Changing.{pids_changed}
use Rattle.cluster_core.proofs.births.ChildrenKept.{synced_where_none}
use Rattle.cluster_core.proofs.births.ChildrenSynced.{first_childless, first_may}
use Rattle.cluster_core.proofs.here.Hindering.{none_moves}
use Rattle.residents.specs.ForkingAgain.{RollsAgain}
use Rattle.residents.proofs.Acting.{ActsThere, fork_acts, moved_acts, sent_acts, synced_acts}
use Rattle.cluster_core.proofs.rolling.AgainLightens.{again_pids}
use Rattle.cluster_core.proofs.rolling.FollowsAgain.{again_follows}
use Rattle.cluster_core.proofs.rolling.OwningAgain.{own_again}
use Rattle.residents.proofs.RollingParts.{none_again}
use Rattle.cluster_core.proofs.working.Working.{moved_view, moved_goes_on, moved_work, posted_goes_on, posted_view, posted_work, goes_on_rested}

-- what is posted is the cluster's own, and of a kind that clusters send
told_own : (k : ClusterNo) (p : Pid) (at : ℕ) (e : Emission) → (is_from k (post_told k p at e).by && true) ≡ true
told_own k p at (SentMail letter) = ap (λ b. b && true) (eq-eqb k.0 k.0 refl)
told_own k p at (SentExit end) = ap (λ b. b && true) (eq-eqb k.0 k.0 refl)

told_sent : (k : ClusterNo) (p : Pid) (at : ℕ) (e : Emission) → (is_sent (post_told k p at e).what && true) ≡ true
told_sent k p at (SentMail letter) = refl
told_sent k p at (SentExit end) = refl

-- so is each page of a batch, and its state
each_post : (test : Post → Bool) (p : Process) (k : ClusterNo) (indices : List ℕ) → ((i : ℕ) → test (page_post p k i) ≡ true) → test (sync_post p k) ≡ true → list_all test (map (page_post p k) indices ++ sync_post p k ∷ []) ≡ true
each_post test p k [] pages state = ap (λ b. b && true) state
each_post test p k (i ∷ indices) pages state = and_from (test (page_post p k i)) (list_all test (map (page_post p k) indices ++ sync_post p k ∷ [])) (pages i) (each_post test p k indices pages state)

synced_own : (k : ClusterNo) (p : Process) → list_all (λ (post : Post). is_from k post.by) (batch p k) ≡ true
synced_own k p = each_post (λ (post : Post). is_from k post.by) p k (marked_pages p) (λ i. eq-eqb k.0 k.0 refl) (eq-eqb k.0 k.0 refl)

synced_sent : (k : ClusterNo) (p : Process) → list_all (λ (post : Post). is_sent post.what) (batch p k) ≡ true
synced_sent k p = each_post (λ (post : Post). is_sent post.what) p k (marked_pages p) (λ i. refl) refl

-- the cluster with what is here, what it keeps as a page server and what is queued after a work
abbrev pub worked_view : ClusterView → List (Pid × Held) → Option PagerState → List Post → ClusterView
worked_view c here served queue = record c { here = here; server = served; queue = queue; steps = next_count c.steps }

-- what holds of a work
pub record Works (c : ClusterView) (worked : Worked) (here : List (Pid × Held)) (served : Option PagerState) (queue : List Post) : Type 0 where
  pub goes_on : GoesOn c (worked_view c here served queue)
  pub work : WorkIs c worked (worked_view c here served queue)
  pub residents : AllOwn c.cursor here
  pub pids : pids_in here ≡ pids_in c.here
  pub own : list_all (λ (post : Post). is_from c.number post.by) queue ≡ true
  pub of_kind : list_all (λ (post : Post). is_sent post.what) queue ≡ true

module _ (c : ClusterView) (some : FollowsSome c) (empty : c.queue ≡ []) (own : AllOwn c.cursor c.here) (valid : is_system c.system ≡ true) (has : (c.number).0 < (c.system).clusters) where
  abbrev Took : Pid → Quantum → List (Pid × Held) → Type 0
  Took pid quantum here = TakesTurn (duty_of c) c.number c.family pid c.here quantum here

  -- a new backup is queued
  handed : (post : Post) → IsNextStanding c.number c.places c.family c.here c.owed (Some post) → Works c Queued c.here c.server (post ∷ [])
  handed post next = record {
    goes_on = handed_goes_on c post next valid empty;
    work = handed_work c post next;
    residents = own;
    pids = refl;
    own = handed_own c post next;
    of_kind = handed_sent c post next;
  }

  -- an answer is queued
  answered : c.owed ≡ [] → (served : Option PagerState) (post : Post) → owes_answer c.places c.number c.server ≡ true → AnswersNext c.number c.server served post → Works c Queued c.here served (post ∷ [])
  answered backed served post owed answers = record {
    goes_on = answered_goes_on c served post owed answers valid empty;
    work = answered_work c served post owed answers backed;
    residents = own;
    pids = refl;
    own = answered_own c served post owed answers;
    of_kind = answered_sent c served post owed answers;
  }

  -- a fetch is queued
  fetched : c.owed ≡ [] → (here : List (Pid × Held)) (pid : Pid) (index : ℕ) → owes_answer c.places c.number c.server ≡ false → AsksNext c.here here pid index → Works c Queued here c.server (fetch_post c.number pid index ∷ [])
  fetched backed here pid index unowed asks = record {
    goes_on = asked_goes_on c here pid index valid empty backed asks;
    work = asked_work c here pid index backed unowed asks;
    residents = subst (AllOwn c.cursor) (sym asks.new_is) (own_changed c.cursor pid (asked_held asks.was) c.here own (own_asked c.cursor pid asks.was (own_at c.cursor c.here pid asks.was own asks.there)));
    pids = ap pids_in asks.new_is ∙ pids_changed pid (asked_held asks.was) c.here;
    own = fetch_own c.number pid index;
    of_kind = refl;
  }

  -- who acts there does not let all rest
  busy : (pid : Pid) → ActsThere (limits_of c.system) pid c.here → is_resting c ≡ false
  busy pid a = some_moves (duty_of c) c.here pid a.held a.there (acts_able (duty_of c) pid a.held a.acts)

  -- what a turn leaves has the same pids
  pids_turned : (pid : Pid) (made : ℕ) (mid : List (Pid × Held)) (now : Held) → RollsAgain pid made c.here mid → pids_in (with_changed pid now mid) ≡ pids_in c.here
  pids_turned pid made mid now again = pids_changed pid now mid ∙ again_pids pid made c.here mid again

  -- what a cluster makes of one of its processes after steps that it made again, that cluster makes of it
  after_again : (pid : Pid) (made : ℕ) (mid : List (Pid × Held)) (new : ClusterView) → RollsAgain pid made c.here mid → GoesOn (record c { here = mid }) new → GoesOn c new
  after_again pid made mid new again on log go f = on log go (again_follows c log pid valid empty go made c.here mid again f)

  own_mid : (pid : Pid) (made : ℕ) (mid : List (Pid × Held)) → RollsAgain pid made c.here mid → AllOwn c.cursor mid
  own_mid pid made mid again = own_again c.cursor pid made c.here mid again own

  -- who had a turn moved
  took_moved : (pid : Pid) (here : List (Pid × Held)) → OwesNothing c → Took pid QuantumMoved here → Works c Moved here c.server []
  took_moved pid here nothing takes =
      let one = takes.ran in
      let acts = moved_acts (limits_of c.system) c.number (is_none (first_unsynced c.family pid)) pid c.here here one in
      let on = after_again pid one.made one.mid (moved_view c (with_changed pid one.now one.mid)) one.again (moved_goes_on (record c { here = one.mid }) pid one.made one.was one.now valid empty one.there one.ran) in
      let mine = own_mid pid one.made one.mid one.again in
      subst (λ hs. Works c Moved hs c.server []) (sym one.here) (record {
        goes_on = subst (λ ps. GoesOn c (record (moved_view c (with_changed pid one.now one.mid)) { queue = ps })) empty on;
        work = subst (λ ps. WorkIs c Moved (record (moved_view c (with_changed pid one.now one.mid)) { queue = ps })) empty (moved_work c pid one.made one.mid one.was one.now nothing (busy pid acts) one.again one.there one.ran);
        residents = own_changed c.cursor pid one.now one.mid mine (own_quantum (limits_of c.system) c.cursor pid one.made one.was one.now (own_at c.cursor one.mid pid one.was mine one.there) one.ran);
        pids = pids_turned pid one.made one.mid one.now one.again;
        own = refl;
        of_kind = refl;
      })

  -- or sent something
  took_sent : (pid : Pid) (sending : Sending) (here : List (Pid × Held)) → OwesNothing c → Took pid (QuantumSent sending) here → Works c Queued here c.server (post_told c.number sending.pid sending.at sending.emission ∷ [])
  took_sent pid sending here nothing takes =
      let one = takes.ran in
      let acts = sent_acts (limits_of c.system) c.number (is_none (first_unsynced c.family pid)) pid c.here here sending one in
      let s : Sends (limits_of c.system) 64 one.made one.was sending one.now = (one.ran).0 in
      let all = own_mid pid one.made one.mid one.again in
      let mine = own_at c.cursor one.mid pid one.was all one.there in
      let before_own = own_before_sent (limits_of c.system) c.cursor pid one.made one.was sending one.now mine s in
      let now_own = own_sent (limits_of c.system) c.cursor pid one.made one.was sending one.now mine s in
      let named : sending.pid ≡ pid = s.pid_is ∙ now_own.pid_is in
      let post : Post = post_told c.number sending.pid sending.at sending.emission in
      let is : post ≡ post_told c.number pid ((s.now).small).steps sending.emission = λ i. post_told c.number (named i) (s.at_is i) sending.emission in
      let changed : with_changed pid (Runs s.now) one.mid ≡ here = ap (λ (h : Held). with_changed pid h one.mid) (sym s.new_is) ∙ sym one.here in
      subst (λ hs. Works c Queued hs c.server (post ∷ [])) changed (record {
        goes_on = after_again pid one.made one.mid (posted_view c (with_changed pid (Runs s.now) one.mid) post) one.again
            (posted_goes_on (record c { here = one.mid }) pid one.made one.was sending one.now s post is empty one.there before_own (one.ran).1 valid has);
        work = posted_work c pid one.made one.mid one.was sending one.now s post is named nothing (busy pid acts) one.again one.there (one.ran).1;
        residents = own_changed c.cursor pid (Runs s.now) one.mid all now_own;
        pids = pids_turned pid one.made one.mid (Runs s.now) one.again;
        own = told_own c.number sending.pid sending.at sending.emission;
        of_kind = told_sent c.number sending.pid sending.at sending.emission;
      })

  -- a process that may be cut synchronised, where one could move
  batched : (mover : Pid) (h : Held) (pid : Pid) (process : Process) (here : List (Pid × Held)) → OwesNothing c → held_at c mover ≡ Some h → is_able (duty_of c) (mover, h) ≡ true → held_at c pid ≡ Some (Runs process) → IsNextToSync c pid process
      → first_unsynced c.family pid ≡ None → MayCutIn c pid process → here ≡ with_changed pid (Runs (synced process)) c.here → Works c Queued here c.server (batch process c.number)
  batched mover h pid process here nothing moves able there next childless may changed =
      subst (λ hs. Works c Queued hs c.server (batch process c.number)) (sym changed) (record {
        goes_on = batch_goes_on c pid process valid empty there may;
        work = inr (inr (inr (
          nothing,
          some_moves (duty_of c) c.here mover h moves able,
          inr (inl (record { pid = pid; process = process; there = there; next = next; childless = childless; rest = refl })),
        )));
        residents = own_changed c.cursor pid (Runs (synced process)) c.here own (own_synced c.cursor pid process (own_at c.cursor c.here pid (Runs process) own there));
        pids = pids_changed pid (Runs (synced process)) c.here;
        own = synced_own c.number process;
        of_kind = synced_sent c.number process;
      })

  -- or synchronised,
  took_synced : (pid : Pid) (posts : List Post) (here : List (Pid × Held)) → OwesNothing c → Took pid (QuantumSynced posts) here → Works c Queued here c.server posts
  took_synced pid posts here nothing takes =
      let one = takes.ran in
      let acts = synced_acts (limits_of c.system) c.number (is_none (first_unsynced c.family pid)) pid c.here here posts one in
      let s : Syncs (limits_of c.system) c.number one.was posts one.now = (one.ran).1 in
      let same : one.mid ≡ c.here = none_again pid one.made c.here one.mid one.again (one.ran).0 in
      let there : held_at c pid ≡ Some (Runs s.process) = ap (λ hs. held_of hs pid) (sym same) ∙ one.there ∙ ap Some s.old_is in
      let comes : comes_after_children (limits_of c.system) (Runs s.process) ≡ true = or_left (is_due (limits_of c.system) s.process) (is_exit (next_step (state_of s.process))) s.due in
      let none : first_unsynced c.family pid ≡ None = sym (before_from (duty_of c) c.family c.here pid (Runs s.process) there (or_right (is_owed (duty_of c) (pid, Runs s.process)) (comes_after_children (limits_of c.system) (Runs s.process)) comes)) ∙ takes.alone in
      subst (Works c Queued here c.server) (sym s.posts_are)
      (batched pid acts.held pid s.process here nothing acts.there (acts_able (duty_of c) pid acts.held acts.acts) there (inl s.due) none
      (λ log go f. record { children = synced_where_none c log f pid none; due = due_or_takes c.system s.process (not (has_state c.system log pid)) s.due })
      (one.here ∙ (λ i. with_changed pid (s.new_is i) (same i))))

  -- or the child that comes before it did
  child_synced : (pid : Pid) (posts : List Post) (here : List (Pid × Held)) → OwesNothing c → SyncsChild (duty_of c) c.number c.family pid c.here posts here → Works c Queued here c.server posts
  child_synced pid posts here nothing syncs =
      let b = before_is (duty_of c) c.family c.here pid syncs.child syncs.before in
      let s = syncs.syncs in
      subst (Works c Queued here c.server) (sym s.posts_are)
      (batched pid b.held syncs.child s.process here nothing b.there (comes_able (duty_of c) pid b.held b.comes) s.there (inr (pid, syncs.before))
      (first_childless c some.log some.follows valid some.open_log pid syncs.child b.first) (λ log go f. first_may c log f valid go pid syncs.child b.first s.process) s.here)

  -- or came to its fork, and the birth of its child is queued
  took_fork : (pid : Pid) (forking : Forking) (here : List (Pid × Held)) → OwesNothing c → Took pid (QuantumForks forking) here → Works c Queued here c.server (birth_told c.number c.places forking ∷ [])
  took_fork pid forking here nothing takes =
      let one = takes.ran in
      let acts = fork_acts (limits_of c.system) c.number (is_none (first_unsynced c.family pid)) pid c.here here forking one in
      let k : ComesToFork (limits_of c.system) 64 one.made one.was forking one.now = one.ran in
      let all = own_mid pid one.made one.mid one.again in
      let mine = own_at_fork (limits_of c.system) c.cursor pid one.made one.was forking one.now (own_at c.cursor one.mid pid one.was all one.there) k in
      let child : Pid = child_of c.number c.places in
      let told : birth_told c.number c.places forking ≡ birth_told c.number c.places (forking_of (k.now).small) = ap (birth_told c.number c.places) k.forking_is in
      let post : birth_told c.number c.places forking ≡ birth_post c.number pid (state_of k.now) child = told ∙ ap (λ p. birth_post c.number p (state_of k.now) child) mine.pid_is in
      let changed : with_changed pid (Runs k.now) one.mid ≡ here = ap (λ (h : Held). with_changed pid h one.mid) (sym k.new_is) ∙ sym one.here in
      let new : ClusterView = record c { here = with_changed pid (Runs k.now) one.mid; queue = birth_post c.number pid (state_of k.now) child ∷ []; steps = next_count c.steps } in
      subst (λ (p : Post). Works c Queued here c.server (p ∷ [])) (sym post)
      (subst (λ hs. Works c Queued hs c.server (birth_post c.number pid (state_of k.now) child ∷ [])) changed (record {
        goes_on = after_again pid one.made one.mid new one.again (birth_goes_on (record c { here = one.mid }) pid one.made one.was forking one.now k valid empty one.there);
        work = inr (inr (inr (
          nothing,
          busy pid acts,
          inr (inr (inl (record { pid = pid; made = one.made; mid = one.mid; again = one.again; was = one.was; forking = forking; now = one.now; there = one.there; comes = k; rest = refl }))),
        )));
        residents = own_changed c.cursor pid (Runs k.now) one.mid all mine;
        pids = pids_turned pid one.made one.mid (Runs k.now) one.again;
        own = ap (λ b. b && true) (eq-eqb (c.number).0 (c.number).0 refl);
        of_kind = refl;
      }))

  -- or what brings it its new backup is queued
  renews : (pid : Pid) (posts : List Post) (here : List (Pid × Held)) → OwesNothing c → Renews (duty_of c) c.number c.family pid c.here posts here → Works c Queued here c.server posts
  renews pid posts here nothing turn =
      let r = turn.renews in
      let gets : backup_owed (duty_of c) pid ≡ Some turn.to = ap (λ b. cond b (backup_owed (duty_of c) pid) None) (sym (ap (λ o. option_map_or is_running o false) r.there)) ∙ turn.owed in
      let owed : next_backup_at c.places pid ≡ Some turn.to = sym (owed_here (limits_of c.system) c.places c.here pid (Runs r.process) r.there) ∙ gets in
      let comes : comes_after (duty_of c) (pid, Runs r.process) ≡ true = ap (λ o. (is_some o && true) || comes_after_children (limits_of c.system) (Runs r.process)) gets in
      let none : first_unsynced c.family pid ≡ None = sym (before_from (duty_of c) c.family c.here pid (Runs r.process) r.there comes) ∙ turn.alone in
      subst (Works c Queued here c.server) (sym r.posts_are)
      (subst (λ hs. Works c Queued hs c.server (renewal r.process turn.to c.number)) (sym r.here) (record {
        goes_on = renewal_goes_on c pid r.process turn.to valid empty own r.there owed none;
        work = inr (inr (inr (
          nothing,
          some_moves (duty_of c) c.here pid (Runs r.process) r.there (comes_able (duty_of c) pid (Runs r.process) comes),
          inr (inr (inr (record { pid = pid; process = r.process; to = turn.to; there = r.there; owed = owed; childless = none; rest = refl }))),
        )));
        residents = own_changed c.cursor pid (Runs (cleared r.process)) c.here own (own_cleared c.cursor pid r.process (own_at c.cursor c.here pid (Runs r.process) own r.there));
        pids = pids_changed pid (Runs (cleared r.process)) c.here;
        own = renewal_own c.number r.process turn.to;
        of_kind = renewal_sent r.process turn.to c.number;
      }))

  -- or nothing can move
  still : (worked : Worked) → WorkIs c worked (counted_once c) → Works c worked c.here c.server []
  still worked work =
      let whole : worked_view c c.here c.server [] ≡ counted_once c = λ i. record c { queue = sym empty i; steps = next_count c.steps } in
      record { goes_on = subst (GoesOn c) (sym whole) (goes_on_rested c); work = subst (WorkIs c worked) (sym whole) work; residents = own; pids = refl; own = refl; of_kind = refl }

  -- a turn by the limits of the system is one of a process of the cluster
  turn_here : (old new : ResidentsView) (quantum : Quantum) → old.duty ≡ duty_of c → old.here ≡ c.here → ChosenTurn c.number c.family old quantum new → HasTurn (duty_of c) c.number c.family (pid_of new.last) c.here quantum new.here
  turn_here old new quantum limits here turn =
      subst (λ hs. HasTurn (duty_of c) c.number c.family (pid_of new.last) hs quantum new.here) here (subst (λ l. HasTurn l c.number c.family (pid_of new.last) old.here quantum new.here) limits turn.takes)

  -- one that synchronised, itself or the child before it
  either_synced : (pid : Pid) (posts : List Post) (here : List (Pid × Held)) → OwesNothing c → HasTurn (duty_of c) c.number c.family pid c.here (QuantumSynced posts) here → Works c Queued here c.server posts
  either_synced pid posts here nothing (inl takes) = took_synced pid posts here nothing takes
  either_synced pid posts here nothing (inr syncs) = child_synced pid posts here nothing syncs

  -- what runs next, where it owes nothing
  runs : (old new : ResidentsView) (worked : Worked) (queue : List Post) → old.duty ≡ duty_of c → old.here ≡ c.here → OwesNothing c → RunsNext c.number c.places c.family old worked new queue → Works c worked new.here c.server queue
  runs old new Moved queue limits here nothing turn =
      subst (Works c Moved new.here c.server) (sym turn.1) (took_moved (pid_of new.last) new.here nothing (turn_here old new QuantumMoved limits here turn.0))
  runs old new Queued queue limits here nothing (inl turn) =
      subst (Works c Queued new.here c.server) (sym turn.2) (took_sent (pid_of new.last) turn.0 new.here nothing (turn_here old new (QuantumSent turn.0) limits here turn.1))
  runs old new Queued queue limits here nothing (inr (inr (inr turn))) =
      subst (Works c Queued new.here c.server) (sym turn.2) (renews (pid_of new.last) turn.0 new.here nothing (turn_here old new (QuantumRenewed turn.0) limits here turn.1))
  runs old new Queued queue limits here nothing (inr (inr (inl turn))) =
      subst (Works c Queued new.here c.server) (sym turn.2) (took_fork (pid_of new.last) turn.0 new.here nothing (turn_here old new (QuantumForks turn.0) limits here turn.1))
  runs old new Queued queue limits here nothing (inr (inl turn)) =
      subst (Works c Queued new.here c.server) (sym turn.2) (either_synced (pid_of new.last) turn.0 new.here nothing (turn_here old new (QuantumSynced turn.0) limits here turn.1))
  runs old new Waits queue limits here nothing turn =
      let same : new.here ≡ c.here = (turn.0).1 ∙ here in
      let none : none_has_turn (duty_of c) c.family c.here ≡ true = (λ i. none_has_turn (sym limits i) c.family (sym here i)) ∙ (turn.0).0 in
      let stuck = none_moves c valid some none in
      subst (Works c Waits new.here c.server) (sym turn.2)
      (subst (λ hs. Works c Waits hs c.server []) (sym same) (still Waits (waited_work c valid empty own nothing stuck (ap any_waits (sym here) ∙ turn.1))))
  runs old new Rests queue limits here nothing turn =
      let same : new.here ≡ c.here = (turn.0).1 ∙ here in
      let none : none_has_turn (duty_of c) c.family c.here ≡ true = (λ i. none_has_turn (sym limits i) c.family (sym here i)) ∙ (turn.0).0 in
      let unwaited : any_waits c.here ≡ false = ap any_waits (sym here) ∙ turn.1 in
      subst (Works c Rests new.here c.server) (sym turn.2) (subst (λ hs. Works c Rests hs c.server []) (sym same) (still Rests (rested_work c own nothing (none_moves c valid some none) unwaited)))

  after_none : (old new : ResidentsView) (served : Option PagerState) (worked : Worked) (queue : List Post) → old.duty ≡ duty_of c → old.here ≡ c.here → c.owed ≡ [] → NoPages c.number c.places old c.server served → RunsNext c.number c.places c.family old worked new queue → Works c worked new.here served queue
  after_none old new served worked queue limits here backed none turn =
      subst (λ server. Works c worked new.here server queue) (sym none.kept) (runs old new worked queue limits here (record { backed = backed; unowed = none.unowed; none = ap any_lacks (sym here) ∙ none.none }) turn)

  queued : (old new : ResidentsView) (served : Option PagerState) (queue : List Post) → old.duty ≡ duty_of c → old.here ≡ c.here → c.owed ≡ []
      → QueuesAnswer c.number c.places old c.server new served queue ⊎ QueuesFetch c.number c.places old c.server new served queue ⊎ (NoPages c.number c.places old c.server served × RunsNext c.number c.places c.family old Queued new queue)
      → Works c Queued new.here served queue
  queued old new served queue limits here backed (inl answer) =
      let same : new.here ≡ c.here = ap (λ (r : ResidentsView). r.here) answer.same ∙ here in
      subst (λ hs. Works c Queued hs served queue) (sym same) (subst (Works c Queued c.here served) (sym answer.queue_is) (answered backed served answer.post answer.owed answer.answers))
  queued old new served queue limits here backed (inr (inl fetch)) =
      subst (λ server. Works c Queued new.here server queue) (sym fetch.kept)
      (subst (Works c Queued new.here c.server) (sym fetch.queue_is) (fetched backed new.here fetch.pid fetch.index fetch.unowed (subst (λ hs. AsksNext hs new.here fetch.pid fetch.index) here fetch.asks)))
  queued old new served queue limits here backed (inr (inr sent)) = after_none old new served Queued queue limits here backed sent.0 sent.1

  unowed : (old new : ResidentsView) (served : Option PagerState) (worked : Worked) (queue : List Post) → old.duty ≡ duty_of c → old.here ≡ c.here → c.owed ≡ []
      → WorksUnowed c.number c.places c.family old c.server worked new served queue → Works c worked new.here served queue
  unowed old new served Moved queue limits here backed on = after_none old new served Moved queue limits here backed on.0 on.1
  unowed old new served Queued queue limits here backed on = queued old new served queue limits here backed on
  unowed old new served Waits queue limits here backed on = after_none old new served Waits queue limits here backed on.0 on.1
  unowed old new served Rests queue limits here backed on = after_none old new served Rests queue limits here backed on.0 on.1

  pub works : (old new : ResidentsView) (served : Option PagerState) (worked : Worked) (queue : List Post) → old.duty ≡ duty_of c → old.here ≡ c.here
      → WorksOn c.number c.places c.family c.owed old c.server worked new served queue → Works c worked new.here served queue
  works old new served worked queue limits here (inl both) =
      let q = both.1 in
      let same : new.here ≡ c.here = ap (λ (r : ResidentsView). r.here) q.same ∙ here in
      subst (λ w. Works c w new.here served queue) (sym both.0)
      (subst (λ hs. Works c Queued hs served queue) (sym same)
      (subst (λ s. Works c Queued c.here s queue) (sym q.kept)
      (subst (Works c Queued c.here c.server) (sym q.queue_is) (handed q.post (subst (λ hs. IsNextStanding c.number c.places c.family hs c.owed (Some q.post)) here q.next)))))
  works old new served worked queue limits here (inr both) = unowed old new served worked queue limits here both.0 both.1
