-- A cluster that takes in the next entry of a log goes on to follow it, whichever kind the entry is of.
use Rattle.std.proofs.Common.{◌≡◌, ℕ, ◌+◌, refl, sym, ◌∙◌, ap, subst, List, [], ◌∷◌, ◌++◌, true, false, Bool, cond, eqb-true, Option, Some, None, is_some, inl, inr, true≢false}
use Rattle.std.specs.Prelude.{filter, option_map}
use Rattle.t32_base.specs.declared.process.Pid.{Pid}
use Rattle.proc_state.specs.declared.process.Process.{Process}
use Rattle.proc_state.specs.State.{state_of}
use Rattle.sys_text.specs.Valid.{is_system}
use Rattle.channel_table.specs.Changes.{CanBeAbsorbed}
use Rattle.bus_msg.specs.declared.entry.What.{What}
use Rattle.bus_msg.specs.declared.entry.Post.{Post}
use Rattle.bus_msg.specs.declared.entry.Entry.{Entry}
use Rattle.bus_msg.specs.PlacedAfter.{what}
use Rattle.log_laws.specs.records.Kept.{changes_in_place}
use Rattle.log_laws.proofs.records.KeptLaws.{records_kept}
use Rattle.log_laws.proofs.records.Standing.{all_stand}
use Rattle.crash_notice.specs.Splitting.{moves_here}
use Rattle.cert_sched.specs.Legal.{MayStand}
use Rattle.cert_sched.specs.Losses.{is_by_cluster, is_crash_of}
use Rattle.cert_sched.specs.Rules.{home_at, tells_or_closes}
use Rattle.bus_msg.specs.declared.placed.Placed.{Placed}
use Rattle.cert_sched.specs.Schedule.{placement}
use Rattle.cert_sched.proofs.LogLaws.{IsLegal-last}
use Rattle.cert_sched.proofs.NextChildren.{may_be_absorbed}
use Rattle.backup_records.specs.Records.{are_rising, record_in, records_after}
use Rattle.log_laws.specs.births.Unsynced.{unsynced_births}
use Rattle.cluster_core.specs.Families.{CanJoin}
use Rattle.cluster_core.proofs.births.FamilyNext.{can_join}
use Rattle.cluster_core.specs.View.{ClusterView, with_server, held_at}
use Rattle.residents.specs.Held.{Held, Runs, Waits, held_of}
use Rattle.cluster_core.specs.Parts.{AllOwn}
use Rattle.cluster_core.specs.Recovered.{moved_by, CanWait, with_all_waiting}
use Rattle.cluster_core.specs.Follows.{Follows, IsOpen, StandsBetween, QueuedIn}
use Rattle.cluster_core.specs.Queue.{AreTogether, Queued, Nothing, One, falls, is_lone, is_rebackup, left_queued, posts_of, are_plain}
use Rattle.cluster_core.specs.Calls.{Absorbs, IsReady, ReadyFor, absorbed, with_entry, here_after}
use Rattle.cluster_core.proofs.absorbing.ByKind.{IsLoss, OneOf, by_kind, by_page, by_sync, is_of_page, is_of_sync}
use Rattle.cluster_core.proofs.losses.Homes.{HomeHere, pids_apart, home_here}
use Rattle.cluster_core.proofs.losses.Losing.{follows_lost, can_wait, still_here}
use Rattle.cluster_core.proofs.losses.LostQueue.{home_stays}
use Rattle.cluster_core.proofs.paging.Paged.{page_at, was_paged}
use Rattle.cluster_core.proofs.paging.Paging.{follows_page, follows_own_page, page_taken, places_same}
use Rattle.cluster_core.proofs.syncs.Synchronising.{follows_sync, home_same, sync_not_alone, sync_taken}
use Rattle.cluster_core.proofs.births.Births.{birth_taken, follows_birth, parent_not_here, spares_here}
use Rattle.cluster_core.specs.Serving.{Serves}
use Rattle.page_server.specs.Account.{PagerState}
use Rattle.cluster_core.proofs.here.Owning.{own_after, own_later, own_page}
use Rattle.cluster_core.proofs.absorbing.Following.{Left, apart, follows_foreign, follows_own, found_stays, left_of, next_of, told_taken}
use Rattle.cluster_core.proofs.here.Beside.{FollowsBeside, all_of, beside_of, sent_of}
use Rattle.cluster_core.proofs.absorbing.AfterSent.{sent_is}
use Rattle.cluster_core.proofs.absorbing.Fallen.{IsComing, NoneFalls, batch_left, empty_falls_none, fallen_comes, handed_is, left_falls_none, own_left, form_plain, handed_rest, plain_rest}
use Rattle.cluster_core.proofs.absorbing.Renewed.{follows_renewed, renewal_taken, home_same as home_same_renewed}
use Rattle.cluster_core.proofs.absorbing.Returned.{follows_returned, return_taken, home_same as home_same_returned}
use Rattle.cluster_core.proofs.paging.WithoutAnswer.{without_answer}
use Rattle.cluster_core.specs.HandingOn.{HandsOver}
use Rattle.cluster_core.proofs.handing.OwnStanding.{follows_own_standing}
use Rattle.cluster_core.proofs.handing.Queued.{hands_left, without_standing}
use Rattle.cluster_core.proofs.births.BirthQueued.{birth_is, without_birth}
use Rattle.cluster_core.proofs.births.BirthTaken.{follows_beside_birth, follows_own_birth}
use Rattle.cluster_core.proofs.births.OwningBirths.{own_born}
use Rattle.cluster_core.proofs.syncs.Batching.{all_but, batch_head, unqueued, without_batch}
use Rattle.cluster_core.proofs.syncs.Stayed.{RunsStill, stays_with_batch, still_itself, still_paged, still_told}
use Rattle.cluster_core.proofs.syncs.OwnBatch.{follows_own_batch}
use Rattle.cluster_core.specs.Absorbing.{CanCome}
use Rattle.residents.specs.Resident.{CanComeTo}
use Rattle.cluster_core.specs.Holds.{IsHeldAs}
use Rattle.cert_sched.specs.Simulation.{IsUnended}
use Rattle.cluster_core.proofs.paging.Waiting.{may_come_to}
use Rattle.bus_msg.specs.declared.entry.What.TheVariants.{PageIs}
use Rattle.cert_sched.specs.Parts.{rising}
use Rattle.cert_sched.specs.Rests.{home_pids}
use Rattle.residents.specs.Residents.{pids_in}
use Rattle.cluster_core.proofs.losses.OwningWaits.{loss_of, one_of, other_lost, own_no_loss}
use Rattle.cluster_core.proofs.here.Here.{arrival_at, is_among, was_here}
use Rattle.cluster_core.specs.Renewing.{Renews, renewing_left}
use Rattle.cluster_core.proofs.renewing.RenewalPosts.{is_of_renewal, renewal_falls, renewal_head}
use Rattle.cluster_core.proofs.renewing.Renewing.{without_renewal}
use Rattle.cluster_core.proofs.renewing.StayedRenewing.{stays_renewing}
use Rattle.cluster_core.proofs.renewing.OwnRenewal.{follows_own_renewal}
use Rattle.cert_sched.specs.Deeds.{letter_for}

-- ---- an entry of another cluster

-- beside what is queued the cluster follows the log with it, whichever kind it is of
beside_next : (which : Pid → Bool) (c : ClusterView) (log : List Entry) (e : Entry) (server : Option PagerState) → is_system c.system ≡ true → AllOwn c.cursor c.here → are_rising (moved_by c.places c.number (what e) (records_after c.number (what e) c.records)) ≡ true
    → IsOpen MayStand c.system log → IsOpen MayStand c.system (log ++ e ∷ []) → Serves (placement c.system log) e c.server server → FollowsBeside which c.system log c → is_by_cluster c.number e ≡ false → is_crash_of c.number (what e) ≡ false
    → NoneFalls (placement c.system log) (what e) c.queue → FollowsBeside which c.system (log ++ e ∷ []) (with_server server (with_entry c e))
beside_next which c log e server valid own order now later serves f foreign spared unfallen = by_kind_of (one_of c.system log e later)
  where
    by_kind_of : OneOf (what e) → FollowsBeside which c.system (log ++ e ∷ []) (with_server server (with_entry c e))
    by_kind_of (inl tells) =
        let n = next_of c.system log e tells now later in
        subst (λ v. FollowsBeside which c.system (log ++ e ∷ []) (with_server server v)) (sym (told_taken c e tells)) (follows_foreign which c log e n server valid (pids_apart c.system log valid n.legal) own f foreign serves)
    by_kind_of (inr (inl of)) = follows_page c.system valid log e of now later which c server serves f foreign
    by_kind_of (inr (inr (inl l))) =
        let moved : are_rising (filter (moves_here (placement c.system log) l.lost c.number) c.records) ≡ true =
        ap (λ places. are_rising (filter (moves_here places l.lost c.number) c.records)) (sym (f.log).places) ∙ sym (ap (λ w. are_rising (moved_by c.places c.number w (records_after c.number w c.records))) l.same) ∙ order in
        follows_lost c.system valid log e l.lost l.cause (loss_of c.system log e l now later) c.number (other_lost c e l spared) which c server serves refl refl own f foreign moved unfallen
    by_kind_of (inr (inr (inr (inl of)))) = follows_sync c.system valid log e of now later which c server own serves f foreign
    by_kind_of (inr (inr (inr (inr (inr (inl y)))))) = follows_renewed c.system valid log e y now later which c server own serves f foreign
    by_kind_of (inr (inr (inr (inr (inr (inr y)))))) = follows_returned c.system valid log e y.back y.same now later which c server own serves f foreign
    by_kind_of (inr (inr (inr (inr (inl b))))) = follows_birth c.system valid log e b.parent b.at b.child b.end b.same now later which c server (records_kept c.system log e c.number c.records valid (all_stand c.system (log ++ e ∷ []) later.0) (ap changes_in_place b.same) f.records) own serves f foreign

-- ---- beside a batch, or a birth

module _ (c : ClusterView) (log : List Entry) (e : Entry) (p : Pid) (process : Process) (there : held_at c p ≡ Some (Runs process)) (valid : is_system c.system ≡ true) (now : IsOpen MayStand c.system log) (later : IsOpen MayStand c.system (log ++ e ∷ []))
    (f : Follows c.system log c) (foreign : is_by_cluster c.number e ≡ false) (spared : is_crash_of c.number (what e) ≡ false) (order : are_rising (moved_by c.places c.number (what e) (records_after c.number (what e) c.records)) ≡ true) where
  home : HomeHere (placement c.system log) p c.number
  home = home_here (placement c.system log) c.number (pids_in c.here) p (pids_apart c.system log valid now.0) (f.processes).each_once (is_among c.here p (Runs process) there)

  home_is : home_at (placement c.system log) p ≡ Some c.number
  home_is = ap (option_map (λ (q : Placed). q.home)) home.found ∙ (λ i. Some (record { 0 = eqb-true ((home.placed).home).0 (c.number).0 home.home i }))

  -- the process that synchronises, or is to fork, is at home where it was
  same_home : home_at (placement c.system (log ++ e ∷ [])) p ≡ home_at (placement c.system log) p
  same_home = by_kind_of (one_of c.system log e later)
    where
      by_kind_of : OneOf (what e) → home_at (placement c.system (log ++ e ∷ [])) p ≡ home_at (placement c.system log) p
      by_kind_of (inl tells) =
          let n = next_of c.system log e tells now later in
          ap (option_map (λ (q : Placed). q.home)) (found_stays c.system log e n.told p (apart c.system log e n.told c.number p home foreign))
      by_kind_of (inr (inl of)) = ap (λ places. home_at places p) (places_same c.system valid log e of now later)
      by_kind_of (inr (inr (inl l))) = home_stays c.system valid log e l.lost l.cause (loss_of c.system log e l now later) c.number (other_lost c e l spared) p home_is ∙ sym home_is
      by_kind_of (inr (inr (inr (inl of)))) = home_same c.system valid log e of now later p
      by_kind_of (inr (inr (inr (inr (inr (inl y)))))) = home_same_renewed c.system valid log e y now later p
      by_kind_of (inr (inr (inr (inr (inr (inr y)))))) = home_same_returned c.system log e y.back y.same p
      by_kind_of (inr (inr (inr (inr (inl b))))) = (spares_here c.system valid log e b.parent b.at b.child b.end b.same now later c.number foreign p home).home

  -- it is held as before, with letters more at most
  same_process : (h : Held) → held_at c p ≡ Some h → h ≡ Runs process
  same_process h at = let same : Some h ≡ Some (Runs process) = sym at ∙ there in cc

  stays : (h : Held) → held_at (with_entry c e) p ≡ Some h → RunsStill (letter_for p (what e)) process h
  stays h at = by_kind_of (one_of c.system log e later)
    where
      by_kind_of : OneOf (what e) → RunsStill (letter_for p (what e)) process h
      by_kind_of (inl tells) =
          let before = was_here (what e) c.here p h tells (ap (λ (v : ClusterView). held_at v p) (sym (told_taken c e tells)) ∙ at) in
          subst (RunsStill (letter_for p (what e)) process) (sym (before.same ∙ ap (arrival_at (what e) p) (same_process before.was before.there))) (still_told (what e) p process tells)
      by_kind_of (inr (inl of)) =
          let before = was_paged (what e) c.here p h of (ap (λ (v : ClusterView). held_at v p) (sym (page_taken c e of)) ∙ at) in
          subst (RunsStill (letter_for p (what e)) process) (sym (before.same ∙ ap (page_at (what e) p) (same_process before.was before.there))) (still_paged (what e) p process of)
      by_kind_of (inr (inr (inl l))) =
          let here : with_all_waiting (moved_by c.places c.number (what e) (records_after c.number (what e) c.records)) (here_after (what e) c.here) ≡ with_all_waiting (filter (moves_here (placement c.system log) l.lost c.number) c.records) c.here =
          ap (λ w. with_all_waiting (moved_by c.places c.number w (records_after c.number w c.records)) (here_after w c.here)) l.same ∙ ap (λ places. with_all_waiting (filter (moves_here places l.lost c.number) c.records) c.here) (f.log).places in
          let moved : are_rising (filter (moves_here (placement c.system log) l.lost c.number) c.records) ≡ true =
          ap (λ places. are_rising (filter (moves_here places l.lost c.number) c.records)) (sym (f.log).places) ∙ sym (ap (λ w. are_rising (moved_by c.places c.number w (records_after c.number w c.records))) l.same) ∙ order in
          let still = still_here c.system valid log e l.lost l.cause (loss_of c.system log e l now later) c.number (other_lost c e l spared) c.records c.here p h f.records moved home (ap (λ here. held_of here p) (sym here) ∙ at) in
          subst (RunsStill (letter_for p (what e)) process) (sym (same_process h still)) (still_itself process (letter_for p (what e)) (ap (letter_for p) l.same))
      by_kind_of (inr (inr (inr (inl of)))) = subst (RunsStill (letter_for p (what e)) process) (sym (same_process h (ap (λ (v : ClusterView). held_at v p) (sym (sync_taken c e of)) ∙ at))) (still_itself process (letter_for p (what e)) (by_sync (λ w. letter_for p w ≡ []) (λ pid at index bytes. refl) (λ pid small read took. refl) (what e) of))
      by_kind_of (inr (inr (inr (inr (inr (inr y)))))) = subst (RunsStill (letter_for p (what e)) process) (sym (same_process h (ap (λ (v : ClusterView). held_at v p) (sym (return_taken c e y.back y.same)) ∙ at))) (still_itself process (letter_for p (what e)) (ap (letter_for p) y.same))
      by_kind_of (inr (inr (inr (inr (inr (inl y)))))) = subst (RunsStill (letter_for p (what e)) process) (sym (same_process h (ap (λ (v : ClusterView). held_at v p) (sym (renewal_taken c e y.to y.fresh y.recs y.same)) ∙ at))) (still_itself process (letter_for p (what e)) (ap (letter_for p) y.same))
      by_kind_of (inr (inr (inr (inr (inl b))))) = subst (RunsStill (letter_for p (what e)) process) (sym (same_process h (ap (λ (v : ClusterView). held_at v p) (sym (birth_taken c e b.parent b.at b.child b.end b.same (parent_not_here c.system valid log e b.parent b.at b.child b.end b.same now later c.number foreign c.here (f.processes).each_once))) ∙ at))) (still_itself process (letter_for p (what e)) (ap (letter_for p) b.same))

-- beside what is left of a renewal it follows the log with the entry, and so with that
stays_renewing_here : (c : ClusterView) (log : List Entry) (e : Entry) (server : Option PagerState) → is_system c.system ≡ true → AllOwn c.cursor c.here → are_rising (moved_by c.places c.number (what e) (records_after c.number (what e) c.records)) ≡ true
    → Serves (placement c.system log) e c.server server → IsOpen MayStand c.system log → IsOpen MayStand c.system (log ++ e ∷ []) → Follows c.system log c → is_by_cluster c.number e ≡ false → is_crash_of c.number (what e) ≡ false
    → (y : Renews c.system log c) (posts : List Post) → posts ≡ renewing_left c.number None y.pid (state_of y.process) y.indices → Follows c.system (log ++ e ∷ []) (with_server server (record (with_entry c e) { queue = posts }))
stays_renewing_here c log e server valid own order serves now later f other spared y posts queue =
    stays_renewing c log e y valid now later f other (with_server server (record (with_entry c e) { queue = posts })) refl refl queue
    (beside_next (all_but y.pid) (unqueued c) log e server valid own order now later serves (without_renewal c.system log c y valid now f) other spared (empty_falls_none (placement c.system log) (what e)))
    (same_home c log e y.pid y.process y.there valid now later f other spared order) (stays c log e y.pid y.process y.there valid now later f other spared order)

-- ---- the whole

-- a cluster that takes in an entry for which it is ready, at which nothing that it has queued falls
pub follows_entry : (c : ClusterView) (e : Entry) (server : Option PagerState) → is_system c.system ≡ true → AllOwn c.cursor c.here → are_rising (moved_by c.places c.number (what e) (records_after c.number (what e) c.records)) ≡ true
    → Serves c.places e c.server server → left_queued c.places (what e) c.queue ≡ c.queue → Absorbs e c (with_server server (with_entry c e))
follows_entry c e server valid own order serves left log now later ready = by_ready ready
  where
    serves_there : c.places ≡ placement c.system log → Serves (placement c.system log) e c.server server
    serves_there same = subst (λ before. Serves before e c.server server) same serves

    unfallen : c.places ≡ placement c.system log → NoneFalls (placement c.system log) (what e) c.queue
    unfallen same = subst (λ before. NoneFalls before (what e) c.queue) same (left_falls_none c.places (what e) c.queue left)

    foreign : (f : Follows c.system log c) → is_by_cluster c.number e ≡ false → is_crash_of c.number (what e) ≡ false → QueuedIn c.system log c → Follows c.system (log ++ e ∷ []) (with_server server (with_entry c e))
    foreign f other spared (inl alone) =
        sent_of c.system (log ++ e ∷ []) (with_server server (with_entry c e)) (beside_next all_of c log e server valid own order now later (serves_there (f.log).places) (beside_of c.system log c f alone) other spared (unfallen (f.log).places))
    foreign f other spared (inr (inr (inr (inr y)))) = stays_renewing_here c log e server valid own order (serves_there (f.log).places) now later f other spared y c.queue
        (sym left ∙ ap (left_queued c.places (what e)) y.posts ∙ renewal_falls c.number y.to y.pid (state_of y.process) c.places (what e) y.indices)
    foreign f other spared (inr (inr (inr (inl h)))) = let none : ◌≡◌ {A = List Post} [] (h.post ∷ []) = sym (hands_left c.places (what e) c h) ∙ left ∙ h.posts in cc
    foreign f other spared (inr (inr (inl b))) =
        follows_beside_birth c log e b valid now later f other spared server
        (beside_next all_of (unqueued c) log e server valid own order now later (serves_there (f.log).places) (without_birth c.system log c b valid now f) other spared (empty_falls_none (placement c.system log) (what e)))
        (same_home c log e b.pid b.process b.there valid now later f other spared order) (stays c log e b.pid b.process b.there valid now later f other spared order)
    foreign f other spared (inr (inl y)) =
        stays_with_batch c log e y valid now later f other (with_server server (with_entry c e)) refl refl refl
        (beside_next (all_but y.pid) (unqueued c) log e server valid own order now later (serves_there (f.log).places) (without_batch c.system log c y valid now f) other spared (empty_falls_none (placement c.system log) (what e)))
        (same_home c log e y.pid y.process y.there valid now later f other spared order) (stays c log e y.pid y.process y.there valid now later f other spared order)

    sent : (s : StandsBetween Follows c.system log e c) → Left c log e → OneOf (what e) → Follows c.system (log ++ e ∷ []) (with_server server (with_entry c e))
    sent s l (inl tells) =
        let n = next_of c.system log e tells now later in
        subst (λ v. Follows c.system (log ++ e ∷ []) (with_server server v)) (sym (told_taken c e tells)) (follows_own c log e n l server valid (pids_apart c.system log valid n.legal) own (serves_there (places_of l)))
      where
        places_of : (l : Left c log e) → c.places ≡ placement c.system log
        places_of l = ap (λ (d : ClusterView). d.places) l.same ∙ ((l.followed).log).places
    sent s l (inr (inl of)) = follows_own_page c.system valid log e of now later c l server refl (serves_there (ap (λ (d : ClusterView). d.places) l.same ∙ ((l.followed).log).places))
    sent s l (inr (inr (inl loss))) = absurd (own_no_loss c log e loss s)
    sent s l (inr (inr (inr (inl of)))) = absurd (true≢false (sym l.lone ∙ sync_not_alone (what e) of))
    sent s l (inr (inr (inr (inr (inl b))))) = absurd (true≢false (sym l.lone ∙ ap is_lone b.same))
    sent s l (inr (inr (inr (inr (inr (inl y)))))) = absurd (true≢false (sym l.lone ∙ ap is_lone y.same))
    sent s l (inr (inr (inr (inr (inr (inr y)))))) = absurd (true≢false (sym l.lone ∙ ap is_lone y.same))

    own_post : (s : StandsBetween Follows c.system log e c) → QueuedIn c.system log s.before → Follows c.system (log ++ e ∷ []) (with_server server (with_entry c e))
    own_post s (inl alone) = sent s (left_of c log e s alone) (one_of c.system log e later)
    own_post s (inr (inr (inr (inr y)))) =
        subst (λ posts. Follows c.system (log ++ e ∷ []) (with_server server (record (with_entry c e) { queue = posts }))) left
        (follows_own_renewal c log e server valid own now later s y (serves_there (ap (λ (d : ClusterView). d.places) (s.sent ∙ sent_is s.before (s.before).queue) ∙ ((s.followed).log).places)))
    own_post s (inr (inr (inr (inl h)))) = follows_own_standing c log e server valid own now later s h (serves_there (ap (λ (d : ClusterView). d.places) (s.sent ∙ sent_is s.before (s.before).queue) ∙ ((s.followed).log).places))
    own_post s (inr (inr (inl b))) = follows_own_birth c log e server valid own now later s b (serves_there (ap (λ (d : ClusterView). d.places) (s.sent ∙ sent_is s.before (s.before).queue) ∙ ((s.followed).log).places))
    own_post s (inr (inl y)) = follows_own_batch c log e server valid own now later s y serves_log
      where
        serves_log : Serves (placement c.system log) e c.server server
        serves_log = serves_there (ap (λ (d : ClusterView). d.places) (s.sent ∙ sent_is s.before (s.before).queue) ∙ ((s.followed).log).places)

    by_ready : IsReady log e c → Follows c.system (log ++ e ∷ []) (with_server server (with_entry c e))
    by_ready (inl f) = foreign f.0 f.1 f.2 (f.0).queued
    by_ready (inr s) = own_post s (s.followed).queued

-- ---- a post that falls

-- a cluster that takes in an entry at which the one post that it has queued falls
follows_fallen : (c : ClusterView) (log : List Entry) (e : Entry) (server : Option PagerState) (post : Post) → c.queue ≡ post ∷ [] → (kind : IsComing post.what) → is_system c.system ≡ true → AllOwn c.cursor c.here
    → are_rising (moved_by c.places c.number (what e) (records_after c.number (what e) c.records)) ≡ true → Serves c.places e c.server server → IsOpen MayStand c.system log → IsOpen MayStand c.system (log ++ e ∷ [])
    → Follows c.system log c → is_by_cluster c.number e ≡ false → is_crash_of c.number (what e) ≡ false → Follows c.system (log ++ e ∷ []) (with_server server (with_entry (unqueued c) e))
follows_fallen c log e server post posts kind valid own order serves now later f other spared =
    sent_of c.system (log ++ e ∷ []) (with_server server (with_entry (unqueued c) e))
    (beside_next all_of (unqueued c) log e server valid own order now later (subst (λ before. Serves before e c.server server) (f.log).places serves) (without_answer c.system log c post posts kind valid now f) other spared
    (empty_falls_none (placement c.system log) (what e)))

-- so it is where that post is the new backup of a family
follows_unhanded : (c : ClusterView) (log : List Entry) (e : Entry) (server : Option PagerState) → HandsOver c → is_system c.system ≡ true → AllOwn c.cursor c.here
    → are_rising (moved_by c.places c.number (what e) (records_after c.number (what e) c.records)) ≡ true → Serves c.places e c.server server → IsOpen MayStand c.system log → IsOpen MayStand c.system (log ++ e ∷ [])
    → Follows c.system log c → is_by_cluster c.number e ≡ false → is_crash_of c.number (what e) ≡ false → Follows c.system (log ++ e ∷ []) (with_server server (with_entry (unqueued c) e))
follows_unhanded c log e server h valid own order serves now later f other spared =
    sent_of c.system (log ++ e ∷ []) (with_server server (with_entry (unqueued c) e))
    (beside_next all_of (unqueued c) log e server valid own order now later (subst (λ before. Serves before e c.server server) (f.log).places serves) (without_standing c.system log c h f) other spared
    (empty_falls_none (placement c.system log) (what e)))

-- a cluster that takes in an entry for which it is ready
pub absorbs : (c : ClusterView) (e : Entry) (server : Option PagerState) → is_system c.system ≡ true → AllOwn c.cursor c.here → are_rising (moved_by c.places c.number (what e) (records_after c.number (what e) c.records)) ≡ true
    → Serves c.places e c.server server → Absorbs e c (with_server server (absorbed c e))
absorbs c e server valid own order serves log now later ready = by_ready ready
  where
    queued : List Post → ClusterView
    queued posts = with_server server (record (with_entry c e) { queue = posts })

    whole : left_queued c.places (what e) c.queue ≡ c.queue → Follows c.system (log ++ e ∷ []) (with_server server (absorbed c e))
    whole left = subst (λ posts. Follows c.system (log ++ e ∷ []) (queued posts)) (sym left) (follows_entry c e server valid own order serves left log now later ready)

    by_post : (f : Follows c.system log c) → is_by_cluster c.number e ≡ false → is_crash_of c.number (what e) ≡ false → (q : Queued) → c.queue ≡ posts_of q → AreTogether q → Follows c.system (log ++ e ∷ []) (with_server server (absorbed c e))
    by_post f other spared Nothing posts together = whole (ap (left_queued c.places (what e)) posts ∙ sym posts)
    by_post f other spared (One post) posts together = by_test (falls c.places (what e) post.what) refl
      where
        left : left_queued c.places (what e) c.queue ≡ cond (falls c.places (what e) post.what) [] (post ∷ [])
        left = ap (left_queued c.places (what e)) posts

        by_test : (b : Bool) → falls c.places (what e) post.what ≡ b → Follows c.system (log ++ e ∷ []) (with_server server (absorbed c e))
        by_test false is = whole (left ∙ ap (λ b. cond b [] (post ∷ [])) is ∙ sym posts)
        by_test true is =
            subst (λ ps. Follows c.system (log ++ e ∷ []) (queued ps)) (sym (left ∙ ap (λ b. cond b [] (post ∷ [])) is))
            (follows_fallen c log e server post posts (fallen_comes c.places (what e) post.what together is) valid own order serves now later f other spared)

    foreign : (f : Follows c.system log c) → is_by_cluster c.number e ≡ false → is_crash_of c.number (what e) ≡ false → QueuedIn c.system log c → Follows c.system (log ++ e ∷ []) (with_server server (absorbed c e))
    foreign f other spared (inl alone) = by_post f other spared alone.queued alone.posts alone.together
    foreign f other spared (inr (inr (inr (inr y)))) =
        stays_renewing_here c log e server valid own order (subst (λ before. Serves before e c.server server) (f.log).places serves) now later f other spared y (left_queued c.places (what e) c.queue)
        (ap (left_queued c.places (what e)) y.posts ∙ renewal_falls c.number y.to y.pid (state_of y.process) c.places (what e) y.indices)
    foreign f other spared (inr (inr (inr (inl h)))) =
        subst (λ ps. Follows c.system (log ++ e ∷ []) (queued ps)) (sym (hands_left c.places (what e) c h)) (follows_unhanded c log e server h valid own order serves now later f other spared)
    foreign f other spared (inr (inr (inl b))) = whole (ap (left_queued c.places (what e)) b.posts ∙ sym b.posts)
    foreign f other spared (inr (inl y)) = whole (ap (left_queued c.places (what e)) y.posts ∙ batch_left c.places (what e) c.number y.pid (state_of y.process) y.read y.took y.indices ∙ sym y.posts)

    by_ready : IsReady log e c → Follows c.system (log ++ e ∷ []) (with_server server (absorbed c e))
    by_ready (inl f) = foreign f.0 f.1 f.2 (f.0).queued
    by_ready (inr s) = by_form (s.followed).queued
      where
        plain_form : are_plain (s.before).queue ≡ true → Follows c.system (log ++ e ∷ []) (with_server server (absorbed c e))
        plain_form plain = whole (own_left c log e s (plain_rest (s.before).queue plain))

        by_form : QueuedIn c.system log s.before → Follows c.system (log ++ e ∷ []) (with_server server (absorbed c e))
        by_form (inl alone) = plain_form (form_plain c.system log s.before (inl alone))
        by_form (inr (inl y)) = plain_form (form_plain c.system log s.before (inr (inl y)))
        by_form (inr (inr (inl b))) = plain_form (form_plain c.system log s.before (inr (inr b)))
        by_form (inr (inr (inr (inl h)))) = whole (own_left c log e s (handed_rest s.before h))
        by_form (inr (inr (inr (inr y)))) =
            follows_own_renewal c log e server valid own now later s y (subst (λ before. Serves before e c.server server) (ap (λ (d : ClusterView). d.places) (s.sent ∙ sent_is s.before (s.before).queue) ∙ ((s.followed).log).places) serves)

-- ---- what it brings

-- the processes that a loss moves here can wait for their pages, and none of them is here yet
pub may_wait : (c : ClusterView) (e : Entry) → is_system c.system ≡ true → ReadyFor e c → CanWait (moved_by c.places c.number (what e) (records_after c.number (what e) c.records)) (here_after (what e) c.here)
may_wait c e valid r = by_loss (one_of c.system r.log e r.open_next)
  where
    none : (w : What) → tells_or_closes w ≡ true → moved_by c.places c.number w (records_after c.number w c.records) ≡ []
    none = by_kind (λ w. moved_by c.places c.number w (records_after c.number w c.records) ≡ []) (λ at letter. refl) (λ pid at end. refl) (λ rests. refl) refl

    none_by_page : (w : What) → is_of_page w ≡ true → moved_by c.places c.number w (records_after c.number w c.records) ≡ []
    none_by_page = by_page (λ w. moved_by c.places c.number w (records_after c.number w c.records) ≡ []) (λ pid index. refl) (λ pid index bytes. refl)

    lost : (l : IsLoss (what e)) → IsReady r.log e c → CanWait (moved_by c.places c.number (what e) (records_after c.number (what e) c.records)) (here_after (what e) c.here)
    lost l (inl f) =
        subst (λ w. CanWait (moved_by c.places c.number w (records_after c.number w c.records)) (here_after w c.here)) (sym l.same)
        (subst (λ places. CanWait (filter (moves_here places l.lost c.number) c.records) c.here) (sym (((f.0).log).places))
        (can_wait c.system valid r.log e l.lost l.cause (loss_of c.system r.log e l r.open_log r.open_next) c.number (other_lost c e l f.2) c.records c.here (f.0).records ((f.0).processes).each_once))
    lost l (inr s) = absurd (own_no_loss c r.log e l s)

    nobody : moved_by c.places c.number (what e) (records_after c.number (what e) c.records) ≡ [] → CanWait (moved_by c.places c.number (what e) (records_after c.number (what e) c.records)) (here_after (what e) c.here)
    nobody empty p x at = let no : None ≡ Some x = ap (λ recs. record_in recs p) (sym empty) ∙ at in cc

    by_loss : OneOf (what e) → CanWait (moved_by c.places c.number (what e) (records_after c.number (what e) c.records)) (here_after (what e) c.here)
    by_loss (inl tells) = nobody (none (what e) tells)
    by_loss (inr (inl of)) = nobody (none_by_page (what e) of)
    by_loss (inr (inr (inl l))) = lost l r.ready
    by_loss (inr (inr (inr (inl of)))) = nobody (by_sync (λ w. moved_by c.places c.number w (records_after c.number w c.records) ≡ []) (λ pid at index bytes. refl) (λ pid small read took. refl) (what e) of)
    by_loss (inr (inr (inr (inr (inl b))))) = nobody (ap (λ w. moved_by c.places c.number w (records_after c.number w c.records)) b.same)
    by_loss (inr (inr (inr (inr (inr (inl y)))))) = nobody (ap (λ w. moved_by c.places c.number w (records_after c.number w c.records)) y.same)
    by_loss (inr (inr (inr (inr (inr (inr y)))))) = nobody (ap (λ w. moved_by c.places c.number w (records_after c.number w c.records)) y.same)

-- a page that comes may come to its process
pub may_come : (c : ClusterView) (e : Entry) → is_system c.system ≡ true → ReadyFor e c → CanCome (what e) c.here
may_come c e valid r = by_loss (one_of c.system r.log e r.open_next)
  where
    came : (queue : List Post) (p : Pid) (i : ℕ) (bytes : List ℕ) → what e ≡ PageIs p i bytes → IsUnended c.system r.log p → (h : Held) → IsHeldAs c.system r.log queue p h → CanComeTo i bytes h
    came queue p i bytes is unended (Waits waiting) held = may_come_to c.system r.log e queue p i bytes waiting valid (r.open_next).0 unended is held.1
    came queue p i bytes is unended _ held = tt

    home : (p : Pid) (h : Held) → rising (pids_in c.here) ≡ rising (home_pids c.system r.log c.number) → held_at c p ≡ Some h → IsUnended c.system r.log p
    home p h once there = ap is_some (home_here (placement c.system r.log) c.number (pids_in c.here) p (pids_apart c.system r.log valid (r.open_log).0) once (is_among c.here p h there)).found

    by_ready : (p : Pid) (i : ℕ) (bytes : List ℕ) → what e ≡ PageIs p i bytes → IsReady r.log e c → (h : Held) → held_at c p ≡ Some h → CanComeTo i bytes h
    by_ready p i bytes is (inl f) h there = came c.queue p i bytes is (home p h ((f.0).processes).each_once there) h (((f.0).processes).held p h there)
    by_ready p i bytes is (inr s) h there = by_queue (s.followed).queued
      where
        by_queue : QueuedIn c.system r.log s.before → CanComeTo i bytes h
        by_queue (inl alone) =
            let l = left_of c r.log e s alone in
            let here : (l.before).here ≡ c.here = sym (ap (λ (d : ClusterView). d.here) l.same) in
            let number : (l.before).number ≡ c.number = sym (ap (λ (d : ClusterView). d.number) l.same) in
            let once = ap (λ hs. rising (pids_in hs)) (sym here) ∙ ((l.followed).processes).each_once ∙ ap (λ k. rising (home_pids c.system r.log k)) number in
            came (l.before).queue p i bytes is (home p h once there) h (((l.followed).processes).held p h (ap (λ hs. held_of hs p) here ∙ there))
        by_queue (inr (inl y)) = absurd (true≢false (sym (batch_head c.system r.log e s.before y s.head) ∙ ap is_of_sync is))
        by_queue (inr (inr (inr (inr y)))) = absurd (true≢false (sym (renewal_head c.system r.log e s.before y s.head) ∙ ap is_of_renewal is))
        by_queue (inr (inr (inr (inl y)))) = absurd (true≢false (sym (ap is_rebackup (handed_is c.system r.log e s.before y s.head)) ∙ ap is_rebackup is))
        by_queue (inr (inr (inl b))) = absurd (true≢false (sym (ap is_of_page is) ∙ ap is_of_page (birth_is c.system r.log e s.before b s.head)))

    page : (w : What) → is_of_page w ≡ true → what e ≡ w → CanCome w c.here
    page = by_page (λ w. what e ≡ w → CanCome w c.here) (λ pid index is. tt) (λ pid index bytes is. by_ready pid index bytes is r.ready)

    by_loss : OneOf (what e) → CanCome (what e) c.here
    by_loss (inl tells) = by_kind (λ w. CanCome w c.here) (λ at letter. tt) (λ pid at end. tt) (λ rests. tt) tt (what e) tells
    by_loss (inr (inl of)) = page (what e) of refl
    by_loss (inr (inr (inl l))) = subst (λ w. CanCome w c.here) (sym l.same) tt
    by_loss (inr (inr (inr (inl of)))) = by_sync (λ w. CanCome w c.here) (λ pid at index bytes. tt) (λ pid small read took. tt) (what e) of
    by_loss (inr (inr (inr (inr (inl b))))) = subst (λ w. CanCome w c.here) (sym b.same) tt
    by_loss (inr (inr (inr (inr (inr (inl y)))))) = subst (λ w. CanCome w c.here) (sym y.same) tt
    by_loss (inr (inr (inr (inr (inr (inr y)))))) = subst (λ w. CanCome w c.here) (sym y.same) tt

-- ---- that it may be taken in, and what it makes of those that are here

-- its child, where it tells of one, is the next of its parent
pub ready_absorbable : (c : ClusterView) (e : Entry) → is_system c.system ≡ true → ReadyFor e c → CanBeAbsorbed c.places (what e)
ready_absorbable c e valid r =
    subst (λ places. CanBeAbsorbed places (what e)) (sym (places_ready c r.log e r.ready)) (may_be_absorbed c.system r.log e valid (r.open_log).0 (IsLegal-last MayStand c.system r.log e (r.open_next).0).stands)
  where
    places_ready : (c : ClusterView) (log : List Entry) (e : Entry) → IsReady log e c → c.places ≡ placement c.system log
    places_ready c log e (inl f) = ((f.0).log).places
    places_ready c log e (inr s) = ap (λ (d : ClusterView). d.places) (s.sent ∙ sent_is s.before (s.before).queue) ∙ ((s.followed).log).places

-- a child that it tells of is new among those that never synchronised
pub ready_joins : (c : ClusterView) (e : Entry) → is_system c.system ≡ true → ReadyFor e c → CanJoin (what e) c.family
ready_joins c e valid r = can_join c.system r.log e c.family valid r.open_log r.open_next (families_ready r.ready)
  where
    families_ready : IsReady r.log e c → c.family ≡ unsynced_births c.system r.log
    families_ready (inl f) = (f.0).family
    families_ready (inr s) = ap (λ (d : ClusterView). d.family) (s.sent ∙ sent_is s.before (s.before).queue) ∙ (s.followed).family

pub ready_own : (c : ClusterView) (e : Entry) → ReadyFor e c → AllOwn c.cursor c.here → AllOwn (c.cursor + 1) (here_after (what e) c.here)
ready_own c e r own = by_loss (one_of c.system r.log e r.open_next)
  where
    later : AllOwn (c.cursor + 1) c.here
    later = own_later c.cursor c.here own

    by_loss : OneOf (what e) → AllOwn (c.cursor + 1) (here_after (what e) c.here)
    by_loss (inl tells) = own_after c.cursor (what e) c.here tells own
    by_loss (inr (inl of)) = by_page (λ w. AllOwn (c.cursor + 1) (here_after w c.here)) (λ pid index. later) (λ pid index bytes. own_page (c.cursor + 1) pid index bytes c.here later) (what e) of
    by_loss (inr (inr (inl l))) = subst (λ w. AllOwn (c.cursor + 1) (here_after w c.here)) (sym l.same) later
    by_loss (inr (inr (inr (inl of)))) = by_sync (λ w. AllOwn (c.cursor + 1) (here_after w c.here)) (λ pid at index bytes. later) (λ pid small read took. later) (what e) of
    by_loss (inr (inr (inr (inr (inr (inl y)))))) = subst (λ w. AllOwn (c.cursor + 1) (here_after w c.here)) (sym y.same) later
    by_loss (inr (inr (inr (inr (inr (inr y)))))) = subst (λ w. AllOwn (c.cursor + 1) (here_after w c.here)) (sym y.same) later
    by_loss (inr (inr (inr (inr (inl b))))) = subst (λ w. AllOwn (c.cursor + 1) (here_after w c.here)) (sym b.same) (own_born (c.cursor + 1) b.parent b.child c.here later)
