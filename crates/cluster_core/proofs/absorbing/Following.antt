-- A cluster that takes in the next entry of a log that it follows goes on to follow it.
use Rattle.std.proofs.Common.{◌≡◌, ℕ, ◌+◌, ◌≤◌, refl, sym, ◌∙◌, ap, subst, arith, List, [], ◌∷◌, ◌++◌, map, length-append, Bool, true, false, cond, not, ◌&&◌, ◌||◌, eqb, eqb-true, eq-eqb, ne_eqb, add-zero, Option, Some, None, slice_get, true≢false, ◌⊎◌, inl, inr}
use Rattle.std.specs.Prelude.{filter, ◌≢◌, is_some, option_map, ⊤}
use Rattle.std.specs.List.{list_all}
use Rattle.std.specs.Option.{option_map_or}
use Rattle.std.proofs.lemmas.Bool.{and_parts}
use Rattle.std.proofs.lemmas.Option.{same_Some}
use Rattle.t32_base.specs.declared.process.Pid.{Pid}
use Rattle.t32_base.specs.declared.process.ClusterNo.{ClusterNo}
use Rattle.t32_base.specs.declared.process.Counts.{Counts}
use Rattle.t32_base.specs.declared.letter.BackRec.{BackRec}
use Rattle.t32_base.specs.declared.letter.Letter.{Letter}
use Rattle.t32_base.proofs.Facts.{one_at_most}
use Rattle.sys_text.specs.declared.system.System.{System}
use Rattle.sys_text.specs.Valid.{is_system}
use Rattle.proc_state.specs.declared.process.Process.{Process}
use Rattle.proc_state.specs.State.{ProcState, state_of}
use Rattle.sys_calls.specs.declared.steps.Emission.{Emission}
use Rattle.sys_calls.specs.declared.steps.Emission.TheVariants.{Mail as Sent, Exit as Ended}
use Rattle.bus_msg.specs.declared.entry.What.{What}
use Rattle.bus_msg.specs.declared.entry.By.{By}
use Rattle.bus_msg.specs.declared.entry.By.TheVariants.{Cluster, Bus}
use Rattle.bus_msg.specs.declared.entry.Post.{Post}
use Rattle.bus_msg.specs.declared.entry.Entry.{Entry}
use Rattle.bus_msg.specs.declared.placed.Placed.{Placed}
use Rattle.bus_msg.specs.Places.{Places, ClusterPlace, same_pid, unended_at}
use Rattle.bus_msg.specs.PlacedAfter.{what, placed_after}
use Rattle.channel_table.specs.Changes.{pids_differ}
use Rattle.cert_sched.specs.Parts.{rising}
use Rattle.cert_sched.specs.Schedule.{placement}
use Rattle.cert_sched.specs.Deeds.{deeds_in, is_end_of, is_birth_of, is_cut, starts}
use Rattle.cert_sched.specs.Simulation.{IsUnended}
use Rattle.replay_laws.specs.rolling.Behind.{RollsBehind}
use Rattle.cert_sched.specs.Steps.{process_of, silent_upto, emission_at, after_items}
use Rattle.cert_sched.specs.Rules.{is_over, is_by, is_living, home_at, is_by_home, is_by_right, has_its_pages, keeps_limits, tells_or_closes}
use Rattle.cert_sched.specs.Kinds.{ChildrenSynced, IsSent, KindHolds}
use Rattle.cert_sched.specs.Legal.{IsLegalBy, Stands, MayStand, KeepsWaits}
use Rattle.cluster_core.specs.Sent.{TellingMayStand}
use Rattle.cluster_core.specs.Sent.{SentMayStand, is_sent}
use Rattle.cert_sched.specs.Losses.{is_from, is_by_cluster, is_crash_of, was_lost_in, least_steps, capped}
use Rattle.cert_sched.specs.Appended.{entry_of}
use Rattle.cert_sched.specs.Rests.{home_pids}
use Rattle.cert_sched.proofs.ExitLaws.{unended_exit}
use Rattle.cert_sched.proofs.LogLaws.{placement-snoc, IsLegal-last}
use Rattle.log_laws.proofs.records.Standing.{all_stand as each_stands, legal_stands}
use Rattle.checkpoint_laws.proofs.batches.ChildrenStay.{children_stay}
use Rattle.cert_sched.proofs.RisingLaws.{rising-same}
use Rattle.cert_sched.proofs.StepLaws.{Tells, sent_applies}
use Rattle.cert_sched.proofs.MailLaws.{with_arrival}
use Rattle.backup_records.specs.Records.{records_after}
use Rattle.log_laws.specs.records.Kept.{KeepsRecords, changes_in_place}
use Rattle.log_laws.proofs.records.KeptLaws.{records_kept}
use Rattle.roll_forward.specs.Deeds.{Sends}
use Rattle.cluster_core.specs.Families.{family_after}
use Rattle.cluster_core.specs.Owed.{HoldsOwed, owed_after}
use Rattle.cluster_core.proofs.awaiting.OwedNext.{owed_next, told_spares}
use Rattle.cluster_core.specs.View.{ClusterView, held_at, head_of, after_head, after_sent, next_count, with_server, limits_of}
use Rattle.residents.specs.Held.{Held, Runs, Rolls, Waits, arrived_held, held_of, IsHeldWithin}
use Rattle.residents.specs.Residents.{pids_in}
use Rattle.cluster_core.specs.Parts.{AllOwn}
use Rattle.cluster_core.specs.Queue.{AreTogether, IsQueued, Queued, Nothing, One, posts_of, is_lone, IsQueueLegal, tells_steps, is_move_of, move_of, taken_by, state_by, state_now, with_queue}
use Rattle.cluster_core.specs.Holds.{CarriesMarks, HoldsMarks, IsHeldAs, HoldsPages, MarkedIfThere, process_in, is_fetch_queued, unended_process, HoldsLimits}
use Rattle.cluster_core.specs.Follows.{Follows, IsOpen, StandsBetween}
use Rattle.cluster_core.specs.Calls.{with_entry, here_after}
use Rattle.cluster_core.specs.Recovered.{left_by, moved_by, with_all_waiting}
use Rattle.cluster_core.proofs.births.FamilyNext.{family_next}
use Rattle.cluster_core.specs.ForksAgain.{HoldsForks}
use Rattle.cluster_core.proofs.forks.ForksAgain.{forks_told}
use Rattle.cluster_core.proofs.here.Beside.{FollowsBeside, HoldsMarksOf, HeldOf, any_of, one_of_them}
use Rattle.cluster_core.proofs.here.Here.{WasHere, arrival_at, arrival_in, arrival_letters, arrival_small, arrival_state, is_among, rolls_after, runs_after, was_here, arrival_within}
use Rattle.residents.proofs.Changing.{pid_same}
use Rattle.cluster_core.proofs.absorbing.Posted.{no_end, moves_it}
use Rattle.cluster_core.proofs.absorbing.Telling.{Telling, telling, not_closed, items_told, sends_still, silent_still, told_now}
use Rattle.cluster_core.proofs.here.Owning.{own_at}
use Rattle.replay_laws.proofs.rolling.KeepingBehind.{behind_standing}
use Rattle.replay_laws.proofs.rolling.ByRule.{standing}
use Rattle.cluster_core.proofs.syncs.Marking.{arrival_marked, exit_other, marked_after, queue_tells, told_leaves, with_one}
use Rattle.cluster_core.proofs.losses.Homes.{HomeHere, home_exit, home_here, pids_home, without}
use Rattle.cluster_core.proofs.absorbing.ByKind.{by_kind, by_page, lone_is, may_told, is_of_page, told_may}
use Rattle.cluster_core.proofs.absorbing.Counted.{capped_less, capped_next, count_more, lost_before}
use Rattle.cluster_core.proofs.absorbing.Fallen.{page_stays_queued}
use Rattle.cert_sched.specs.Told.{cluster_lost}
use Rattle.cluster_core.proofs.absorbing.Served.{accounts_next, foreign_no_answer, accounts_sent, ahead_after, plain_kind}
use Rattle.cluster_core.specs.Serving.{IsAheadThere, Serves}
use Rattle.page_server.specs.Account.{PagerState}
use Rattle.replay_laws.specs.forks.ForkWaits.{WaitsSo}
use Rattle.cluster_core.proofs.paging.HasPages.{pages_after, waits_after}
use Rattle.cluster_core.proofs.paging.PagePosts.{page_post_stays}
use Rattle.cluster_core.proofs.absorbing.Unmoved.{page_moves_none}
use Rattle.cluster_core.proofs.paging.Waiting.{told_cuts_none, told_fetches_none, waits_told}
use Rattle.cert_sched.proofs.CutLaws.{by_home_there}
use Rattle.cluster_core.proofs.working.KeptLimits.{arrival_brings, told_keeps, told_within}
use Rattle.checkpoint_laws.proofs.limits.StayingLimits.{sent_stays}
use Rattle.cluster_core.specs.Standing.{HoldsBackups, has_begun}
use Rattle.cluster_core.proofs.awaiting.Awaited.{awaited_after}

-- ---- one open step

-- a log, its next entry, and what that tells
pub record Next (system : System) (log : List Entry) (e : Entry) : Type 0 where
  pub legal : IsLegalBy MayStand system log
  pub more : IsLegalBy MayStand system (log ++ e ∷ [])
  pub may : TellingMayStand system log e
  pub before : is_over system log ≡ false
  pub goes_on : is_over system (log ++ e ∷ []) ≡ false
  pub told : Telling system log e

pub next_of : (system : System) (log : List Entry) (e : Entry) → tells_or_closes (what e) ≡ true → IsOpen MayStand system log → IsOpen MayStand system (log ++ e ∷ []) → Next system log e
next_of system log e tells now later =
    let last = IsLegal-last MayStand system log e later.0 in
    let may : TellingMayStand system log e = record { stands = last.stands; of_kind = tells; limits = last.limits; pages = last.pages } in
    record { legal = now.0; more = later.0; may = may; before = now.1; goes_on = later.1; told = telling system log e may (not_closed system log e may.of_kind later.1) }

-- ---- whose entry it is

-- two entries of one process come from one cluster
pub by_one : (k : ClusterNo) (a b : By) (home : Option ClusterNo) → is_by a home ≡ true → is_by b home ≡ true → is_from k a ≡ true → is_from k b ≡ true
by_one k (Cluster i) (Cluster j) (Some h) at bt from = eq-eqb j.0 k.0 (eqb-true j.0 h.0 bt ∙ sym (eqb-true i.0 h.0 at) ∙ eqb-true i.0 k.0 from)
by_one k (Cluster i) (Cluster j) None at bt from = absurd (true≢false (sym at))
by_one k (Cluster i) Bus home at bt from = absurd (true≢false (sym bt))
by_one k Bus b home at bt from = absurd (true≢false (sym at))

-- the home of a process that an entry tells of sent it
pub by_home_of : (places : Places) (by : By) (p : Pid) → is_by_home places by (Some p) ≡ true → is_by by (home_at places p) ≡ true
by_home_of places by p h = (and_parts (is_living places by) (is_by by (home_at places p)) h).1

-- an entry by another cluster tells of another process than one that is at home here
pub apart : (system : System) (log : List Entry) (e : Entry) (t : Telling system log e) (k : ClusterNo) (p : Pid) → HomeHere (placement system log) p k → is_by_cluster k e ≡ false → p.0 ≢ (t.pid).0
apart system log e t k p here foreign same =
    let home : home_at (placement system log) (t.pid) ≡ Some (here.placed).home = ap (home_at (placement system log)) (pid_same t.pid p (sym same)) ∙ ap (option_map (λ (q : Placed). q.home)) here.found in
    let by : is_by (e.post).by (Some (here.placed).home) ≡ true = subst (λ h. is_by (e.post).by h ≡ true) home (by_home_of (placement system log) (e.post).by t.pid t.by_home) in
    true≢false (sym (by_one k (Cluster (here.placed).home) (e.post).by (Some (here.placed).home) (eq-eqb ((here.placed).home).0 ((here.placed).home).0 refl) by here.home) ∙ foreign)

-- ---- the placement after it

-- an entry that tells of steps or closes the log leaves the clusters as they are
told_keeps_clusters : (places : Places) (w : What) → tells_or_closes w ≡ true → (placed_after places w).clusters ≡ places.clusters
told_keeps_clusters places = by_kind (λ w. (placed_after places w).clusters ≡ places.clusters) (λ at letter. refl) (λ pid at end. refl) (λ rests. refl) refl

-- the clusters stay
clusters_stay : (system : System) (log : List Entry) (e : Entry) → Next system log e → (placement system (log ++ e ∷ [])).clusters ≡ (placement system log).clusters
clusters_stay system log e n = ap (λ (places : Places). places.clusters) (placement-snoc system log e) ∙ told_keeps_clusters (placement system log) (what e) (n.may).of_kind

living_stays : (system : System) (log : List Entry) (e : Entry) (by : By) → Next system log e → is_living (placement system (log ++ e ∷ [])) by ≡ is_living (placement system log) by
living_stays system log e (Cluster k) n = ap (λ (cs : List ClusterPlace). option_map_or (λ (c : ClusterPlace). c.lives) (slice_get cs k.0) false) (clusters_stay system log e n)
living_stays system log e Bus n = refl

-- every process but the one that is told of is found where it was
pub found_stays : (system : System) (log : List Entry) (e : Entry) (t : Telling system log e) (r : Pid) → r.0 ≢ (t.pid).0 → unended_at (placement system (log ++ e ∷ [])) r ≡ unended_at (placement system log) r
found_stays system log e t r other = ap (λ places. unended_at places r) (placement-snoc system log e) ∙ by_emission t.emission t.tells
  where
    by_emission : (m : Emission) → Tells t.pid t.at m (what e) → unended_at (placed_after (placement system log) (what e)) r ≡ unended_at (placement system log) r
    by_emission (Sent letter) tells = ap (λ w. unended_at (placed_after (placement system log) w) r) tells.1
    by_emission (Ended end) tells = ap (λ w. unended_at (placed_after (placement system log) w) r) tells ∙ unended_exit t.pid r (placement system log).placed other

-- ---- the processes here

-- a letter and an exit leave what their step left
taken_same : (w : What) (p : Pid) (at : ℕ) (m : Emission) (s : ProcState) → Tells p at m w → taken_by w s ≡ s
taken_same w p at (Sent letter) s tells = ap (λ w. taken_by w s) tells.1
taken_same w p at (Ended end) s tells = ap (λ w. taken_by w s) tells

tells_same : (system : System) (log : List Entry) (e : Entry) (t : Telling system log e) → tells_steps (what e) ≡ true
tells_same system log e t = by_emission t.emission t.tells
  where
    by_emission : (m : Emission) → Tells t.pid t.at m (what e) → tells_steps (what e) ≡ true
    by_emission (Sent letter) tells = ap tells_steps tells.1
    by_emission (Ended end) tells = ap tells_steps tells

-- a page that is asked for or comes moves no process
pub page_queued : (p : Pid) (post : Post) → is_of_page post.what ≡ true → move_of p (post ∷ []) ≡ None
page_queued p post of = ap (λ b. option_map (λ (post : Post). post.what) (cond b (Some post) None)) (page_moves_none p post of)

-- a process at home that has not ended, where its cluster has one post, which tells of steps: after an entry of another process it is where it was, with the letter
-- where that goes there
now_arrives_told : (system : System) (log : List Entry) (e : Entry) (n : Next system log e) (k : ClusterNo) (post : Post) (p : Pid) (steps : ℕ) (s : ProcState) → is_from k post.by ≡ true → TellingMayStand system log (entry_of system log post)
    → p.0 ≢ ((n.told).pid).0 → is_some (unended_at (placement system log) p) ≡ true → state_now system log (post ∷ []) p steps ≡ Some s → state_now system (log ++ e ∷ []) (post ∷ []) p steps ≡ Some (with_arrival (n.told).emission p s)
now_arrives_told system log e n k post p steps s own may apart placed was = by_move (is_move_of p post) refl was
  where
    u : Telling system log (entry_of system log post)
    u = telling system log (entry_of system log post) may (no_end k (placement system log) post.by post.what may.of_kind own (may.stands).by_right)

    move_is : (b : Bool) → is_move_of p post ≡ b → move_of p (post ∷ []) ≡ cond b (Some post.what) None
    move_is b is = ap (λ c. option_map (λ (post : Post). post.what) (cond c (Some post) None)) is ∙ by_bool b
      where
        by_bool : (b : Bool) → option_map (λ (post : Post). post.what) (cond b (Some post) None) ≡ cond b (Some post.what) None
        by_bool true = refl
        by_bool false = refl

    moved : (q : Pid) → u.pid ≡ q → q.0 ≢ ((n.told).pid).0 → option_map (taken_by post.what) (after_items system log post.what) ≡ Some s
        → option_map (taken_by post.what) (after_items system (log ++ e ∷ []) post.what) ≡ Some (with_arrival (n.told).emission q s)
    moved q of apart is =
        let left : taken_by post.what u.after ≡ s = same_Some (taken_by post.what u.after) s (sym (ap (option_map (taken_by post.what)) u.items) ∙ is) in
        let ends : u.after ≡ s = sym (taken_same post.what u.pid u.at u.emission u.after u.tells) ∙ left in
        let sends = sends_still system log e n.told u.pid u.at u.emission u.after (λ same. apart (ap (λ (r : Pid). r.0) (sym of) ∙ same)) u.is in
        ap (option_map (taken_by post.what)) (items_told system (log ++ e ∷ []) post.what u.pid u.at u.emission (with_arrival (n.told).emission u.pid u.after) sends u.tells)
        ∙ ap Some (taken_same post.what u.pid u.at u.emission (with_arrival (n.told).emission u.pid u.after) u.tells)
        ∙ (λ i. Some (with_arrival (n.told).emission (of i) (ends i)))

    by_move : (b : Bool) → is_move_of p post ≡ b → state_now system log (post ∷ []) p steps ≡ Some s → state_now system (log ++ e ∷ []) (post ∷ []) p steps ≡ Some (with_arrival (n.told).emission p s)
    by_move true is was =
        let of : u.pid ≡ p = same_Some u.pid p (sym u.process ∙ moves_it p (post ∷ []) post.what (move_is true is)) in
        ap (state_by system (log ++ e ∷ []) p steps) (move_is true is) ∙ moved p of apart (sym (ap (state_by system log p steps) (move_is true is)) ∙ was)
    by_move false is was =
        ap (state_by system (log ++ e ∷ []) p steps) (move_is false is)
        ∙ silent_still system log e n.told p steps s n.legal n.before apart placed (sym (ap (state_by system log p steps) (move_is false is)) ∙ was)

-- a process at home that has not ended, where its cluster has at most one post, which may follow: after an entry of another process it is
-- where it was, with the letter where that goes there
now_arrives : (system : System) (log : List Entry) (e : Entry) (n : Next system log e) (k : ClusterNo) (q : Queued) (p : Pid) (steps : ℕ) (s : ProcState) → AreTogether q → list_all (λ (post : Post). is_from k post.by) (posts_of q) ≡ true
    → IsQueueLegal SentMayStand system log (posts_of q) → p.0 ≢ ((n.told).pid).0 → is_some (unended_at (placement system log) p) ≡ true → state_now system log (posts_of q) p steps ≡ Some s
    → state_now system (log ++ e ∷ []) (posts_of q) p steps ≡ Some (with_arrival (n.told).emission p s)
now_arrives system log e n k Nothing p steps s together own legal apart placed was = silent_still system log e n.told p steps s n.legal n.before apart placed was
now_arrives system log e n k (One post) p steps s together own legal apart placed was = by_kind_of (lone_is post.what together)
  where
    by_kind_of : (tells_or_closes post.what ≡ true) ⊎ (is_of_page post.what ≡ true) → state_now system (log ++ e ∷ []) (post ∷ []) p steps ≡ Some (with_arrival (n.told).emission p s)
    by_kind_of (inl tells) = now_arrives_told system log e n k post p steps s (and_parts (is_from k post.by) true own).0 (told_may system log (entry_of system log post) legal.0 tells) apart placed was
    by_kind_of (inr of) =
        let none = page_queued p post of in
        ap (state_by system (log ++ e ∷ []) p steps) none ∙ silent_still system log e n.told p steps s n.legal n.before apart placed (sym (ap (state_by system log p steps) none) ∙ was)

-- ---- each once

pub letter_pids : (at : Pid → Bool) (f : Held → Held) (here : List (Pid × Held)) → pids_in (map (λ (e : Pid × Held). cond (at e.0) (e.0, f e.1) e) here) ≡ pids_in here
letter_pids at f [] = refl
letter_pids at f (e ∷ here) = by_test (at e.0) (letter_pids at f here)
  where
    by_test : (b : Bool) → pids_in (map (λ (e : Pid × Held). cond (at e.0) (e.0, f e.1) e) here) ≡ pids_in here
        → ((cond b (e.0, f e.1) e).0).0 ∷ pids_in (map (λ (e : Pid × Held). cond (at e.0) (e.0, f e.1) e) here) ≡ (e.0).0 ∷ pids_in here
    by_test true more = ap (λ ns. (e.0).0 ∷ ns) more
    by_test false more = ap (λ ns. (e.0).0 ∷ ns) more

held_exit : (p : Pid) (here : List (Pid × Held)) → pids_in (filter (λ (e : Pid × Held). not (same_pid e.0 p)) here) ≡ without p.0 (pids_in here)
held_exit p [] = refl
held_exit p (e ∷ here) = by_test (not (same_pid e.0 p)) (held_exit p here)
  where
    by_test : (b : Bool) → pids_in (filter (λ (e : Pid × Held). not (same_pid e.0 p)) here) ≡ without p.0 (pids_in here) →
        pids_in (cond b (e ∷ filter (λ (e : Pid × Held). not (same_pid e.0 p)) here) (filter (λ (e : Pid × Held). not (same_pid e.0 p)) here)) ≡ cond b ((e.0).0 ∷ without p.0 (pids_in here)) (without p.0 (pids_in here))
    by_test true more = ap (λ ns. (e.0).0 ∷ ns) more
    by_test false more = more

-- the pids here are those at home after the entry too
once_after : (system : System) (log : List Entry) (e : Entry) (t : Telling system log e) (k : ClusterNo) (here : List (Pid × Held)) → rising (pids_in here) ≡ rising (home_pids system log k)
    → rising (pids_in (here_after (what e) here)) ≡ rising (home_pids system (log ++ e ∷ []) k)
once_after system log e t k here same = by_emission t.emission t.tells ∙ ap rising (sym (ap (λ (places : Places). pids_home k places.placed) (placement-snoc system log e)))
  where
    by_emission : (m : Emission) → Tells t.pid t.at m (what e) → rising (pids_in (here_after (what e) here)) ≡ rising (pids_home k (placed_after (placement system log) (what e)).placed)
    by_emission (Sent letter) tells =
        ap (λ w. rising (pids_in (here_after w here))) tells.1
        ∙ ap rising (letter_pids (λ q. is_end_of q letter.to) (λ h. arrived_held h letter) here)
        ∙ same ∙ ap (λ w. rising (pids_home k (placed_after (placement system log) w).placed)) (sym tells.1)
    by_emission (Ended end) tells =
        ap (λ w. rising (pids_in (here_after w here))) tells
        ∙ ap rising (held_exit t.pid here)
        ∙ rising-same (λ m. not (eqb m (t.pid).0)) (pids_in here) (home_pids system log k) same
        ∙ ap rising (sym (home_exit k t.pid (placement system log).placed))
        ∙ ap (λ w. rising (pids_home k (placed_after (placement system log) w).placed)) (sym tells)

-- ---- posts

-- a process may end where its children synchronised
abbrev pub MayEnd : System → List Entry → Pid → Emission → Type 0
MayEnd system log p (Sent letter) = ⊤
MayEnd system log p (Ended end) = ChildrenSynced system log p

-- one whose end is posted may end after an entry that does nothing of it
pub may_end_still : (system : System) (log : List Entry) (e f : Entry) (p : Pid) (at : ℕ) (m : Emission) (w : What) → is_system system ≡ true → IsLegalBy Stands system log → Stands system log e → deeds_in p (what e) ≡ [] → Tells p at m w
    → KindHolds system log f w → MayEnd system (log ++ e ∷ []) p m
may_end_still system log e f p at (Sent letter) w valid legal stands none tells kind = tt
may_end_still system log e f p at (Ended end) w valid legal stands none tells kind = children_stay system log e p valid legal stands none (subst (KindHolds system log f) tells kind).1

-- a post may follow that tells what its process sends, by the home of that, where the process is within the limits after it
pub post_may : (system : System) (log : List Entry) (post : Post) (p : Pid) (at : ℕ) (m : Emission) (s : ProcState) → IsLegalBy MayStand system log → is_over system log ≡ false → tells_or_closes post.what ≡ true → Tells p at m post.what
    → emission_at system log p at ≡ Some (m, s) → is_by_home (placement system log) post.by (Some p) ≡ true → keeps_limits system log p s ≡ true → KeepsWaits system log (entry_of system log post) → MayEnd system log p m → TellingMayStand system log (entry_of system log post)
post_may system log post p at m s legal goes_on of_kind tells sends at_home keeps pages may_end = record {
  stands = record {
    placed = (refl, refl, goes_on);
    by_right = right_of m tells;
    applies = sent_applies system log (entry_of system log post) p at m s sends tells;
    kind = kind_of m tells (ap (option_map (λ (r : Emission × ProcState). r.0)) sends) may_end;
  };
  of_kind = of_kind;
  limits = told_keeps system log p at m s sends post.what tells keeps;
  pages = pages;
}
  where
    right_of : (m : Emission) → Tells p at m post.what → is_by_right (placement system log) post.by post.what ≡ true
    right_of (Sent letter) tells = ap (is_by_right (placement system log) post.by) tells.1 ∙ ap (λ p. is_by_home (placement system log) post.by (Some p)) tells.0 ∙ at_home
    right_of (Ended end) tells = ap (is_by_right (placement system log) post.by) tells ∙ at_home

    kind_of : (m : Emission) → Tells p at m post.what → IsSent system log p at m → MayEnd system log p m → KindHolds system log (entry_of system log post) post.what
    kind_of (Sent letter) tells emits may_end = subst (λ w. KindHolds system log (entry_of system log post) w) (sym tells.1) (subst (λ p. IsSent system log p at (Sent letter)) (sym tells.0) emits)
    kind_of (Ended end) tells emits may_end = subst (λ w. KindHolds system log (entry_of system log post) w) (sym tells) (emits, may_end)

-- an entry that tells starts no process anew
told_starts_none : (p : Pid) (e : Entry) → tells_or_closes (what e) ≡ true → starts p e ≡ false
told_starts_none p e = by_kind (λ w. (is_cut p w || is_birth_of p w) ≡ false) (λ at letter. refl) (λ pid at end. refl) (λ rests. refl) refl (what e)

-- an entry that tells loses no cluster
told_loses_none : (k : ClusterNo) (w : What) → tells_or_closes w ≡ true → is_crash_of k w ≡ false
told_loses_none k = by_kind (λ w. is_crash_of k w ≡ false) (λ at letter. refl) (λ pid at end. refl) (λ rests. refl) refl

told_loses : (w : What) → tells_or_closes w ≡ true → cluster_lost w ≡ None
told_loses = by_kind (λ w. cluster_lost w ≡ None) (λ at letter. refl) (λ pid at end. refl) (λ rests. refl) refl

-- an entry tells of no deed of another process
no_deeds : (p q : Pid) (at : ℕ) (m : Emission) (w : What) → Tells q at m w → p.0 ≢ q.0 → deeds_in p w ≡ []
no_deeds p q at m w tells other = by_emission m tells
  where
    apart_pids : (r : Pid) → r ≡ q → same_pid r p ≡ false
    apart_pids r is = ne_eqb r.0 p.0 (λ same. other (sym same ∙ ap (λ (x : Pid). x.0) is))

    by_emission : (m : Emission) → Tells q at m w → deeds_in p w ≡ []
    by_emission (Sent letter) tells = ap (deeds_in p) tells.1 ∙ ap (λ b. cond b (Sends (Sent letter) ∷ []) []) (apart_pids letter.from tells.0)
    by_emission (Ended end) tells = ap (deeds_in p) tells ∙ ap (λ b. cond b (Sends (Ended end) ∷ []) []) (apart_pids q refl)

-- a post of a cluster may follow after one more entry of another
post_stays : (system : System) (log : List Entry) (e : Entry) (n : Next system log e) (k : ClusterNo) (post : Post) → is_system system ≡ true → pids_differ (placement system log).placed ≡ true → is_by_cluster k e ≡ false → is_from k post.by ≡ true
    → TellingMayStand system log (entry_of system log post) → TellingMayStand system (log ++ e ∷ []) (entry_of system (log ++ e ∷ []) post)
post_stays system log e n k post valid differ foreign own may =
    post_may system more post u.pid u.at u.emission (with_arrival (n.told).emission u.pid u.after) n.more n.goes_on may.of_kind u.tells sends at_home keeps
    (waits_after system log e k post valid n.legal (n.may).stands differ (told_loses_none k (what e) (n.may).of_kind) may.of_kind (ap (is_by_home (placement system log) post.by) u.process ∙ u.by_home) own may.pages)
    (may_end_still system log e (entry_of system log post) u.pid u.at u.emission post.what valid (each_stands system log n.legal) (n.may).stands (no_deeds u.pid (n.told).pid (n.told).at (n.told).emission (what e) (n.told).tells other) u.tells (may.stands).kind)
  where
    more : List Entry
    more = log ++ e ∷ []

    u : Telling system log (entry_of system log post)
    u = telling system log (entry_of system log post) may (no_end k (placement system log) post.by post.what may.of_kind own (may.stands).by_right)

    other : (u.pid).0 ≢ ((n.told).pid).0
    other is =
        let by_u : is_by post.by (home_at (placement system log) u.pid) ≡ true = by_home_of (placement system log) post.by u.pid u.by_home in
        let by_e : is_by (e.post).by (home_at (placement system log) (n.told).pid) ≡ true = by_home_of (placement system log) (e.post).by (n.told).pid (n.told).by_home in
        true≢false (sym (by_one k post.by (e.post).by (home_at (placement system log) u.pid) by_u (subst (λ p. is_by (e.post).by (home_at (placement system log) p) ≡ true) (sym (pid_same u.pid (n.told).pid is)) by_e) own) ∙ foreign)

    sends : emission_at system more u.pid u.at ≡ Some (u.emission, with_arrival (n.told).emission u.pid u.after)
    sends = sends_still system log e n.told u.pid u.at u.emission u.after other u.is

    -- the entry starts it not anew
    quiet : starts u.pid e ≡ false
    quiet = told_starts_none u.pid e (n.may).of_kind

    keeps : keeps_limits system more u.pid (with_arrival (n.told).emission u.pid u.after) ≡ true
    keeps =
        subst (λ s. keeps_limits system more u.pid s ≡ true) (sym (arrival_brings (what e) (n.told).pid (n.told).at (n.told).emission u.pid u.after (n.told).tells))
        (sent_stays system log e u.pid u.at u.emission u.after valid (legal_stands MayStand standing system log n.legal) (by_home_there (placement system log) post.by u.pid u.by_home) quiet u.is (told_within system log u.pid u.at u.emission u.after u.is post.what u.tells may.limits))

    found : home_at (placement system more) u.pid ≡ home_at (placement system log) u.pid
    found = ap (option_map (λ (q : Placed). q.home)) (found_stays system log e n.told u.pid other)

    at_home : is_by_home (placement system more) post.by (Some u.pid) ≡ true
    at_home = (λ i. living_stays system log e post.by n i && is_by post.by (found i)) ∙ u.by_home

-- ---- the whole, for an entry of another cluster

-- a process to which what an emission says has arrived is held as the log says
held_arrived : (system : System) (log : List Entry) (queue posts : List Post) (w : What) (sender : Pid) (at : ℕ) (m : Emission) (p : Pid) (s : Process) → queue ≡ posts → tells_or_closes w ≡ true → Tells sender at m w
    → state_now system log posts p (s.small).steps ≡ Some (with_arrival m p (state_of s)) → IsHeldAs system log queue p (Runs (arrival_in w p s))
held_arrived system log queue posts w sender at m p s same of_kind tells is =
    (λ i. state_now system log (same i) p (arrival_small w p s of_kind i).steps) ∙ is ∙ ap Some (sym (arrival_state w sender at m p s tells))

-- so is one that rolls forward, to which an entry brings its letters, where nothing of it is queued and the entry tells of another
rolls_arrived : (system : System) (log : List Entry) (e : Entry) (n : Next system log e) (queue : List Post) (p : Pid) (s : Process) (counts : Counts) (births : List Pid) → is_system system ≡ true → IsUnended system log p → p.0 ≢ ((n.told).pid).0
    → move_of p queue ≡ None → RollsBehind system log p (state_of s) counts births → IsHeldAs system (log ++ e ∷ []) queue p (Rolls (arrival_in (what e) p s) counts births)
rolls_arrived system log e n queue p s counts births valid unended other none rolls = (
  none,
  subst (λ t. RollsBehind system (log ++ e ∷ []) p t counts births) (sym (arrival_letters (what e) p s (n.may).of_kind))
      (behind_standing system log e p MayStand standing (state_of s) counts births valid n.more unended (told_cuts_none p (what e) (n.may).of_kind) (no_deeds p (n.told).pid (n.told).at (n.told).emission (what e) (n.told).tells other) rolls),
)

-- a cluster with an entry taken in that is no loss
abbrev pub taken_in : ClusterView → Entry → ClusterView
taken_in c e = record c { cursor = c.cursor + 1; places = placed_after c.places (what e); here = here_after (what e) c.here; records = records_after c.number (what e) c.records; family = family_after (what e) c.family; owed = owed_after c.number c.places (what e) c.owed; steps = next_count c.steps }

-- that is what the cluster is then
pub told_taken : (c : ClusterView) (e : Entry) → tells_or_closes (what e) ≡ true → with_entry c e ≡ taken_in c e
told_taken c e tells =
    let here = by_kind (λ w. with_all_waiting (moved_by c.places c.number w (records_after c.number w c.records)) (here_after w c.here) ≡ here_after w c.here) (λ at letter. refl) (λ pid at end. refl) (λ rests. refl) refl (what e) tells in
    let recs = by_kind (λ w. left_by c.places c.number w (records_after c.number w c.records) ≡ records_after c.number w c.records) (λ at letter. refl) (λ pid at end. refl) (λ rests. refl) refl (what e) tells in
    λ i. record c { cursor = c.cursor + 1; places = placed_after c.places (what e); here = here i; records = recs i; family = family_after (what e) c.family; owed = owed_after c.number c.places (what e) c.owed; steps = next_count c.steps }

-- what is held stays what the log says
held_foreign : (which : Pid → Bool) (c : ClusterView) (log : List Entry) (e : Entry) (n : Next c.system log e) (q : Queued) → c.queue ≡ posts_of q → AreTogether q → is_system c.system ≡ true → pids_differ (placement c.system log).placed ≡ true → AllOwn c.cursor c.here
    → FollowsBeside which c.system log c → is_by_cluster c.number e ≡ false → (p : Pid) (h : Held) → held_at (taken_in c e) p ≡ Some h → HeldOf which c.system (log ++ e ∷ []) c.queue p h
held_foreign which c log e n q queue_is together valid differ own f foreign p h at = by_held before.was before.there before.same
  where
    before : WasHere (what e) c.here p h
    before = was_here (what e) c.here p h (n.may).of_kind at

    home : HomeHere (placement c.system log) p c.number
    home = home_here (placement c.system log) c.number (pids_in c.here) p differ (f.processes).each_once (is_among c.here p before.was before.there)

    other : p.0 ≢ ((n.told).pid).0
    other = apart c.system log e n.told c.number p home foreign

    by_held : (was : Held) → held_at c p ≡ Some was → h ≡ arrival_at (what e) p was → HeldOf which c.system (log ++ e ∷ []) c.queue p h
    by_held (Runs s) there is = subst (λ h. HeldOf which c.system (log ++ e ∷ []) c.queue p h) (sym (is ∙ runs_after (what e) p s (n.may).of_kind)) (λ passes.
        let posted = subst (λ ps. list_all (λ (post : Post). is_from c.number post.by) ps ≡ true) queue_is (f.queue).own in
        let legal = subst (IsQueueLegal SentMayStand c.system log) queue_is (f.queue).legal in
        let old : state_now c.system log (posts_of q) p (s.small).steps ≡ Some (state_of s) = ap (λ ps. state_now c.system log ps p (s.small).steps) (sym queue_is) ∙ (f.processes).held p (Runs s) there passes in
        let moved = now_arrives c.system log e n c.number q p (s.small).steps (state_of s) together posted legal other (ap is_some home.found) old in
        held_arrived c.system (log ++ e ∷ []) c.queue (posts_of q) (what e) (n.told).pid (n.told).at (n.told).emission p s queue_is (n.may).of_kind (n.told).tells moved)
    by_held (Rolls s counts births) there is =
        let old : (move_of p c.queue ≡ None) × RollsBehind c.system log p (state_of s) counts births = (f.processes).held p (Rolls s counts births) there in
        subst (λ h. HeldOf which c.system (log ++ e ∷ []) c.queue p h) (sym (is ∙ rolls_after (what e) p s counts births (n.may).of_kind)) (rolls_arrived c.system log e n c.queue p s counts births valid (ap is_some home.found) other old.0 old.1)
    by_held (Waits waiting) there is =
        let mine = own_at c.cursor c.here p (Waits waiting) own there in
        let old : (move_of p c.queue ≡ None) × WaitsSo c.system log p (is_fetch_queued p c.queue) waiting = (f.processes).held p (Waits waiting) there in
        subst (λ h. HeldOf which c.system (log ++ e ∷ []) c.queue p h) (sym is)
        (any_of which c.system (log ++ e ∷ []) c.queue p (arrival_at (what e) p (Waits waiting))
        (waits_told c.system log e c.queue c.queue p waiting valid n.more (ap is_some home.found) (n.may).of_kind mine.pid_is (no_deeds p (n.told).pid (n.told).at (n.told).emission (what e) (n.told).tells other) old.0 (λ i. refl) old.1))

-- who runs or rolls forward then did so before
pub ran_before : (w : What) (p : Pid) (was : Held) → tells_or_closes w ≡ true → is_some (process_in (arrival_at w p was)) ≡ is_some (process_in was)
ran_before w p was = by_kind (λ w. is_some (process_in (arrival_at w p was)) ≡ is_some (process_in was)) (λ at letter. by_test letter (is_end_of p letter.to)) (λ pid at end. refl) (λ rests. refl) refl w
  where
    by_held : (letter : Letter) (h : Held) → is_some (process_in (arrived_held h letter)) ≡ is_some (process_in h)
    by_held letter (Runs s) = refl
    by_held letter _ = refl

    by_test : (letter : Letter) (b : Bool) → is_some (process_in (cond b (arrived_held was letter) was)) ≡ is_some (process_in was)
    by_test letter true = by_held letter was
    by_test letter false = refl

-- and has its pages still
pub pages_told : (c : ClusterView) (log : List Entry) (e : Entry) (n : Next c.system log e) → is_system c.system ≡ true → pids_differ (placement c.system log).placed ≡ true → rising (pids_in c.here) ≡ rising (home_pids c.system log c.number) → HoldsPages c.system log c
    → HoldsPages c.system (log ++ e ∷ []) (taken_in c e)
pages_told c log e n valid differ once pages p h at runs =
    let before = was_here (what e) c.here p h (n.may).of_kind at in
    let home = home_here (placement c.system log) c.number (pids_in c.here) p differ once (is_among c.here p before.was before.there) in
    pages_after c.system log e p c.number valid n.legal (n.may).stands differ home (told_loses_none c.number (what e) (n.may).of_kind)
    (pages p before.was before.there (sym (ran_before (what e) p before.was (n.may).of_kind) ∙ ap (λ h. is_some (process_in h)) (sym before.same) ∙ runs))

-- who has begun then had before
begun_before : (w : What) (p : Pid) (was : Held) → tells_or_closes w ≡ true → has_begun (arrival_at w p was) ≡ has_begun was
begun_before w p was = by_kind (λ w. has_begun (arrival_at w p was) ≡ has_begun was) (λ at letter. by_test letter (is_end_of p letter.to)) (λ pid at end. refl) (λ rests. refl) refl w
  where
    by_held : (letter : Letter) (h : Held) → has_begun (arrived_held h letter) ≡ has_begun h
    by_held letter (Runs s) = refl
    by_held letter _ = refl

    by_test : (letter : Letter) (b : Bool) → has_begun (cond b (arrived_held was letter) was) ≡ has_begun was
    by_test letter true = by_held letter was
    by_test letter false = refl

-- and waits for no new backup still
backups_told : (c : ClusterView) (log : List Entry) (e : Entry) (n : Next c.system log e) → is_system c.system ≡ true → pids_differ (placement c.system log).placed ≡ true → rising (pids_in c.here) ≡ rising (home_pids c.system log c.number) → HoldsBackups c.system log c
    → HoldsBackups c.system (log ++ e ∷ []) (taken_in c e)
backups_told c log e n valid differ once backups p h at begun =
    let before = was_here (what e) c.here p h (n.may).of_kind at in
    let home = home_here (placement c.system log) c.number (pids_in c.here) p differ once (is_among c.here p before.was before.there) in
    awaited_after c.system log e p c.number valid n.legal (n.may).stands differ home (told_loses_none c.number (what e) (n.may).of_kind)
    (backups p before.was before.there (sym (begun_before (what e) p before.was (n.may).of_kind) ∙ ap has_begun (sym before.same) ∙ begun))

-- and is within its limits still
limits_told : (c : ClusterView) (e : Entry) → tells_or_closes (what e) ≡ true → HoldsLimits c.system c → HoldsLimits c.system (taken_in c e)
limits_told c e tells limits p h at =
    let before = was_here (what e) c.here p h tells at in
    subst (IsHeldWithin (limits_of c.system)) (sym before.same) (arrival_within (limits_of c.system) (what e) p before.was tells (limits p before.was before.there))

queue_foreign : (c : ClusterView) (log : List Entry) (e : Entry) (n : Next c.system log e) (q : Queued) → AreTogether q → is_system c.system ≡ true → pids_differ (placement c.system log).placed ≡ true → is_by_cluster c.number e ≡ false
    → list_all (λ (post : Post). is_from c.number post.by) (posts_of q) ≡ true → IsQueueLegal SentMayStand c.system log (posts_of q) → IsQueueLegal SentMayStand c.system (log ++ e ∷ []) (posts_of q)
queue_foreign c log e n Nothing together valid differ foreign own legal = tt
queue_foreign c log e n (One post) together valid differ foreign own legal = (by_kind_of (lone_is post.what together), tt)
  where
    from : is_from c.number post.by ≡ true
    from = (and_parts (is_from c.number post.by) true own).0

    by_kind_of : (tells_or_closes post.what ≡ true) ⊎ (is_of_page post.what ≡ true) → SentMayStand c.system (log ++ e ∷ []) (entry_of c.system (log ++ e ∷ []) post)
    by_kind_of (inl tells) = may_told c.system (log ++ e ∷ []) (entry_of c.system (log ++ e ∷ []) post) (post_stays c.system log e n c.number post valid differ foreign from (told_may c.system log (entry_of c.system log post) legal.0 tells))
    by_kind_of (inr of) = page_post_stays c.system valid log e c.number post (n.legal, n.before) (n.more, n.goes_on) foreign (told_loses_none c.number (what e) (n.may).of_kind) from of (page_stays_queued (placement c.system log) (what e) post.what of (told_loses (what e) (n.may).of_kind)) legal.0

-- each process that is here then has its marks still
marks_foreign : (which : Pid → Bool) (c : ClusterView) (log : List Entry) (e : Entry) (n : Next c.system log e) → is_system c.system ≡ true → pids_differ (placement c.system log).placed ≡ true → AllOwn c.cursor c.here
    → FollowsBeside which c.system log c → is_by_cluster c.number e ≡ false → HoldsMarksOf which c.system (log ++ e ∷ []) (taken_in c e)
marks_foreign which c log e n valid differ own f foreign p h at among =
    let m0 : MarkedIfThere CarriesMarks c.system (with_queue c.system log (posts_of q)) p (unended_process before.was) =
    subst (λ ps. MarkedIfThere CarriesMarks c.system (with_queue c.system log ps) p (unended_process before.was)) queue_is (f.marks p before.was before.there among) in
    subst (λ ps. MarkedIfThere CarriesMarks c.system (with_queue c.system later ps) p (unended_process h)) (sym queue_is)
    (marked_after c.system log e p q before.was h valid (legal_stands MayStand standing c.system later n.more) (ap is_some home.found) (ap is_some (found_stays c.system log e n.told p other ∙ home.found)) (f.queued).together
    (queue_tells c.system log c.number q posts_own posts_legal) (queue_tells c.system later c.number q posts_own legal_still)
    (subst (λ ps. IsHeldAs c.system log ps p before.was) queue_is (one_of_them which c.system log c.queue p before.was among ((f.processes).held p before.was before.there)))
    (subst (λ ps. IsHeldAs c.system later ps p h) queue_is (one_of_them which c.system later c.queue p h among (held_foreign which c log e n q queue_is (f.queued).together valid differ own f foreign p h at)))
    (told_leaves c.system log p (what e) (n.may).of_kind) (exit_other p (n.told).pid (n.told).at (n.told).emission (what e) (n.told).tells other) comes m0)
  where
    later : List Entry
    later = log ++ e ∷ []

    q : Queued
    q = (f.queued).queued

    queue_is : c.queue ≡ posts_of q
    queue_is = (f.queued).posts

    posts_own : list_all (λ (post : Post). is_from c.number post.by) (posts_of q) ≡ true
    posts_own = subst (λ ps. list_all (λ (post : Post). is_from c.number post.by) ps ≡ true) queue_is (f.queue).own

    posts_legal : IsQueueLegal SentMayStand c.system log (posts_of q)
    posts_legal = subst (IsQueueLegal SentMayStand c.system log) queue_is (f.queue).legal

    legal_still : IsQueueLegal SentMayStand c.system later (posts_of q)
    legal_still = queue_foreign c log e n q (f.queued).together valid differ foreign posts_own posts_legal

    before : WasHere (what e) c.here p h
    before = was_here (what e) c.here p h (n.may).of_kind at

    home : HomeHere (placement c.system log) p c.number
    home = home_here (placement c.system log) c.number (pids_in c.here) p differ (f.processes).each_once (is_among c.here p before.was before.there)

    other : p.0 ≢ ((n.told).pid).0
    other = apart c.system log e n.told c.number p home foreign

    comes : MarkedIfThere CarriesMarks c.system later p (unended_process before.was) → MarkedIfThere CarriesMarks c.system later p (unended_process h)
    comes m = subst (λ x. MarkedIfThere CarriesMarks c.system later p (unended_process x)) (sym before.same) (arrival_marked c.system later (what e) p before.was (n.may).of_kind m)

pub counted_foreign : (c : ClusterView) (log : List Entry) (e : Entry) → is_by_cluster c.number e ≡ false → capped (least_steps log log c.number + cond c.tried 1 0) ≤ c.steps
    → capped (least_steps (log ++ e ∷ []) (log ++ e ∷ []) c.number + cond c.tried 1 0) ≤ next_count c.steps
counted_foreign c log e foreign h =
    let more : least_steps (log ++ e ∷ []) (log ++ e ∷ []) c.number ≡ least_steps log log c.number + 1 = count_more c.number log e ∙ ap (λ b. least_steps log log c.number + 1 + cond b 1 0) foreign ∙ add-zero _ in
    let next : capped (least_steps log log c.number + cond c.tried 1 0 + 1) ≤ next_count c.steps = capped_next (least_steps log log c.number + cond c.tried 1 0) c.steps h in
    capped_less (least_steps (log ++ e ∷ []) (log ++ e ∷ []) c.number + cond c.tried 1 0) (least_steps log log c.number + cond c.tried 1 0 + 1) (next_count c.steps) (omega (arith, more)) next

-- the records of the log are those of the log with the entry
records_after_entry : (system : System) (log : List Entry) (e : Entry) (n : Next system log e) (k : ClusterNo) (recs : List BackRec) → is_system system ≡ true → KeepsRecords system log k recs → KeepsRecords system (log ++ e ∷ []) k (records_after k (what e) recs)
records_after_entry system log e n k recs valid keeps =
    records_kept system log e k recs valid (legal_stands MayStand (λ system log e may. may.stands) system (log ++ e ∷ []) n.more)
    (by_kind (λ w. changes_in_place w ≡ true) (λ at letter. refl) (λ pid at end. refl) (λ rests. refl) refl (what e) (n.may).of_kind) keeps

pub follows_foreign : (which : Pid → Bool) (c : ClusterView) (log : List Entry) (e : Entry) (n : Next c.system log e) (server : Option PagerState) → is_system c.system ≡ true
    → pids_differ (placement c.system log).placed ≡ true → AllOwn c.cursor c.here → FollowsBeside which c.system log c → is_by_cluster c.number e ≡ false → Serves (placement c.system log) e c.server server
    → FollowsBeside which c.system (log ++ e ∷ []) (with_server server (taken_in c e))
follows_foreign which c log e n server valid differ own f foreign serves = record {
  log = record {
    cursor = ap (λ m. m + 1) (f.log).cursor ∙ sym (length-append log (e ∷ []));
    places = ap (λ (p : Places). placed_after p (what e)) (f.log).places ∙ sym (placement-snoc c.system log e);
  };
  processes = record {
    held = held_foreign which c log e n q queue_is (f.queued).together valid differ own f foreign;
    each_once = once_after c.system log e n.told c.number c.here (f.processes).each_once;
  };
  queue = record {
    own = (f.queue).own;
    legal = legal_still;
  };
  queued = f.queued;
  steps = record { counted = λ kept. counted_foreign c log e foreign ((f.steps).counted (lost_before log e c.number kept)) };
  limits = limits_told c e (n.may).of_kind f.limits;
  pages = pages_told c log e n valid differ (f.processes).each_once f.pages;
  marks = marks_foreign which c log e n valid differ own f foreign;
  family = family_next c.system log e c.family valid (n.legal, n.before) (n.more, n.goes_on) f.family;
  owed = owed_next c.system log e c.number c.places c.owed valid (n.more, n.goes_on) (f.log).places (told_spares c.number (what e) (n.may).of_kind) f.owed;
  backups = backups_told c log e n valid differ (f.processes).each_once f.backups;
  forks = forks_told (what e) c.family c.here (n.may).of_kind f.forks;
  records = records_after_entry c.system log e n c.number c.records valid f.records;
  accounts =
      accounts_next c.system log e c (with_server server (taken_in c e)) q (foreign_no_answer c.number e foreign) serves refl queue_is queue_is (f.queued).together f.accounts;
  disk = ((f.disk).0, ahead_after (placement c.system log) e c.server server serves (f.disk).1);
}
  where
    q : Queued
    q = (f.queued).queued

    queue_is : c.queue ≡ posts_of q
    queue_is = (f.queued).posts

    posts_legal : IsQueueLegal SentMayStand c.system log (posts_of q)
    posts_legal = subst (IsQueueLegal SentMayStand c.system log) queue_is (f.queue).legal

    legal_still : IsQueueLegal SentMayStand c.system (log ++ e ∷ []) c.queue
    legal_still = subst (IsQueueLegal SentMayStand c.system (log ++ e ∷ [])) (sym queue_is)
        (queue_foreign c log e n q (f.queued).together valid differ foreign (subst (λ ps. list_all (λ (post : Post). is_from c.number post.by) ps ≡ true) queue_is (f.queue).own) posts_legal)

-- ---- for the cluster's own entry

-- what a cluster sent is no loss
pub own_sent : (c : ClusterView) (log : List Entry) (e : Entry) → StandsBetween Follows c.system log e c → is_sent (what e) ≡ true
own_sent c log e s = by_queue (s.before).queue s.head ((s.followed).queue).legal
  where
    by_queue : (ps : List Post) → option_map (entry_of c.system log) (head_of ps) ≡ Some e → IsQueueLegal SentMayStand c.system log ps → is_sent (what e) ≡ true
    by_queue [] head legal = cc
    by_queue (post ∷ rest) head legal = let whole : entry_of c.system log post ≡ e = cc in ap (λ (x : Entry). is_sent (what x)) (sym whole) ∙ (legal.0).of_kind

-- what is left of a cluster that has sent its only post
pub record Left (c : ClusterView) (log : List Entry) (e : Entry) : Type 0 where
  pub before : ClusterView
  pub followed : Follows c.system log before
  pub posts : before.queue ≡ e.post ∷ []
  pub entry : entry_of c.system log e.post ≡ e
  pub lone : is_lone (what e) ≡ true
  pub tried : before.tried ≡ true
  pub same : c ≡ record before { queue = []; tried = false }

lone_head : (c : ClusterView) (w : What) → is_lone w ≡ true → after_head c w ≡ c
lone_head c w lone = by_kind_of (lone_is w lone)
  where
    by_kind_of : (tells_or_closes w ≡ true) ⊎ (is_of_page w ≡ true) → after_head c w ≡ c
    by_kind_of (inl tells) = by_kind (λ w. after_head c w ≡ c) (λ at letter. refl) (λ pid at end. refl) (λ rests. refl) refl w tells
    by_kind_of (inr of) = by_page (λ w. after_head c w ≡ c) (λ pid index. refl) (λ pid index bytes. refl) w of

pub left_of : (c : ClusterView) (log : List Entry) (e : Entry) (s : StandsBetween Follows c.system log e c) → IsQueued (s.before).queue → Left c log e
left_of c log e s alone = by_queue alone.queued alone.posts alone.together
  where
    head_is : (q : Queued) → (s.before).queue ≡ posts_of q → option_map (entry_of c.system log) (head_of (posts_of q)) ≡ Some e
    head_is q is = ap (λ ps. option_map (entry_of c.system log) (head_of ps)) (sym is) ∙ s.head

    by_queue : (q : Queued) → (s.before).queue ≡ posts_of q → AreTogether q → Left c log e
    by_queue Nothing is together = let none = head_is Nothing is in cc
    by_queue (One post) is lone =
        let whole : entry_of c.system log post ≡ e = let both = head_is (One post) is in cc in
        let one : post ≡ e.post = ap (λ (e : Entry). e.post) whole in
        let kept : after_head s.before post.what ≡ s.before = lone_head s.before post.what lone in
        record {
          before = s.before;
          followed = s.followed;
          posts = is ∙ ap (λ (p : Post). p ∷ []) one;
          entry = ap (entry_of c.system log) (sym one) ∙ whole;
          lone = ap (λ (p : Post). is_lone p.what) (sym one) ∙ lone;
          tried = s.tried;
          same = s.sent ∙ ap (after_sent s.before) is ∙ ap (λ (d : ClusterView). record d { queue = []; tried = false }) kept;
        }

-- the post of the entry moves the process that it tells of
moves_told : (system : System) (log : List Entry) (e : Entry) (t : Telling system log e) (p : Pid) (b : Bool) → same_pid t.pid p ≡ b → move_of p (e.post ∷ []) ≡ cond b (Some (what e)) None
moves_told system log e t p b is =
    ap (λ c. option_map (λ (post : Post). post.what) (cond c (Some (e.post)) None)) (ap (λ d. cond d (option_map_or (λ q. same_pid q p) (process_of (what e)) false) false) (tells_same system log e t) ∙ ap (λ o. option_map_or (λ q. same_pid q p) o false) t.process ∙ is)
    ∙ by_bool b
  where
    by_bool : (b : Bool) → option_map (λ (post : Post). post.what) (cond b (Some (e.post)) None) ≡ cond b (Some (what e)) None
    by_bool true = refl
    by_bool false = refl

-- so an entry of which nothing is queued for a process tells of another
not_told : (system : System) (log : List Entry) (e : Entry) (n : Next system log e) (p : Pid) → move_of p (e.post ∷ []) ≡ None → p.0 ≢ ((n.told).pid).0
not_told system log e n p none same = let both : Some (what e) ≡ None = sym (moves_told system log e n.told p true (eq-eqb ((n.told).pid).0 p.0 (sym same))) ∙ none in cc

-- a process of a cluster whose only post became the entry
now_told : (system : System) (log : List Entry) (e : Entry) (n : Next system log e) (p : Pid) (steps : ℕ) (s : ProcState) → (s.small).steps ≡ steps → is_some (unended_at (placement system log) p) ≡ true
    → state_now system log (e.post ∷ []) p steps ≡ Some s → state_now system (log ++ e ∷ []) [] p steps ≡ Some (with_arrival (n.told).emission p s)
now_told system log e n p steps s count placed was = by_pid (same_pid (n.told).pid p) refl
  where
    t : Telling system log e
    t = n.told

    move_is : (b : Bool) → same_pid t.pid p ≡ b → move_of p (e.post ∷ []) ≡ cond b (Some (what e)) None
    move_is = moves_told system log e t p

    by_pid : (b : Bool) → same_pid t.pid p ≡ b → state_now system (log ++ e ∷ []) [] p steps ≡ Some (with_arrival t.emission p s)
    by_pid true is =
        let me : t.pid ≡ p = pid_same t.pid p (eqb-true (t.pid).0 p.0 is) in
        let after : option_map (taken_by (what e)) (after_items system log (what e)) ≡ Some s = sym (ap (state_by system log p steps) (move_is true is)) ∙ was in
        let left : taken_by (what e) t.after ≡ s = same_Some (taken_by (what e) t.after) s (sym (ap (option_map (taken_by (what e))) t.items) ∙ after) in
        let ends : t.after ≡ s = sym (taken_same (what e) t.pid t.at t.emission t.after t.tells) ∙ left in
        let counted : ((t.after).small).steps ≡ steps = ap (λ (s : ProcState). (s.small).steps) ends ∙ count in
        (λ i. silent_upto system (log ++ e ∷ []) (sym me i) (sym counted i)) ∙ told_now system log e t ∙ (λ i. Some (with_arrival t.emission (me i) (ends i)))
    by_pid false is =
        let other : p.0 ≢ (t.pid).0 = λ same. true≢false (sym (eq-eqb (t.pid).0 p.0 (sym same)) ∙ is) in
        silent_still system log e t p steps s n.legal n.before other placed (sym (ap (state_by system log p steps) (move_is false is)) ∙ was)

held_own : (c : ClusterView) (log : List Entry) (e : Entry) (n : Next c.system log e) (l : Left c log e) → is_system c.system ≡ true → pids_differ (placement c.system log).placed ≡ true → AllOwn c.cursor c.here
    → rising (pids_in c.here) ≡ rising (home_pids c.system log c.number) → (p : Pid) (h : Held) → held_at (taken_in c e) p ≡ Some h → IsHeldAs c.system (log ++ e ∷ []) [] p h
held_own c log e n l valid differ own once p h at = by_held before.was before.there before.same
  where
    before : WasHere (what e) c.here p h
    before = was_here (what e) c.here p h (n.may).of_kind at

    home : HomeHere (placement c.system log) p c.number
    home = home_here (placement c.system log) c.number (pids_in c.here) p differ once (is_among c.here p before.was before.there)

    old : (was : Held) → held_at c p ≡ Some was → IsHeldAs c.system log (e.post ∷ []) p was
    old was there = subst (λ ps. IsHeldAs c.system log ps p was) l.posts (((l.followed).processes).held p was (ap (λ (d : ClusterView). held_at d p) (sym l.same) ∙ there))

    by_held : (was : Held) → held_at c p ≡ Some was → h ≡ arrival_at (what e) p was → IsHeldAs c.system (log ++ e ∷ []) [] p h
    by_held (Runs s) there is =
        let told = now_told c.system log e n p (s.small).steps (state_of s) refl (ap is_some home.found) (old (Runs s) there) in
        subst (λ h. IsHeldAs c.system (log ++ e ∷ []) [] p h) (sym (is ∙ runs_after (what e) p s (n.may).of_kind))
        (held_arrived c.system (log ++ e ∷ []) [] [] (what e) (n.told).pid (n.told).at (n.told).emission p s refl (n.may).of_kind (n.told).tells told)
    by_held (Rolls s counts births) there is =
        let was : (move_of p (e.post ∷ []) ≡ None) × RollsBehind c.system log p (state_of s) counts births = old (Rolls s counts births) there in
        subst (λ h. IsHeldAs c.system (log ++ e ∷ []) [] p h) (sym (is ∙ rolls_after (what e) p s counts births (n.may).of_kind))
        (rolls_arrived c.system log e n [] p s counts births valid (ap is_some home.found) (not_told c.system log e n p was.0) refl was.1)
    by_held (Waits waiting) there is =
        let mine = own_at c.cursor c.here p (Waits waiting) own there in
        let was : (move_of p (e.post ∷ []) ≡ None) × WaitsSo c.system log p (is_fetch_queued p (e.post ∷ [])) waiting = old (Waits waiting) there in
        subst (λ h. IsHeldAs c.system (log ++ e ∷ []) [] p h) (sym is)
        (waits_told c.system log e (e.post ∷ []) [] p waiting valid n.more (ap is_some home.found) (n.may).of_kind mine.pid_is (no_deeds p (n.told).pid (n.told).at (n.told).emission (what e) (n.told).tells (not_told c.system log e n p was.0)) refl
        (λ i. ap (λ b. b || false) (told_fetches_none p i (what e) (n.may).of_kind)) was.1)

pub counted_own : (system : System) (log : List Entry) (e : Entry) (k : ClusterNo) (tried : Bool) (steps : ℕ) → tried ≡ true → capped (least_steps log log k + cond tried 1 0) ≤ steps
    → capped (least_steps (log ++ e ∷ []) (log ++ e ∷ []) k + 0) ≤ next_count steps
counted_own system log e k tried steps is h =
    let before : capped (least_steps log log k + 1) ≤ steps = subst (λ b. capped (least_steps log log k + cond b 1 0) ≤ steps) is h in
    let one : cond (is_by_cluster k e) 1 0 ≤ 1 = one_at_most (is_by_cluster k e) in
    let more = count_more k log e in
    capped_less (least_steps (log ++ e ∷ []) (log ++ e ∷ []) k + 0) (least_steps log log k + 1 + 1) (next_count steps) (omega (arith, more, one)) (capped_next (least_steps log log k + 1) steps before)

-- its kernel steps are enough still
pub counted_left : (c : ClusterView) (log : List Entry) (e : Entry) (l : Left c log e) → was_lost_in (log ++ e ∷ []) c.number ≡ false → capped (least_steps (log ++ e ∷ []) (log ++ e ∷ []) c.number + cond c.tried 1 0) ≤ next_count c.steps
counted_left c log e l kept =
    let number : (l.before).number ≡ c.number = sym (ap (λ (d : ClusterView). d.number) l.same) in
    let steps : (l.before).steps ≡ c.steps = sym (ap (λ (d : ClusterView). d.steps) l.same) in
    let untried : c.tried ≡ false = ap (λ (d : ClusterView). d.tried) l.same in
    let before : capped (least_steps log log c.number + cond (l.before).tried 1 0) ≤ c.steps =
    subst (λ s. capped (least_steps log log c.number + cond (l.before).tried 1 0) ≤ s) steps
    (subst (λ k. capped (least_steps log log k + cond (l.before).tried 1 0) ≤ (l.before).steps) number (((l.followed).steps).counted (ap (was_lost_in log) number ∙ lost_before log e c.number kept))) in
    subst (λ b. capped (least_steps (log ++ e ∷ []) (log ++ e ∷ []) c.number + cond b 1 0) ≤ next_count c.steps) (sym untried) (counted_own c.system log e c.number (l.before).tried c.steps l.tried before)

-- with its only post in the log a process has the marks that it had with that post queued
pub marked_own : (c : ClusterView) (log : List Entry) (e : Entry) (l : Left c log e) → is_lone (what e) ≡ true → (p : Pid) (was : Held) → held_at c p ≡ Some was → MarkedIfThere CarriesMarks c.system (log ++ e ∷ []) p (unended_process was)
marked_own c log e l lone p was there =
    subst (λ x. MarkedIfThere CarriesMarks c.system x p (unended_process was))
    (ap (with_queue c.system log) l.posts ∙ with_one c.system log e.post lone ∙ ap (λ x. log ++ x ∷ []) l.entry)
    ((l.followed).marks p was (ap (λ (d : ClusterView). held_at d p) (sym l.same) ∙ there))

marks_own : (c : ClusterView) (log : List Entry) (e : Entry) (n : Next c.system log e) (l : Left c log e) → is_lone (what e) ≡ true → c.queue ≡ [] → HoldsMarks CarriesMarks c.system (log ++ e ∷ []) (taken_in c e)
marks_own c log e n l lone empty p h at =
    let before = was_here (what e) c.here p h (n.may).of_kind at in
    subst (λ ps. MarkedIfThere CarriesMarks c.system (with_queue c.system (log ++ e ∷ []) ps) p (unended_process h)) (sym empty)
    (subst (λ x. MarkedIfThere CarriesMarks c.system (log ++ e ∷ []) p (unended_process x)) (sym before.same)
    (arrival_marked c.system (log ++ e ∷ []) (what e) p before.was (n.may).of_kind (marked_own c log e l lone p before.was before.there)))

pub follows_own : (c : ClusterView) (log : List Entry) (e : Entry) (n : Next c.system log e) (l : Left c log e) (server : Option PagerState) → is_system c.system ≡ true → pids_differ (placement c.system log).placed ≡ true → AllOwn c.cursor c.here
    → Serves (placement c.system log) e c.server server → Follows c.system (log ++ e ∷ []) (with_server server (taken_in c e))
follows_own c log e n l server valid differ own serves =
    let f = l.followed in
    let empty : c.queue ≡ [] = ap (λ (d : ClusterView). d.queue) l.same in
    let here : (l.before).here ≡ c.here = sym (ap (λ (d : ClusterView). d.here) l.same) in
    let number : (l.before).number ≡ c.number = sym (ap (λ (d : ClusterView). d.number) l.same) in
    let once : rising (pids_in c.here) ≡ rising (home_pids c.system log c.number) = ap (λ here. rising (pids_in here)) (sym here) ∙ (f.processes).each_once ∙ ap (λ k. rising (home_pids c.system log k)) number in
    record {
      log = record {
        cursor = ap (λ m. m + 1) (ap (λ (d : ClusterView). d.cursor) l.same ∙ (f.log).cursor) ∙ sym (length-append log (e ∷ []));
        places = ap (λ (p : Places). placed_after p (what e)) (ap (λ (d : ClusterView). d.places) l.same ∙ (f.log).places) ∙ sym (placement-snoc c.system log e);
      };
      processes = record {
        held = λ p h at. subst (λ ps. IsHeldAs c.system (log ++ e ∷ []) ps p h) (sym empty) (held_own c log e n l valid differ own once p h at);
        each_once = once_after c.system log e n.told c.number c.here once;
      };
      queue = record {
        own = ap (λ ps. list_all (λ (post : Post). is_from c.number post.by) ps) empty;
        legal = subst (IsQueueLegal SentMayStand c.system (log ++ e ∷ [])) (sym empty) tt;
      };
      queued = inl (record { queued = Nothing; posts = empty; together = tt });
      steps = record { counted = counted_left c log e l };
      limits = limits_told c e (n.may).of_kind (subst (λ hs. (p : Pid) (h : Held) → held_of hs p ≡ Some h → IsHeldWithin (limits_of c.system) h) here f.limits);
      pages = pages_told c log e n valid differ once (subst (λ hs. (p : Pid) (h : Held) → held_of hs p ≡ Some h → is_some (process_in h) ≡ true → has_its_pages c.system log p ≡ true) here f.pages);
      marks = marks_own c log e n l l.lone empty;
      family = family_next c.system log e c.family valid (n.legal, n.before) (n.more, n.goes_on) (ap (λ (d : ClusterView). d.family) l.same ∙ f.family);
      owed = owed_next c.system log e c.number c.places c.owed valid (n.more, n.goes_on) (ap (λ (d : ClusterView). d.places) l.same ∙ (f.log).places) (told_spares c.number (what e) (n.may).of_kind)
          (subst (HoldsOwed c.system log) (sym l.same) f.owed);
      backups = backups_told c log e n valid differ once (subst (HoldsBackups c.system log) (sym l.same) f.backups);
      forks = forks_told (what e) c.family c.here (n.may).of_kind (subst HoldsForks (sym l.same) f.forks);
      records = records_after_entry c.system log e n c.number c.records valid
          (subst (λ recs. KeepsRecords c.system log c.number recs) (sym (ap (λ (d : ClusterView). d.records) l.same))
          (subst (λ k. KeepsRecords c.system log k (l.before).records) number f.records));
      accounts =
          accounts_sent c.system log e l.before (with_server server (taken_in c e)) (plain_kind (what e) l.lone) (subst (λ old. Serves (placement c.system log) e old server) (ap (λ (d : ClusterView). d.server) l.same) serves) (sym number) l.posts empty
          f.accounts;
      disk = (ap (λ (d : ClusterView). d.failed) l.same ∙ (f.disk).0, ahead_after (placement c.system log) e c.server server serves (subst IsAheadThere (sym (ap (λ (d : ClusterView). d.server) l.same)) (f.disk).1));
    }
