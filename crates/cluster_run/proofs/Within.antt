-- The processes of a cluster that follows a log have no more steps left than so many as the system says.
use Rattle.std.proofs.Common.{◌≡◌, ℕ, zero, suc, ◌+◌, ◌*◌, ◌^◌, ◌≤◌, ◌<◌, ◌⊎◌, inl, inr, refl, sym, ◌∙◌, ap, subst, arith, List, [], ◌∷◌, ◌++◌, length, take, get_or, Bool, true, false, cond, ◌||◌, eqb, ltb, eqb-true, ltb-true, nat_lt, Option, Some, None, true≢false}
use Rattle.std.specs.Prelude.{All, count_by, filter, find, option_and_then, option_map}
use Rattle.std.specs.List.{list_any, sum_by}
use Rattle.std.specs.Option.{option_map_or}
use Rattle.std.proofs.lemmas.List.{length-map}
use Rattle.std.proofs.lemmas.List.Elements.{All-nil, All-cons, All-from_get_or}
use Rattle.std.proofs.lemmas.List.Sums.{sum_by-cons, sum_by-le, length-filter, count_by-le-length}
use Rattle.std.proofs.lemmas.Nat.{mul-le}
use Rattle.std.proofs.lemmas.Option.{slice_get_cases, same_Some}
use Rattle.std.proofs.Math.Nat.{mul-le-mul_right}
use Rattle.t32_base.specs.declared.process.Pid.{Pid}
use Rattle.t32_base.specs.declared.process.ClusterNo.{ClusterNo}
use Rattle.t32_base.specs.declared.letter.BackRec.{BackRec}
use Rattle.t32_base.specs.Small.{SmallState}
use Rattle.sys_text.specs.declared.system.System.{System}
use Rattle.sys_text.specs.Valid.{is_system}
use Rattle.proc_state.specs.declared.process.Process.{Process}
use Rattle.proc_state.specs.State.{ProcState, state_of, can_take}
use Rattle.sys_calls.specs.Small.{weight_with_children}
use Rattle.sys_calls.specs.Calls.{Next, Silent, Blocked, Forks, Emits, Over}
use Rattle.sys_calls.specs.Fork.{fork_parent}
use Rattle.sys_calls.specs.Next.{next_step}
use Rattle.sys_calls.specs.declared.steps.Emission.{Emission}
use Rattle.plain_kernel.specs.Kernel.{Kernel, boot, process_at}
use Rattle.bus_msg.specs.declared.entry.Post.{Post}
use Rattle.bus_msg.specs.declared.entry.Entry.{Entry}
use Rattle.bus_msg.specs.declared.entry.What.{What}
use Rattle.bus_msg.specs.declared.placed.Placed.{Placed}
use Rattle.bus_msg.specs.Places.{is_at_home, same_pid}
use Rattle.roll_forward.specs.Deeds.{Bears, Deed, Sends, births_in}
use Rattle.roll_forward.specs.Replay.{put_first, replayed, replay_step}
use Rattle.cert_sched.specs.Parts.{put_rising, rising, upto_last}
use Rattle.cert_sched.specs.Deeds.{since, starts}
use Rattle.cert_sched.specs.Rolling.{refilled}
use Rattle.cert_sched.specs.Schedule.{placement, plain_after, process_after, steps_in}
use Rattle.cert_sched.specs.Kinds.{after_take, took_is}
use Rattle.cert_sched.specs.Steps.{at_record, emission_at, first_record, process_of, silent_upto}
use Rattle.cert_sched.specs.Appended.{entry_of}
use Rattle.cert_sched.specs.Rests.{home_pids}
use Rattle.cert_sched.specs.Rules.{is_over}
use Rattle.cluster_core.specs.Sent.{SentMayStand, is_sent}
use Rattle.cert_sched.specs.Legal.{IsLegalBy, Stands, MayStand}
use Rattle.cluster_turns.specs.Ends.{is_cut_off}
use Rattle.cert_sched.proofs.KernelSums.{one_of_sum, sum_of}
use Rattle.cert_sched.proofs.RisingLaws.{NoTwo}
use Rattle.cert_sched.proofs.StepLaws.{sent_from, silent_from}
use Rattle.cluster_core.specs.View.{ClusterView, after_head, after_sent, has_moved, held_load, load, process_load}
use Rattle.residents.specs.Held.{Held, Runs, Rolls, Waits, held_of, renewed_held, with_renewed}
use Rattle.cluster_core.specs.Holds.{IsHeldAs}
use Rattle.cluster_core.specs.Calls.{FollowsSome}
use Rattle.cluster_core.specs.Follows.{Follows, IsOpen, QueuedIn}
use Rattle.cluster_core.specs.Renewing.{renewing_left}
use Rattle.backup_mode.specs.Posts.{fresh_post}
use Rattle.cluster_core.specs.Queue.{Nothing, One, IsQueueLegal, is_move_of, state_by, AreTogether, Queued, is_lone, move_of, posts_of, tells_steps}
use Rattle.residents.proofs.Changing.{same_itself, pid_same}
use Rattle.residents.specs.Residents.{pids_in}
use Rattle.cluster_core.proofs.working.Lightening.{held_apart}
use Rattle.sys_calls.proofs.Counting.{last_sent}
use Rattle.sys_calls.proofs.ForkLaws.{forks_can}
use Rattle.sys_calls.proofs.Bearing.{emits_lightens, fork_lightens, silent_lightens, silently_lightens}
use Rattle.bus_order.specs.View.{BusView}
use Rattle.bus_order.proofs.WordsLaws.{found_passes}
use Rattle.cluster_turns.specs.Disks.{HasFailed}
use Rattle.cluster_turns.specs.Gone.{IsGone, StoodAs, StoodBeside, StoodBetween}
use Rattle.cluster_turns.specs.Along.{AllAlong, IsMember, IsOwned, IsSound}
use Rattle.log_laws.proofs.records.Standing.{all_stand}
use Rattle.checkpoint_laws.specs.remaining.Left.{left_of_syncs, left_to_send, most_syncs}
use Rattle.checkpoint_laws.specs.remaining.Load.{kernel_load, log_load}
use Rattle.checkpoint_laws.proofs.remaining.Bounded.{syncs_within}
use Rattle.checkpoint_laws.proofs.remaining.StepsLeft.{after_log}
use Rattle.cluster_turns.specs.Progress.{Falls, IsOver, Remaining, left_of_posts, remaining, total, unseen}
use Rattle.backup_laws.specs.Owed.{is_unbacked, left_of_backups}
use Rattle.checkpoint_laws.proofs.remaining.PlacedSums.{of_family, placed_few}
use Rattle.cluster_turns.proofs.Posting.{follows_some}
use Rattle.cert_sched.proofs.Induction.{legal_prefix}
use Rattle.cluster_turns.proofs.Prefixes.{goes_on_before}
use Rattle.cluster_run.proofs.PagesWithin.{few_placed, most_pages, pages_within, placed_count}
use Rattle.cluster_turns.proofs.StepLosses.{gone_inside, same_sent}
use Rattle.cluster_run.proofs.Together.{one_member}
use Rattle.cluster_turns.proofs.SentKinds.{by_sent}
use Rattle.log_laws.specs.pages.Left.{left_of_pages}
use Rattle.sys_calls.proofs.TakeLaws.{taken_strikes}
use Rattle.std.proofs.lemmas.Bool.{and_parts}
use Rattle.cluster_core.proofs.syncs.BatchPosts.{batch_moves, batch_moves_other}
use Rattle.checkpoint_laws.specs.batches.Underway.{posts_left}
use Rattle.checkpoint_laws.proofs.posts.TakeLeaves.{takes_leave}
use Rattle.bus_msg.specs.declared.entry.What.TheVariants.{Mail, Exit, Fetch, PageIs, Rebackup, Sync}

-- ---- a process

-- all that a system's processes have left at boot
abbrev pub boot_load : System → ℕ
boot_load system = kernel_load (boot system)

within_kernel : (system : System) (log : List Entry) (p : Pid) (s : ProcState) (k : Kernel) → plain_after system log ≡ Some k → process_at k p ≡ Some s → weight_with_children s.small ≤ boot_load system
within_kernel system log p s k before there = omega (arith, one_of_sum weight_with_children p s k there, after_log system log k before)

-- a process after any log
process_within : (system : System) (log : List Entry) (p : Pid) (s : ProcState) → process_after system log p ≡ Some s → weight_with_children s.small ≤ boot_load system
process_within system log p s is = by_kernel (plain_after system log) refl is
  where
    by_kernel : (o : Option Kernel) → plain_after system log ≡ o → option_and_then (λ k. process_at k p) o ≡ Some s → weight_with_children s.small ≤ boot_load system
    by_kernel None before there = cc
    by_kernel (Some k) before there = within_kernel system log p s k before there

-- some silent steps on
silent_within : (system : System) (log : List Entry) (p : Pid) (at : ℕ) (t : ProcState) → silent_upto system log p at ≡ Some t → weight_with_children t.small ≤ boot_load system
silent_within system log p at t is =
    let f = silent_from system log p at t is in
    omega (arith, silently_lightens _ f.was t f.silent, within_kernel system log p f.was f.kernel f.before f.there)

-- ---- a process that rolls forward

-- it has no more left than where it started
abbrev NoMore : ℕ → Type 0
NoMore n = (s t : ProcState) (births : List Pid) (ds : List Deed) → replayed n s births ≡ Some (t, ds) → weight_with_children t.small ≤ weight_with_children s.small

replayed_leaves : (n : ℕ) → NoMore n
replayed_leaves zero s t births ds is = let same : s ≡ t = ap (λ o. option_map_or (λ (r : ProcState × List Deed). r.0) o s) is in omega (arith, ap (λ (p : ProcState). weight_with_children p.small) same)
replayed_leaves (suc n) s t births ds is = by_next (next_step s) refl is (replayed_leaves n)
  where
    goes_on : (d : Deed) (u : ProcState) (left : List Pid) (o : Option (ProcState × List Deed)) → replayed n u left ≡ o → option_map (put_first d) o ≡ Some (t, ds) → NoMore n → weight_with_children t.small ≤ weight_with_children u.small
    goes_on d u left None made e more = cc
    goes_on d u left (Some r) made e more =
        let here : r.0 ≡ t = ap (λ o. option_map_or (λ (r : ProcState × List Deed). r.0) o t) e in
        more u t left r.1 (made ∙ (λ i. Some (here i, r.1)))

    by_next : (next : Next) → next_step s ≡ next → replay_step s (λ u rest. replayed n u rest) next births ≡ Some (t, ds) → NoMore n → weight_with_children t.small ≤ weight_with_children s.small
    by_next (Silent u) step e more =
        omega (arith, silent_lightens s u step, more u t births ds e)
    by_next Blocked step e more = cc
    by_next Forks step e more = by_births births e
      where
        by_births : (bs : List Pid) → replay_step s (λ u rest. replayed n u rest) Forks bs ≡ Some (t, ds) → weight_with_children t.small ≤ weight_with_children s.small
        by_births [] made = cc
        by_births (child ∷ rest) made = omega (arith, fork_lightens s child (forks_can s step), goes_on (Bears child) (fork_parent s child) rest (replayed n (fork_parent s child) rest) refl made more)
    by_next (Emits m u) step e more =
        omega (arith, emits_lightens s u m step, goes_on (Sends m) u births (replayed n u births) refl e more)
    by_next Over step e more = cc

-- ---- what is held

-- what a process has left after what it sent
emitted_within : (system : System) (log : List Entry) (p : Pid) (at : ℕ) (t : ProcState) (o : Option (Emission × ProcState)) → emission_at system log p at ≡ o → option_map (λ (r : Emission × ProcState). r.1) o ≡ Some t → weight_with_children t.small ≤ boot_load system
emitted_within system log p at t None is there = cc
emitted_within system log p at t (Some sent) is there =
    let s = sent_from system log p at sent.0 sent.1 is in
    let l = last_sent _ s.was sent.0 sent.1 s.sends in
    let same : weight_with_children (sent.1).small ≡ weight_with_children t.small = ap (λ o. option_map_or (λ (u : ProcState). weight_with_children u.small) o (weight_with_children t.small)) there in
    omega (arith, same, silently_lightens l.earlier s.was l.before l.silent, emits_lightens l.before sent.1 sent.0 l.last, within_kernel system log p s.was s.kernel s.before s.there)

-- a process that takes the signal of an entry can do so
abbrev TakesRightly : System → List Entry → What → Type 0
TakesRightly system log (Sync pid small read took) = option_map (took_is took) (silent_upto system log pid small.steps) ≡ Some true
TakesRightly system log w = Unit {0}

-- which leaves it no more
took_within : (took : Option ℕ) (s : ProcState) → took_is took s ≡ true → weight_with_children (after_take took s).small ≤ weight_with_children s.small
took_within None s can = omega arith
took_within (Some g) s can = (taken_strikes s (and_parts (can_take s) _ can).0).weight_children

-- a process that has moved ahead of the log
moved_within : (system : System) (log : List Entry) (p : Pid) (steps : ℕ) (t : ProcState) (w : What) → is_sent w ≡ true → tells_steps w ≡ true → TakesRightly system log w → state_by system log p steps (Some w) ≡ Some t → weight_with_children t.small ≤ boot_load system
moved_within system log p steps t =
    by_sent (λ w. tells_steps w ≡ true → TakesRightly system log w → state_by system log p steps (Some w) ≡ Some t → weight_with_children t.small ≤ boot_load system)
    (λ at letter tells can there. emitted_within system log letter.from at t (emission_at system log letter.from at) refl (same_option _ ∙ there))
    (λ parent at child end tells. absurd (true≢false (sym tells)))
    (λ pid at end tells can there. emitted_within system log pid at t (emission_at system log pid at) refl (same_option _ ∙ there))
    (λ pid index tells. absurd (true≢false (sym tells))) (λ pid index bytes tells. absurd (true≢false (sym tells))) (λ pid at index bytes tells. absurd (true≢false (sym tells)))
    (λ pid small read took tells can there. cut_within pid small took (silent_upto system log pid small.steps) refl can there)
    (λ to fresh recs tells can there. renewed_within (first_record recs) (same_option _ ∙ there)) (λ rests tells. absurd (true≢false (sym tells))) (λ tells. absurd (true≢false (sym tells)))
  where
    renewed_within : (o : Option BackRec) → option_and_then (at_record system log) o ≡ Some t → weight_with_children t.small ≤ boot_load system
    renewed_within None there = cc
    renewed_within (Some r) there = silent_within system log r.pid (steps_in r.state) t there

    cut_within : (pid : Pid) (small : SmallState) (took : Option ℕ) (o : Option ProcState) → silent_upto system log pid small.steps ≡ o → option_map (took_is took) o ≡ Some true → option_map (after_take took) o ≡ Some t → weight_with_children t.small ≤ boot_load system
    cut_within pid small took None is can there = cc
    cut_within pid small took (Some u) is can there =
        let same = same_Some (after_take took u) t there in
        subst (λ (x : ProcState). weight_with_children x.small ≤ boot_load system) same (let less = took_within took u (same_Some (took_is took u) true can) in omega (arith, less, silent_within system log pid small.steps u is))

    same_option : (o : Option ProcState) → o ≡ option_map (λ (s : ProcState). s) o
    same_option None = refl
    same_option (Some s) = refl

-- each post that is found in a legal queue is of a kind that clusters send
queued_sent : (system : System) (log : List Entry) (queue : List Post) (test : Post → Bool) (post : Post) → IsQueueLegal SentMayStand system log queue → find test queue ≡ Some post → is_sent post.what ≡ true
queued_sent system log [] test post legal found = cc
queued_sent system log (first ∷ queue) test post legal found = by_test (test first) found (queued_sent system (log ++ entry_of system log first ∷ []) queue test post legal.1)
  where
    by_test : (b : Bool) → cond b (Some first) (find test queue) ≡ Some post → (find test queue ≡ Some post → is_sent post.what ≡ true) → is_sent post.what ≡ true
    by_test true found more = let same : first ≡ post = cc in subst (λ (p : Post). is_sent p.what ≡ true) same (legal.0).of_kind
    by_test false found more = more found

-- one that moves a process tells of its steps
moves_tell : (p : Pid) (post : Post) → is_move_of p post ≡ true → tells_steps post.what ≡ true
moves_tell p post moves = by_test (tells_steps post.what) refl moves
  where
    by_test : (b : Bool) → tells_steps post.what ≡ b → cond b (option_map_or (λ q. same_pid q p) (process_of post.what) false) false ≡ true → tells_steps post.what ≡ true
    by_test true is moves = is
    by_test false is moves = absurd (true≢false (sym moves))

runs_within : (system : System) (log : List Entry) (queue : List Post) (p : Pid) (steps : ℕ) (t : ProcState) → IsQueueLegal SentMayStand system log queue → (o : Option Post) → find (is_move_of p) queue ≡ o
    → ((w : What) → option_map (λ (post : Post). post.what) o ≡ Some w → TakesRightly system log w) → state_by system log p steps (option_map (λ (post : Post). post.what) o) ≡ Some t → weight_with_children t.small ≤ boot_load system
runs_within system log queue p steps t legal None found can is = silent_within system log p steps t is
runs_within system log queue p steps t legal (Some post) found can is = moved_within system log p steps t post.what (queued_sent system log queue (is_move_of p) post legal found) (moves_tell p post (found_passes (is_move_of p) queue post found)) (can post.what refl) is

-- two for each step that the system's processes have left at boot, and one for a synchronisation
abbrev pub most_held : System → ℕ
most_held system = 2 * boot_load system + 1

process_load_within : (system : System) (process : Process) → weight_with_children process.small ≤ boot_load system → process_load process ≤ most_held system
process_load_within system process within = by_test (has_moved process)
  where
    by_test : (b : Bool) → 2 * weight_with_children process.small + cond b 1 0 ≤ 2 * boot_load system + 1
    by_test true = omega (arith, within)
    by_test false = omega (arith, within)

-- what is sent alone takes no signal
lone_rightly : (system : System) (log : List Entry) (w : What) → is_lone w ≡ true → TakesRightly system log w
lone_rightly system log (Mail at letter) lone = tt
lone_rightly system log (Exit pid at end) lone = tt
lone_rightly system log (Fetch pid index) lone = tt
lone_rightly system log (PageIs pid index bytes) lone = tt
lone_rightly system log _ lone = absurd (true≢false (sym lone))

-- a signal that is queued as taken is one that its process can take
queued_rightly : (system : System) (log : List Entry) (c : ClusterView) (p : Pid) → QueuedIn system log c → (w : What) → move_of p c.queue ≡ Some w → TakesRightly system log w
queued_rightly system log c p (inl alone) w is = by_queued alone.queued alone.together (ap (move_of p) (sym alone.posts) ∙ is)
  where
    by_test : (post : Post) (b : Bool) → is_lone post.what ≡ true → option_map (λ (post : Post). post.what) (cond b (Some post) None) ≡ Some w → TakesRightly system log w
    by_test post true lone is = subst (TakesRightly system log) (same_Some post.what w is) (lone_rightly system log post.what lone)
    by_test post false lone is = cc

    by_queued : (q : Queued) → AreTogether q → move_of p (posts_of q) ≡ Some w → TakesRightly system log w
    by_queued Nothing together is = cc
    by_queued (One post) together is = by_test post (is_move_of p post) together is
queued_rightly system log c p (inr (inl y)) w is = by_pid (same_pid y.pid p) refl
  where
    s : ProcState
    s = state_of y.process

    here : move_of p (posts_left c.number y.pid s y.read y.took y.indices) ≡ Some w
    here = ap (move_of p) (sym y.posts) ∙ is

    can : option_map (took_is y.took) (silent_upto system log y.pid (s.small).steps) ≡ Some true
    can =
        ap (option_map (took_is y.took)) (ap (silent_upto system log y.pid) (takes_leave y.took (y.may).before s (y.may).takes).steps ∙ ((y.may).may).reached)
        ∙ ap Some ((y.may).takes).can

    by_pid : (b : Bool) → same_pid y.pid p ≡ b → TakesRightly system log w
    by_pid true own =
        let moves = ap (λ q. move_of q (posts_left c.number y.pid s y.read y.took y.indices)) (sym (pid_same y.pid p (eqb-true (y.pid).0 p.0 own))) ∙ batch_moves c.number y.pid s y.read y.took y.indices in
        subst (TakesRightly system log) (same_Some (Sync y.pid s.small y.read y.took) w (sym moves ∙ here)) can
    by_pid false other = let none : None ≡ Some w = sym (batch_moves_other c.number y.pid s y.read y.took p y.indices other) ∙ here in cc
queued_rightly system log c p (inr (inr (inl b))) w is = let none : None ≡ Some w = ap (move_of p) (sym b.posts) ∙ is in cc
queued_rightly system log c p (inr (inr (inr (inl h)))) w is = let none : None ≡ Some w = sym (stays h.post h.standing) ∙ ap (move_of p) (sym h.posts) ∙ is in cc
  where
    stays : (post : Post) → post.what ≡ Rebackup h.to false h.recs → move_of p (post ∷ []) ≡ None
    stays post is = ap (λ (w : What). move_of p (record post { what = w } ∷ [])) is
queued_rightly system log c p (inr (inr (inr (inr y)))) w is = of_renewal y.to y.indices (ap (move_of p) (sym y.posts) ∙ is)
  where
    fresh : ClusterNo → Post
    fresh k = fresh_post c.number k y.pid (state_of y.process)

    by_test : (k : ClusterNo) (b : Bool) → option_map (λ (post : Post). post.what) (cond b (Some (fresh k)) None) ≡ Some w → TakesRightly system log w
    by_test k true is = subst (TakesRightly system log) (same_Some ((fresh k).what) w is) tt
    by_test k false is = cc

    of_renewal : (to : Option ClusterNo) (indices : List ℕ) → move_of p (renewing_left c.number to y.pid (state_of y.process) indices) ≡ Some w → TakesRightly system log w
    of_renewal None [] is = cc
    of_renewal (Some k) [] is = by_test k (same_pid y.pid p) is
    of_renewal to (i ∷ js) is = of_renewal to js is

held_within : (system : System) (log : List Entry) (queue : List Post) (p : Pid) (h : Held) → IsQueueLegal SentMayStand system log queue → ((w : What) → move_of p queue ≡ Some w → TakesRightly system log w) → IsHeldAs system log queue p h → held_load h ≤ most_held system
held_within system log queue p (Runs process) legal can is =
    process_load_within system process (runs_within system log queue p (process.small).steps (state_of process) legal (find (is_move_of p) queue) refl can is)
held_within system log queue p (Rolls process counts births) legal can held =
    let rolls = (held.1).rolls in
    let start = process_within system (upto_last (starts p) log) p rolls.start rolls.started in
    let fewer = replayed_leaves rolls.steps (refilled log p rolls.start) (state_of process) (births_in (since log p)) rolls.done rolls.replays in
    process_load_within system process (omega (arith, start, fewer))
held_within system log queue p (Waits kept) legal can is = omega arith

-- ---- all that a cluster holds

found_among : (here : List (Pid × Held)) (p : Pid) (h : Held) → held_of here p ≡ Some h → list_any (λ k. eqb k p.0) (pids_in here) ≡ true
found_among [] p h at = cc
found_among (e ∷ here) p h at = by_test (eqb (e.0).0 p.0) at (found_among here p h)
  where
    by_test : (b : Bool) → option_map (λ (e : Pid × Held). e.1) (cond b (Some e) (find (λ (e : Pid × Held). same_pid e.0 p) here)) ≡ Some h → (held_of here p ≡ Some h → list_any (λ k. eqb k p.0) (pids_in here) ≡ true)
        → (b || list_any (λ k. eqb k p.0) (pids_in here)) ≡ true
    by_test true at more = refl
    by_test false at more = more at

-- where no pid stands twice, what holds of each that is found holds of all
each_held : (B : Held → Type 0) (here : List (Pid × Held)) → NoTwo (pids_in here) → ((p : Pid) (h : Held) → held_of here p ≡ Some h → B h) → All (λ (e : Pid × Held). B e.1) here
each_held B [] two each = All-nil (λ (e : Pid × Held). B e.1)
each_held B (e ∷ here) two each =
    All-cons (λ (e : Pid × Held). B e.1) e here
    (each e.0 e.1 (ap (λ b. option_map (λ (e : Pid × Held). e.1) (cond b (Some e) (find (λ (x : Pid × Held). same_pid x.0 e.0) here))) (same_itself e.0)))
    (each_held B here two.1 (λ p h at. each p h (later p h at)))
  where
    later : (p : Pid) (h : Held) → held_of here p ≡ Some h → held_of (e ∷ here) p ≡ Some h
    later p h at = by_test (same_pid e.0 p) refl
      where
        by_test : (b : Bool) → same_pid e.0 p ≡ b → option_map (λ (e : Pid × Held). e.1) (cond b (Some e) (find (λ (x : Pid × Held). same_pid x.0 p) here)) ≡ Some h
        by_test true is =
            let there : list_any (λ k. eqb k (e.0).0) (pids_in here) ≡ true = ap (λ m. list_any (λ k. eqb k m) (pids_in here)) (eqb-true (e.0).0 p.0 is) ∙ found_among here p h at in
            absurd (true≢false (sym there ∙ two.0))
        by_test false is = at

-- ---- how many stand there

put_long : (n : ℕ) (xs : List ℕ) → length (put_rising n xs) ≡ length xs + 1
put_long n [] = refl
put_long n (x ∷ xs) = by_test (ltb n x) (put_long n xs)
  where
    by_test : (b : Bool) → length (put_rising n xs) ≡ length xs + 1 → length (cond b (n ∷ x ∷ xs) (x ∷ put_rising n xs)) ≡ length (x ∷ xs) + 1
    by_test true more = omega arith
    by_test false more = omega (arith, more)

rising_long : (xs : List ℕ) → length (rising xs) ≡ length xs
rising_long [] = refl
rising_long (x ∷ xs) = omega (arith, put_long x (rising xs), rising_long xs)

few_here : (system : System) (log : List Entry) (c : ClusterView) → is_system system ≡ true → IsLegalBy MayStand system log → rising (pids_in c.here) ≡ rising (home_pids system log c.number) → length c.here ≤ placed_count system
few_here system log c valid legal same =
    let here : length c.here ≡ length (home_pids system log c.number) = sym (length-map c.here (λ (e : Pid × Held). (e.0).0)) ∙ sym (rising_long (pids_in c.here)) ∙ ap length same ∙ rising_long (home_pids system log c.number) in
    let home : length (home_pids system log c.number) ≡ count_by (is_at_home c.number) (placement system log).placed =
    length-map (filter (is_at_home c.number) (placement system log).placed) (λ (q : Placed). (q.pid).0) ∙ length-filter (is_at_home c.number) (placement system log).placed in
    omega (arith, here, home, count_by-le-length (is_at_home c.number) (placement system log).placed, few_placed system log valid legal)

-- the most that one cluster may have left
abbrev pub most_load : System → ℕ
most_load system = placed_count system * most_held system

load_within : (system : System) (log : List Entry) (c : ClusterView) → is_system system ≡ true → IsLegalBy MayStand system log → Follows system log c → NoTwo (pids_in c.here) → load c ≤ most_load system
load_within system log c valid legal follows two =
    let each : All (λ (e : Pid × Held). held_load e.1 ≤ most_held system) c.here =
    each_held (λ h. held_load h ≤ most_held system) c.here two (λ p h at. held_within system log c.queue p h (follows.queue).legal (queued_rightly system log c p follows.queued) ((follows.processes).held p h at)) in
    omega (arith, sum_by-le (λ (e : Pid × Held). held_load e.1) (most_held system) c.here each, mul-le (length c.here) (most_held system) (placed_count system) (most_held system) (few_here system log c valid legal (follows.processes).each_once) (omega arith))

-- ---- what a cluster has left whose head was sent

-- a process that counts from where it stands has no more left
renewed_lighter : (h : Held) → held_load (renewed_held h) ≤ held_load h
renewed_lighter (Runs process) = by_tests (has_moved process) (nat_lt (process.small).steps (process.small).steps) refl
  where
    by_tests : (moved later : Bool) → nat_lt (process.small).steps (process.small).steps ≡ later → 2 * weight_with_children process.small + cond (later || false) 1 0 ≤ 2 * weight_with_children process.small + cond moved 1 0
    by_tests moved true is = absurd (let less : (process.small).steps < (process.small).steps = ltb-true (process.small).steps (process.small).steps is in omega (arith, less))
    by_tests true false is = omega arith
    by_tests false false is = omega arith
renewed_lighter _ = omega arith

-- all that is left of those that are here
abbrev weigh : List (Pid × Held) → ℕ
weigh here = sum_by (λ (e : Pid × Held). held_load e.1) here

renewed_load : (p : Pid) (here : List (Pid × Held)) → weigh (with_renewed p here) ≤ weigh here
renewed_load p [] = omega arith
renewed_load p (e ∷ here) = by_test (same_pid e.0 p) (renewed_load p here)
  where
    parts : (d : Pid × Held) (rest : List (Pid × Held)) → weigh (d ∷ rest) ≡ held_load d.1 + weigh rest
    parts d rest = sum_by-cons (λ (e : Pid × Held). held_load e.1) d rest

    by_test : (b : Bool) → weigh (with_renewed p here) ≤ weigh here → weigh (cond b (e.0, renewed_held e.1) e ∷ with_renewed p here) ≤ weigh (e ∷ here)
    by_test true more = omega (arith, renewed_lighter e.1, more, parts (e.0, renewed_held e.1) (with_renewed p here), parts e here)
    by_test false more = omega (arith, more, parts e (with_renewed p here), parts e here)

sent_lighter : (c : ClusterView) (queue : List Post) → load (after_sent c queue) ≤ load c
sent_lighter c [] = omega arith
sent_lighter c (post ∷ rest) = by_what post.what
  where
    by_what : (w : What) → load (after_head c w) ≤ load c
    by_what (Rebackup to true (r ∷ rs)) = renewed_load r.pid c.here
    by_what (Rebackup to true []) = omega arith
    by_what (Rebackup to false recs) = omega arith
    by_what _ = omega arith

-- ---- all clusters

-- the most that all may have left
abbrev pub most_total : System → ℕ
most_total system = system.clusters * most_load system

-- one that follows a log that goes on
some_within : (b : BusView) (c : ClusterView) → IsSound b → c.system ≡ b.system → FollowsSome c → load c ≤ most_load b.system
some_within b c sound system some =
    let valid : is_system c.system ≡ true = ap is_system system ∙ sound.valid in
    let within : load c ≤ most_load c.system = load_within c.system some.log c valid (some.open_log).0 some.follows (held_apart c valid some) in
    subst (λ s. load c ≤ most_load s) system within

-- one of whose disk a call failed has no process
failed_within : (b : BusView) (c : ClusterView) → HasFailed b.script c → load c ≤ most_load b.system
failed_within b c disk = let none : load c ≡ 0 = ap (sum_by (λ (e : Pid × Held). held_load e.1)) disk.none in omega (arith, none)

-- one that is gone follows what it had taken in, or did before it sent its last post
module _ (b : BusView) (c : ClusterView) (sound : IsSound b) (gone : IsGone b c) where
  open_there : IsOpen MayStand b.system (take c.cursor b.log)
  open_there = (
    legal_prefix MayStand b.system b.log c.cursor sound.legal,
    elim (slice_get_cases b.log c.cursor).1 [
      | inl there ↦ goes_on_before b.system b.log c.cursor there.0 sound.legal there.2
      | inr past ↦ absurd (let low = (gone.left).within in let inside = gone_inside b c sound.legal gone in omega (arith, low, inside, past.0))
    ],
  )

  follows_then : (v : ClusterView) → v.system ≡ b.system → Follows b.system (take c.cursor b.log) v → load v ≤ most_load b.system
  follows_then v system follows = some_within b v sound system (record {
    log = take c.cursor b.log;
    open_log = subst (λ s. IsOpen MayStand s (take c.cursor b.log)) (sym system) open_there;
    follows = subst (λ s. Follows s (take c.cursor b.log) v) (sym system) follows;
  })

  pub gone_within : load c ≤ most_load b.system
  gone_within = by_stood (gone.left).followed
    where
      by_way : StoodBeside b c ⊎ ((is_cut_off c.number b.system b.log c.cursor ≡ true) × StoodBetween b c) → load c ≤ most_load b.system
      by_way (inl beside) = follows_then c (gone.left).system beside.follows
      by_way (inr (lost, stood)) =
          let was = (stood.between).before in
          let system : was.system ≡ b.system = sym (ap (λ (v : ClusterView). v.system) (stood.between).sent ∙ (same_sent was was.queue).2) ∙ (gone.left).system in
          let same : load c ≡ load (after_sent was was.queue) = ap load (stood.between).sent in
          let less = sent_lighter was was.queue in
          let most = follows_then was system (stood.between).followed in
          omega (arith, same, less, most)

      by_stood : StoodAs b c → load c ≤ most_load b.system
      by_stood (inl (unfailed, stood)) = by_way stood
      by_stood (inr (lost, failed)) = failed_within b c failed.disk

member_within : (b : BusView) (n : ℕ) (c : ClusterView) → IsSound b → IsMember b n c → load c ≤ most_load b.system
member_within b n c sound member = elim member.along [
  | inl along ↦ some_within b c sound along.system (follows_some b c sound along)
  | inr (inl stopped) ↦ gone_within b c sound stopped.gone
  | inr (inr failed) ↦ failed_within b c failed.disk
]

all_members : (b : BusView) (cs : List ClusterView) (P : ClusterView → Type 0) → AllAlong b cs → ((n : ℕ) (c : ClusterView) → IsMember b n c → P c) → All P cs
all_members b [] P all each = All-nil P
all_members b (d ∷ ds) P all each = All-from_get_or P (d ∷ ds) d (λ n within. each n (get_or (d ∷ ds) n d) (one_member b (d ∷ ds) n d all within))

pub total_within : (b : BusView) (cs : List ClusterView) → IsOwned b → AllAlong b cs → total cs ≤ most_total b.system
total_within b cs owned all =
    let each : All (λ (c : ClusterView). load c ≤ most_load b.system) cs = all_members b cs (λ c. load c ≤ most_load b.system) all (λ n c member. member_within b n c owned.sound member) in
    let sum : total cs ≤ length cs * most_load b.system = sum_by-le load (most_load b.system) cs each in
    subst (λ n. total cs ≤ n * most_load b.system) all.each sum

pub entries_within : (b : BusView) (cs : List ClusterView) → IsOwned b → AllAlong b cs → sum_by (unseen b.log) cs ≤ (b.system).clusters * 2 ^ 64
entries_within b cs owned all =
    let each : All (λ (c : ClusterView). unseen b.log c ≤ 2 ^ 64) cs = all_members b cs (λ c. unseen b.log c ≤ 2 ^ 64) all (λ n c member. let fits = (owned.sound).fits in omega (arith, fits)) in
    let sum : sum_by (unseen b.log) cs ≤ length cs * 2 ^ 64 = sum_by-le (unseen b.log) (2 ^ 64) cs each in
    subst (λ n. sum_by (unseen b.log) cs ≤ n * 2 ^ 64) all.each sum

pub steps_within : (system : System) (log : List Entry) → log_load system log ≤ boot_load system
steps_within system log = by_kernel (plain_after system log) refl
  where
    by_kernel : (o : Option Kernel) → plain_after system log ≡ o → option_map_or kernel_load o 0 ≤ boot_load system
    by_kernel None before = omega arith
    by_kernel (Some k) before = after_log system log k before

-- the most processes that are placed
abbrev most_placed : System → ℕ
most_placed system = sum_of (of_family (λ (s : SmallState). 1)) (boot system)

-- so many backups may be made, and those of the children that may be born
backups_within : (system : System) (log : List Entry) → is_system system ≡ true → IsLegalBy Stands system log → left_of_backups system log ≤ most_placed system + 32
backups_within system log valid legal =
    let some = count_by-le-length is_unbacked (placement system log).placed in
    let few = placed_few system log valid legal in
    omega (arith, some, few)

-- the most that clusters may send
abbrev pub most_posts : System → ℕ
most_posts system = 3 * boot_load system + most_pages system + most_syncs system + (most_placed system + 32)

pub posts_within : (system : System) (log : List Entry) → is_system system ≡ true → IsLegalBy MayStand system log → length log < 2 ^ 64 → left_of_posts system log ≤ most_posts system
posts_within system log valid legal fits =
    let sent : left_to_send system log ≤ 3 * boot_load system + most_pages system + most_syncs system =
    all_parts (log_load system log) (boot_load system) (left_of_pages system log) (most_pages system) (left_of_syncs system log) (most_syncs system) (steps_within system log) (pages_within system log valid legal fits)
    (syncs_within system log valid (all_stand system log legal)) in
    let made = backups_within system log valid (all_stand system log legal) in
    omega (arith, sent, made)
  where
    all_parts : (a b c d m n : ℕ) → a ≤ b → c ≤ d → m ≤ n → 3 * a + c + m ≤ 3 * b + d + n
    all_parts a b c d m n first second third = omega (arith, first, second, third)

-- ---- one number for the parts

-- the most that the parts behind the words may be
record Bounds : Type 0 where
  posts : ℕ
  entries : ℕ
  moves : ℕ

-- a number with one more part, which has a bound
abbrev weighed : (first second bound : ℕ) → ℕ
weighed first second bound = first * (bound + 1) + second

-- by bounds of the parts behind the words, a number that falls where what is left falls
abbrev rank : Bounds → Remaining → ℕ
rank most r = weighed (weighed (weighed r.words r.posts most.posts) r.entries most.entries) r.moves most.moves

-- a first part that falls outweighs a second one that has a bound
outweighs : (a b c d m : ℕ) → a < c → b ≤ m → weighed a b m < weighed c d m
outweighs a b c d m less bound =
    let more : (a + 1) * (m + 1) ≤ c * (m + 1) = mul-le-mul_right (m + 1) (let l : a + 1 ≤ c = omega (arith, less) in l) in
    let one : (a + 1) * (m + 1) ≡ a * (m + 1) + (m + 1) = suc_times a (m + 1) in
    omega (arith, more, one, bound)
  where
    suc_times : (a m : ℕ) → (a + 1) * m ≡ a * m + m
    suc_times a m = omega arith

-- and where it stays, the second one decides
weighs_second : (a b c d m : ℕ) → a ≡ c → b < d → weighed a b m < weighed c d m
weighs_second a b c d m same less = let front : a * (m + 1) ≡ c * (m + 1) = ap (λ n. n * (m + 1)) same in omega (arith, front, less)

module _ (most : Bounds) (old new : Remaining) (posts : new.posts ≤ most.posts) (entries : new.entries ≤ most.entries) (moves : new.moves ≤ most.moves) where
  abbrev by_posts : Remaining → ℕ
  by_posts r = weighed r.words r.posts most.posts

  abbrev by_entries : Remaining → ℕ
  by_entries r = weighed (by_posts r) r.entries most.entries

  posts_fall : by_posts new < by_posts old → rank most new < rank most old
  posts_fall less = outweighs (by_entries new) new.moves (by_entries old) old.moves most.moves (outweighs (by_posts new) new.entries (by_posts old) old.entries most.entries less entries) moves

  entries_fall : by_posts new ≡ by_posts old → new.entries < old.entries → rank most new < rank most old
  entries_fall same less = outweighs (by_entries new) new.moves (by_entries old) old.moves most.moves (weighs_second (by_posts new) new.entries (by_posts old) old.entries most.entries same less) moves

  same_posts : new.words ≡ old.words → new.posts ≡ old.posts → by_posts new ≡ by_posts old
  same_posts words posts = λ i. weighed (words i) (posts i) most.posts

  rank_falls : Falls old new → rank most new < rank most old
  rank_falls (inl fewer) = posts_fall (outweighs new.words new.posts old.words old.posts most.posts fewer posts)
  rank_falls (inr (words, inl less)) = posts_fall (weighs_second new.words new.posts old.words old.posts most.posts words less)
  rank_falls (inr (words, inr (inl less))) = entries_fall (same_posts words less.0) less.1
  rank_falls (inr (words, inr (inr less))) = weighs_second (by_entries new) new.moves (by_entries old) old.moves most.moves (λ i. weighed (same_posts words less.0 i) (less.1 i) most.entries) less.2

-- the most that may be left of a system
abbrev most_of : System → Bounds
most_of system = record { posts = most_posts system; entries = system.clusters * 2 ^ 64; moves = most_total system }

-- what is left to do, as one number
abbrev pub left_to_do : BusView → List ClusterView → ℕ
left_to_do b cs = rank (most_of b.system) (remaining b cs)

-- a round makes it fall, where the log then goes on
pub round_falls : (b after : BusView) (cs new : List ClusterView) → IsOwned after → AllAlong after new → after.system ≡ b.system → is_over b.system b.log ≡ false → Falls (remaining b cs) (remaining after new) ⊎ IsOver after
    → cond (is_over after.system after.log) 0 (left_to_do after new + 1) < cond (is_over b.system b.log) 0 (left_to_do b cs + 1)
round_falls b after cs new owned all system goes_on gets = subst (λ t. cond (is_over after.system after.log) 0 (left_to_do after new + 1) < cond t 0 (left_to_do b cs + 1)) (sym goes_on) (by_end (is_over after.system after.log) refl gets)
  where
    by_end : (t : Bool) → is_over after.system after.log ≡ t → Falls (remaining b cs) (remaining after new) ⊎ IsOver after → cond t 0 (left_to_do after new + 1) < left_to_do b cs + 1
    by_end true is gets = omega arith
    by_end false is (inr over) = absurd (true≢false (sym over ∙ is))
    by_end false is (inl falls) =
        let less = rank_falls (most_of after.system) (remaining b cs) (remaining after new) (posts_within after.system after.log (owned.sound).valid (owned.sound).legal (owned.sound).fits) (entries_within after new owned all) (total_within after new owned all) falls in
        let bounds : rank (most_of after.system) (remaining b cs) ≡ left_to_do b cs = ap (λ (s : System). rank (most_of s) (remaining b cs)) system in
        omega (arith, less, bounds)
