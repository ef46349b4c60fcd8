-- A cluster that takes in the loss of another goes on to follow the log: the processes that it moves here wait for their pages, beside their records.
use Rattle.std.proofs.Common.{◌≡◌, ◌⊎◌, ℕ, ◌+◌, ◌≤◌, refl, sym, ◌∙◌, ap, subst, List, [], ◌∷◌, ◌++◌, map, length-append, Bool, true, false, cond, not, ◌&&◌, ◌||◌, arith, eqb, eqb-true, eq-eqb, Option, Some, None, is_some, inl, inr, true≢false}
use Rattle.std.specs.Prelude.{filter, find, nat_lt, option_map}
use Rattle.std.specs.List.{list_all, list_any}
use Rattle.std.specs.Option.{option_map_or}
use Rattle.std.proofs.lemmas.Bool.{and_parts}
use Rattle.std.proofs.lemmas.Bool.Decides.{nat_tests}
use Rattle.t32_base.specs.declared.process.Pid.{Pid}
use Rattle.t32_base.specs.declared.process.ClusterNo.{ClusterNo}
use Rattle.t32_base.specs.declared.letter.BackRec.{BackRec}
use Rattle.sys_text.specs.declared.system.System.{System}
use Rattle.sys_text.specs.Valid.{is_system}
use Rattle.proc_state.specs.State.{ProcState, state_of}
use Rattle.sys_calls.proofs.RunLemma.{all_delivered}
use Rattle.plain_kernel.specs.Kernel.{Kernel}
use Rattle.bus_msg.specs.declared.entry.What.TheVariants.{Crash}
use Rattle.bus_msg.specs.declared.entry.Cause.{Cause}
use Rattle.bus_msg.specs.declared.entry.Post.{Post}
use Rattle.bus_msg.specs.declared.entry.Entry.{Entry}
use Rattle.bus_msg.specs.declared.placed.Placed.{Placed}
use Rattle.bus_msg.specs.Places.{Places, is_at_home, is_cluster, placed_at, same_cluster, same_pid, unended_at, is_moved_by}
use Rattle.bus_msg.specs.PlacedAfter.{what, placed_after, after_loss}
use Rattle.crash_notice.specs.Splitting.{is_moved_here, moves_here, stays}
use Rattle.cluster_core.specs.Sent.{SentMayStand}
use Rattle.cert_sched.specs.Deeds.{deeds_in, is_birth_of, is_cut, letter_for, start_of}
use Rattle.cert_sched.specs.Losses.{is_by_cluster, is_from, is_crash_of}
use Rattle.cert_sched.specs.Parts.{rising}
use Rattle.cert_sched.specs.Record.{backup_record, has_state, record_from}
use Rattle.cert_sched.specs.Rests.{home_pids}
use Rattle.cert_sched.specs.Rules.{home_at, has_its_pages, has_awaited_backup}
use Rattle.cert_sched.specs.Schedule.{items_of, placement}
use Rattle.cert_sched.specs.Simulation.{IsUnended}
use Rattle.cert_sched.proofs.FreshLaws.{only_one}
use Rattle.cert_sched.proofs.LogLaws.{IsLegal-last}
use Rattle.cert_sched.proofs.PidLaws.{apart_fewer, placed_pids}
use Rattle.cert_sched.proofs.RisingLaws.{NoTwo, put_all}
use Rattle.cert_sched.proofs.RollLaws.{all_roll, two_apart}
use Rattle.backup_records.specs.Records.{are_rising, record_in, records_after, record_after}
use Rattle.log_laws.specs.records.Kept.{KeepsRecords, has_backup_in}
use Rattle.log_laws.proofs.records.LossLaws.{loss_kept}
use Rattle.log_laws.proofs.records.Standing.{all_stand}
use Rattle.t32_base.specs.Small.{SmallState}
use Rattle.page_waits.specs.Waiting.{page_count}
use Rattle.page_waits.specs.Begun.{number_of}
use Rattle.replay_laws.specs.rolling.Behind.{RollsBehind}
use Rattle.replay_laws.proofs.rolling.FromStart.{record_stated}
use Rattle.replay_laws.proofs.rolling.KeepingBehind.{behind_standing}
use Rattle.replay_laws.proofs.forks.Begins.{state_none}
use Rattle.replay_laws.proofs.rolling.ByRule.{standing}
use Rattle.log_laws.specs.births.Unsynced.{unsynced_births}
use Rattle.cluster_core.specs.Families.{family_after}
use Rattle.cluster_core.specs.Owed.{AreOwed, owed_after}
use Rattle.cluster_core.proofs.awaiting.OwedNext.{owed_next}
use Rattle.cluster_core.proofs.births.FamilyNext.{family_next}
use Rattle.cluster_core.specs.View.{ClusterView, next_count, with_server, limits_of}
use Rattle.residents.specs.Held.{Held, Runs, Rolls, Waits, held_of, is_waiting, IsHeldWithin}
use Rattle.residents.specs.Residents.{pids_in}
use Rattle.cluster_core.specs.Parts.{AllOwn}
use Rattle.cluster_core.specs.Queue.{AreTogether, Queued, posts_of, IsQueueLegal, move_of, with_queue}
use Rattle.cluster_core.specs.Recovered.{left_by, moved_by, CanWait, with_all_waiting}
use Rattle.cluster_core.specs.Holds.{IsHeldAs, is_fetch_queued, process_in, CarriesMarks, MarkedIfThere, unended_process}
use Rattle.cluster_core.proofs.here.Beside.{FollowsBeside, HeldOf, of_them, one_of_them}
use Rattle.cluster_core.specs.Calls.{with_entry, here_after}
use Rattle.cluster_core.proofs.here.Here.{is_among}
use Rattle.residents.proofs.Changing.{pid_same}
use Rattle.cluster_core.proofs.losses.Homes.{HomeHere, pids_apart, home_here}
use Rattle.cluster_core.proofs.losses.HomesMoved.{any_moved, homes_after, pids_moved, put_same, same_in_order}
use Rattle.cluster_core.proofs.losses.MovedRecords.{all_recorded, number_there, passing_record, record_pid}
use Rattle.cluster_core.proofs.losses.RecoveredHere.{Recovery, held_waiting, pids_waiting}
use Rattle.cluster_core.proofs.absorbing.Unmoved.{state_same}
use Rattle.cluster_core.proofs.absorbing.Counted.{lost_before}
use Rattle.cluster_core.proofs.absorbing.Following.{counted_foreign}
use Rattle.cluster_core.proofs.absorbing.Served.{accounts_next, foreign_no_answer, ahead_after}
use Rattle.cluster_core.specs.Serving.{Serves}
use Rattle.page_server.specs.Account.{PagerState}
use Rattle.replay_laws.proofs.pages.RecordPages.{HasPages, has_pages, starts_so}
use Rattle.cluster_core.proofs.absorbing.Fallen.{NoneFalls}
use Rattle.cluster_core.proofs.losses.LostQueue.{NextLoss, no_fetch_queued, no_move_queued, not_here_lost, places_after, queue_stays, found_after}
use Rattle.cert_sched.specs.Legal.{Stands, MayStand}
use Rattle.replay_laws.specs.pages.Waits.{first_wait, none_queued}
use Rattle.cert_sched.specs.Told.{cluster_lost, is_moved}
use Rattle.cluster_core.proofs.losses.NotMoved.{home_not_moved}
use Rattle.cert_sched.specs.Moved.{is_fetch, is_page_is}
use Rattle.log_laws.specs.pages.Next.{moves_next}
use Rattle.cluster_core.proofs.paging.HasPages.{pages_after}
use Rattle.log_laws.proofs.births.UnsyncedChild.{lives_with_parent}
use Rattle.cluster_core.specs.ForksAgain.{ForksLeft, has_to_bear}
use Rattle.cluster_core.proofs.forks.ForksAgain.{bears_by}
use Rattle.replay_laws.specs.forks.ForkWaits.{WaitsSo}
use Rattle.replay_laws.proofs.forks.EitherWait.{so_alike, so_begins, so_follows}
use Rattle.cert_sched.specs.Account.{is_exit_of}
use Rattle.checkpoint_laws.specs.marks.Beside.{is_some_page}
use Rattle.cluster_core.proofs.syncs.Marking.{Leaves, marked_after, queue_tells}
use Rattle.cluster_core.specs.Standing.{has_begun}
use Rattle.cluster_core.proofs.awaiting.Awaited.{awaited_after}

-- ---- lists

-- the numbers of records by rising pid stand once
numbers_apart : (recs : List BackRec) → are_rising recs ≡ true → NoTwo (map number_of recs)
numbers_apart [] order = tt
numbers_apart (r ∷ rest) order =
    let parts = and_parts (list_all (λ (s : BackRec). nat_lt (r.pid).0 (s.pid).0) rest) (are_rising rest) order in
    (none rest parts.0, numbers_apart rest parts.1)
  where
    other : (m n : ℕ) → nat_lt m n ≡ true → eqb n m ≡ false
    other m n less = grind (arith, nat_tests)

    none : (rest : List BackRec) → list_all (λ (s : BackRec). nat_lt (r.pid).0 (s.pid).0) rest ≡ true → list_any (λ m. eqb m (number_of r)) (map number_of rest) ≡ false
    none [] above = refl
    none (s ∷ rest) above = let parts = and_parts (nat_lt (r.pid).0 (s.pid).0) (list_all (λ (s : BackRec). nat_lt (r.pid).0 (s.pid).0) rest) above in λ i. other (r.pid).0 (s.pid).0 parts.0 i || none rest parts.1 i

-- so do the pids of those that a loss moves
moved_apart : (lost k : ClusterNo) (qs : List Placed) → NoTwo (placed_pids qs) → NoTwo (pids_moved lost k qs)
moved_apart lost k qs two = apart_fewer (is_moved_here lost k) qs two

-- who is placed and has not ended is found
found_open : (p : Pid) (qs : List Placed) (q : Placed) → find (λ (q : Placed). same_pid q.pid p) qs ≡ Some q → not q.ended ≡ true → find (λ (q : Placed). same_pid q.pid p && not q.ended) qs ≡ Some q
found_open p [] q found open_still = cc
found_open p (r ∷ qs) q found open_still = by_test (same_pid r.pid p) found (λ more. found_open p qs q more open_still)
  where
    by_test : (b : Bool) → cond b (Some r) (find (λ (q : Placed). same_pid q.pid p) qs) ≡ Some q → (find (λ (q : Placed). same_pid q.pid p) qs ≡ Some q → find (λ (q : Placed). same_pid q.pid p && not q.ended) qs ≡ Some q)
        → cond (b && not r.ended) (Some r) (find (λ (q : Placed). same_pid q.pid p && not q.ended) qs) ≡ Some q
    by_test true is more =
        let same : r ≡ q = cc in
        ap (λ b. cond b (Some r) (find (λ (q : Placed). same_pid q.pid p && not q.ended) qs)) (ap (λ (x : Placed). not x.ended) same ∙ open_still) ∙ is
    by_test false is more = more is

-- a process that starts somewhere has a record
backup_there : (system : System) (log : List Entry) (p : Pid) (start : ProcState) → start_of system log p ≡ Some start → is_some (backup_record system log p) ≡ true
unfolding backup_record
backup_there system log p start is = ap (λ o. is_some (option_map (record_from system log p) o)) is

-- where the process that is found passes a test, one of those with its pid does
found_passes : (t : Placed → Bool) (p : Pid) (qs : List Placed) (q : Placed) → find (λ (q : Placed). same_pid q.pid p && not q.ended) qs ≡ Some q → t q ≡ true → list_any (λ (q : Placed). same_pid q.pid p && t q) qs ≡ true
found_passes t p [] q found passes = cc
found_passes t p (r ∷ qs) q found passes = by_tests (same_pid r.pid p) (not r.ended) found (λ found. found_passes t p qs q found passes)
  where
    more_or : (b : Bool) → list_any (λ (q : Placed). same_pid q.pid p && t q) qs ≡ true → (b || list_any (λ (q : Placed). same_pid q.pid p && t q) qs) ≡ true
    more_or true more = refl
    more_or false more = more

    by_tests : (b c : Bool) → cond (b && c) (Some r) (find (λ (q : Placed). same_pid q.pid p && not q.ended) qs) ≡ Some q
        → (find (λ (q : Placed). same_pid q.pid p && not q.ended) qs ≡ Some q → list_any (λ (q : Placed). same_pid q.pid p && t q) qs ≡ true) → ((b && t r) || list_any (λ (q : Placed). same_pid q.pid p && t q) qs) ≡ true
    by_tests true true is more = let same : r ≡ q = cc in ap (λ b. b || list_any (λ (q : Placed). same_pid q.pid p && t q) qs) (ap t same ∙ passes)
    by_tests true false is more = more_or (t r) (more is)
    by_tests false c is more = more is

module _ (system : System) (valid : is_system system ≡ true) (log : List Entry) (e : Entry) (lost : ClusterNo) (cause : Cause) (n : NextLoss system log e lost cause) (k : ClusterNo) (apart : same_cluster lost k ≡ false) where
  abbrev later : List Entry
  later = log ++ e ∷ []

  abbrev places : Places
  places = placement system log

  -- ---- where processes are

  none : (kernel : Kernel) → items_of kernel (what e) ≡ []
  none kernel = ap (items_of kernel) n.same

  there_after : placement system later ≡ placed_after places (Crash lost cause)
  there_after = places_after system valid log e lost cause n k apart

  spared : is_crash_of k (what e) ≡ false
  spared = not_here_lost system valid log e lost cause n k apart

  stands : Stands system log e
  stands = (IsLegal-last MayStand system log e n.more).stands

  differ : NoTwo (placed_pids places.placed)
  differ = two_apart system log (all_roll MayStand (λ system log e may. may.stands) system log valid n.legal)

  -- the home of a process that is at home here
  home_is : (p : Pid) → HomeHere places p k → home_at places p ≡ Some k
  home_is p here = ap (option_map (λ (q : Placed). q.home)) here.found ∙ ap Some same
    where
      same : (here.placed).home ≡ k
      same = λ i. record { 0 = eqb-true ((here.placed).home).0 k.0 here.home i }

  -- ---- the processes that it moves here

  abbrev moves : Pid → Bool
  moves p = option_map_or (is_moved_here lost k) (placed_at places p) false

  -- what is known of a record that moves
  pub record Moves (recs : List BackRec) (p : Pid) (r : BackRec) : Type 0 where
    pub own : r.pid ≡ p
    pub placed : Placed
    pub found : unended_at places p ≡ Some placed
    pub leaves : is_moved_by lost placed ≡ true
    pub home : same_cluster placed.home lost ≡ true
    pub kept : backup_record system log p ≡ Some r

  pub moving : (recs : List BackRec) (p : Pid) (r : BackRec) → KeepsRecords system log k recs → record_in (filter (moves_here places lost k) recs) p ≡ Some r → Moves recs p r
  moving recs p r keeps at = by_moves (moves p) refl (sym (passing_record moves recs p) ∙ at)
    where
      some_backup : (o : Option ClusterNo) → is_cluster o k ≡ true → is_some o ≡ true
      some_backup None is = absurd (true≢false (sym is))
      some_backup (Some b) is = refl

      by_backup : (q : Placed) → unended_at places p ≡ Some q → is_moved_here lost k q ≡ true → (b : Bool) → record_in recs p ≡ Some r → cond b (backup_record system log p) None ≡ record_in recs p → Moves recs p r
      by_backup q found test true is at =
          let halves = and_parts (is_at_home lost q) (is_cluster q.backup k) test in
          record {
            own = record_pid recs p r is;
            placed = q;
            found = found;
            leaves = λ i. halves.0 i && some_backup q.backup halves.1 i;
            home = (and_parts (same_cluster q.home lost) (not q.ended) halves.0).0;
            kept = at ∙ is;
          }
      by_backup q found test false is at = let none : None ≡ Some r = at ∙ is in cc

      by_unended : (o : Option Placed) → unended_at places p ≡ o → moves p ≡ true → record_in recs p ≡ Some r → Moves recs p r
      by_unended None found passes is = let none : None ≡ Some r = sym (keeps p ∙ ap (λ o. cond (option_map_or (λ (q : Placed). is_cluster q.backup k) o false) (backup_record system log p) None) found) ∙ is in cc
      by_unended (Some q) found passes is =
          let placed : placed_at places p ≡ Some q = only_one p places.placed q differ found in
          let test : is_moved_here lost k q ≡ true = ap (λ o. option_map_or (is_moved_here lost k) o false) (sym placed) ∙ passes in
          by_backup q found test (has_backup_in system log k p) is (sym (keeps p))

      by_moves : (b : Bool) → moves p ≡ b → cond b (record_in recs p) None ≡ Some r → Moves recs p r
      by_moves true passes is = by_unended (unended_at places p) refl passes is
      by_moves false passes is = cc

  -- it is not at home here
  not_here : (recs : List BackRec) (p : Pid) (r : BackRec) → Moves recs p r → home_at places p ≡ Some k → ⊥
  not_here recs p r m at =
      let home : (m.placed).home ≡ k = home_of (sym (ap (option_map (λ (q : Placed). q.home)) m.found) ∙ at) in
      true≢false (sym (eq-eqb lost.0 k.0 (sym (eqb-true ((m.placed).home).0 lost.0 m.home) ∙ ap (λ (h : ClusterNo). h.0) home)) ∙ apart)
    where
      home_of : Some (m.placed).home ≡ Some k → (m.placed).home ≡ k
      home_of is = cc

  unended_of : (recs : List BackRec) (p : Pid) (r : BackRec) → Moves recs p r → IsUnended system log p
  unended_of recs p r m = ap is_some m.found

  -- so each of them has 1 to 256 pages, or none where its record has no state, and is not here yet
  pub can_wait : (recs : List BackRec) (here : List (Pid × Held)) → KeepsRecords system log k recs → rising (pids_in here) ≡ rising (home_pids system log k) → CanWait (filter (moves_here places lost k) recs) here
  can_wait recs here keeps once p r at = (λ some. (pages (stated ∙ some)).some, few (has_state system log p) refl, away (list_any (λ (e : Pid × Held). same_pid e.0 p) here) refl)
    where
      m : Moves recs p r
      m = moving recs p r keeps at

      stated : has_state system log p ≡ is_some r.state
      stated = sym (record_stated system log p r m.kept)

      pages : has_state system log p ≡ true → HasPages system log p r
      pages has = has_pages system log p r valid n.legal (unended_of recs p r m) has m.kept

      few : (b : Bool) → has_state system log p ≡ b → page_count r ≤ 256
      few true has = (pages has).at_most
      few false none = subst (λ n. n ≤ 256) (sym (ap (λ (o : Option SmallState). option_map_or (λ (small : SmallState). small.pages) o 0) (state_none system log p r none m.kept))) (omega arith)

      away : (b : Bool) → list_any (λ (e : Pid × Held). same_pid e.0 p) here ≡ b → b ≡ false
      away true is = absurd (not_here recs p r m (home_is p (home_here places k (pids_in here) p (pids_apart system log valid n.legal) once (sym (any_pids here) ∙ is))))
        where
          any_pids : (here : List (Pid × Held)) → list_any (λ (e : Pid × Held). same_pid e.0 p) here ≡ list_any (λ n. eqb n p.0) (pids_in here)
          any_pids [] = refl
          any_pids (e ∷ here) = ap (λ b. same_pid e.0 p || b) (any_pids here)
      away false is = refl

  -- ---- what is held

  -- the loss moves a process of which a record moves
  moves_it_here : (recs : List BackRec) (p : Pid) (r : BackRec) → Moves recs p r → moves_next system log e p ≡ true
  moves_it_here recs p r m = ap (λ w. option_map_or (is_moved p places) (cluster_lost w) false) n.same ∙ found_passes (is_moved_by lost) p places.placed m.placed m.found m.leaves

  -- so it waits for all its pages, or for its parent's fork, as the log with the loss says
  waiting_held : (q : Queued) (recs : List BackRec) (p : Pid) (r : BackRec) → Moves recs p r → move_of p (posts_of q) ≡ None → ((i : ℕ) → is_fetch_queued p (posts_of q) i ≡ false) → IsHeldAs system later (posts_of q) p (Waits (first_wait r))
  waiting_held q recs p r m unmoved unasked = (
    unmoved,
    so_alike system later p none_queued (is_fetch_queued p (posts_of q)) (first_wait r) (λ i. sym (unasked i)) (so_begins system log e p r valid n.more (unended_of recs p r m) (moves_it_here recs p r m) m.kept),
  )

  -- one that was here is held as before
  held_still : (q : Queued) (p : Pid) (h : Held) → AreTogether q → HomeHere places p k → IsHeldAs system log (posts_of q) p h → IsHeldAs system later (posts_of q) p h
  held_still q p (Runs s) together home held = state_same system log e none q p (s.small).steps together ∙ held
  held_still q p (Rolls s counts births) together home held = (
    held.0,
    subst (λ w. RollsBehind system later p (all_delivered (state_of s) (letter_for p w)) counts births) n.same
        (behind_standing system log e p MayStand standing (state_of s) counts births valid n.more (ap is_some home.found) (ap (is_cut p) n.same) (ap (deeds_in p) n.same) held.1),
  )
  held_still q p (Waits waiting) together home held = (
    held.0,
    subst (λ w. WaitsSo system later p (is_fetch_queued p (posts_of q)) (record waiting { kept = record_after w waiting.kept })) n.same
        (so_follows system log e p (is_fetch_queued p (posts_of q)) waiting valid n.more (ap is_some home.found) (home_not_moved system log e p k (pids_apart system log valid n.legal) home spared) (ap (is_cut p) n.same) (ap (deeds_in p) n.same)
        (λ i. ap (is_page_is p i) n.same) (ap (is_some_page p) n.same) (subst (λ w. WaitsSo system log p (λ i. is_fetch p i w || is_fetch_queued p (posts_of q) i) waiting) (sym n.same) held.1)),
  )

  -- one that is at home here was here, and is held as it was
  pub still_here : (recs : List BackRec) (here : List (Pid × Held)) (p : Pid) (h : Held) → KeepsRecords system log k recs → are_rising (filter (moves_here places lost k) recs) ≡ true → HomeHere places p k
      → held_of (with_all_waiting (filter (moves_here places lost k) recs) here) p ≡ Some h → held_of here p ≡ Some h
  still_here recs here p h keeps order home at = by_either (held_waiting (λ r. Moves recs r.pid r) moved here p h (all_recorded (λ r. Moves recs r.pid r) moved order (λ r found. moving recs r.pid r keeps found)) at)
    where
      moved : List BackRec
      moved = filter (moves_here places lost k) recs

      by_either : (held_of here p ≡ Some h) ⊎ Recovery (λ r. Moves recs r.pid r) p h → held_of here p ≡ Some h
      by_either (inl there) = there
      by_either (inr y) =
          let pids : (y.kept).pid ≡ p = pid_same (y.kept).pid p (eqb-true ((y.kept).pid).0 p.0 y.own) in
          absurd (not_here recs p y.kept (subst (λ p. Moves recs p y.kept) pids y.has) (home_is p home))

  -- it has its pages if it had them
  pages_still : (p : Pid) → HomeHere places p k → has_its_pages system log p ≡ true → has_its_pages system later p ≡ true
  pages_still p home has = pages_after system log e p k valid n.legal stands (pids_apart system log valid n.legal) home spared has

  -- ---- each once

  once_after_loss : (recs : List BackRec) (here : List (Pid × Held)) → KeepsRecords system log k recs → are_rising (filter (moves_here places lost k) recs) ≡ true → rising (pids_in here) ≡ rising (home_pids system log k)
      → rising (pids_in (with_all_waiting (filter (moves_here places lost k) recs) here)) ≡ rising (home_pids system later k)
  once_after_loss recs here keeps order once =
      pids_waiting moved here
      ∙ put_same (map number_of moved) (pids_moved lost k places.placed) (rising (pids_in here)) (same_in_order (map number_of moved) (pids_moved lost k places.placed) (numbers_apart moved order) (moved_apart lost k places.placed differ) same)
      ∙ ap (put_all (pids_moved lost k places.placed)) once
      ∙ sym (homes_after lost k places.placed apart)
      ∙ ap (λ (places : Places). rising (home_pids_in places)) (sym there_after)
    where
      moved : List BackRec
      moved = filter (moves_here places lost k) recs

      home_pids_in : Places → List ℕ
      home_pids_in places = map (λ (q : Placed). (q.pid).0) (filter (is_at_home k) places.placed)

      same : (p : Pid) → list_any (λ m. eqb m p.0) (map number_of moved) ≡ list_any (λ m. eqb m p.0) (pids_moved lost k places.placed)
      same p = number_there moved p ∙ ap is_some (passing_record moves recs p) ∙ by_moves (moves p) refl ∙ sym (any_moved lost k places.placed p differ)
        where
          record_there : (q : Placed) → unended_at places p ≡ Some q → is_cluster q.backup k ≡ true → is_some (record_in recs p) ≡ true
          record_there q found backup =
              ap is_some (keeps p ∙ ap (λ o. cond (option_map_or (λ (q : Placed). is_cluster q.backup k) o false) (backup_record system log p) None) found ∙ ap (λ b. cond b (backup_record system log p) None) backup)
              ∙ (let s = starts_so system log p valid n.legal (ap is_some found) in backup_there system log p s.start s.started)

          by_placed : (o : Option Placed) → placed_at places p ≡ o → option_map_or (is_moved_here lost k) o false ≡ true → is_some (record_in recs p) ≡ true
          by_placed None placed passes = absurd (true≢false (sym passes))
          by_placed (Some q) placed passes =
              let parts = and_parts (is_at_home lost q) (is_cluster q.backup k) passes in
              record_there q (found_open p places.placed q placed (and_parts (same_cluster q.home lost) (not q.ended) parts.0).1) parts.1

          by_moves : (b : Bool) → moves p ≡ b → is_some (cond b (record_in recs p) None) ≡ b
          by_moves true passes = by_placed (placed_at places p) refl passes
          by_moves false passes = refl

  -- ---- the whole

  pub follows_lost : (which : Pid → Bool) (c : ClusterView) (server : Option PagerState) → Serves places e c.server server → c.system ≡ system → c.number ≡ k → AllOwn c.cursor c.here → FollowsBeside which system log c → is_by_cluster k e ≡ false
      → are_rising (filter (moves_here places lost k) c.records) ≡ true → NoneFalls places (what e) c.queue → FollowsBeside which system later (with_server server (with_entry c e))
  follows_lost which c server serves system_is number_is own f foreign order unfallen = subst (λ v. FollowsBeside which system later (with_server server v)) (sym whole) (record {
    log = record {
      cursor = ap (λ m. m + 1) (f.log).cursor ∙ sym (length-append log (e ∷ []));
      places = sym there_after;
    };
    processes = record { held = held; each_once = once_after_loss c.records c.here keeps order once ∙ ap (λ k. rising (home_pids system later k)) (sym number_is) };
    queue = record {
      own = (f.queue).own;
      legal = legal_still;
    };
    queued = f.queued;
    steps = record { counted = λ kept. counted_foreign c log e (ap (λ k. is_by_cluster k e) number_is ∙ foreign) ((f.steps).counted (lost_before log e c.number kept)) };
    limits = limits;
    pages = pages;
    marks = marks;
    records = subst (λ k. KeepsRecords system later k (filter (stays places lost k) c.records)) (sym number_is) (loss_kept system log e lost k cause c.records valid (all_stand system later n.more) n.same apart keeps);
    family = subst (λ w. family_after w c.family ≡ unsynced_births system later) n.same (family_next system log e c.family valid (n.legal, n.before) (n.more, n.goes_on) f.family);
    owed = subst (λ w. AreOwed system later c.number (owed_after c.number places w c.owed)) n.same
        (owed_next system log e c.number places c.owed valid (n.more, n.goes_on) refl (ap (λ j. is_crash_of j (what e)) number_is ∙ ap (is_crash_of k) n.same ∙ apart) f.owed);
    backups = backups;
    forks = forks;
    accounts =
        accounts_next system log e c (with_server server after) q (foreign_no_answer c.number e (ap (λ k. is_by_cluster k e) number_is ∙ foreign)) serves refl queue_is queue_is (f.queued).together f.accounts;
    disk = ((f.disk).0, ahead_after places e c.server server serves (f.disk).1);
  })
    where
      q : Queued
      q = (f.queued).queued

      queue_is : c.queue ≡ posts_of q
      queue_is = (f.queued).posts

      moved : List BackRec
      moved = filter (moves_here places lost k) c.records

      keeps : KeepsRecords system log k c.records
      keeps = subst (λ k. KeepsRecords system log k c.records) number_is f.records

      once : rising (pids_in c.here) ≡ rising (home_pids system log k)
      once = (f.processes).each_once ∙ ap (λ k. rising (home_pids system log k)) number_is

      posts_own : list_all (λ (post : Post). is_from k post.by) (posts_of q) ≡ true
      posts_own = sym (λ i. list_all (λ (post : Post). is_from (number_is i) post.by) (queue_is i)) ∙ (f.queue).own

      posts_legal : IsQueueLegal SentMayStand system log (posts_of q)
      posts_legal = subst (IsQueueLegal SentMayStand system log) queue_is (f.queue).legal

      posts_unfallen : NoneFalls places (what e) (posts_of q)
      posts_unfallen = subst (NoneFalls places (what e)) queue_is unfallen

      legal_still : IsQueueLegal SentMayStand system later c.queue
      legal_still = subst (IsQueueLegal SentMayStand system later) (sym queue_is) (queue_stays system valid log e lost cause n k apart q (f.queued).together posts_own foreign posts_unfallen posts_legal)

      -- what the cluster is after it
      after : ClusterView
      after = record c { cursor = c.cursor + 1; places = placed_after places (Crash lost cause); here = with_all_waiting moved c.here; records = filter (stays places lost c.number) c.records; owed = owed_after c.number places (Crash lost cause) c.owed; steps = next_count c.steps }

      whole : with_entry c e ≡ after
      whole =
          (λ i. record c {
            cursor = c.cursor + 1;
            places = placed_after (places_is i) (n.same i);
            here = with_all_waiting (moved_by (places_is i) c.number (n.same i) (records_after c.number (n.same i) c.records)) (here_after (n.same i) c.here);
            records = left_by (places_is i) c.number (n.same i) (records_after c.number (n.same i) c.records);
            family = family_after (n.same i) c.family;
            owed = owed_after c.number (places_is i) (n.same i) c.owed;
            steps = next_count c.steps;
          })
          ∙ (λ i. record c {
            cursor = c.cursor + 1;
            places = placed_after places (Crash lost cause);
            here = with_all_waiting (filter (moves_here places lost (number_is i)) c.records) c.here;
            records = filter (stays places lost c.number) c.records;
            owed = owed_after c.number places (Crash lost cause) c.owed;
            steps = next_count c.steps;
          })
        where
          places_is : c.places ≡ places
          places_is = (f.log).places

      -- a process that was here is at home here
      home_of : (p : Pid) (h : Held) → held_of c.here p ≡ Some h → HomeHere places p k
      home_of p h there = home_here places k (pids_in c.here) p (pids_apart system log valid n.legal) once (is_among c.here p h there)

      -- who is here then was here, or waits
      found : (p : Pid) (h : Held) → held_of (with_all_waiting moved c.here) p ≡ Some h → (held_of c.here p ≡ Some h) ⊎ Recovery (λ r. Moves c.records r.pid r) p h
      found p h at = held_waiting (λ r. Moves c.records r.pid r) moved c.here p h (all_recorded (λ r. Moves c.records r.pid r) moved order (λ r found. moving c.records r.pid r keeps found)) at

      held : (p : Pid) (h : Held) → held_of (with_all_waiting moved c.here) p ≡ Some h → HeldOf which system later c.queue p h
      held p h at = subst (λ ps. HeldOf which system later ps p h) (sym queue_is) (by_either (found p h at))
        where
          by_either : (held_of c.here p ≡ Some h) ⊎ Recovery (λ r. Moves c.records r.pid r) p h → HeldOf which system later (posts_of q) p h
          by_either (inl there) =
              of_them which system log later c.queue (posts_of q) p h (λ was. held_still q p h (f.queued).together (home_of p h there) (subst (λ ps. IsHeldAs system log ps p h) queue_is was)) ((f.processes).held p h there)
          by_either (inr y) =
              let pids : (y.kept).pid ≡ p = pid_same (y.kept).pid p (eqb-true ((y.kept).pid).0 p.0 y.own) in
              let m : Moves c.records p y.kept = subst (λ p. Moves c.records p y.kept) pids y.has in
              let elsewhere = not_here c.records p y.kept m in
              subst (λ x. HeldOf which system later (posts_of q) p x) (sym y.is)
              (waiting_held q c.records p y.kept m (no_move_queued system valid log e lost cause n k apart q p (f.queued).together posts_own posts_legal elsewhere) (λ i. no_fetch_queued system valid log e lost cause n k apart q p i (f.queued).together posts_own posts_legal elsewhere))

      -- who was here and had begun waits for no new backup still, and the others have not begun
      backups : (p : Pid) (h : Held) → held_of (with_all_waiting moved c.here) p ≡ Some h → has_begun h ≡ true → has_awaited_backup system later p ≡ true
      backups p h at begun = by_either (found p h at)
        where
          by_either : (held_of c.here p ≡ Some h) ⊎ Recovery (λ r. Moves c.records r.pid r) p h → has_awaited_backup system later p ≡ true
          by_either (inl there) =
              awaited_after system log e p k valid n.legal stands (pids_apart system log valid n.legal) (home_of p h there) (ap (is_crash_of k) n.same ∙ apart) (f.backups p h there begun)
          by_either (inr y) = absurd (true≢false (sym begun ∙ ap has_begun y.is))

      -- who was here has its marks still
      marks_still : (p : Pid) (h : Held) → which p ≡ true → held_of c.here p ≡ Some h → IsHeldAs system later (posts_of q) p h → MarkedIfThere CarriesMarks system (with_queue system later (posts_of q)) p (unended_process h)
      marks_still p h among there now =
          let home = home_of p h there in
          let stays = home_not_moved system log e p k (pids_apart system log valid n.legal) home spared in
          let leaves : Leaves system log p (what e) = (ap (is_cut p) n.same, ap (is_birth_of p) n.same, ap (is_some_page p) n.same, stays) in
          marked_after system log e p q h h valid (all_stand system later n.more) (ap is_some home.found)
          (ap is_some (found_after system valid log e lost cause n k apart p ∙ ap (option_map (after_loss lost)) home.found)) (f.queued).together
          (queue_tells system log k q posts_own posts_legal) (queue_tells system later k q posts_own (queue_stays system valid log e lost cause n k apart q (f.queued).together posts_own foreign posts_unfallen posts_legal))
          (subst (λ ps. IsHeldAs system log ps p h) queue_is (one_of_them which system log c.queue p h among ((f.processes).held p h there))) now leaves (ap (is_exit_of p) n.same) (λ m. m)
          (subst (λ ps. MarkedIfThere CarriesMarks system (with_queue system log ps) p (unended_process h)) queue_is (f.marks p h there among))

      marks : (p : Pid) (h : Held) → held_of (with_all_waiting moved c.here) p ≡ Some h → which p ≡ true → MarkedIfThere CarriesMarks system (with_queue system later c.queue) p (unended_process h)
      marks p h at among = subst (λ ps. MarkedIfThere CarriesMarks system (with_queue system later ps) p (unended_process h)) (sym queue_is) (by_either (found p h at))
        where
          by_either : (held_of c.here p ≡ Some h) ⊎ Recovery (λ r. Moves c.records r.pid r) p h → MarkedIfThere CarriesMarks system (with_queue system later (posts_of q)) p (unended_process h)
          by_either (inl there) = marks_still p h among there
              (held_still q p h (f.queued).together (home_of p h there) (subst (λ ps. IsHeldAs system log ps p h) queue_is (one_of_them which system log c.queue p h among ((f.processes).held p h there))))
          by_either (inr y) = subst (λ x. MarkedIfThere CarriesMarks system (with_queue system later (posts_of q)) p (unended_process x)) (sym y.is) tt

      -- a child that is moved lives with its parent, which is moved too; so each of its forks is to be made again
      forks : ForksLeft c.family (with_all_waiting moved c.here)
      forks parent child x h at_parent at_child born = by_either (found parent x at_parent) (found child h at_child)
        where
          one_home : home_at places child ≡ home_at places parent
          one_home = lives_with_parent system log parent child valid (all_stand system log n.legal) (subst (λ bs. list_any (bears_by parent child) bs ≡ true) f.family born)

          moved_away : (p : Pid) (h : Held) → Recovery (λ r. Moves c.records r.pid r) p h → home_at places p ≡ Some k → ⊥
          moved_away p h y =
              let pids : (y.kept).pid ≡ p = pid_same (y.kept).pid p (eqb-true ((y.kept).pid).0 p.0 y.own) in
              not_here c.records p y.kept (subst (λ p. Moves c.records p y.kept) pids y.has)

          by_either : (held_of c.here parent ≡ Some x) ⊎ Recovery (λ r. Moves c.records r.pid r) parent x → (held_of c.here child ≡ Some h) ⊎ Recovery (λ r. Moves c.records r.pid r) child h → is_waiting h ≡ has_to_bear child x
          by_either (inl a) (inl b) = f.forks parent child x h a b born
          by_either (inr y) (inr z) = ap is_waiting z.is ∙ sym (ap (has_to_bear child) y.is)
          by_either (inl a) (inr z) = absurd (moved_away child h z (one_home ∙ home_is parent (home_of parent x a)))
          by_either (inr y) (inl b) = absurd (moved_away parent x y (sym one_home ∙ home_is child (home_of child h b)))

      limits : (p : Pid) (h : Held) → held_of (with_all_waiting moved c.here) p ≡ Some h → IsHeldWithin (limits_of system) h
      limits p h at = by_either (found p h at)
        where
          by_either : (held_of c.here p ≡ Some h) ⊎ Recovery (λ r. Moves c.records r.pid r) p h → IsHeldWithin (limits_of system) h
          by_either (inl there) = f.limits p h there
          by_either (inr y) = subst (IsHeldWithin (limits_of system)) (sym y.is) tt

      pages : (p : Pid) (h : Held) → held_of (with_all_waiting moved c.here) p ≡ Some h → is_some (process_in h) ≡ true → has_its_pages system later p ≡ true
      pages p h at runs = by_either (found p h at)
        where
          by_either : (held_of c.here p ≡ Some h) ⊎ Recovery (λ r. Moves c.records r.pid r) p h → has_its_pages system later p ≡ true
          by_either (inl there) = pages_still p (home_of p h there) (f.pages p h there runs)
          by_either (inr y) = absurd (true≢false (sym runs ∙ ap (λ x. is_some (process_in x)) y.is))
