-- A new backup of either form, and a return, leave no more to send: a process that has run starts again from where it is, others as they did.
use Rattle.std.proofs.Common.{◌≡◌, ℕ, ◌+◌, ◌*◌, ◌≤◌, refl, sym, ◌∙◌, ap, arith, List, [], ◌∷◌, ◌++◌, map, length, Bool, true, false, cond, not, ◌||◌, ltb, Option, Some, None, true≢false}
use Rattle.std.specs.Prelude.{filter, option_and_then, sum_by}
use Rattle.std.specs.Option.{option_map_or}
use Rattle.std.proofs.lemmas.Bool.Decides.{nat_tests}
use Rattle.std.proofs.lemmas.List.Sums.{sum_by-cons}
use Rattle.t32_base.specs.declared.process.Pid.{Pid}
use Rattle.t32_base.specs.declared.process.ClusterNo.{ClusterNo}
use Rattle.t32_base.specs.declared.letter.BackRec.{BackRec}
use Rattle.sys_text.specs.declared.system.System.{System}
use Rattle.sys_text.specs.Valid.{is_system}
use Rattle.proc_state.specs.State.{ProcState}
use Rattle.plain_kernel.specs.Kernel.{process_at}
use Rattle.bus_msg.specs.declared.entry.What.TheVariants.{Return, Rebackup}
use Rattle.bus_msg.specs.declared.entry.Entry.{Entry}
use Rattle.bus_msg.specs.declared.placed.Placed.{Placed}
use Rattle.bus_msg.specs.Places.{Places, unended_in}
use Rattle.bus_msg.specs.PlacedAfter.{placed_after, after_rebackup, is_named, what}
use Rattle.cert_sched.specs.Schedule.{done, placement, process_after}
use Rattle.cert_sched.specs.Told.{cluster_lost}
use Rattle.cert_sched.specs.Deeds.{is_birth_of, is_cut, start_of}
use Rattle.cert_sched.specs.Record.{has_state}
use Rattle.cert_sched.specs.Moved.{waiting_fetches}
use Rattle.cert_sched.specs.Steps.{start_steps}
use Rattle.cert_sched.specs.Legal.{IsLegalBy, Stands}
use Rattle.cert_sched.proofs.BirthKind.{is_birth}
use Rattle.cert_sched.proofs.LogLaws.{placement-snoc}
use Rattle.cert_sched.proofs.RecordLaws.{has_state-snoc, start_of-snoc}
use Rattle.cert_sched.proofs.StepLaws.{done_kernel}
use Rattle.log_laws.specs.pages.Left.{left_of_pages, unasked, unasked_of}
use Rattle.log_laws.proofs.pages.OneEntry.{moves_none, waiting-snoc, waits_after, after_other}
use Rattle.log_laws.proofs.pages.Leaving.{most_over, sum_by-le-each}
use Rattle.checkpoint_laws.proofs.posts.Beside.{start_stays}
use Rattle.checkpoint_laws.specs.remaining.Load.{log_load}
use Rattle.checkpoint_laws.specs.remaining.Left.{has_stepped, left_of_process, left_of_syncs, left_to_send, may_sync}
use Rattle.checkpoint_laws.proofs.remaining.OneEntry.{each_most, left_then, load_most, stays_most, then_most, there}

-- who gets a new backup is counted as before
rebackup_sum : (g : Pid → ℕ) (to : ClusterNo) (fresh : Bool) (recs : List BackRec) (qs : List Placed)
    → sum_by (λ (q : Placed). g q.pid) (filter (λ (q : Placed). not q.ended) (map (after_rebackup to fresh recs) qs)) ≡ sum_by (λ (q : Placed). g q.pid) (filter (λ (q : Placed). not q.ended) qs)
rebackup_sum g to fresh recs [] = refl
rebackup_sum g to fresh recs (q ∷ qs) = by_name (is_named recs q) (rebackup_sum g to fresh recs qs)
  where
    counted : (r : Placed) (d : Bool) → r.pid ≡ q.pid
        → sum_by (λ (q : Placed). g q.pid) (filter (λ (q : Placed). not q.ended) (map (after_rebackup to fresh recs) qs)) ≡ sum_by (λ (q : Placed). g q.pid) (filter (λ (q : Placed). not q.ended) qs)
        → sum_by (λ (q : Placed). g q.pid)
        (cond (not d) (r ∷ filter (λ (q : Placed). not q.ended) (map (after_rebackup to fresh recs) qs)) (filter (λ (q : Placed). not q.ended) (map (after_rebackup to fresh recs) qs)))
        ≡ sum_by (λ (q : Placed). g q.pid) (cond (not d) (q ∷ filter (λ (q : Placed). not q.ended) qs) (filter (λ (q : Placed). not q.ended) qs))
    counted r true same more = more
    counted r false same more =
        sum_by-cons (λ (q : Placed). g q.pid) r (filter (λ (q : Placed). not q.ended) (map (after_rebackup to fresh recs) qs))
        ∙ (λ i. g (same i) + more i)
        ∙ sym (sum_by-cons (λ (q : Placed). g q.pid) q (filter (λ (q : Placed). not q.ended) qs))

    by_name : (s : Bool)
        → sum_by (λ (q : Placed). g q.pid) (filter (λ (q : Placed). not q.ended) (map (after_rebackup to fresh recs) qs)) ≡ sum_by (λ (q : Placed). g q.pid) (filter (λ (q : Placed). not q.ended) qs)
        → sum_by (λ (q : Placed). g q.pid) (filter (λ (q : Placed). not q.ended) (cond s (record q { backup = Some to; synced = q.synced || fresh }) q ∷ map (after_rebackup to fresh recs) qs))
        ≡ sum_by (λ (q : Placed). g q.pid) (filter (λ (q : Placed). not q.ended) (q ∷ qs))
    by_name true more = counted (record q { backup = Some to; synced = q.synced || fresh }) q.ended refl more
    by_name false more = counted q q.ended refl more

not_itself : (n : ℕ) → ltb n n ≡ false
not_itself n = grind (arith, nat_tests)

-- ---- an entry that bears none and moves none, and leaves those that have not ended

module _ (system : System) (log : List Entry) (e : Entry) (valid : is_system system ≡ true) (legal : IsLegalBy Stands system log) (stands : Stands system log e) where
  module _ (no_loss : cluster_lost (what e) ≡ None) (no_fork : is_birth (what e) ≡ false) (no_birth : (r : Pid) → is_birth_of r (what e) ≡ false) where
    -- who is cut by it starts again from where it is, with a state in its record
    cut_most : (r : Pid) → is_cut r (what e) ≡ true → left_of_process system (log ++ e ∷ []) r ≤ left_then system log e stands r
    cut_most r own = each_most system log e stands no_loss r (no_birth r) (λ h. absurd (true≢false (sym h ∙ not_again)))
      where
        starts_here : start_of system (log ++ e ∷ []) r ≡ process_after system (log ++ e ∷ []) r
        starts_here = start_of-snoc system log e r ∙ ap (λ b. cond (b || is_birth_of r (what e)) (process_after system (log ++ e ∷ []) r) (start_of system log r)) own

        not_stepped : has_stepped system (log ++ e ∷ []) r ≡ false
        not_stepped =
            let new = (there system log e stands).new in
            let after = (there system log e stands).after in
            let count = done_kernel system (log ++ e ∷ []) new r after in
            let start : start_steps system (log ++ e ∷ []) r ≡ done new r =
            ap (λ (o : Option ProcState). option_map_or (λ (s : ProcState). (s.small).steps) o 0) (starts_here ∙ ap (option_and_then (λ k. process_at k r)) after) in
            (λ i. ltb (start i) (count i)) ∙ not_itself (done new r)

        or_true : (b : Bool) → (b || true) ≡ true
        or_true true = refl
        or_true false = refl

        stated : has_state system (log ++ e ∷ []) r ≡ true
        stated = has_state-snoc system log e r ∙ ap (λ b. has_state system log r || b) own ∙ or_true (has_state system log r)

        not_again : may_sync system (log ++ e ∷ []) r ≡ false
        not_again i = not_stepped i || not (stated i)

    each : (r : Pid) → left_of_process system (log ++ e ∷ []) r ≤ left_then system log e stands r
    each r = by_test (is_cut r (what e)) refl
      where
        by_test : (b : Bool) → is_cut r (what e) ≡ b → left_of_process system (log ++ e ∷ []) r ≤ left_then system log e stands r
        by_test true own = cut_most r own
        by_test false apart = stays_most system log e stands no_loss r (no_birth r) (start_stays system log e r apart (no_birth r))

    module _ (places : (g : Pid → ℕ)
        → sum_by (λ (q : Placed). g q.pid) (unended_in (placement system (log ++ e ∷ []))) ≡ sum_by (λ (q : Placed). g q.pid) (unended_in (placement system log)))
        (leaves : waits_after (placement system log) (what e) (waiting_fetches system log) ≡ waiting_fetches system log) where
      syncs : left_of_syncs system (log ++ e ∷ []) + 2 * log_load system (log ++ e ∷ []) ≤ left_of_syncs system log + 2 * log_load system log
      syncs =
          let those = places (left_of_process system (log ++ e ∷ [])) in
          let all = sum_by-le-each (λ (q : Placed). left_of_process system (log ++ e ∷ []) q.pid) (λ (q : Placed). left_then system log e stands q.pid) (λ q. each q.pid)
          (unended_in (placement system log)) in
          let most = then_most system log e stands no_fork valid legal in
          omega (arith, those, all, most)

      pages : left_of_pages system (log ++ e ∷ []) ≤ left_of_pages system log
      pages =
          let same = places (unasked_of system (log ++ e ∷ [])) in
          let most = most_over system log e stands no_birth (moves_none system log e no_loss) (unended_in (placement system log)) in
          let asked : unasked system (log ++ e ∷ []) ≤ unasked system log = omega (arith, same, most) in
          let waits : length (waiting_fetches system (log ++ e ∷ [])) ≡ length (waiting_fetches system log) =
          ap length (waiting-snoc system log e ∙ leaves) in
          omega (arith, asked, waits)

      no_more : (l m p q s t : ℕ) → m ≤ l → q ≤ p → t + 2 * m ≤ s + 2 * l → 3 * m + q + t ≤ 3 * l + p + s
      no_more l m p q s t steps pages syncs = omega (arith, steps, pages, syncs)

      no_more_to_send : left_to_send system (log ++ e ∷ []) ≤ left_to_send system log
      no_more_to_send =
          no_more (log_load system log) (log_load system (log ++ e ∷ [])) (left_of_pages system log) (left_of_pages system (log ++ e ∷ [])) (left_of_syncs system log)
          (left_of_syncs system (log ++ e ∷ []))
          (load_most system log e stands) pages syncs

  renewed : (to : ClusterNo) (fresh : Bool) (recs : List BackRec) → what e ≡ Rebackup to fresh recs → left_to_send system (log ++ e ∷ []) ≤ left_to_send system log
  renewed to fresh recs is = no_more_to_send (ap cluster_lost is) (ap is_birth is) (λ r. ap (is_birth_of r) is) places leaves
    where
      leaves : waits_after (placement system log) (what e) (waiting_fetches system log) ≡ waiting_fetches system log
      leaves = ap (λ w. waits_after (placement system log) w (waiting_fetches system log)) is ∙ after_other (Rebackup to fresh recs) refl (placement system log) (waiting_fetches system log)

      places : (g : Pid → ℕ) → sum_by (λ (q : Placed). g q.pid) (unended_in (placement system (log ++ e ∷ []))) ≡ sum_by (λ (q : Placed). g q.pid) (unended_in (placement system log))
      places g =
          ap (λ (places : Places). sum_by (λ (q : Placed). g q.pid) (unended_in places)) (placement-snoc system log e ∙ ap (placed_after (placement system log)) is)
          ∙ rebackup_sum g to fresh recs (placement system log).placed

  came_back : (k : ClusterNo) → what e ≡ Return k → left_to_send system (log ++ e ∷ []) ≤ left_to_send system log
  came_back k is = no_more_to_send (ap cluster_lost is) (ap is_birth is) (λ r. ap (is_birth_of r) is) places leaves
    where
      leaves : waits_after (placement system log) (what e) (waiting_fetches system log) ≡ waiting_fetches system log
      leaves = ap (λ w. waits_after (placement system log) w (waiting_fetches system log)) is ∙ after_other (Return k) refl (placement system log) (waiting_fetches system log)

      places : (g : Pid → ℕ) → sum_by (λ (q : Placed). g q.pid) (unended_in (placement system (log ++ e ∷ []))) ≡ sum_by (λ (q : Placed). g q.pid) (unended_in (placement system log))
      places g = ap (λ (places : Places). sum_by (λ (q : Placed). g q.pid) (unended_in places)) (placement-snoc system log e ∙ ap (placed_after (placement system log)) is)

pub to_send_renewed : (system : System) (log : List Entry) (e : Entry) (to : ClusterNo) (fresh : Bool) (recs : List BackRec) → is_system system ≡ true → IsLegalBy Stands system log
    → Stands system log e → what e ≡ Rebackup to fresh recs → left_to_send system (log ++ e ∷ []) ≤ left_to_send system log
to_send_renewed system log e to fresh recs valid legal stands is = renewed system log e valid legal stands to fresh recs is

pub to_send_returned : (system : System) (log : List Entry) (e : Entry) (k : ClusterNo) → is_system system ≡ true → IsLegalBy Stands system log → Stands system log e → what e ≡ Return k
    → left_to_send system (log ++ e ∷ []) ≤ left_to_send system log
to_send_returned system log e k valid legal stands is = came_back system log e valid legal stands k is
