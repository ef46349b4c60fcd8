-- A synchronisation leaves one less: its process took a signal, or had made steps since its start or had no state in its record; and it starts again from where it is.
use Rattle.std.proofs.Common.{◌≡◌, ℕ, ◌+◌, ◌*◌, ◌≤◌, refl, sym, ◌∙◌, ap, subst, arith, List, [], ◌∷◌, ◌++◌, length, Bool, true, false, cond, not, ◌||◌, ltb, eqb-true, eq-eqb, Option, Some, None, true≢false}
use Rattle.std.specs.Prelude.{option_and_then, option_map, sum_by}
use Rattle.std.specs.List.{list_any}
use Rattle.std.specs.Option.{option_map_or}
use Rattle.std.proofs.lemmas.Bool.Decides.{nat_tests}
use Rattle.std.proofs.lemmas.Option.{same_Some}
use Rattle.t32_base.specs.declared.process.Pid.{Pid}
use Rattle.t32_base.specs.Small.{SmallState}
use Rattle.sys_text.specs.declared.system.System.{System}
use Rattle.sys_text.specs.Valid.{is_system}
use Rattle.proc_state.specs.State.{ProcState}
use Rattle.plain_kernel.specs.Kernel.{process_at}
use Rattle.bus_msg.specs.declared.entry.What.TheVariants.{Sync}
use Rattle.bus_msg.specs.declared.entry.Entry.{Entry}
use Rattle.bus_msg.specs.declared.placed.Placed.{Placed}
use Rattle.bus_msg.specs.Places.{Places, same_pid, unended_in}
use Rattle.bus_msg.specs.PlacedAfter.{placed_after, what}
use Rattle.cert_sched.specs.Schedule.{done, placement, process_after}
use Rattle.cert_sched.specs.Told.{cluster_lost}
use Rattle.cert_sched.specs.Deeds.{is_birth_of, is_cut, start_of}
use Rattle.cert_sched.specs.Record.{has_state}
use Rattle.cert_sched.specs.Moved.{waiting_fetches}
use Rattle.cert_sched.specs.Steps.{silent_upto, start_steps}
use Rattle.cert_sched.specs.Rules.{is_by_home, is_by_right}
use Rattle.cert_sched.specs.Kinds.{KindHolds, SyncHolds, is_due}
use Rattle.cert_sched.specs.Legal.{IsLegalBy, Stands}
use Rattle.cert_sched.proofs.BirthKind.{is_birth}
use Rattle.cert_sched.proofs.CutLaws.{by_home_there}
use Rattle.cert_sched.proofs.LogLaws.{placement-snoc}
use Rattle.cert_sched.proofs.RecordLaws.{has_state-snoc, start_of-snoc}
use Rattle.cert_sched.proofs.StepLaws.{done_kernel}
use Rattle.log_laws.specs.pages.Left.{left_of_pages, unasked, unasked_of}
use Rattle.log_laws.proofs.pages.OneEntry.{moves_none, waiting-snoc, waits_after, after_other}
use Rattle.log_laws.proofs.pages.Leaving.{most_over, one_if, sum_by-le-each}
use Rattle.log_laws.proofs.letters.SyncReads.{SyncedAt, synced_at}
use Rattle.checkpoint_laws.specs.posts.Cut.{CutsAt}
use Rattle.checkpoint_laws.proofs.posts.Beside.{start_stays}
use Rattle.checkpoint_laws.proofs.posts.CutEntry.{cut_process}
use Rattle.checkpoint_laws.specs.remaining.Load.{log_births, log_load}
use Rattle.checkpoint_laws.specs.remaining.Left.{has_stepped, left_of_process, left_of_syncs, may_sync}
use Rattle.checkpoint_laws.proofs.remaining.Rising.{sync_sum}
use Rattle.checkpoint_laws.proofs.remaining.OneEntry.{each_most, left_then, one_less, sender_among, stays_most, there, unsent_after, unsent_fewer}
use Rattle.checkpoint_laws.proofs.remaining.Due.{due_stepped}
use Rattle.checkpoint_laws.proofs.remaining.Taken.{taken_less}

not_itself : (n : ℕ) → ltb n n ≡ false
not_itself n = grind (arith, nat_tests)

module _ (system : System) (log : List Entry) (e : Entry) (stands : Stands system log e) (p : Pid) (small : SmallState) (read : List ℕ) (took : Option ℕ) (is : what e ≡ Sync p small read took) where
  no_loss : cluster_lost (what e) ≡ None
  no_loss = ap cluster_lost is

  no_birth : (r : Pid) → is_birth_of r (what e) ≡ false
  no_birth r = ap (is_birth_of r) is

  right : is_by_home (placement system log) (e.post).by (Some p) ≡ true
  right = sym (ap (is_by_right (placement system log) (e.post).by) is) ∙ stands.by_right

  among : list_any (λ (q : Placed). same_pid q.pid p) (unended_in (placement system log)) ≡ true
  among = sender_among (placement system log) (e.post).by p right

  -- ---- it starts again from where it is

  own : is_cut p (what e) ≡ true
  own = ap (is_cut p) is ∙ eq-eqb p.0 p.0 refl

  starts_here : start_of system (log ++ e ∷ []) p ≡ process_after system (log ++ e ∷ []) p
  starts_here = start_of-snoc system log e p ∙ ap (λ b. cond (b || is_birth_of p (what e)) (process_after system (log ++ e ∷ []) p) (start_of system log p)) own

  not_stepped : has_stepped system (log ++ e ∷ []) p ≡ false
  not_stepped =
      let new = (there system log e stands).new in
      let after = (there system log e stands).after in
      let count = done_kernel system (log ++ e ∷ []) new p after in
      let start : start_steps system (log ++ e ∷ []) p ≡ done new p =
      ap (λ (o : Option ProcState). option_map_or (λ (s : ProcState). (s.small).steps) o 0) (starts_here ∙ ap (option_and_then (λ k. process_at k p)) after) in
      (λ i. ltb (start i) (count i)) ∙ not_itself (done new p)

  -- and it has a state in its record
  stated : has_state system (log ++ e ∷ []) p ≡ true
  stated = has_state-snoc system log e p ∙ ap (λ b. has_state system log p || b) own ∙ or_true (has_state system log p)
    where
      or_true : (b : Bool) → (b || true) ≡ true
      or_true true = refl
      or_true false = refl

  -- so it may not synchronise again
  not_again : may_sync system (log ++ e ∷ []) p ≡ false
  not_again i = not_stepped i || not (stated i)

  each : (r : Pid) → left_of_process system (log ++ e ∷ []) r ≤ left_then system log e stands r
  each r = by_pid (same_pid p r) refl
    where
      by_pid : (b : Bool) → same_pid p r ≡ b → left_of_process system (log ++ e ∷ []) r ≤ left_then system log e stands r
      by_pid true same =
          let here : p ≡ r = λ k. record { 0 = eqb-true p.0 r.0 same k } in
          subst (λ r. left_of_process system (log ++ e ∷ []) r ≤ left_then system log e stands r) here (each_most system log e stands no_loss p (no_birth p) (λ h. absurd (true≢false (sym h ∙ not_again))))
      by_pid false apart = stays_most system log e stands no_loss r (no_birth r) (start_stays system log e r (ap (is_cut r) is ∙ apart) (no_birth r))

  -- ---- where the process might synchronise before it

  module _ (might : (ltb (start_steps system log p) (done (there system log e stands).new p) || not (has_state system log p)) ≡ true) where
    own_less : left_of_process system (log ++ e ∷ []) p + 1 ≤ left_then system log e stands p
    own_less =
        let after = unsent_after system log e stands no_loss p (no_birth p) in
        let fewer = unsent_fewer system log e stands no_loss p in
        let none : one_if (may_sync system (log ++ e ∷ []) p) ≡ 0 = ap one_if not_again in
        let one : one_if (ltb (start_steps system log p) (done (there system log e stands).new p) || not (has_state system log p)) ≡ 1 = ap one_if might in
        omega (arith, after, fewer, none, one)

    pub might_less : is_system system ≡ true → IsLegalBy Stands system log
        → sum_by (λ (q : Placed). left_of_process system (log ++ e ∷ []) q.pid) (unended_in (placement system log)) + log_births system (log ++ e ∷ []) + 2 * log_load system (log ++ e ∷ []) + 1 ≤ left_of_syncs system log + 2 * log_load system log
    might_less valid legal = one_less system log e stands no_loss valid legal (ap is_birth is) p among (λ q. each q.pid) at_own
      where
        at_own : (q : Placed) → same_pid q.pid p ≡ true → left_of_process system (log ++ e ∷ []) q.pid + 1 ≤ left_then system log e stands q.pid
        at_own q same =
            let here : p ≡ q.pid = λ k. record { 0 = sym (eqb-true (q.pid).0 p.0 same) k } in
            subst (λ r. left_of_process system (log ++ e ∷ []) r + 1 ≤ left_then system log e stands r) here own_less

  -- ---- the places and the pages

  -- the processes that have not ended are those that had not
  pub sync_places : (g : Pid → ℕ) → sum_by (λ (q : Placed). g q.pid) (unended_in (placement system (log ++ e ∷ []))) ≡ sum_by (λ (q : Placed). g q.pid) (unended_in (placement system log))
  sync_places g =
      ap (λ (places : Places). sum_by (λ (q : Placed). g q.pid) (unended_in places)) (placement-snoc system log e ∙ ap (placed_after (placement system log)) is)
      ∙ sync_sum g p (placement system log).placed

  -- no page more is to be asked for or to come
  pub sync_pages : left_of_pages system (log ++ e ∷ []) ≤ left_of_pages system log
  sync_pages =
      let same = sync_places (unasked_of system (log ++ e ∷ [])) in
      let most = most_over system log e stands no_birth (moves_none system log e no_loss) (unended_in (placement system log)) in
      let asked : unasked system (log ++ e ∷ []) ≤ unasked system log = omega (arith, same, most) in
      let waits : length (waiting_fetches system (log ++ e ∷ [])) ≡ length (waiting_fetches system log) =
      ap length (waiting-snoc system log e ∙ ap (λ w. waits_after (placement system log) w (waiting_fetches system log)) is ∙ after_other (Sync p small read took) refl (placement system log) (waiting_fetches system log)) in
      omega (arith, asked, waits)

-- ---- a synchronisation without a signal: the process was due, so it might synchronise

module _ (system : System) (log : List Entry) (e : Entry) (stands : Stands system log e) (p : Pid) (small : SmallState) (read : List ℕ) (is : what e ≡ Sync p small read None) where
  holds : SyncHolds system log p small read None
  holds = subst (KindHolds system log e) is stands.kind

  synced : SyncedAt system log p small read None
  synced = synced_at system log p small read None holds

  reached : silent_upto system log p ((synced.at).small).steps ≡ Some synced.at
  reached = ap (λ (s : SmallState). silent_upto system log p s.steps) synced.state ∙ synced.reached

  cut : CutsAt system log e p synced.at
  cut = record {
    read = read;
    took = None;
    before = synced.at;
    says = is ∙ (λ i. Sync p (sym synced.state i) read None);
    reached = reached;
    takes = record { can = refl; after = refl };
  }

  due : is_due system log p None synced.at ≡ true
  due = same_Some (is_due system log p None synced.at) true (sym (ap (option_map (is_due system log p None)) synced.reached) ∙ holds.due)

  -- in the kernel after it the process is there, as it was cut
  at_kernel : done (there system log e stands).new p ≡ ((synced.at).small).steps
  at_kernel =
      let here : process_at (there system log e stands).new p ≡ Some synced.at = sym (ap (option_and_then (λ k. process_at k p)) (there system log e stands).after) ∙ cut_process system log e p synced.at cut in
      ap (λ (o : Option ProcState). option_map_or (λ (s : ProcState). (s.small).steps) o 0) here

  stepped : is_system system ≡ true → IsLegalBy Stands system log → (ltb (start_steps system log p) (done (there system log e stands).new p) || not (has_state system log p)) ≡ true
  stepped valid legal =
      ap (λ n. ltb (start_steps system log p) n || not (has_state system log p)) at_kernel
      ∙ due_stepped system log p synced.at valid legal (by_home_there (placement system log) (e.post).by p (right system log e stands p small read None is)) reached due

-- ---- each synchronisation

-- what is left of the processes, of the births and of the steps twice, in sum, falls
pub sync_less : (system : System) (log : List Entry) (e : Entry) (stands : Stands system log e) (p : Pid) (small : SmallState) (read : List ℕ) (took : Option ℕ) → what e ≡ Sync p small read took → is_system system ≡ true → IsLegalBy Stands system log
    → sum_by (λ (q : Placed). left_of_process system (log ++ e ∷ []) q.pid) (unended_in (placement system log)) + log_births system (log ++ e ∷ []) + 2 * log_load system (log ++ e ∷ []) + 1 ≤ left_of_syncs system log + 2 * log_load system log
sync_less system log e stands p small read None is valid legal = might_less system log e stands p small read None is (stepped system log e stands p small read is valid legal) valid legal
sync_less system log e stands p small read (Some g) is valid legal =
    let all = sum_by-le-each (λ (q : Placed). left_of_process system (log ++ e ∷ []) q.pid) (λ (q : Placed). left_then system log e stands q.pid) (λ q. each system log e stands p small read (Some g) is q.pid) (unended_in (placement system log)) in
    let less = taken_less system log e stands p small read g is valid legal (among system log e stands p small read (Some g) is) in
    omega (arith, all, less)
