-- A process that waits here, and what an entry makes of it.
use Rattle.std.proofs.Common.{◌≡◌, ℕ, refl, sym, ◌∙◌, ap, subst, List, [], ◌∷◌, ◌++◌, Bool, true, false, cond, ◌||◌, inl, Some, None, true≢false}
use Rattle.std.specs.Prelude.{is_some}
use Rattle.t32_base.specs.declared.process.Pid.{Pid}
use Rattle.t32_base.specs.declared.letter.BackRec.{BackRec}
use Rattle.t32_base.specs.declared.letter.Letter.{Letter}
use Rattle.t32_base.specs.declared.letter.To.{To}
use Rattle.t32_base.specs.declared.letter.To.TheVariants.{Proc, Tty}
use Rattle.sys_text.specs.declared.system.System.{System}
use Rattle.sys_text.specs.Valid.{is_system}
use Rattle.sys_calls.specs.declared.steps.Emission.TheVariants.{Mail as Sent}
use Rattle.bus_msg.specs.declared.entry.What.{What}
use Rattle.bus_msg.specs.declared.entry.What.TheVariants.{Mail, PageIs}
use Rattle.bus_msg.specs.declared.entry.Post.{Post}
use Rattle.bus_msg.specs.declared.entry.Entry.{Entry}
use Rattle.bus_msg.specs.Places.{same_pid, unended_at}
use Rattle.bus_msg.specs.PlacedAfter.{what, placed_after}
use Rattle.roll_forward.specs.Deeds.{Sends}
use Rattle.cert_sched.specs.Deeds.{deeds_in, is_cut, is_end_of}
use Rattle.cert_sched.specs.Moved.{is_fetch, is_page_is}
use Rattle.cert_sched.specs.Simulation.{IsUnended}
use Rattle.cert_sched.specs.Told.{cluster_lost, is_moved}
use Rattle.cert_sched.specs.Schedule.{placement}
use Rattle.log_laws.specs.pages.Next.{moves_next}
use Rattle.cert_sched.proofs.LogLaws.{placement-snoc}
use Rattle.replay_laws.proofs.pages.Follows.{page_within, page_entry}
use Rattle.replay_laws.proofs.pages.GoesOn.{can_go_on, goes_on}
use Rattle.replay_laws.proofs.pages.PagesCame.{has_all}
use Rattle.backup_records.specs.Records.{counted_by_sender, is_receiver, record_after, with_counted, with_saved}
use Rattle.checkpoint_laws.specs.marks.Beside.{is_some_page}
use Rattle.page_waits.specs.Waiting.{WaitingState, is_whole, rolling_of, with_page}
use Rattle.replay_laws.specs.pages.Waits.{WaitsAs}
use Rattle.replay_laws.specs.forks.ForkWaits.{WaitsSo}
use Rattle.replay_laws.proofs.forks.EitherWait.{page_for, so_alike, so_follows}
use Rattle.residents.specs.Held.{Waits, Rolls, Runs, page_held, rolling_held}
use Rattle.cluster_core.specs.Queue.{move_of, state_by}
use Rattle.cluster_core.specs.Holds.{IsHeldAs, is_fetch_queued, process_in, CarriesMarks, MarkedIfThere, unended_process}
use Rattle.cluster_core.proofs.absorbing.ByKind.{by_kind, by_page, is_of_page}
use Rattle.cluster_core.proofs.here.Here.{arrival_at}
use Rattle.residents.specs.Resident.{CanComeTo}
use Rattle.cert_sched.specs.Legal.{IsLegalBy, MayStand}
use Rattle.cluster_core.specs.Follows.{IsOpen}
use Rattle.roll_forward.specs.Rolling.{RollingState}
use Rattle.replay_laws.specs.rolling.Behind.{RollsBehind}
use Rattle.replay_laws.proofs.rolling.ByRule.{stand_silent}
use Rattle.cert_sched.specs.Rules.{has_its_pages, tells_or_closes}
use Rattle.roll_forward.specs.RunsOut.{nothing_left}
use Rattle.std.specs.Option.{option_map_or}
use Rattle.proc_state.specs.State.{state_of, has_ended}
use Rattle.cluster_core.proofs.syncs.MarksBegin.{goes_on_carries}

-- ---- an entry that tells of another process

-- its record follows the entry
pub waits_arrival : (w : What) (p : Pid) (waiting : WaitingState) → tells_or_closes w ≡ true → (waiting.kept).pid ≡ p → deeds_in p w ≡ [] → arrival_at w p (Waits waiting) ≡ Waits (record waiting { kept = record_after w waiting.kept })
waits_arrival w p waiting tells own none =
    by_kind (λ w. deeds_in p w ≡ [] → arrival_at w p (Waits waiting) ≡ Waits (record waiting { kept = record_after w waiting.kept })) (λ at letter none. by_letter letter none) (λ pid at end none. refl) (λ rests none. refl) (λ none. refl) w tells none
  where
    uncounted : (letter : Letter) (r : BackRec) → r.pid ≡ p → same_pid letter.from p ≡ false → counted_by_sender letter r ≡ r
    uncounted letter r own other = ap (λ b. cond b (with_counted letter r) r) (ap (same_pid letter.from) own ∙ other)

    by_receiver : (letter : Letter) (b : Bool) → same_pid letter.from p ≡ false
        → cond b (Waits (record waiting { kept = with_saved letter waiting.kept })) (Waits waiting) ≡ Waits (record waiting { kept = counted_by_sender letter (cond b (with_saved letter waiting.kept) waiting.kept) })
    by_receiver letter true other = ap (λ r. Waits (record waiting { kept = r })) (sym (uncounted letter (with_saved letter waiting.kept) own other))
    by_receiver letter false other = ap (λ r. Waits (record waiting { kept = r })) (sym (uncounted letter waiting.kept own other))

    receives : (to : To) → is_end_of p to ≡ is_receiver (waiting.kept).pid to
    receives (Proc q end) = ap (same_pid q) (sym own)
    receives (Tty t) = refl

    no_sender : (letter : Letter) (b : Bool) → same_pid letter.from p ≡ b → cond b (Sends (Sent letter) ∷ []) [] ≡ [] → b ≡ false
    no_sender letter true is none = cc
    no_sender letter false is none = refl

    by_letter : (letter : Letter) → cond (same_pid letter.from p) (Sends (Sent letter) ∷ []) [] ≡ []
        → cond (is_end_of p letter.to) (Waits (record waiting { kept = with_saved letter waiting.kept })) (Waits waiting) ≡ Waits (record waiting { kept = record_after (Mail 0 letter) waiting.kept })
    by_letter letter none =
        ap (λ b. cond b (Waits (record waiting { kept = with_saved letter waiting.kept })) (Waits waiting)) (receives letter.to)
        ∙ by_receiver letter (is_receiver (waiting.kept).pid letter.to) (no_sender letter (same_pid letter.from p) refl none)

-- an entry that loses no cluster moves no process
quiet_moves_none : (system : System) (log : List Entry) (e : Entry) (p : Pid) → cluster_lost (what e) ≡ None → moves_next system log e p ≡ false
quiet_moves_none system log e p none = ap (λ o. option_map_or (is_moved p (placement system log)) o false) none

-- such an entry moves no process, cuts none, and is neither a fetch nor a page
told_moves_none : (w : What) → tells_or_closes w ≡ true → cluster_lost w ≡ None
told_moves_none = by_kind (λ w. cluster_lost w ≡ None) (λ at letter. refl) (λ pid at end. refl) (λ rests. refl) refl

pub told_cuts_none : (p : Pid) (w : What) → tells_or_closes w ≡ true → is_cut p w ≡ false
told_cuts_none p = by_kind (λ w. is_cut p w ≡ false) (λ at letter. refl) (λ pid at end. refl) (λ rests. refl) refl

pub told_fetches_none : (p : Pid) (i : ℕ) (w : What) → tells_or_closes w ≡ true → is_fetch p i w ≡ false
told_fetches_none p i = by_kind (λ w. is_fetch p i w ≡ false) (λ at letter. refl) (λ pid at end. refl) (λ rests. refl) refl

told_brings_none : (p : Pid) (i : ℕ) (w : What) → tells_or_closes w ≡ true → is_page_is p i w ≡ false
told_brings_none p i = by_kind (λ w. is_page_is p i w ≡ false) (λ at letter. refl) (λ pid at end. refl) (λ rests. refl) refl

told_sends_none : (p : Pid) (w : What) → tells_or_closes w ≡ true → is_some_page p w ≡ false
told_sends_none p = by_kind (λ w. is_some_page p w ≡ false) (λ at letter. refl) (λ pid at end. refl) (λ rests. refl) refl

-- so after it the process waits on, with what it brings
pub waits_told : (system : System) (log : List Entry) (e : Entry) (before after : List Post) (p : Pid) (waiting : WaitingState) → is_system system ≡ true → IsLegalBy MayStand system (log ++ e ∷ []) → IsUnended system log p
    → tells_or_closes (what e) ≡ true → (waiting.kept).pid ≡ p → deeds_in p (what e) ≡ [] → move_of p after ≡ None → ((i : ℕ) → is_fetch_queued p before i ≡ is_fetch_queued p after i) → WaitsSo system log p (is_fetch_queued p before) waiting
    → IsHeldAs system (log ++ e ∷ []) after p (arrival_at (what e) p (Waits waiting))
waits_told system log e before after p waiting valid legal unended tells own none unmoved alike is =
    subst (IsHeldAs system (log ++ e ∷ []) after p) (sym (waits_arrival (what e) p waiting tells own none)) (
      unmoved,
      so_follows system log e p (is_fetch_queued p after) waiting valid legal unended (quiet_moves_none system log e p (told_moves_none (what e) tells)) (told_cuts_none p (what e) tells) none (λ i. told_brings_none p i (what e) tells) (told_sends_none p (what e) tells)
          (so_alike system log p (is_fetch_queued p before) (λ i. is_fetch p i (what e) || is_fetch_queued p after i) waiting (λ i. alike i ∙ ap (λ b. b || is_fetch_queued p after i) (sym (told_fetches_none p i (what e) tells))) is),
    )

-- ---- an entry of a page

-- one that is neither a page of the process nor a crash, and tells of no deed: a fetch of it that was queued may stand in the log now
pub waits_page : (system : System) (log : List Entry) (e : Entry) (before after : List Post) (p : Pid) (waiting : WaitingState) → is_system system ≡ true → IsLegalBy MayStand system (log ++ e ∷ []) → IsUnended system log p
    → is_of_page (what e) ≡ true → ((i : ℕ) → is_page_is p i (what e) ≡ false) → move_of p after ≡ None → ((i : ℕ) → is_fetch_queued p before i ≡ (is_fetch p i (what e) || is_fetch_queued p after i)) → WaitsSo system log p (is_fetch_queued p before) waiting
    → IsHeldAs system (log ++ e ∷ []) after p (Waits waiting)
waits_page system log e before after p waiting valid legal unended of other unmoved alike is = (
  unmoved,
  subst (λ r. WaitsSo system (log ++ e ∷ []) p (is_fetch_queued p after) (record waiting { kept = r })) (by_page (λ w. record_after w waiting.kept ≡ waiting.kept) (λ pid index. refl) (λ pid index bytes. refl) (what e) of)
      (so_follows system log e p (is_fetch_queued p after) waiting valid legal unended (quiet_moves_none system log e p (by_page (λ w. cluster_lost w ≡ None) (λ pid index. refl) (λ pid index bytes. refl) (what e) of))
      (by_page (λ w. is_cut p w ≡ false) (λ pid index. refl) (λ pid index bytes. refl) (what e) of) (by_page (λ w. deeds_in p w ≡ []) (λ pid index. refl) (λ pid index bytes. refl) (what e) of) other (by_page (λ w. is_some_page p w ≡ false) (λ pid index. refl) (λ pid index bytes. refl) (what e) of)
      (so_alike system log p (is_fetch_queued p before) (λ i. is_fetch p i (what e) || is_fetch_queued p after i) waiting alike is)),
)

-- a page of it that comes: it waits with that page, or goes on where it was the last
pages_come : (system : System) (log : List Entry) (e : Entry) (queue : List Post) (p : Pid) (i : ℕ) (bytes : List ℕ) (waiting : WaitingState) → is_system system ≡ true → IsOpen MayStand system (log ++ e ∷ []) → IsUnended system log p → IsUnended system (log ++ e ∷ []) p
    → what e ≡ PageIs p i bytes → move_of p queue ≡ None → WaitsAs system log p (is_fetch_queued p queue) waiting → IsHeldAs system (log ++ e ∷ []) queue p (page_held i bytes (Waits waiting))
pages_come system log e queue p i bytes waiting valid next unended after is none waits = by_whole (is_whole now) refl
  where
    later : List Entry
    later = log ++ e ∷ []

    now : WaitingState
    now = with_page i bytes waiting

    still : WaitsAs system later p (is_fetch_queued p queue) now
    still = page_entry system log e p (is_fetch_queued p queue) waiting valid next.0 i bytes is waits unended

    by_left : (r : RollingState) → RollsBehind system later p (state_of r.process) r.counts r.births → (b : Bool) → nothing_left r.counts r.births ≡ b → IsHeldAs system later queue p (cond b (Runs r.process) (Rolls r.process r.counts r.births))
    by_left r behind true left = ap (state_by system later p ((r.process).small).steps) none ∙ stand_silent system later p (state_of r.process) r.counts r.births valid next.0 next.1 after behind left
    by_left r behind false left = (none, behind)

    by_whole : (b : Bool) → is_whole now ≡ b → IsHeldAs system later queue p (cond b (option_map_or rolling_held (rolling_of now) (Waits now)) (Waits now))
    by_whole true whole =
        let goes = goes_on system later p (is_fetch_queued p queue) now valid next.0 after still whole in
        subst (λ o. IsHeldAs system later queue p (option_map_or rolling_held o (Waits now))) (sym goes.is) (by_left goes.rolling goes.behind (nothing_left (goes.rolling).counts (goes.rolling).births) refl)
    by_whole false lacks = (none, inl still)

-- where it goes on it has its pages
pages_has : (system : System) (log : List Entry) (e : Entry) (queue : List Post) (p : Pid) (i : ℕ) (bytes : List ℕ) (waiting : WaitingState) → is_system system ≡ true → IsLegalBy MayStand system (log ++ e ∷ []) → IsUnended system log p
    → what e ≡ PageIs p i bytes → WaitsAs system log p (is_fetch_queued p queue) waiting → is_some (process_in (page_held i bytes (Waits waiting))) ≡ true → has_its_pages system (log ++ e ∷ []) p ≡ true
pages_has system log e queue p i bytes waiting valid legal unended is waits = by_whole (is_whole now) refl
  where
    now : WaitingState
    now = with_page i bytes waiting

    by_whole : (b : Bool) → is_whole now ≡ b → is_some (process_in (cond b (option_map_or rolling_held (rolling_of now) (Waits now)) (Waits now))) ≡ true → has_its_pages system (log ++ e ∷ []) p ≡ true
    by_whole true whole goes = has_all system (log ++ e ∷ []) p (is_fetch_queued p queue) now (page_entry system log e p (is_fetch_queued p queue) waiting valid legal i bytes is waits unended) whole
    by_whole false lacks goes = absurd (true≢false (sym goes))

-- and begins with the marks of its start
pages_marked : (system : System) (log : List Entry) (e : Entry) (queue : List Post) (p : Pid) (i : ℕ) (bytes : List ℕ) (waiting : WaitingState) → is_system system ≡ true → IsLegalBy MayStand system (log ++ e ∷ []) → IsUnended system log p
    → IsUnended system (log ++ e ∷ []) p → what e ≡ PageIs p i bytes → WaitsAs system log p (is_fetch_queued p queue) waiting → MarkedIfThere CarriesMarks system (log ++ e ∷ []) p (unended_process (page_held i bytes (Waits waiting)))
pages_marked system log e queue p i bytes waiting valid legal unended after is waits = by_whole (is_whole now) refl
  where
    later : List Entry
    later = log ++ e ∷ []

    now : WaitingState
    now = with_page i bytes waiting

    still : WaitsAs system later p (is_fetch_queued p queue) now
    still = page_entry system log e p (is_fetch_queued p queue) waiting valid legal i bytes is waits unended

    by_status : (r : RollingState) → CarriesMarks system later p r.process → (b : Bool) → MarkedIfThere CarriesMarks system later p (cond b None (Some r.process))
    by_status r carries true = tt
    by_status r carries false = carries

    by_left : (r : RollingState) (b : Bool) → MarkedIfThere CarriesMarks system later p (cond (has_ended ((r.process).small).status) None (Some r.process))
        → MarkedIfThere CarriesMarks system later p (unended_process (cond b (Runs r.process) (Rolls r.process r.counts r.births)))
    by_left r true m = m
    by_left r false m = m

    by_whole : (b : Bool) → is_whole now ≡ b → MarkedIfThere CarriesMarks system later p (unended_process (cond b (option_map_or rolling_held (rolling_of now) (Waits now)) (Waits now)))
    by_whole true whole =
        let goes = goes_on system later p (is_fetch_queued p queue) now valid legal after still whole in
        let carries = goes_on_carries system log e p i bytes (is_fetch_queued p queue) now valid legal after is still goes in
        subst (λ o. MarkedIfThere CarriesMarks system later p (unended_process (option_map_or rolling_held o (Waits now)))) (sym goes.is)
        (by_left goes.rolling (nothing_left (goes.rolling).counts (goes.rolling).births) (by_status goes.rolling carries (has_ended (((goes.rolling).process).small).status)))
    by_whole false lacks = tt

-- such a page is one of its pages, and where it is the last that lacked the process can go on
pages_may : (system : System) (log : List Entry) (e : Entry) (queue : List Post) (p : Pid) (i : ℕ) (bytes : List ℕ) (waiting : WaitingState) → is_system system ≡ true → IsLegalBy MayStand system (log ++ e ∷ []) → IsUnended system log p
    → what e ≡ PageIs p i bytes → WaitsAs system log p (is_fetch_queued p queue) waiting → CanComeTo i bytes (Waits waiting)
pages_may system log e queue p i bytes waiting valid legal unended is waits = (
  page_within system log e p (is_fetch_queued p queue) waiting valid legal i bytes is waits,
  λ whole. can_go_on system (log ++ e ∷ []) p (is_fetch_queued p queue) (with_page i bytes waiting) valid legal (ap (λ places. is_some (unended_at places p)) (placement-snoc system log e ∙ ap (placed_after (placement system log)) is) ∙ unended) (page_entry system log e p (is_fetch_queued p queue) waiting valid legal i bytes is waits unended) whole,
)

-- ---- the same of one that may wait for its parent's fork: no page comes to such a one

module _ (system : System) (log : List Entry) (e : Entry) (queue : List Post) (p : Pid) (i : ℕ) (bytes : List ℕ) (waiting : WaitingState) (valid : is_system system ≡ true) where
  for_pages : IsLegalBy MayStand system (log ++ e ∷ []) → what e ≡ PageIs p i bytes → WaitsSo system log p (is_fetch_queued p queue) waiting → WaitsAs system log p (is_fetch_queued p queue) waiting
  for_pages legal is waits = page_for system log e p i bytes (is_fetch_queued p queue) waiting legal is waits

  pub waits_come : IsOpen MayStand system (log ++ e ∷ []) → IsUnended system log p → IsUnended system (log ++ e ∷ []) p → what e ≡ PageIs p i bytes → move_of p queue ≡ None → WaitsSo system log p (is_fetch_queued p queue) waiting
      → IsHeldAs system (log ++ e ∷ []) queue p (page_held i bytes (Waits waiting))
  waits_come next unended after is none waits = pages_come system log e queue p i bytes waiting valid next unended after is none (for_pages next.0 is waits)

  pub has_come : IsLegalBy MayStand system (log ++ e ∷ []) → IsUnended system log p → what e ≡ PageIs p i bytes → WaitsSo system log p (is_fetch_queued p queue) waiting → is_some (process_in (page_held i bytes (Waits waiting))) ≡ true
      → has_its_pages system (log ++ e ∷ []) p ≡ true
  has_come legal unended is waits = pages_has system log e queue p i bytes waiting valid legal unended is (for_pages legal is waits)

  pub come_marked : IsLegalBy MayStand system (log ++ e ∷ []) → IsUnended system log p → IsUnended system (log ++ e ∷ []) p → what e ≡ PageIs p i bytes → WaitsSo system log p (is_fetch_queued p queue) waiting
      → MarkedIfThere CarriesMarks system (log ++ e ∷ []) p (unended_process (page_held i bytes (Waits waiting)))
  come_marked legal unended after is waits = pages_marked system log e queue p i bytes waiting valid legal unended after is (for_pages legal is waits)

  pub may_come_to : IsLegalBy MayStand system (log ++ e ∷ []) → IsUnended system log p → what e ≡ PageIs p i bytes → WaitsSo system log p (is_fetch_queued p queue) waiting → CanComeTo i bytes (Waits waiting)
  may_come_to legal unended is waits = pages_may system log e queue p i bytes waiting valid legal unended is (for_pages legal is waits)
