-- A process that waits, for its pages or for its parent's fork, in a log of the entries that are built so far.
use Rattle.std.proofs.Common.{◌≡◌, ℕ, refl, sym, ◌∙◌, ap, inl, inr, List, [], ◌∷◌, ◌++◌, Bool, true, false, eq-eqb, ◌||◌, ◌&&◌, Some, None, is_some, true≢false}
use Rattle.t32_base.specs.declared.process.Pid.{Pid}
use Rattle.t32_base.specs.declared.letter.BackRec.{BackRec}
use Rattle.sys_text.specs.declared.system.System.{System}
use Rattle.sys_text.specs.Valid.{is_system}
use Rattle.bus_msg.specs.declared.entry.What.TheVariants.{PageIs}
use Rattle.bus_msg.specs.declared.entry.Entry.{Entry}
use Rattle.bus_msg.specs.PlacedAfter.{what}
use Rattle.cert_sched.specs.Deeds.{deeds_in, is_cut}
use Rattle.cert_sched.specs.Legal.{IsLegalBy, MayStand}
use Rattle.cert_sched.specs.Moved.{any_since_moved, is_fetch, is_page_is}
use Rattle.cert_sched.specs.Record.{backup_record, has_state}
use Rattle.cert_sched.specs.Simulation.{IsUnended}
use Rattle.backup_records.specs.Records.{record_after}
use Rattle.log_laws.proofs.records.Standing.{all_stand}
use Rattle.log_laws.specs.pages.Next.{moves_next}
use Rattle.log_laws.proofs.pages.MovedStated.{moved_stated}
use Rattle.checkpoint_laws.specs.marks.Beside.{is_some_page}
use Rattle.page_waits.specs.Waiting.{WaitingState, next_page}
use Rattle.replay_laws.proofs.rolling.FromStart.{record_stated}
use Rattle.replay_laws.specs.pages.Waits.{WaitsAs, first_wait, none_queued}
use Rattle.replay_laws.proofs.pages.Begins.{begins_so as pages_begin}
use Rattle.replay_laws.proofs.pages.Follows.{other_entry}
use Rattle.replay_laws.specs.forks.ForkWaits.{WaitsForFork, WaitsSo}
use Rattle.replay_laws.proofs.forks.Begins.{begins_so, follows_so, pageless}
use Rattle.replay_laws.proofs.forks.Pageless.{none_comes}

-- it has its record
pub kept_so : (system : System) (log : List Entry) (p : Pid) (queued : ℕ → Bool) (w : WaitingState) → WaitsSo system log p queued w → backup_record system log p ≡ Some w.kept
kept_so system log p queued w (inl waits) = waits.kept
kept_so system log p queued w (inr waits) = waits.kept

-- where its record has a state it waits for its pages
pub for_pages : (system : System) (log : List Entry) (p : Pid) (queued : ℕ → Bool) (w : WaitingState) → WaitsSo system log p queued w → has_state system log p ≡ true → WaitsAs system log p queued w
for_pages system log p queued w (inl waits) stated = waits
for_pages system log p queued w (inr waits) stated = absurd (true≢false (sym stated ∙ waits.stateless))

-- so it does where it lacks one
pub lacks_pages : (system : System) (log : List Entry) (p : Pid) (queued : ℕ → Bool) (w : WaitingState) (i : ℕ) → WaitsSo system log p queued w → next_page w ≡ Some i → WaitsAs system log p queued w
lacks_pages system log p queued w i (inl waits) lacks = waits
lacks_pages system log p queued w i (inr waits) lacks = absurd (true≢false (sym (ap is_some lacks) ∙ ap is_some (pageless system log p w waits)))

-- and its record has one where it waits for pages
pub stated_record : (system : System) (log : List Entry) (p : Pid) (queued : ℕ → Bool) (w : WaitingState) → IsLegalBy MayStand system log → WaitsAs system log p queued w → is_some (w.kept).state ≡ true
stated_record system log p queued w legal waits = record_stated system log p w.kept waits.kept ∙ moved_stated system log p (all_stand system log legal) waits.moved

-- so where its record has none it waits for its parent's fork
pub for_fork : (system : System) (log : List Entry) (p : Pid) (queued : ℕ → Bool) (w : WaitingState) → IsLegalBy MayStand system log → WaitsSo system log p queued w → (w.kept).state ≡ None → WaitsForFork system log p w
for_fork system log p queued w legal (inl waits) none = absurd (true≢false (sym (stated_record system log p queued w legal waits) ∙ ap is_some none))
for_fork system log p queued w legal (inr waits) none = waits

-- the fetches that are queued are the same by another question
pub so_alike : (system : System) (log : List Entry) (p : Pid) (queued others : ℕ → Bool) (w : WaitingState) → ((i : ℕ) → queued i ≡ others i) → WaitsSo system log p queued w → WaitsSo system log p others w
so_alike system log p queued others w alike (inl is) = inl (record {
  kept = is.kept;
  moved = is.moved;
  pages = is.pages;
  some = is.some;
  at_most = is.at_most;
  asked = λ i within. is.asked i within ∙ ap (λ b. any_since_moved system log p (is_fetch p i) || b) (alike i);
  come = is.come;
})
so_alike system log p queued others w alike (inr is) = inr is

-- a crash that moves a process makes it wait
pub so_begins : (system : System) (log : List Entry) (e : Entry) (p : Pid) (kept : BackRec) → is_system system ≡ true → IsLegalBy MayStand system (log ++ e ∷ []) → IsUnended system log p → moves_next system log e p ≡ true → backup_record system log p ≡ Some kept
    → WaitsSo system (log ++ e ∷ []) p none_queued (first_wait kept)
so_begins system log e p kept valid legal unended moves is = by_state (has_state system log p) refl
  where
    by_state : (b : Bool) → has_state system log p ≡ b → WaitsSo system (log ++ e ∷ []) p none_queued (first_wait kept)
    by_state true stated = inl (pages_begin system log e p kept valid (all_stand system (log ++ e ∷ []) legal) unended stated moves is)
    by_state false stateless = inr (begins_so system log e p kept valid (all_stand system (log ++ e ∷ []) legal) unended stateless moves is)

-- it waits on after an entry by which no page of it comes or is sent, that does not cut it and tells of no deed of it
pub so_follows : (system : System) (log : List Entry) (e : Entry) (p : Pid) (queued : ℕ → Bool) (w : WaitingState) → is_system system ≡ true → IsLegalBy MayStand system (log ++ e ∷ []) → IsUnended system log p → moves_next system log e p ≡ false
    → is_cut p (what e) ≡ false → deeds_in p (what e) ≡ [] → ((i : ℕ) → is_page_is p i (what e) ≡ false) → is_some_page p (what e) ≡ false → WaitsSo system log p (λ i. is_fetch p i (what e) || queued i) w → WaitsSo system (log ++ e ∷ []) p queued (record w { kept = record_after (what e) w.kept })
so_follows system log e p queued w valid legal unended stays no_cut none no_page unsent (inl is) = inl (other_entry system log e p queued w valid legal unended stays no_cut none no_page is)
so_follows system log e p queued w valid legal unended stays no_cut none no_page unsent (inr is) = inr (follows_so system log e p w valid (all_stand system (log ++ e ∷ []) legal) unended no_cut unsent is)

-- a page that comes is of a process that waits for pages
pub page_for : (system : System) (log : List Entry) (e : Entry) (p : Pid) (i : ℕ) (bytes : List ℕ) (queued : ℕ → Bool) (w : WaitingState) → IsLegalBy MayStand system (log ++ e ∷ []) → what e ≡ PageIs p i bytes → WaitsSo system log p queued w → WaitsAs system log p queued w
page_for system log e p i bytes queued w legal is (inl waits) = waits
page_for system log e p i bytes queued w legal is (inr waits) =
    let here : is_page_is p i (what e) ≡ true = ap (is_page_is p i) is ∙ (λ k. eq-eqb p.0 p.0 refl k && eq-eqb i i refl k) in
    absurd (true≢false (sym here ∙ none_comes system log e p i (all_stand system (log ++ e ∷ []) legal) waits.stateless))
