-- What an entry that tells of no deed of a process makes of its wait.
use Rattle.std.proofs.Common.{◌≡◌, ℕ, ◌<◌, ◌≤◌, refl, sym, ◌∙◌, ap, subst, List, [], ◌∷◌, ◌++◌, length, set, Bool, true, false, cond, ◌&&◌, ◌||◌, eqb, eqb-true, eq-eqb, Some, None, is_some, slice_get, true≢false}
use Rattle.std.proofs.lemmas.List.{length-set}
use Rattle.t32_base.specs.declared.process.Pid.{Pid}
use Rattle.t32_base.proofs.Facts.{or_false, or_true, and_false}
use Rattle.sys_text.specs.declared.system.System.{System}
use Rattle.sys_text.specs.Valid.{is_system}
use Rattle.bus_msg.specs.declared.entry.What.{What}
use Rattle.bus_msg.specs.declared.entry.What.TheVariants.{PageIs}
use Rattle.bus_msg.specs.declared.entry.Entry.{Entry}
use Rattle.bus_msg.specs.Places.{same_pid}
use Rattle.bus_msg.specs.PlacedAfter.{what}
use Rattle.cert_sched.specs.Schedule.{process_after}
use Rattle.cert_sched.specs.Account.{account_after, page_in, is_exit_of}
use Rattle.cert_sched.specs.Deeds.{deeds_in, is_cut}
use Rattle.cert_sched.specs.Legal.{IsLegalBy, Stands, MayStand}
use Rattle.cert_sched.specs.Moved.{any_since_moved, is_fetch, is_page_is}
use Rattle.cert_sched.specs.Simulation.{IsUnended}
use Rattle.cert_sched.specs.Told.{cluster_lost}
use Rattle.cert_sched.proofs.LogLaws.{IsLegal-before, IsLegal-last}
use Rattle.cert_sched.proofs.StayingUnended.{no_deed_no_exit}
use Rattle.cert_sched.proofs.ThereLaws.{unended_there}
use Rattle.log_laws.proofs.records.Standing.{all_stand, itself}
use Rattle.backup_records.specs.Records.{record_after}
use Rattle.log_laws.specs.pages.Next.{moves_next}
use Rattle.log_laws.proofs.pages.Keeping.{kept_still}
use Rattle.log_laws.proofs.pages.OneEntry.{any_since-goes_on, moved-goes_on, moves_none}
use Rattle.log_laws.proofs.pages.Waiting.{came_waited, page_is_holds, waited_lacks}
use Rattle.page_waits.specs.Waiting.{WaitingState, with_page}
use Rattle.page_waits.proofs.OnePage.{others_same, written_there}
use Rattle.replay_laws.specs.pages.Waits.{WaitsAs, page_come}
use Rattle.replay_laws.proofs.pages.PageCounts.{count_stays}
use Rattle.replay_laws.proofs.pages.Records.{record_next}

or_of_three : (a b c : Bool) → (a || (b || c)) ≡ ((a || b) || c)
or_of_three true b c = refl
or_of_three false b c = refl

module _ (system : System) (log : List Entry) (e : Entry) (p : Pid) (queued : ℕ → Bool) (w : WaitingState) (valid : is_system system ≡ true) (legal : IsLegalBy Stands system (log ++ e ∷ [])) where
  stands : Stands system log e
  stands = IsLegal-last Stands system log e legal

  there : IsUnended system log p → is_some (process_after system log p) ≡ true
  there = unended_there Stands itself system log p valid (IsLegal-before Stands system log e legal)

  -- what was kept of it at its last cut is kept still
  still : is_exit_of p (what e) ≡ false → is_cut p (what e) ≡ false → (account_after system (log ++ e ∷ []) p).kept ≡ (account_after system log p).kept
  still = kept_still system log e p

  -- a page that the entry does not bring is there or not, as before
  come_same : (i : ℕ) → moves_next system log e p ≡ false → is_exit_of p (what e) ≡ false → is_cut p (what e) ≡ false → is_page_is p i (what e) ≡ false → page_come system (log ++ e ∷ []) p i ≡ page_come system log p i
  come_same i stays exit no_cut none =
      let seen : any_since_moved system (log ++ e ∷ []) p (is_page_is p i) ≡ any_since_moved system log p (is_page_is p i) =
      any_since-goes_on system log e p (is_page_is p i) stays ∙ ap (λ b. any_since_moved system log p (is_page_is p i) || b) none ∙ or_false (any_since_moved system log p (is_page_is p i)) in
      let kept = still exit no_cut in
      λ k. cond (seen k) (page_in (kept k) i) None

  -- an entry that is no page of it, and does not cut it
  pub other_so : IsUnended system log p → moves_next system log e p ≡ false → is_cut p (what e) ≡ false → deeds_in p (what e) ≡ [] → ((i : ℕ) → is_page_is p i (what e) ≡ false) → WaitsAs system log p (λ i. is_fetch p i (what e) || queued i) w
      → WaitsAs system (log ++ e ∷ []) p queued (record w { kept = record_after (what e) w.kept })
  other_so unended stays no_cut none no_page waits = record {
    kept = record_next system log e p w.kept valid legal no_cut unended waits.kept;
    moved = moved-goes_on system log e p stays ∙ waits.moved;
    pages = waits.pages ∙ sym (count_stays system log e p stands.applies (there unended));
    some = waits.some;
    at_most = waits.at_most;
    asked = λ i within.
        waits.asked i within ∙ or_of_three (any_since_moved system log p (is_fetch p i)) (is_fetch p i (what e)) (queued i)
        ∙ ap (λ b. b || queued i) (sym (any_since-goes_on system log e p (is_fetch p i) stays));
    come = λ i within. waits.come i within ∙ ap Some (sym (come_same i stays (no_deed_no_exit p (what e) none) no_cut (no_page i)));
  }

  module _ (i : ℕ) (bytes : List ℕ) (is : what e ≡ PageIs p i bytes) (waits : WaitsAs system log p queued w) where
    -- a page of it comes that it has
    pub within_so : i < length w.come
    within_so =
        subst (λ n. i < n) (sym waits.pages)
        (waited_lacks system log p i (IsLegal-before Stands system log e legal) (came_waited system log e p i bytes stands is)).within

    stays : moves_next system log e p ≡ false
    stays = moves_none system log e (ap cluster_lost is) p

    exit : is_exit_of p (what e) ≡ false
    exit = ap (is_exit_of p) is

    no_cut : is_cut p (what e) ≡ false
    no_cut = ap (is_cut p) is

    -- that page is there from now on
    this_came : page_come system (log ++ e ∷ []) p i ≡ Some bytes
    this_came =
        let here : is_page_is p i (what e) ≡ true = ap (is_page_is p i) is ∙ (λ k. eq-eqb p.0 p.0 refl k && eq-eqb i i refl k) in
        let seen : any_since_moved system (log ++ e ∷ []) p (is_page_is p i) ≡ true =
        any_since-goes_on system log e p (is_page_is p i) stays ∙ ap (λ b. any_since_moved system log p (is_page_is p i) || b) here ∙ or_true (any_since_moved system log p (is_page_is p i)) in
        ap (λ b. cond b (page_in (account_after system (log ++ e ∷ []) p).kept i) None) seen
        ∙ ap (λ pages. page_in pages i) (still exit no_cut)
        ∙ (page_is_holds system log e p i bytes stands is).page

    -- no other page is
    other_page : (j : ℕ) → eqb i j ≡ false → is_page_is p j (what e) ≡ false
    other_page j apart = ap (is_page_is p j) is ∙ ap (λ b. same_pid p p && b) apart ∙ and_false (same_pid p p)

    come_next : (j : ℕ) → j < length w.come → slice_get (set w.come i (Some bytes)) j ≡ Some (page_come system (log ++ e ∷ []) p j)
    come_next j within = by_test (eqb i j) refl
      where
        by_test : (b : Bool) → eqb i j ≡ b → slice_get (set w.come i (Some bytes)) j ≡ Some (page_come system (log ++ e ∷ []) p j)
        by_test true same =
            subst (λ j. slice_get (set w.come i (Some bytes)) j ≡ Some (page_come system (log ++ e ∷ []) p j)) (eqb-true i j same)
            (written_there w.come i (Some bytes) within_so ∙ ap Some (sym this_came))
        by_test false apart =
            others_same w.come i j (Some bytes) (λ same. true≢false (sym (eq-eqb i j (sym same)) ∙ apart))
            ∙ waits.come j within ∙ ap Some (sym (come_same j stays exit no_cut (other_page j apart)))

    pub page_so : IsUnended system log p → WaitsAs system (log ++ e ∷ []) p queued (with_page i bytes w)
    page_so unended =
        let many : length (set w.come i (Some bytes)) ≡ length w.come = length-set w.come i (Some bytes) in
        record {
          kept = record_next system log e p w.kept valid legal no_cut unended waits.kept ∙ ap (λ (x : What). Some (record_after x w.kept)) is;
          moved = moved-goes_on system log e p stays ∙ waits.moved;
          pages = many ∙ waits.pages ∙ sym (count_stays system log e p stands.applies (there unended));
          some = subst (λ n. 1 ≤ n) (sym many) waits.some;
          at_most = subst (λ n. n ≤ 256) (sym many) waits.at_most;
          asked = λ j within.
              waits.asked j (subst (λ n. j < n) many within)
              ∙ ap (λ b. b || queued j) (sym (any_since-goes_on system log e p (is_fetch p j) stays ∙ ap (λ b. any_since_moved system log p (is_fetch p j) || b) (ap (is_fetch p j) is) ∙ or_false (any_since_moved system log p (is_fetch p j))));
          come = λ j within. come_next j (subst (λ n. j < n) many within);
        }

-- ---- in a log of the entries that are built so far

-- an entry that is no page of it, and does not cut it
pub other_entry : (system : System) (log : List Entry) (e : Entry) (p : Pid) (queued : ℕ → Bool) (w : WaitingState) → is_system system ≡ true → IsLegalBy MayStand system (log ++ e ∷ []) → IsUnended system log p → moves_next system log e p ≡ false
    → is_cut p (what e) ≡ false → deeds_in p (what e) ≡ [] → ((i : ℕ) → is_page_is p i (what e) ≡ false) → WaitsAs system log p (λ i. is_fetch p i (what e) || queued i) w → WaitsAs system (log ++ e ∷ []) p queued (record w { kept = record_after (what e) w.kept })
other_entry system log e p queued w valid legal = other_so system log e p queued w valid (all_stand system (log ++ e ∷ []) legal)

-- a page of it
pub page_within : (system : System) (log : List Entry) (e : Entry) (p : Pid) (queued : ℕ → Bool) (w : WaitingState) → is_system system ≡ true → IsLegalBy MayStand system (log ++ e ∷ []) → (i : ℕ) (bytes : List ℕ) → what e ≡ PageIs p i bytes
    → WaitsAs system log p queued w → i < length w.come
page_within system log e p queued w valid legal = within_so system log e p queued w valid (all_stand system (log ++ e ∷ []) legal)

pub page_entry : (system : System) (log : List Entry) (e : Entry) (p : Pid) (queued : ℕ → Bool) (w : WaitingState) → is_system system ≡ true → IsLegalBy MayStand system (log ++ e ∷ []) → (i : ℕ) (bytes : List ℕ) → what e ≡ PageIs p i bytes
    → WaitsAs system log p queued w → IsUnended system log p → WaitsAs system (log ++ e ∷ []) p queued (with_page i bytes w)
page_entry system log e p queued w valid legal = page_so system log e p queued w valid (all_stand system (log ++ e ∷ []) legal)
