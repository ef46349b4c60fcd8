-- What a process has got it keeps, and what may be asked or answered may still be.
use Rattle.std.proofs.Common.{◌≡◌, ℕ, refl, ◌∙◌, ap, List, [], ◌∷◌, ◌++◌, Bool, true, false, cond, not, ◌||◌, Some, true≢false}
use Rattle.std.specs.Prelude.{filter, option_map}
use Rattle.std.specs.List.{list_all, range_with_len}
use Rattle.t32_base.specs.declared.process.Pid.{Pid}
use Rattle.sys_text.specs.declared.system.System.{System}
use Rattle.bus_msg.specs.declared.entry.Entry.{Entry}
use Rattle.bus_msg.specs.PlacedAfter.{what}
use Rattle.cert_sched.specs.Parts.{first_of}
use Rattle.cert_sched.specs.Told.{moves}
use Rattle.cert_sched.specs.Deeds.{is_birth_of, is_cut}
use Rattle.cert_sched.specs.Account.{Account, no_pages, page_in, account_after, page_put, is_exit_of}
use Rattle.cert_sched.specs.Moved.{any_since_moved, moved_with_state, waiting_fetches, fetched, is_page_is, is_fetch}
use Rattle.cert_sched.specs.Rules.{has_its_pages}
use Rattle.cert_sched.specs.Steps.{page_count}
use Rattle.cert_sched.specs.Kinds.{FetchHolds, PageIsHolds}
use Rattle.cert_sched.specs.Legal.{Stands}
use Rattle.cert_sched.proofs.ListLaws.{list_all-weaker}
use Rattle.cert_sched.proofs.LogLaws.{account_after-snoc}
use Rattle.log_laws.specs.pages.Next.{next_told, moves_next, ends_wait_next}
use Rattle.log_laws.specs.pages.Waited.{is_wait_for}
use Rattle.log_laws.proofs.pages.OneEntry.{any_since-goes_on, any_since-kept, moved-goes_on, waiting-snoc, goes_on, added, wait_is}
use Rattle.log_laws.proofs.pages.PagesStay.{page_count-snoc, page_count-within}

none_of_three : (a b c : Bool) → (a || b || c) ≡ false → (a ≡ false) × (b ≡ false) × (c ≡ false)
none_of_three true b c h = absurd (true≢false h)
none_of_three false true c h = absurd (true≢false h)
none_of_three false false true h = absurd (true≢false h)
none_of_three false false false h = (refl, refl, refl)

-- a wait that does not end: the page does not come, the process does not exit, and no crash moves it
pub record GoesOn (system : System) (log : List Entry) (e : Entry) (p : Pid) (i : ℕ) : Type 0 where
  pub no_page : is_page_is p i (what e) ≡ false
  pub no_exit : is_exit_of p (what e) ≡ false
  pub no_move : moves_next system log e p ≡ false

pub wait_goes_on : (system : System) (log : List Entry) (e : Entry) (p : Pid) (i : ℕ) → ends_wait_next system log e p i ≡ false → GoesOn system log e p i
wait_goes_on system log e p i goes =
    let none = none_of_three (is_page_is p i (what e)) (is_exit_of p (what e)) (moves_next system log e p) goes in
    record { no_page = none.0; no_exit = none.1; no_move = none.2 }

-- ---- pages that came

-- a process that has its pages has them after an entry that neither bears it nor moves it
pub pages_kept : (system : System) (log : List Entry) (e : Entry) (p : Pid) → Stands system log e → is_birth_of p (what e) ≡ false → moves_next system log e p ≡ false → has_its_pages system log p ≡ true → has_its_pages system (log ++ e ∷ []) p ≡ true
pages_kept system log e p stands no_birth stays has = by_moved (moved_with_state system log p) refl has
  where
    by_moved : (b : Bool) → moved_with_state system log p ≡ b → (not b || list_all (λ i. any_since_moved system log p (is_page_is p i)) (range_with_len 0 (page_count system log p))) ≡ true
        → (not (moved_with_state system (log ++ e ∷ []) p) || list_all (λ i. any_since_moved system (log ++ e ∷ []) p (is_page_is p i)) (range_with_len 0 (page_count system (log ++ e ∷ []) p))) ≡ true
    by_moved false is all = ap (λ b. not b || list_all (λ i. any_since_moved system (log ++ e ∷ []) p (is_page_is p i)) (range_with_len 0 (page_count system (log ++ e ∷ []) p))) (moved-goes_on system log e p stays ∙ is)
    by_moved true is all =
        ap (λ b. not b || list_all (λ i. any_since_moved system (log ++ e ∷ []) p (is_page_is p i)) (range_with_len 0 (page_count system (log ++ e ∷ []) p))) (moved-goes_on system log e p stays ∙ is)
        ∙ ap (λ n. list_all (λ i. any_since_moved system (log ++ e ∷ []) p (is_page_is p i)) (range_with_len 0 n)) (page_count-snoc system log e p no_birth stands.applies)
        ∙ list_all-weaker (λ i. any_since_moved system log p (is_page_is p i)) (λ i. any_since_moved system (log ++ e ∷ []) p (is_page_is p i)) (λ i seen. any_since-kept system log e p (is_page_is p i) stays seen) (range_with_len 0 (page_count system log p)) all

-- ---- what may be asked

pub fetch_kept : (system : System) (log : List Entry) (e : Entry) (p : Pid) (i : ℕ) → Stands system log e → is_fetch p i (what e) ≡ false → moves_next system log e p ≡ false → FetchHolds system log p i → FetchHolds system (log ++ e ∷ []) p i
fetch_kept system log e p i stands other stays holds = record {
  within = page_count-within system log e p i holds.within stands.applies;
  moved = moved-goes_on system log e p stays ∙ holds.moved;
  unasked = any_since-goes_on system log e p (is_fetch p i) stays ∙ (λ j. holds.unasked j || other j);
}

-- ---- what may be answered

-- what was kept at the last cut is kept still, where there is no exit of the process and no cut
pub kept_still : (system : System) (log : List Entry) (e : Entry) (p : Pid) → is_exit_of p (what e) ≡ false → is_cut p (what e) ≡ false → (account_after system (log ++ e ∷ []) p).kept ≡ (account_after system log p).kept
kept_still system log e p no_exit no_cut =
    ap (λ (a : Account). a.kept) (account_after-snoc system log e p) ∙ by_tests (is_exit_of p (what e)) (is_cut p (what e)) (moves p (next_told system log e)) no_exit no_cut
  where
    by_tests : (x c m : Bool) → x ≡ false → c ≡ false
        → (cond x no_pages (cond c (record { now = (account_after system log p).now; kept = (account_after system log p).now }) (cond m (record { now = (account_after system log p).kept; kept = (account_after system log p).kept })
        (record { now = page_put p (what e) (account_after system log p).now; kept = (account_after system log p).kept })))).kept ≡ (account_after system log p).kept
    by_tests true c m h g = absurd (true≢false h)
    by_tests false true m h g = absurd (true≢false g)
    by_tests false false true h g = refl
    by_tests false false false h g = refl

-- the first of some waits is still the first where it goes on
first_kept : (p : Pid) (i : ℕ) (t : Pid × ℕ → Bool) (fs more : List (Pid × ℕ)) → t (p, i) ≡ true → option_map (is_wait_for p i) (first_of fs) ≡ Some true → option_map (is_wait_for p i) (first_of (filter t fs ++ more)) ≡ Some true
first_kept p i t [] more goes first = cc
first_kept p i t (f ∷ fs) more goes first =
    let is : is_wait_for p i f ≡ true = some_true (is_wait_for p i f) first in
    ap (λ b. option_map (is_wait_for p i) (first_of (cond b (f ∷ filter t fs) (filter t fs) ++ more))) (ap t (wait_is p i f is) ∙ goes) ∙ ap Some is
  where
    some_true : (b : Bool) → Some b ≡ Some true → b ≡ true
    some_true true h = refl
    some_true false h = cc

pub answer_kept : (system : System) (log : List Entry) (e : Entry) (p : Pid) (i : ℕ) (bytes : List ℕ) → is_cut p (what e) ≡ false → ends_wait_next system log e p i ≡ false → PageIsHolds system log p i bytes → PageIsHolds system (log ++ e ∷ []) p i bytes
answer_kept system log e p i bytes no_cut goes holds =
    let on = wait_goes_on system log e p i goes in
    record {
      asked = ap (λ fs. option_map (is_wait_for p i) (first_of fs)) (waiting-snoc system log e)
          ∙ first_kept p i (goes_on (next_told system log e)) (waiting_fetches system log) (added (fetched (what e))) (ap not goes) holds.asked;
      page = ap (λ pages. page_in pages i) (kept_still system log e p on.no_exit no_cut) ∙ holds.page;
    }
