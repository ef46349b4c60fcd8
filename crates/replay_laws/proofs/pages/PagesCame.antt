-- Where all pages of a process have come, each stands in the log.
use Rattle.std.proofs.Common.{◌≡◌, ℕ, zero, suc, ◌+◌, ◌<◌, add-zero, refl, sym, ◌∙◌, ap, subst, arith, List, length, Bool, true, false, cond, not, ◌&&◌, ◌||◌, Option, Some, None, is_some, slice_get}
use Rattle.std.specs.List.{list_all, range_with_len}
use Rattle.t32_base.specs.declared.process.Pid.{Pid}
use Rattle.sys_text.specs.declared.system.System.{System}
use Rattle.sys_text.proofs.Bounds.{passes_at}
use Rattle.bus_msg.specs.declared.entry.Entry.{Entry}
use Rattle.cert_sched.specs.Account.{account_after, page_in}
use Rattle.cert_sched.specs.Moved.{any_since_moved, moved_with_state, is_page_is}
use Rattle.cert_sched.specs.Rules.{has_its_pages}
use Rattle.cert_sched.specs.Steps.{page_count}
use Rattle.page_waits.specs.Waiting.{WaitingState, is_whole}
use Rattle.replay_laws.specs.pages.Waits.{WaitsAs, page_come}

-- what is there was seen
seen_there : {X : Type 0} (b : Bool) (o : Option X) → is_some (cond b o None) ≡ true → b ≡ true
seen_there true o there = refl
seen_there false o there = there

-- a test that holds at each of some numbers in a row holds of all
all_in_row : (test : ℕ → Bool) (a n : ℕ) → ((i : ℕ) → i < n → test (a + i) ≡ true) → list_all test (range_with_len a n) ≡ true
all_in_row test a zero each = refl
all_in_row test a (suc n) each =
    let first : test a ≡ true = ap test (sym (add-zero a)) ∙ each 0 (omega arith) in
    let rest : list_all test (range_with_len (a + 1) n) ≡ true =
    all_in_row test (a + 1) n (λ i within. let same : (a + 1) + i ≡ a + suc i = omega arith in ap test same ∙ each (suc i) (omega (arith, within))) in
    λ k. first k && rest k

module _ (system : System) (log : List Entry) (p : Pid) (queued : ℕ → Bool) (w : WaitingState) (waits : WaitsAs system log p queued w) (whole : is_whole w ≡ true) where
  came : (i : ℕ) → i < length w.come → any_since_moved system log p (is_page_is p i) ≡ true
  came i within = seen_there (any_since_moved system log p (is_page_is p i)) (page_in (account_after system log p).kept i) (passes_at is_some w.come i (page_come system log p i) whole (waits.come i within))

  -- each is that of its last cut
  pub as_kept : (i : ℕ) → i < length w.come → slice_get w.come i ≡ Some (page_in (account_after system log p).kept i)
  as_kept i within = waits.come i within ∙ ap (λ b. Some (cond b (page_in (account_after system log p).kept i) None)) (came i within)

  -- so it has its pages
  pub has_all : has_its_pages system log p ≡ true
  has_all =
      let all : list_all (λ i. any_since_moved system log p (is_page_is p i)) (range_with_len 0 (page_count system log p)) ≡ true =
      all_in_row (λ i. any_since_moved system log p (is_page_is p i)) 0 (page_count system log p) (λ i within. let same : i ≡ 0 + i = omega arith in subst (λ j. any_since_moved system log p (is_page_is p j) ≡ true) same (came i (subst (λ n. i < n) (sym waits.pages) within))) in
      ap (λ b. not (moved_with_state system log p) || b) all ∙ or_true (not (moved_with_state system log p))
    where
      or_true : (b : Bool) → (b || true) ≡ true
      or_true true = refl
      or_true false = refl
