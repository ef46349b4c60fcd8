-- A process has its pages where each of them has come.
use Rattle.std.proofs.Common.{◌≡◌, ℕ, zero, suc, ◌+◌, ◌<◌, ◌≤◌, refl, sym, ◌∙◌, ap, arith, List, Bool, not, ◌&&◌, ◌||◌}
use Rattle.std.specs.List.{list_all, range_with_len}
use Rattle.t32_base.specs.declared.process.Pid.{Pid}
use Rattle.sys_text.specs.declared.system.System.{System}
use Rattle.bus_msg.specs.declared.entry.Entry.{Entry}
use Rattle.cert_sched.specs.Moved.{any_since_moved, is_page_is, moved_with_state}
use Rattle.cert_sched.specs.Rules.{has_its_pages}
use Rattle.cert_sched.specs.Steps.{page_count}
use Rattle.log_fetches.specs.declared.kept.Kept.{Kept}
use Rattle.log_fetches.specs.Pages.{has_page}
use Rattle.log_fetches.specs.Kept.{kept_in}
use Rattle.log_fetches.specs.Fetches.{IsFetchesOf}

-- two tests that agree on a row of numbers
rows_agree : (t u : ℕ → Bool) (from n : ℕ) → ((i : ℕ) → i < from + n → t i ≡ u i) → list_all t (range_with_len from n) ≡ list_all u (range_with_len from n)
rows_agree t u from zero same = refl
rows_agree t u from (suc n) same = λ j. same from (omega arith) j && rows_agree t u (from + 1) n (λ i below. same i (omega (arith, below))) j

pub all_have_come : (system : System) (log : List Entry) (kept : List (ℕ × Kept)) (p : Pid) (pages : ℕ) → pages ≤ 256 → IsFetchesOf system log kept → page_count system log p ≡ pages
    → (not (kept_in kept p).moved || list_all (has_page (kept_in kept p).come) (range_with_len 0 pages)) ≡ has_its_pages system log p
all_have_come system log kept p pages few is count =
    let k = is p in
    (λ j. not (k.moved j) || rows_agree (has_page (kept_in kept p).come) (λ i. any_since_moved system log p (is_page_is p i)) 0 pages (λ i below. k.come i (omega (arith, below, few))) j)
    ∙ ap (λ n. not (moved_with_state system log p) || list_all (λ i. any_since_moved system log p (is_page_is p i)) (range_with_len 0 n)) (sym count)
