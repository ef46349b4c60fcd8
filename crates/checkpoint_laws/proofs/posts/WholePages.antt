-- The pages of a memory, by rising number: each is there as it is, and none behind them.
use Rattle.std.proofs.Common.{◌≡◌, ℕ, zero, suc, ◌+◌, ◌*◌, ◌/◌, ◌<◌, ◌≤◌, refl, ◌∙◌, ap, arith, List, ◌∷◌, length, drop, drop-drop, true, cond, Some, None}
use Rattle.std.specs.FinMap.{is_sorted}
use Rattle.std.specs.List.{range_with_len}
use Rattle.std.specs.Ordering.{nat_cmp}
use Rattle.t32_base.specs.Account.{page_in}
use Rattle.rv_mem.specs.Memory.{page_at}
use Rattle.cert_sched.specs.Account.{all_pages, pages_from}
use Rattle.sync_point.proofs.WhichMarked.{in_range, not_in_range}
use Rattle.sync_point.proofs.PageLaws.{numbered, find-numbered}
use Rattle.sync_point.proofs.WholeLaws.{range_sorted}

-- the pages from i on of a memory are those of so many numbers
numbered_from : (bytes : List ℕ) (i n : ℕ) → pages_from i n (drop (256 * i) bytes) ≡ numbered (page_at bytes) (range_with_len i n)
numbered_from bytes i zero = refl
numbered_from bytes i (suc n) =
    let further : 256 * i + 256 ≡ 256 * (i + 1) = omega arith in
    ap (λ rest. (i, page_at bytes i) ∷ pages_from (i + 1) n rest) (drop-drop 256 (256 * i) bytes ∙ ap (λ m. drop m bytes) further)
    ∙ ap (λ rest. (i, page_at bytes i) ∷ rest) (numbered_from bytes (i + 1) n)

pub all_numbered : (bytes : List ℕ) (n : ℕ) → length bytes ≡ 256 * n → all_pages bytes ≡ numbered (page_at bytes) (range_with_len 0 n)
all_numbered bytes n size =
    let pages : length bytes / 256 ≡ n = omega (arith, size) in
    ap (λ n. pages_from 0 n bytes) pages ∙ numbered_from bytes 0 n

-- each page is there
pub page_found : (bytes : List ℕ) (n i : ℕ) → length bytes ≡ 256 * n → i < n → page_in (all_pages bytes) i ≡ Some (page_at bytes i)
page_found bytes n i size within =
    ap (λ pages. page_in pages i) (all_numbered bytes n size) ∙ find-numbered (page_at bytes) i (range_with_len 0 n)
    ∙ ap (λ b. cond b (Some (page_at bytes i)) None) (in_range 0 n i (omega arith) (omega (arith, within)))

-- and no other
pub no_page_behind : (bytes : List ℕ) (n i : ℕ) → length bytes ≡ 256 * n → n ≤ i → page_in (all_pages bytes) i ≡ None
no_page_behind bytes n i size behind =
    ap (λ pages. page_in pages i) (all_numbered bytes n size) ∙ find-numbered (page_at bytes) i (range_with_len 0 n)
    ∙ ap (λ b. cond b (Some (page_at bytes i)) None) (not_in_range 0 n i (omega (arith, behind)))

pub pages_rise : (bytes : List ℕ) (n : ℕ) → length bytes ≡ 256 * n → is_sorted nat_cmp (all_pages bytes) ≡ true
pages_rise bytes n size = ap (is_sorted nat_cmp) (all_numbered bytes n size) ∙ range_sorted (page_at bytes) 0 n
