-- The pages of a memory, put one after another.
use Rattle.std.proofs.Common.{◌≡◌, ℕ, zero, suc, ◌+◌, ◌*◌, List, [], ◌∷◌, take, drop, sym, ◌∙◌, ap, arith}
use Rattle.std.specs.Ordering.{nat_cmp}
use Rattle.std.specs.declared.cmp.Ordering.TheVariants.{Greater}
use Rattle.std.specs.FinMap.{put}
use Rattle.std.specs.FinMap.Entries.{by_order}
use Rattle.std.proofs.lemmas.Bool.Decides.{nat_tests}
use Rattle.std.proofs.lemmas.List.{drop-drop}
use Rattle.rv_mem.specs.Memory.{page_at}
use Rattle.cert_sched.specs.Account.{pages_from}

above : (i n : ℕ) → nat_cmp (i + suc n) i ≡ Greater
above i n = grind (arith, nat_tests)

further : (n : ℕ) (bytes : List ℕ) → drop (256 * suc n) bytes ≡ drop (256 * n) (drop 256 bytes)
further n bytes = ap (λ k. drop k bytes) (by_pages n) ∙ sym (drop-drop (256 * n) 256 bytes)
  where
    by_pages : (n : ℕ) → 256 * suc n ≡ 256 + 256 * n
    by_pages n = omega arith

-- the next page is put behind those before it
pub page_more : (i n : ℕ) (bytes : List ℕ) → put nat_cmp (i + n) (page_at bytes n) (pages_from i n bytes) ≡ pages_from i (suc n) bytes
page_more i zero bytes = ap (λ (k : ℕ). (k, take 256 bytes) ∷ []) (omega arith)
page_more i (suc n) bytes =
    ap (λ o. by_order o ((i + suc n, page_at bytes (suc n)) ∷ (i, take 256 bytes) ∷ pages_from (i + 1) n (drop 256 bytes)) ((i, page_at bytes (suc n)) ∷ pages_from (i + 1) n (drop 256 bytes))
    ((i, take 256 bytes) ∷ put nat_cmp (i + suc n) (page_at bytes (suc n)) (pages_from (i + 1) n (drop 256 bytes)))) (above i n)
    ∙ ap (λ (rest : List (ℕ × List ℕ)). (i, take 256 bytes) ∷ rest)
    ((λ j. put nat_cmp (number j) (take 256 (further n bytes j)) (pages_from (i + 1) n (drop 256 bytes))) ∙ page_more (i + 1) n (drop 256 bytes))
  where
    number : i + suc n ≡ i + 1 + n
    number = omega arith
