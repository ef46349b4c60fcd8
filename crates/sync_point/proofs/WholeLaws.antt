-- An account that had each page without a mark has the whole memory once the pages of a batch came.
use Rattle.std.proofs.Common.{◌≡◌, ℕ, zero, suc, ◌+◌, ◌<◌, ◌≤◌, ◌⊎◌, inl, inr, Bool, true, false, T, cond, eqb, List, length, Option, Some, None, refl, sym, ap, subst, ◌∙◌, arith}
use Rattle.std.proofs.lemmas.Bool.{lt-ltb, and_from, cases_lt}
use Rattle.std.specs.Cmp.{nat_cmp_total}
use Rattle.std.specs.FinMap.{is_sorted, nat_cmp-IsAntisymmetric}
use Rattle.std.specs.FinMap.Entries.{below_all, same_entries}
use Rattle.std.specs.List.{list_any, range_with_len}
use Rattle.std.specs.Ordering.{is_lt, nat_cmp}
use Rattle.std.specs.declared.cmp.Ordering.TheVariants.{Less, Equal, Greater}
use Rattle.t32_base.specs.declared.process.ClusterNo.{ClusterNo}
use Rattle.t32_base.specs.Account.{Account, page_in}
use Rattle.rv_mem.specs.Memory.{page_at}
use Rattle.proc_state.specs.declared.process.Process.{Process}
use Rattle.sync_point.specs.Batch.{batch, is_marked}
use Rattle.sync_point.specs.Laws.{HasUnmarked, pages_sent, whole_memory, with_pages}
use Rattle.sync_point.proofs.WhichMarked.{in_range, not_in_range, unmarked_behind}
use Rattle.sync_point.proofs.PageLaws.{numbered, find-numbered, come_now, sent_keep_order}

-- ---- the whole memory stands by rising number

pub below_range : (page : ℕ → List ℕ) (x a n : ℕ) → x < a → below_all nat_cmp x (numbered page (range_with_len a n)) ≡ true
below_range page x a zero below = refl
below_range page x a (suc n) below =
    and_from _ _ (ap (λ b. is_lt (cond b Less (cond (eqb x a) Equal Greater))) (lt-ltb x a below)) (below_range page x (a + 1) n (omega arith))

pub range_sorted : (page : ℕ → List ℕ) (a n : ℕ) → is_sorted nat_cmp (numbered page (range_with_len a n)) ≡ true
range_sorted page a zero = refl
range_sorted page a (suc n) = and_from _ _ (below_range page a (a + 1) n (omega arith)) (range_sorted page (a + 1) n)

holds : (b : Bool) → b ≡ true → T b
holds b is = let P : Bool → Type 0 = λ b. T b in subst P (sym is) tt

-- ---- page by page

same_page : (p : Process) (by : ClusterNo) (a : Account) → HasUnmarked p a → (q : ℕ) → page_in (with_pages (pages_sent (batch p by)) a).now q ≡ page_in (whole_memory p) q
same_page p by a has q = come_now p by a q ∙ by_place (cases_lt q (length (p.ram).dirty)) ∙ sym (find-numbered (page_at (p.ram).bytes) q (range_with_len 0 (length (p.ram).dirty)))
  where
    there : Option (List ℕ)
    there = Some (page_at (p.ram).bytes q)

    by_mark : (b : Bool) → is_marked p q ≡ b → q < length (p.ram).dirty → cond b there (page_in a.now q) ≡ there
    by_mark true is within = refl
    by_mark false is within = has.clean q within is

    by_place : (q < length (p.ram).dirty) ⊎ (length (p.ram).dirty ≤ q) → cond (is_marked p q) there (page_in a.now q) ≡ cond (list_any (λ i. eqb q i) (range_with_len 0 (length (p.ram).dirty))) there None
    by_place (inl within) = by_mark (is_marked p q) refl within ∙ sym (ap (λ b. cond b there None) (in_range 0 (length (p.ram).dirty) q (omega arith) (omega arith)))
    by_place (inr behind) =
        ap (λ b. cond b there (page_in a.now q)) (unmarked_behind p q behind) ∙ has.within q behind
        ∙ sym (ap (λ b. cond b there None) (not_in_range 0 (length (p.ram).dirty) q (omega arith)))

pub come_whole : (p : Process) (by : ClusterNo) (a : Account) → HasUnmarked p a → (with_pages (pages_sent (batch p by)) a).now ≡ whole_memory p
come_whole p by a has =
    same_entries nat_cmp nat_cmp_total nat_cmp-IsAntisymmetric (with_pages (pages_sent (batch p by)) a).now (whole_memory p)
    (sent_keep_order p by a (holds (is_sorted nat_cmp a.now) has.rising))
    (holds (is_sorted nat_cmp (whole_memory p)) (range_sorted (page_at (p.ram).bytes) 0 (length (p.ram).dirty)))
    (same_page p by a has)
