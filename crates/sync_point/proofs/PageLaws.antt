-- The pages that a batch sends, and an account after them.
use Rattle.std.proofs.Common.{◌≡◌, ℕ, Bool, true, false, T, ◌||◌, cond, eqb, List, [], ◌∷◌, map, Some, None, refl, sym, ap, subst, ◌∙◌}
use Rattle.std.proofs.lemmas.Bool.{eqb-true}
use Rattle.std.proofs.lemmas.List.{append-nil}
use Rattle.std.proofs.lemmas.List.Elements.{filter_map-append}
use Rattle.std.specs.Cmp.{nat_cmp_total, unsigned_tied}
use Rattle.std.specs.FinMap.{is_sorted}
use Rattle.std.specs.FinMap.Entries.{find-put, is_sorted-put}
use Rattle.std.specs.List.{list_any}
use Rattle.std.specs.List.Sorted.{IsStrictlySortedBy}
use Rattle.std.specs.Map.{keys_of}
use Rattle.std.specs.Ordering.{nat_cmp}
use Rattle.t32_base.specs.declared.process.ClusterNo.{ClusterNo}
use Rattle.t32_base.specs.Account.{Account, page_in, with_page}
use Rattle.rv_mem.specs.Memory.{page_at}
use Rattle.proc_state.specs.declared.process.Process.{Process}
use Rattle.bus_msg.specs.declared.entry.Post.{Post}
use Rattle.sync_point.specs.Batch.{batch, is_marked, marked_pages, page_post, page_posts, sync_post}
use Rattle.sync_point.specs.Laws.{page_sent, pages_sent, with_pages}
use Rattle.sync_point.proofs.WhichMarked.{marked_has, marked_rise}

-- ---- pages by their numbers

-- the pages of these numbers
abbrev pub numbered : (ℕ → List ℕ) → List ℕ → List (ℕ × List ℕ)
numbered page is = map (λ i. (i, page i)) is

keys-numbered : (page : ℕ → List ℕ) (is : List ℕ) → keys_of (numbered page is) ≡ is
keys-numbered page [] = refl
keys-numbered page (i ∷ is) = ap (λ rest. i ∷ rest) (keys-numbered page is)

pub find-numbered : (page : ℕ → List ℕ) (q : ℕ) (is : List ℕ) → page_in (numbered page is) q ≡ cond (list_any (λ i. eqb q i) is) (Some (page q)) None
find-numbered page q [] = refl
find-numbered page q (i ∷ is) = ap (λ b. cond b (Some (page i)) (page_in (numbered page is) q)) (unsigned_tied q i) ∙ by_test (find-numbered page q is) (eqb q i) refl
  where
    by_test : page_in (numbered page is) q ≡ cond (list_any (λ i. eqb q i) is) (Some (page q)) None
        → (b : Bool) → eqb q i ≡ b → cond b (Some (page i)) (page_in (numbered page is) q) ≡ cond (b || list_any (λ i. eqb q i) is) (Some (page q)) None
    by_test rest true at = ap (λ j. Some (page j)) (sym (eqb-true q i at))
    by_test rest false at = rest

-- each of these pages is put, and any other stays
with_pages-now : (page : ℕ → List ℕ) (q : ℕ) (is : List ℕ) (a : Account) → page_in (with_pages (numbered page is) a).now q ≡ cond (list_any (λ i. eqb q i) is) (Some (page q)) (page_in a.now q)
with_pages-now page q [] a = refl
with_pages-now page q (i ∷ is) a =
    with_pages-now page q is (with_page i (page i) a)
    ∙ ap (λ o. cond (list_any (λ i. eqb q i) is) (Some (page q)) o) (find-put nat_cmp nat_cmp_total q i (page i) a.now ∙ ap (λ b. cond b (Some (page i)) (page_in a.now q)) (unsigned_tied q i))
    ∙ by_tests (eqb q i) refl (list_any (λ i. eqb q i) is)
  where
    by_tests : (b : Bool) → eqb q i ≡ b → (rest : Bool) → cond rest (Some (page q)) (cond b (Some (page i)) (page_in a.now q)) ≡ cond (b || rest) (Some (page q)) (page_in a.now q)
    by_tests true at true = refl
    by_tests true at false = ap (λ j. Some (page j)) (sym (eqb-true q i at))
    by_tests false at true = refl
    by_tests false at false = refl

with_pages-kept : (pages : List (ℕ × List ℕ)) (a : Account) → (with_pages pages a).kept ≡ a.kept
with_pages-kept [] a = refl
with_pages-kept (page ∷ rest) a = with_pages-kept rest (with_page page.0 page.1 a)

-- ---- the pages of a batch

sent_of_posts : (p : Process) (by : ClusterNo) (is : List ℕ) → pages_sent (map (page_post p by) is) ≡ numbered (page_at (p.ram).bytes) is
sent_of_posts p by [] = refl
sent_of_posts p by (i ∷ is) = ap (λ rest. (i, page_at (p.ram).bytes i) ∷ rest) (sent_of_posts p by is)

-- they are the marked pages as they are
sent_of_batch : (p : Process) (by : ClusterNo) → pages_sent (batch p by) ≡ numbered (page_at (p.ram).bytes) (marked_pages p)
sent_of_batch p by =
    filter_map-append (λ (post : Post). page_sent post.what) (page_posts p by) (sync_post p by ∷ [])
    ∙ append-nil (pages_sent (page_posts p by)) ∙ sent_of_posts p by (marked_pages p)

pub sent_each : (p : Process) (by : ClusterNo) (i : ℕ) → page_in (pages_sent (batch p by)) i ≡ cond (is_marked p i) (Some (page_at (p.ram).bytes i)) None
sent_each p by i =
    ap (λ pages. page_in pages i) (sent_of_batch p by) ∙ find-numbered (page_at (p.ram).bytes) i (marked_pages p)
    ∙ ap (λ b. cond b (Some (page_at (p.ram).bytes i)) None) (marked_has p i)

pub sent_rise : (p : Process) (by : ClusterNo) → IsStrictlySortedBy nat_cmp (keys_of (pages_sent (batch p by)))
sent_rise p by = subst (IsStrictlySortedBy nat_cmp) (sym (ap keys_of (sent_of_batch p by) ∙ keys-numbered (page_at (p.ram).bytes) (marked_pages p))) (marked_rise p)

pub come_now : (p : Process) (by : ClusterNo) (a : Account) (i : ℕ) → page_in (with_pages (pages_sent (batch p by)) a).now i ≡ cond (is_marked p i) (Some (page_at (p.ram).bytes i)) (page_in a.now i)
come_now p by a i =
    ap (λ pages. page_in (with_pages pages a).now i) (sent_of_batch p by) ∙ with_pages-now (page_at (p.ram).bytes) i (marked_pages p) a
    ∙ ap (λ b. cond b (Some (page_at (p.ram).bytes i)) (page_in a.now i)) (marked_has p i)

come_rise : (page : ℕ → List ℕ) (is : List ℕ) (a : Account) → T (is_sorted nat_cmp a.now) → T (is_sorted nat_cmp (with_pages (numbered page is) a).now)
come_rise page [] a rises = rises
come_rise page (i ∷ is) a rises = come_rise page is (with_page i (page i) a) (is_sorted-put nat_cmp nat_cmp_total i (page i) a.now rises)

-- an account by rising number is one after the pages came
pub sent_keep_order : (p : Process) (by : ClusterNo) (a : Account) → T (is_sorted nat_cmp a.now) → T (is_sorted nat_cmp (with_pages (pages_sent (batch p by)) a).now)
sent_keep_order p by a rises =
    let P : List (ℕ × List ℕ) → Type 0 = λ pages. T (is_sorted nat_cmp (with_pages pages a).now) in
    subst P (sym (sent_of_batch p by)) (come_rise (page_at (p.ram).bytes) (marked_pages p) a rises)

pub come_kept : (p : Process) (by : ClusterNo) (a : Account) → (with_pages (pages_sent (batch p by)) a).kept ≡ a.kept
come_kept p by a = with_pages-kept (pages_sent (batch p by)) a
