-- The rows of a process and their marks when a page of it is put.
use Rattle.std.proofs.Common.{◌≡◌, ℕ, ◌≤◌, List, length, get_or, set, sym, ap, ◌∙◌, subst, ◌⊎◌, inl, inr, Contains, Result, Ok, Err, OnOk, OnErr}
use Rattle.std.proofs.lemmas.List.{get_or-set_other, length-set}
use Rattle.page_server.specs.declared.disk.DiskRefused.{DiskRefused}
use Rattle.page_server.specs.declared.table.Held.{Held}
use Rattle.page_server.specs.Disk.{Slots, SlotsAfterPut}
use Rattle.page_server.specs.Slots.{slot, absent, spare, grown, put_in, TableAfterPut, IsMarked}
use Rattle.page_server.proofs.AccountLaws.{row_grown}
use Rattle.page_server.proofs.Marks.{same_or_not}

pub same_marked : (table new : List Held) (marks : List ℕ) → new ≡ table → IsMarked table marks → IsMarked new marks
same_marked table new marks e m = subst (λ t. IsMarked t marks) (sym e) m

-- the accounts agree in a row that is new
pub grown_marked : (table new : List Held) (marks : List ℕ) (i : ℕ) → new ≡ grown table i → IsMarked table marks → IsMarked new marks
grown_marked table new marks i e m = λ k. subst (λ (h : Held). (h.now ≡ h.kept) ⊎ Contains marks k) (sym (ap (λ t. get_or t k absent) e ∙ row_grown table i k)) (m k)

-- a row that is marked may change
set_marked : (table new : List Held) (marks : List ℕ) (i : ℕ) (held : Held) → new ≡ set table i held → Contains marks i → IsMarked table marks → IsMarked new marks
set_marked table new marks i held e there m = λ k. by_row k (same_or_not i k)
  where
    by_row : (k : ℕ) → ((i ≡ k) ⊎ (i ≡ k → ⊥)) → ((get_or new k absent).now ≡ (get_or new k absent).kept) ⊎ Contains marks k
    by_row k (inl same) = inr (subst (Contains marks) same there)
    by_row k (inr other) = subst (λ (h : Held). (h.now ≡ h.kept) ⊎ Contains marks k) (sym (ap (λ t. get_or t k absent) e ∙ get_or-set_other table i k held absent (λ s. other (sym s)))) (m k)

-- where the disk took the page, its row has changed, and else none has
pub put_marked : (table new : List Held) (marks : List ℕ) (i : ℕ) (held : Held) (r : Result (Unit {0}) DiskRefused) → OnOk r (new ≡ set table i held) → OnErr r (new ≡ table) → Contains marks i → IsMarked table marks → IsMarked new marks
put_marked table new marks i held (Ok done) ok err there m = set_marked table new marks i held ok there m
put_marked table new marks i held (Err refused) ok err there m = same_marked table new marks err m

pub put_few : (table new : List Held) (i : ℕ) (held : Held) (r : Result (Unit {0}) DiskRefused) → OnOk r (new ≡ set table i held) → OnErr r (new ≡ table) → length table ≤ 256 → length new ≤ 256
put_few table new i held (Ok done) ok err few = subst (λ n. n ≤ 256) (sym (ap length ok ∙ length-set table i held)) few
put_few table new i held (Err refused) ok err few = subst (λ n. n ≤ 256) (sym (ap length err)) few

-- the row that was made has what the table had there
row_made : (old table : List Held) (i : ℕ) → table ≡ grown old i → get_or table i absent ≡ get_or old i absent
row_made old table i e = ap (λ t. get_or t i absent) e ∙ row_grown old i i

pub put_table : (old table new : List Held) (i : ℕ) (r : Result (Unit {0}) DiskRefused) → table ≡ grown old i → OnOk r (new ≡ set table i (put_in (get_or table i absent))) → OnErr r (new ≡ table) → TableAfterPut old new i r
put_table old table new i (Ok done) e ok err = ok ∙ (λ j. set (e j) i (put_in (row_made old table i e j)))
put_table old table new i (Err refused) e ok err = inr (err ∙ e)

pub put_slots : (before after : Slots) (old table : List Held) (place i : ℕ) (page : List ℕ) (r : Result (Unit {0}) DiskRefused) → table ≡ grown old i
    → SlotsAfterPut before after (slot place i (spare (get_or table i absent).kept)) page r → SlotsAfterPut before after (slot place i (spare (get_or old i absent).kept)) page r
put_slots before after old table place i page r e s = subst (λ (h : Held). SlotsAfterPut before after (slot place i (spare h.kept)) page r) (row_made old table i e) s
