-- What the pages of a disk in memory are after one of them was written.
use Rattle.std.proofs.Common.{◌≡◌, ℕ, zero, suc, ◌+◌, ◌/◌, ◌%◌, ◌<◌, ◌≤◌, true, false, cond, eqb, List, [], ◌∷◌, ◌++◌, map, length, get_or, set, take, replicate, refl, sym, ap, ◌∙◌, subst, arith, ◌⊎◌, inl, inr, Option, None, Some}
use Rattle.std.proofs.lemmas.Bool.Decides.{nat_tests}
use Rattle.std.proofs.lemmas.List.{get_or-map, get_or-set_other, length-map, map-set, map_push, take_all}
use Rattle.std.proofs.lemmas.Grind.{get_or-set_at}
use Rattle.std.specs.Ordering.{nat_cmp, is_eq}
use Rattle.std.specs.BTreeMap.{BTreeMap, get, is_at}
use Rattle.page_server.specs.Disk.{Slots, written}
use Rattle.page_server.specs.Sheets.{Rows, in_row, lying, in_sheet, sheet_of, place_of, pages_of}
use Rattle.page_server.proofs.AccountLaws.{was_written, not_written}

same_or_not : (k at : ℕ) → (k ≡ at) ⊎ (k ≡ at → ⊥)
same_or_not k at = grind arith

test_same : (k at : ℕ) → k ≡ at → eqb k at ≡ true
test_same k at e = grind (arith, nat_tests)

test_other : (k at : ℕ) → (k ≡ at → ⊥) → eqb k at ≡ false
test_other k at other = grind (arith, nat_tests)

written_here : (slots : Slots) (at : ℕ) (page : List ℕ) (k : ℕ) → k ≡ at → written slots at page k ≡ Some page
written_here slots at page k e = sym (ap (λ n. written slots n page k) e) ∙ was_written slots k page

-- ---- a row

abbrev pub Row : Type 0
Row = List (Option (List ℕ))

at_end : (row : Row) (page : Option (List ℕ)) (k : ℕ) → k ≡ length row → get_or (row ++ page ∷ []) k None ≡ page
at_end [] page zero e = refl
at_end [] page (suc k) e = absurd (omega arith)
at_end (o ∷ row) page zero e = absurd (omega arith)
at_end (o ∷ row) page (suc k) e = at_end row page k (omega arith)

not_at_end : (row : Row) (page : Option (List ℕ)) (k : ℕ) → (k ≡ length row → ⊥) → get_or (row ++ page ∷ []) k None ≡ get_or row k None
not_at_end [] page zero other = absurd (other refl)
not_at_end [] page (suc k) other = refl
not_at_end (o ∷ row) page zero other = refl
not_at_end (o ∷ row) page (suc k) other = not_at_end row page k (λ e. other (ap suc e))

no_page : (n k : ℕ) → in_row (replicate n None) k ≡ None
no_page zero k = refl
no_page (suc n) zero = refl
no_page (suc n) (suc k) = no_page n k

filled : (row : Row) (n k : ℕ) → in_row (row ++ replicate n None) k ≡ in_row row k
filled [] n k = no_page n k
filled (o ∷ row) n zero = refl
filled (o ∷ row) n (suc k) = filled row n k

length_filled : (row : Row) (n : ℕ) → length (row ++ replicate n None) ≡ length row + n
length_filled [] zero = refl
length_filled [] (suc n) = ap suc (length_filled [] n) ∙ omega arith
length_filled (o ∷ row) n = ap suc (length_filled row n) ∙ omega arith

-- a row that was filled up to a place has the same pages
pub row_filled : (row new : Row) (at n : ℕ) → length row ≤ at → new ≡ take at row ++ replicate n None → in_row new ≡ in_row row
row_filled row new at n h e = λ j k. (ap (λ r. in_row r k) (e ∙ ap (λ r. r ++ replicate n None) (take_all at row h)) ∙ filled row n k) j

-- a page comes behind the others
pub row_added : (row new : Row) (at n : ℕ) (page : List ℕ) → length row + n ≡ at → new ≡ (take at row ++ replicate n None) ++ Some page ∷ [] → in_row new ≡ written (in_row row) at page
row_added row new at n page h e = λ j k. (ap (λ r. in_row r k) is ∙ by_place k (same_or_not k at)) j
  where
    is : new ≡ (row ++ replicate n None) ++ Some page ∷ []
    is = e ∙ ap (λ r. (r ++ replicate n None) ++ Some page ∷ []) (take_all at row (omega arith))

    long : length (row ++ replicate n None) ≡ at
    long = length_filled row n ∙ h

    by_place : (k : ℕ) → ((k ≡ at) ⊎ (k ≡ at → ⊥)) → in_row ((row ++ replicate n None) ++ Some page ∷ []) k ≡ written (in_row row) at page k
    by_place k (inl same) = at_end (row ++ replicate n None) (Some page) k (same ∙ sym long) ∙ sym (written_here (in_row row) at page k same)
    by_place k (inr other) = not_at_end (row ++ replicate n None) (Some page) k (λ x. other (x ∙ long)) ∙ filled row n k ∙ sym (not_written (in_row row) at page k other)

-- ---- a sheet

empty_row : (rows : Rows) (k : ℕ) → get_or (rows ++ [] ∷ []) k [] ≡ get_or rows k []
empty_row [] zero = refl
empty_row [] (suc k) = refl
empty_row (row ∷ rows) zero = refl
empty_row (row ∷ rows) (suc k) = empty_row rows k

-- another row without pages
pub row_more : {X : Type 0} (f : X → Row) (rows : List X) (x : X) → f x ≡ [] → lying (map f (rows ++ x ∷ [])) ≡ lying (map f rows)
row_more f rows x e = λ j k. in_row ((ap (λ r. get_or r (k / 8) []) (map_push f rows x ∙ ap (λ r. map f rows ++ r ∷ []) e) ∙ empty_row (map f rows) (k / 8)) j) (k % 8)

-- where a row changes
row_changed : (rows : Rows) (r : ℕ) (row : Row) (k : ℕ) → r < length rows → k / 8 ≡ r → lying (set rows r row) k ≡ in_row row (k % 8)
row_changed rows r row k h e = ap (λ x. in_row x (k % 8)) (get_or-set_at rows r (k / 8) row [] e h)

row_stays : (rows : Rows) (r : ℕ) (row : Row) (k : ℕ) → (k / 8 ≡ r → ⊥) → lying (set rows r row) k ≡ lying rows k
row_stays rows r row k other = ap (λ x. in_row x (k % 8)) (get_or-set_other rows r (k / 8) row [] other)

test_in_row : (k at : ℕ) → k / 8 ≡ at / 8 → eqb (k % 8) (at % 8) ≡ eqb k at
test_in_row k at e = grind (arith, nat_tests)

pub sheet_put : (rows : Rows) (at : ℕ) (row : Row) (page : List ℕ) → at / 8 < length rows → in_row row ≡ written (in_row (get_or rows (at / 8) [])) (at % 8) page → lying (set rows (at / 8) row) ≡ written (lying rows) at page
sheet_put rows at row page h e = λ j k. by_row k (same_or_not (k / 8) (at / 8)) j
  where
    by_row : (k : ℕ) → ((k / 8 ≡ at / 8) ⊎ (k / 8 ≡ at / 8 → ⊥)) → lying (set rows (at / 8) row) k ≡ written (lying rows) at page k
    by_row k (inl same) =
        row_changed rows (at / 8) row k h same
        ∙ (λ j. e j (k % 8))
        ∙ ap (λ n. written (in_row (get_or rows n [])) (at % 8) page (k % 8)) (sym same)
        ∙ ap (λ b. cond b (Some page) (lying rows k)) (test_in_row k at same)
    by_row k (inr other) = row_stays rows (at / 8) row k other ∙ sym (not_written (lying rows) at page k (λ d. other (ap (λ n. n / 8) d)))

pub sheet_same : (rows : Rows) (r : ℕ) (row : Row) → r < length rows → in_row row ≡ in_row (get_or rows r []) → lying (set rows r row) ≡ lying rows
sheet_same rows r row h e = λ j k. by_row k (same_or_not (k / 8) r) j
  where
    by_row : (k : ℕ) → ((k / 8 ≡ r) ⊎ (k / 8 ≡ r → ⊥)) → lying (set rows r row) k ≡ lying rows k
    by_row k (inl same) = row_changed rows r row k h same ∙ (λ j. e j (k % 8)) ∙ ap (λ n. in_row (get_or rows n []) (k % 8)) (sym same)
    by_row k (inr other) = row_stays rows r row k other

-- the same of the list that holds the rows
pub rows_put : {X : Type 0} (f : X → Row) (rows : List X) (at : ℕ) (row d : X) (page : List ℕ) → at / 8 < length rows
    → in_row (f row) ≡ written (in_row (f (get_or rows (at / 8) d))) (at % 8) page → lying (map f (set rows (at / 8) row)) ≡ written (lying (map f rows)) at page
rows_put f rows at row d page h e =
    ap lying (map-set f rows (at / 8) row)
    ∙ sheet_put (map f rows) at (f row) page (subst (λ n. at / 8 < n) (sym (length-map rows f)) h) (e ∙ ap (λ r. written (in_row r) (at % 8) page) (sym (get_or-map f rows (at / 8) d [] h)))

pub rows_same : {X : Type 0} (f : X → Row) (rows : List X) (r : ℕ) (row d : X) → r < length rows → in_row (f row) ≡ in_row (f (get_or rows r d)) → lying (map f (set rows r row)) ≡ lying (map f rows)
rows_same f rows r row d h e =
    ap lying (map-set f rows r row)
    ∙ sheet_same (map f rows) r (f row) (subst (λ n. r < n) (sym (length-map rows f)) h) (e ∙ ap in_row (sym (get_or-map f rows r d [] h)))

-- ---- a disk

at_same : (q key : ℕ) → q ≡ key → is_eq (nat_cmp key q) ≡ true
at_same q key e = grind (arith, nat_tests)

at_other : (q key : ℕ) → (q ≡ key → ⊥) → is_eq (nat_cmp key q) ≡ false
at_other q key other = grind (arith, nat_tests)

-- one sheet is this one now, and the others stay
abbrev pub SheetIs : BTreeMap ℕ Rows → BTreeMap ℕ Rows → ℕ → Rows → Type 0
SheetIs old new key rows = (q : ℕ) → get nat_cmp new q ≡ cond (is_at (nat_cmp key) q) (Some rows) (get nat_cmp old q)

sheet_changed : (old new : BTreeMap ℕ Rows) (key : ℕ) (rows : Rows) (k : ℕ) → SheetIs old new key rows → sheet_of k ≡ key → pages_of new k ≡ lying rows (place_of k)
sheet_changed old new key rows k is same =
    ap (λ o. in_sheet o (place_of k)) (is (sheet_of k) ∙ ap (λ b. cond b (Some rows) (get nat_cmp old (sheet_of k))) (at_same (sheet_of k) key same))

sheet_stays : (old new : BTreeMap ℕ Rows) (key : ℕ) (rows : Rows) (k : ℕ) → SheetIs old new key rows → (sheet_of k ≡ key → ⊥) → pages_of new k ≡ pages_of old k
sheet_stays old new key rows k is other =
    ap (λ o. in_sheet o (place_of k)) (is (sheet_of k) ∙ ap (λ b. cond b (Some rows) (get nat_cmp old (sheet_of k))) (at_other (sheet_of k) key other))

-- two slots of a sheet have two places
places_apart : (k slot : ℕ) → sheet_of k ≡ sheet_of slot → place_of k ≡ place_of slot → k ≡ slot
places_apart k slot e p = omega arith

test_in_sheet : (k slot : ℕ) → sheet_of k ≡ sheet_of slot → eqb (place_of k) (place_of slot) ≡ eqb k slot
test_in_sheet k slot e = by_slot (same_or_not k slot)
  where
    by_slot : ((k ≡ slot) ⊎ (k ≡ slot → ⊥)) → eqb (place_of k) (place_of slot) ≡ eqb k slot
    by_slot (inl same) = test_same (place_of k) (place_of slot) (ap place_of same) ∙ sym (test_same k slot same)
    by_slot (inr other) = test_other (place_of k) (place_of slot) (λ p. other (places_apart k slot e p)) ∙ sym (test_other k slot other)

pub disk_put : (old new : BTreeMap ℕ Rows) (slot key at : ℕ) (rows : Rows) (page : List ℕ) → key ≡ sheet_of slot → at ≡ place_of slot → SheetIs old new key rows
    → lying rows ≡ written (in_sheet (get nat_cmp old key)) at page → pages_of new ≡ written (pages_of old) slot page
disk_put old new slot key at rows page here there is e = λ j k. by_sheet k (same_or_not (sheet_of k) key) j
  where
    by_sheet : (k : ℕ) → ((sheet_of k ≡ key) ⊎ (sheet_of k ≡ key → ⊥)) → pages_of new k ≡ written (pages_of old) slot page k
    by_sheet k (inl same) =
        sheet_changed old new key rows k is same
        ∙ (λ j. e j (place_of k))
        ∙ (λ j. written (in_sheet (get nat_cmp old (sym same j))) (there j) page (place_of k))
        ∙ ap (λ b. cond b (Some page) (pages_of old k)) (test_in_sheet k slot (same ∙ here))
    by_sheet k (inr other) = sheet_stays old new key rows k is other ∙ sym (not_written (pages_of old) slot page k (λ d. other (ap sheet_of d ∙ sym here)))

pub disk_same : (old new : BTreeMap ℕ Rows) (key : ℕ) (rows : Rows) → SheetIs old new key rows → lying rows ≡ in_sheet (get nat_cmp old key) → pages_of new ≡ pages_of old
disk_same old new key rows is e = λ j k. by_sheet k (same_or_not (sheet_of k) key) j
  where
    by_sheet : (k : ℕ) → ((sheet_of k ≡ key) ⊎ (sheet_of k ≡ key → ⊥)) → pages_of new k ≡ pages_of old k
    by_sheet k (inl same) = sheet_changed old new key rows k is same ∙ (λ j. e j (place_of k)) ∙ ap (λ n. in_sheet (get nat_cmp old n) (place_of k)) (sym same)
    by_sheet k (inr other) = sheet_stays old new key rows k is other
