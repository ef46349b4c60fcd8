-- What the accounts of a table have: after a page was put, and after a commit or a revert.
use Rattle.std.proofs.Common.{◌≡◌, ℕ, zero, suc, ◌+◌, ◌-◌, ◌*◌, ◌<◌, ◌≤◌, Bool, true, false, cond, eqb, List, [], ◌∷◌, ◌++◌, map, length, get_or, set, replicate, refl, sym, ap, ◌∙◌, subst, arith, ◌⊎◌, inl, inr, Option, Some, None, IsSome}
use Rattle.std.proofs.lemmas.Bool.Decides.{nat_tests}
use Rattle.std.specs.Ordering.{nat_cmp}
use Rattle.std.specs.declared.cmp.Ordering.TheVariants.{Less, Equal, Greater}
use Rattle.std.specs.FinMap.{find, put}
use Rattle.page_server.specs.declared.table.Held.{Held}
use Rattle.page_server.specs.declared.table.Which.{Which}
use Rattle.page_server.specs.declared.table.Which.TheVariants.{First, Second, Third, Fourth}
use Rattle.page_server.specs.Disk.{Slots, written}
use Rattle.page_server.specs.Account.{Account, with_page, committed, reverted}
use Rattle.page_server.specs.Slots.{slot, number_of, absent, spare, content, numbered, pages_from, account_at, grown, put_in, settled, restored}

-- ---- numbers

below : (x y : ℕ) → x < y → nat_cmp x y ≡ Less
below x y h = grind (arith, nat_tests)

above : (x y : ℕ) → x < y → nat_cmp y x ≡ Greater
above x y h = grind (arith, nat_tests)

equal : (x : ℕ) → nat_cmp x x ≡ Equal
equal x = grind (arith, nat_tests)

differs : (m n : ℕ) → (m ≡ n → ⊥) → eqb m n ≡ false
differs m n other = grind (arith, nat_tests)

same : (n : ℕ) → eqb n n ≡ true
same n = grind (arith, nat_tests)

-- ---- slots

small : (w : Which) → number_of w ≤ 3
small First = omega arith
small Second = omega arith
small Third = omega arith
small Fourth = omega arith

numbers_apart : (p i x q j y : ℕ) → p < 4194304 → q < 4194304 → x ≤ 3 → y ≤ 3 → (i * 4194304 + p) * 4 + x ≡ (j * 4194304 + q) * 4 + y → i ≡ j
numbers_apart p i x q j y hp hq hx hy e = omega arith

places_apart : (p i x q j y : ℕ) → p < 4194304 → q < 4194304 → x ≤ 3 → y ≤ 3 → (i * 4194304 + p) * 4 + x ≡ (j * 4194304 + q) * 4 + y → p ≡ q
places_apart p i x q j y hp hq hx hy e = omega arith

-- pages of other numbers, and of other places, have other slots
other_number : (p i : ℕ) (b : Which) (q j : ℕ) (c : Which) → p < 4194304 → q < 4194304 → (i ≡ j → ⊥) → slot p i b ≡ slot q j c → ⊥
other_number p i b q j c hp hq other e = other (numbers_apart p i (number_of b) q j (number_of c) hp hq (small b) (small c) e)

other_place : (p i : ℕ) (b : Which) (q j : ℕ) (c : Which) → p < 4194304 → q < 4194304 → (p ≡ q → ⊥) → slot p i b ≡ slot q j c → ⊥
other_place p i b q j c hp hq other e = other (places_apart p i (number_of b) q j (number_of c) hp hq (small b) (small c) e)

other_slot : (p i : ℕ) (b : Which) → slot p i b ≡ slot p i (spare (Some b)) → ⊥
other_slot p i First e = omega arith
other_slot p i Second e = omega arith
other_slot p i Third e = omega arith
other_slot p i Fourth e = omega arith

-- ---- what was written

pub not_written : (slots : Slots) (at : ℕ) (page : List ℕ) (s : ℕ) → (s ≡ at → ⊥) → written slots at page s ≡ slots s
not_written slots at page s other = ap (λ b. cond b (Some page) (slots s)) (differs s at other)

pub was_written : (slots : Slots) (at : ℕ) (page : List ℕ) → written slots at page at ≡ Some page
was_written slots at page = ap (λ b. cond b (Some page) (slots at)) (same at)

still_some : (b : Bool) (page : List ℕ) (o : Option (List ℕ)) → IsSome o → IsSome (cond b (Some page) o)
still_some true page o h = refl
still_some false page o h = h

-- a slot that has a page has one after another was written
pub still_there : (slots : Slots) (at : ℕ) (page : List ℕ) (s : ℕ) → IsSome (slots s) → IsSome (written slots at page s)
still_there slots at page s h = still_some (eqb s at) page (slots s) h

elsewhere : (slots : Slots) (q i : ℕ) (b : Which) (page : List ℕ) (p j : ℕ) (which : Option Which) → p < 4194304 → q < 4194304 → ((p ≡ q → ⊥) ⊎ (j ≡ i → ⊥))
    → content (written slots (slot q i b) page) p j which ≡ content slots p j which
elsewhere slots q i b page p j None hp hq other = refl
elsewhere slots q i b page p j (Some c) hp hq (inl other) = not_written slots (slot q i b) page (slot p j c) (other_place p j c q i b hp hq other)
elsewhere slots q i b page p j (Some c) hp hq (inr other) = not_written slots (slot q i b) page (slot p j c) (other_number p j c q i b hp hq other)

kept_stays : (slots : Slots) (p i : ℕ) (page : List ℕ) (kept : Option Which) → content (written slots (slot p i (spare kept)) page) p i kept ≡ content slots p i kept
kept_stays slots p i page None = refl
kept_stays slots p i page (Some b) = not_written slots (slot p i (spare (Some b))) page (slot p i b) (other_slot p i b)

-- ---- lists of pages

-- a page written at another place, or at a lower number, is none of these
pub pages_elsewhere : (slots : Slots) (q i : ℕ) (b : Which) (page : List ℕ) (p : ℕ) (which : Held → Option Which) (j : ℕ) (table : List Held) → p < 4194304 → q < 4194304 → ((p ≡ q → ⊥) ⊎ (i < j))
    → pages_from (written slots (slot q i b) page) p which j table ≡ pages_from slots p which j table
pages_elsewhere slots q i b page p which j [] hp hq other = refl
pages_elsewhere slots q i b page p which j (held ∷ rest) hp hq other =
    λ k. numbered j (elsewhere slots q i b page p j (which held) hp hq (here other) k) (pages_elsewhere slots q i b page p which (j + 1) rest hp hq (later other) k)
  where
    here : ((p ≡ q → ⊥) ⊎ (i < j)) → (p ≡ q → ⊥) ⊎ (j ≡ i → ⊥)
    here (inl o) = inl o
    here (inr h) = inr (λ e. omega arith)

    later : ((p ≡ q → ⊥) ⊎ (i < j)) → (p ≡ q → ⊥) ⊎ (i < j + 1)
    later (inl o) = inl o
    later (inr h) = inr (omega arith)

put_first : (slots : Slots) (p : ℕ) (which : Held → Option Which) (k : ℕ) (page : List ℕ) (j : ℕ) (table : List Held) → k < j
    → put nat_cmp k page (pages_from slots p which j table) ≡ (k, page) ∷ pages_from slots p which j table
put_first slots p which k page j [] h = refl
put_first slots p which k page j (held ∷ rest) h = by_content (put_first slots p which k page (j + 1) rest (omega arith)) (content slots p j (which held))
  where
    by_content : put nat_cmp k page (pages_from slots p which (j + 1) rest) ≡ (k, page) ∷ pages_from slots p which (j + 1) rest → (o : Option (List ℕ)) → put nat_cmp k page (numbered j o (pages_from slots p which (j + 1) rest)) ≡ (k, page) ∷ numbered j o (pages_from slots p which (j + 1) rest)
    by_content more None = more
    by_content more (Some other) = rw (below k j h) refl

put_head : (k : ℕ) (page : List ℕ) (o : Option (List ℕ)) (pages : List (ℕ × List ℕ)) → put nat_cmp k page pages ≡ (k, page) ∷ pages → put nat_cmp k page (numbered k o pages) ≡ (k, page) ∷ pages
put_head k page None pages h = h
put_head k page (Some other) pages h = rw (equal k) refl

put_later : (k i : ℕ) (page : List ℕ) (o : Option (List ℕ)) (pages : List (ℕ × List ℕ)) → k < i → put nat_cmp i page (numbered k o pages) ≡ numbered k o (put nat_cmp i page pages)
put_later k i page None pages h = refl
put_later k i page (Some other) pages h = rw (above k i h) refl

-- the uncommitted account after a put
pub now_after : (slots : Slots) (p : ℕ) (page : List ℕ) (k i n : ℕ) (table : List Held) → p < 4194304 → n ≡ k + i → i < length table
    → pages_from (written slots (slot p n (spare (get_or table i absent).kept)) page) p (λ (h : Held). h.now) k (set table i (put_in (get_or table i absent)))
    ≡ put nat_cmp n page (pages_from slots p (λ (h : Held). h.now) k table)
now_after slots p page k i n [] hp e h = absurd (omega arith)
now_after slots p page k zero n (held ∷ rest) hp e h =
    let at : n ≡ k = omega arith in
    let b : Which = spare held.kept in
    let tail : pages_from (written slots (slot p k b) page) p (λ (x : Held). x.now) (k + 1) rest ≡ pages_from slots p (λ (x : Held). x.now) (k + 1) rest =
    pages_elsewhere slots p k b page p (λ (x : Held). x.now) (k + 1) rest hp hp (inr (omega arith)) in
    let goal : ℕ → Type 0 = λ m. pages_from (written slots (slot p m b) page) p (λ (x : Held). x.now) k (put_in held ∷ rest) ≡ put nat_cmp m page (pages_from slots p (λ (x : Held). x.now) k (held ∷ rest)) in
    let at_k : goal k = (λ j. numbered k (was_written slots (slot p k b) page j) (tail j))
    ∙ sym (put_head k page (content slots p k held.now) (pages_from slots p (λ (x : Held). x.now) (k + 1) rest) (put_first slots p (λ (x : Held). x.now) k page (k + 1) rest (omega arith))) in
    subst goal (sym at) at_k
now_after slots p page k (suc i) n (held ∷ rest) hp e h =
    let b : Which = spare (get_or rest i absent).kept in
    let head : content (written slots (slot p n b) page) p k held.now ≡ content slots p k held.now = elsewhere slots p n b page p k held.now hp hp (inr (λ d. omega arith)) in
    let tail : _ ≡ _ = now_after slots p page (k + 1) i n rest hp (omega arith) (omega arith) in
    (λ j. numbered k (head j) (tail j)) ∙ sym (put_later k n page (content slots p k held.now) (pages_from slots p (λ (x : Held). x.now) (k + 1) rest) (omega arith))

-- the committed account after a put
pub kept_after : (slots : Slots) (p : ℕ) (page : List ℕ) (k i n : ℕ) (table : List Held) → p < 4194304 → n ≡ k + i → i < length table
    → pages_from (written slots (slot p n (spare (get_or table i absent).kept)) page) p (λ (h : Held). h.kept) k (set table i (put_in (get_or table i absent)))
    ≡ pages_from slots p (λ (h : Held). h.kept) k table
kept_after slots p page k i n [] hp e h = refl
kept_after slots p page k zero n (held ∷ rest) hp e h =
    let at : n ≡ k = omega arith in
    let b : Which = spare held.kept in
    let goal : ℕ → Type 0 = λ m. pages_from (written slots (slot p m b) page) p (λ (x : Held). x.kept) k (put_in held ∷ rest) ≡ pages_from slots p (λ (x : Held). x.kept) k (held ∷ rest) in
    let at_k : goal k = λ j. numbered k (kept_stays slots p k page held.kept j) (pages_elsewhere slots p k b page p (λ (x : Held). x.kept) (k + 1) rest hp hp (inr (omega arith)) j) in
    subst goal (sym at) at_k
kept_after slots p page k (suc i) n (held ∷ rest) hp e h =
    let b : Which = spare (get_or rest i absent).kept in
    let head : content (written slots (slot p n b) page) p k held.kept ≡ content slots p k held.kept = elsewhere slots p n b page p k held.kept hp hp (inr (λ d. omega arith)) in
    λ j. numbered k (head j) (kept_after slots p page (k + 1) i n rest hp (omega arith) (omega arith) j)

-- ---- rows without pages

no_more : (slots : Slots) (p : ℕ) (which : Held → Option Which) (k n : ℕ) → which absent ≡ None → pages_from slots p which k (replicate n absent) ≡ []
no_more slots p which k zero e = refl
no_more slots p which k (suc n) e = (λ j. numbered k (content slots p k (e j)) (pages_from slots p which (k + 1) (replicate n absent))) ∙ no_more slots p which (k + 1) n e

pages_grown : (slots : Slots) (p : ℕ) (which : Held → Option Which) (k n : ℕ) (table : List Held) → which absent ≡ None → pages_from slots p which k (table ++ replicate n absent) ≡ pages_from slots p which k table
pages_grown slots p which k n [] e = no_more slots p which k n e
pages_grown slots p which k n (held ∷ rest) e = ap (numbered k (content slots p k (which held))) (pages_grown slots p which (k + 1) n rest e)

pub account_grown : (slots : Slots) (p : ℕ) (table : List Held) (i : ℕ) → account_at slots p (grown table i) ≡ account_at slots p table
account_grown slots p table i = λ j. record {
  now = pages_grown slots p (λ (h : Held). h.now) 0 (i + 1 - length table) table refl j;
  kept = pages_grown slots p (λ (h : Held). h.kept) 0 (i + 1 - length table) table refl j;
}

empty_row : (n k : ℕ) → get_or (replicate n absent) k absent ≡ absent
empty_row zero k = refl
empty_row (suc n) zero = refl
empty_row (suc n) (suc k) = empty_row n k

row_more : (table : List Held) (n k : ℕ) → get_or (table ++ replicate n absent) k absent ≡ get_or table k absent
row_more [] n k = empty_row n k
row_more (held ∷ rest) n zero = refl
row_more (held ∷ rest) n (suc k) = row_more rest n k

pub row_grown : (table : List Held) (i k : ℕ) → get_or (grown table i) k absent ≡ get_or table k absent
row_grown table i k = row_more table (i + 1 - length table) k

length_more : (table : List Held) (n : ℕ) → length (table ++ replicate n absent) ≡ length table + n
length_more [] zero = refl
length_more [] (suc n) = ap suc (length_more [] n) ∙ omega arith
length_more (held ∷ rest) n = ap suc (length_more rest n) ∙ omega arith

pub has_row : (table : List Held) (i : ℕ) → i < length (grown table i)
has_row table i = omega (arith, length_more table (i + 1 - length table))

-- ---- the whole account

-- a page was put
pub account_put : (slots : Slots) (p i : ℕ) (page : List ℕ) (table : List Held) → p < 4194304
    → account_at (written slots (slot p i (spare (get_or table i absent).kept)) page) p (set (grown table i) i (put_in (get_or table i absent))) ≡ with_page i page (account_at slots p table)
account_put slots p i page table hp =
    let row : get_or (grown table i) i absent ≡ get_or table i absent = row_grown table i i in
    let family : Held → Type 0 = λ held. account_at (written slots (slot p i (spare held.kept)) page) p (set (grown table i) i (put_in held)) ≡ with_page i page (account_at slots p table) in
    let more : Account ≡ Account = refl in
    let at_grown : family (get_or (grown table i) i absent) =
    (λ j. record {
      now = now_after slots p page 0 i i (grown table i) hp (omega arith) (has_row table i) j;
      kept = kept_after slots p page 0 i i (grown table i) hp (omega arith) (has_row table i) j;
    }) ∙ ap (with_page i page) (account_grown slots p table i) in
    subst family row at_grown

-- a page of another process was put
pub account_elsewhere : (slots : Slots) (q i : ℕ) (b : Which) (page : List ℕ) (p : ℕ) (table : List Held) → p < 4194304 → q < 4194304 → (p ≡ q → ⊥)
    → account_at (written slots (slot q i b) page) p table ≡ account_at slots p table
account_elsewhere slots q i b page p table hp hq other = λ j. record {
  now = pages_elsewhere slots q i b page p (λ (h : Held). h.now) 0 table hp hq (inl other) j;
  kept = pages_elsewhere slots q i b page p (λ (h : Held). h.kept) 0 table hp hq (inl other) j;
}

now_settled : (slots : Slots) (p k : ℕ) (table : List Held) → pages_from slots p (λ (h : Held). h.now) k (map settled table) ≡ pages_from slots p (λ (h : Held). h.now) k table
now_settled slots p k [] = refl
now_settled slots p k (held ∷ rest) = ap (numbered k (content slots p k held.now)) (now_settled slots p (k + 1) rest)

kept_settled : (slots : Slots) (p k : ℕ) (table : List Held) → pages_from slots p (λ (h : Held). h.kept) k (map settled table) ≡ pages_from slots p (λ (h : Held). h.now) k table
kept_settled slots p k [] = refl
kept_settled slots p k (held ∷ rest) = ap (numbered k (content slots p k held.now)) (kept_settled slots p (k + 1) rest)

now_restored : (slots : Slots) (p k : ℕ) (table : List Held) → pages_from slots p (λ (h : Held). h.now) k (map restored table) ≡ pages_from slots p (λ (h : Held). h.kept) k table
now_restored slots p k [] = refl
now_restored slots p k (held ∷ rest) = ap (numbered k (content slots p k held.kept)) (now_restored slots p (k + 1) rest)

kept_restored : (slots : Slots) (p k : ℕ) (table : List Held) → pages_from slots p (λ (h : Held). h.kept) k (map restored table) ≡ pages_from slots p (λ (h : Held). h.kept) k table
kept_restored slots p k [] = refl
kept_restored slots p k (held ∷ rest) = ap (numbered k (content slots p k held.kept)) (kept_restored slots p (k + 1) rest)

pub account_settled : (slots : Slots) (p : ℕ) (table : List Held) → account_at slots p (map settled table) ≡ committed (account_at slots p table)
account_settled slots p table = λ j. record { now = now_settled slots p 0 table j; kept = kept_settled slots p 0 table j }

pub account_restored : (slots : Slots) (p : ℕ) (table : List Held) → account_at slots p (map restored table) ≡ reverted (account_at slots p table)
account_restored slots p table = λ j. record { now = now_restored slots p 0 table j; kept = kept_restored slots p 0 table j }

-- ---- look-ups

find_first : (slots : Slots) (p : ℕ) (which : Held → Option Which) (k j : ℕ) (table : List Held) → k < j → find nat_cmp k (pages_from slots p which j table) ≡ None
find_first slots p which k j [] h = refl
find_first slots p which k j (held ∷ rest) h = by_content (find_first slots p which k (j + 1) rest (omega arith)) (content slots p j (which held))
  where
    by_content : find nat_cmp k (pages_from slots p which (j + 1) rest) ≡ None → (o : Option (List ℕ)) → find nat_cmp k (numbered j o (pages_from slots p which (j + 1) rest)) ≡ None
    by_content more None = more
    by_content more (Some page) = rw (below k j h) more

-- the page with a number is what lies in the slot that the account holds
pub find_page : (slots : Slots) (p : ℕ) (which : Held → Option Which) (k i n : ℕ) (table : List Held) → which absent ≡ None → n ≡ k + i
    → find nat_cmp n (pages_from slots p which k table) ≡ content slots p n (which (get_or table i absent))
find_page slots p which k i n [] none e = ap (content slots p n) (sym none)
find_page slots p which k zero n (held ∷ rest) none e =
    let at : n ≡ k = omega arith in
    let goal : ℕ → Type 0 = λ m. find nat_cmp m (pages_from slots p which k (held ∷ rest)) ≡ content slots p m (which held) in
    subst goal (sym at) (by_content (content slots p k (which held)))
  where
    by_content : (o : Option (List ℕ)) → find nat_cmp k (numbered k o (pages_from slots p which (k + 1) rest)) ≡ o
    by_content None = find_first slots p which k (k + 1) rest (omega arith)
    by_content (Some page) = rw (equal k) refl
find_page slots p which k (suc i) n (held ∷ rest) none e = by_content (content slots p k (which held)) ∙ find_page slots p which (k + 1) i n rest none (omega arith)
  where
    by_content : (o : Option (List ℕ)) → find nat_cmp n (numbered k o (pages_from slots p which (k + 1) rest)) ≡ find nat_cmp n (pages_from slots p which (k + 1) rest)
    by_content None = refl
    by_content (Some page) = let later : k < n = omega arith in rw (above k n later) refl
