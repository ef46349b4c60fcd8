-- What the accounts of all processes are after one of them changed.
use Rattle.std.proofs.Common.{◌≡◌, ℕ, zero, suc, ◌<◌, ◌≤◌, true, false, cond, eqb, List, [], ◌∷◌, map, length, get_or, set, refl, sym, ap, ◌∙◌, subst, arith, ◌⊎◌, inl, inr, Option, Some, None, IsSome, is_some, option_map, unwrap_or, Result, Ok, Err}
use Rattle.std.proofs.lemmas.Bool.Decides.{nat_tests}
use Rattle.std.proofs.lemmas.List.{get_or-set_same, get_or-set_other}
use Rattle.std.specs.Ordering.{nat_cmp, is_eq}
use Rattle.std.specs.BTreeMap.{get, is_at}
use Rattle.std.specs.Map.{lookup}
use Rattle.std.specs.FinMap.{find}
use Rattle.t32_base.specs.declared.process.Pid.{Pid}
use Rattle.page_server.specs.declared.disk.DiskRefused.{DiskRefused}
use Rattle.page_server.specs.declared.pages.Pages.{Pages}
use Rattle.page_server.specs.declared.table.Held.{Held}
use Rattle.page_server.specs.declared.table.Which.{Which}
use Rattle.page_server.specs.Disk.{Slots, written}
use Rattle.std.proofs.lemmas.Bool.{false≢true}
use Rattle.page_server.specs.Account.{Account, no_pages, page_in, with_page, pid_cmp, PagerState, AccountsAfterPut}
use Rattle.page_server.specs.Slots.{slot, absent, spare, content, account_at, grown, put_in, settled, restored}
use Rattle.page_server.specs.Places.{Processes, account_of, accounts_of, account_in, Owned, IsThere, AllThere, EachThere, Becomes, Admits, Puts, with_rows, ChangesRows, slot_held, kept_slot, now_slot}
use Rattle.page_server.proofs.AccountLaws.{was_written, still_there, account_put, account_grown, account_elsewhere, row_grown, has_row, find_page}
use Rattle.page_server.proofs.Owners.{in_owners}

-- ---- tests of pids

pub same_or_not : (q pid : ℕ) → (q ≡ pid) ⊎ (q ≡ pid → ⊥)
same_or_not q pid = grind arith

pub test_same : (q pid : ℕ) → q ≡ pid → eqb q pid ≡ true
test_same q pid e = grind (arith, nat_tests)

pub test_other : (q pid : ℕ) → (q ≡ pid → ⊥) → eqb q pid ≡ false
test_other q pid other = grind (arith, nat_tests)

pub at_same : (q pid : ℕ) → q ≡ pid → is_eq (nat_cmp pid q) ≡ true
at_same q pid e = grind (arith, nat_tests)

pub at_other : (q pid : ℕ) → (q ≡ pid → ⊥) → is_eq (nat_cmp pid q) ≡ false
at_other q pid other = grind (arith, nat_tests)

pub became : (m n : Processes) (pid : ℕ) (w : Option Pages) → Becomes m n pid w → (q : ℕ) → q ≡ pid → get nat_cmp n q ≡ w
became m n pid w b q e = b q ∙ ap (λ t. cond t w (get nat_cmp m q)) (at_same q pid e)

pub stayed : (m n : Processes) (pid : ℕ) (w : Option Pages) → Becomes m n pid w → (q : ℕ) → (q ≡ pid → ⊥) → get nat_cmp n q ≡ get nat_cmp m q
stayed m n pid w b q other = b q ∙ ap (λ t. cond t w (get nat_cmp m q)) (at_other q pid other)

-- ---- look-ups by pid

looked_up : (slots : Slots) (p : Pid) (es : List (ℕ × Pages)) → unwrap_or (find pid_cmp p (accounts_of slots es)) no_pages ≡ account_in slots (lookup (is_at (nat_cmp p.0)) es)
looked_up slots p [] = refl
looked_up slots p (e ∷ es) =
    elim (is_eq (nat_cmp p.0 e.0)) as (λ b. unwrap_or (cond b (Some (account_of slots e.1)) (find pid_cmp p (accounts_of slots es))) no_pages ≡ account_in slots (cond b (Some e.1) (lookup (is_at (nat_cmp p.0)) es))) [
      | true ↦ refl
      | false ↦ looked_up slots p es
    ]

pub account_from : (slots : Slots) (m : Processes) (accounts : List (Pid × Account)) → accounts ≡ accounts_of slots m.entries → (p : Pid)
    → unwrap_or (find pid_cmp p accounts) no_pages ≡ account_in slots (get nat_cmp m p.0)
account_from slots m accounts e p = ap (λ a. unwrap_or (find pid_cmp p a) no_pages) e ∙ looked_up slots p m.entries

abbrev ChangesIn : Slots → Slots → Processes → Processes → ℕ → (Account → Account) → Type 0
ChangesIn before after m n pid f = (q : ℕ) → account_in after (get nat_cmp n q) ≡ cond (eqb q pid) (f (account_in before (get nat_cmp m q))) (account_in before (get nat_cmp m q))

-- what is said of the accounts by pid, of the lists that hold them
pub changes : (before after : Slots) (m n : Processes) (olds : List (Pid × Account)) → olds ≡ accounts_of before m.entries → (pid : Pid) (f : Account → Account) → ChangesIn before after m n pid.0 f
    → (p : Pid) → unwrap_or (find pid_cmp p (accounts_of after n.entries)) no_pages ≡ cond (eqb p.0 pid.0) (f (unwrap_or (find pid_cmp p olds) no_pages)) (unwrap_or (find pid_cmp p olds) no_pages)
changes before after m n olds e pid f h p =
    looked_up after p n.entries ∙ h p.0 ∙ ap (λ a. cond (eqb p.0 pid.0) (f a) a) (sym (account_from before m olds e p))

pub sames : (before after : Slots) (m n : Processes) (olds : List (Pid × Account)) → olds ≡ accounts_of before m.entries
    → ((q : ℕ) → account_in after (get nat_cmp n q) ≡ account_in before (get nat_cmp m q))
    → (p : Pid) → unwrap_or (find pid_cmp p (accounts_of after n.entries)) no_pages ≡ unwrap_or (find pid_cmp p olds) no_pages
sames before after m n olds e h p = looked_up after p n.entries ∙ h p.0 ∙ sym (account_from before m olds e p)

by_pid : (q pid : ℕ) (f : Account → Account) (a b : Account) → (q ≡ pid → b ≡ f a) → ((q ≡ pid → ⊥) → b ≡ a) → b ≡ cond (eqb q pid) (f a) a
by_pid q pid f a b here there = by_test (same_or_not q pid)
  where
    by_test : ((q ≡ pid) ⊎ (q ≡ pid → ⊥)) → b ≡ cond (eqb q pid) (f a) a
    by_test (inl e) = here e ∙ ap (λ t. cond t (f a) a) (sym (test_same q pid e))
    by_test (inr other) = there other ∙ ap (λ t. cond t (f a) a) (sym (test_other q pid other))

-- ---- a process that goes

pub gone : (slots : Slots) (m n : Processes) (pid : ℕ) → Becomes m n pid None → ChangesIn slots slots m n pid (λ _. no_pages)
gone slots m n pid b q = by_pid q pid (λ _. no_pages) (account_in slots (get nat_cmp m q)) (account_in slots (get nat_cmp n q))
    (λ e. ap (account_in slots) (became m n pid None b q e))
    (λ other. ap (account_in slots) (stayed m n pid None b q other))

none_not_some : (pages : Pages) → None ≡ Some pages → ⊥
none_not_some pages e = cc

some_same : (x y : Pages) → Some x ≡ Some y → x ≡ y
some_same x y e = ap (λ o. unwrap_or o x) e

-- ---- rows that change

-- a change of rows that takes each slot from the row
pub record Moves (change : Held → Held) : Type 0 where
  pub now : (slots : Slots) (place i : ℕ) (held : Held) → IsThere slots place i held.now → IsThere slots place i held.kept → IsThere slots place i (change held).now
  pub kept : (slots : Slots) (place i : ℕ) (held : Held) → IsThere slots place i held.now → IsThere slots place i held.kept → IsThere slots place i (change held).kept
  pub none : change absent ≡ absent

pub settled-moves : Moves settled
settled-moves = record { now = λ slots place i held a b. a; kept = λ slots place i held a b. a; none = refl }

pub restored-moves : Moves restored
restored-moves = record { now = λ slots place i held a b. b; kept = λ slots place i held a b. b; none = refl }

row_changed : (change : Held → Held) → change absent ≡ absent → (table : List Held) (i : ℕ) → get_or (map change table) i absent ≡ change (get_or table i absent)
row_changed change e [] i = sym e
row_changed change e (held ∷ rest) zero = refl
row_changed change e (held ∷ rest) (suc i) = row_changed change e rest i

pub rows_changed : (slots : Slots) (m n : Processes) (pid : ℕ) (change : Held → Held) (f : Account → Account)
    → f no_pages ≡ no_pages → ((place : ℕ) (table : List Held) → account_at slots place (map change table) ≡ f (account_at slots place table))
    → ChangesRows m n pid change → ChangesIn slots slots m n pid f
rows_changed slots m n pid change f empty whole b q = by_pid q pid f (account_in slots (get nat_cmp m q)) (account_in slots (get nat_cmp n q))
    (λ e. ap (account_in slots) (became m n pid _ b q e) ∙ by_found (get nat_cmp m pid) ∙ ap (λ k. f (account_in slots (get nat_cmp m k))) (sym e))
    (λ other. ap (account_in slots) (stayed m n pid _ b q other))
  where
    by_found : (o : Option Pages) → account_in slots (option_map (with_rows change) o) ≡ f (account_in slots o)
    by_found None = sym empty
    by_found (Some pages) = whole pages.place pages.table

-- what was found after the change was there before it, at the same place
was_there : (change : Held → Held) (o : Option Pages) (pages : Pages) → option_map (with_rows change) o ≡ Some pages → (was : Pages) × (o ≡ Some was) × (with_rows change was ≡ pages)
was_there change None pages e = absurd (none_not_some pages e)
was_there change (Some was) pages e = (was, refl, some_same (with_rows change was) pages e)

pub rows_owned : (m n : Processes) (owners : List (Option ℕ)) (pid : ℕ) (change : Held → Held) → ChangesRows m n pid change → Owned m owners → Owned n owners
rows_owned m n owners pid change b own = record { few = own.few; owned = λ q pages found. by_test q pages found (same_or_not q pid) }
  where
    by_test : (q : ℕ) (pages : Pages) → get nat_cmp n q ≡ Some pages → ((q ≡ pid) ⊎ (q ≡ pid → ⊥)) → get_or owners pages.place None ≡ Some q
    by_test q pages found (inl e) =
        let w = was_there change (get nat_cmp m pid) pages (sym (became m n pid _ b q e) ∙ found) in
        ap (λ (x : Pages). get_or owners x.place None) (sym w.2) ∙ own.owned pid w.0 w.1 ∙ ap Some (sym e)
    by_test q pages found (inr other) = own.owned q pages (sym (stayed m n pid _ b q other) ∙ found)

pub rows_there : (slots : Slots) (m n : Processes) (pid : ℕ) (change : Held → Held) → Moves change → ChangesRows m n pid change → EachThere slots m → EachThere slots n
rows_there slots m n pid change moves b there q pages found = by_test (same_or_not q pid)
  where
    moved : (was : Pages) → AllThere slots was.place was.table → AllThere slots was.place (map change was.table)
    moved was all i =
        let row : get_or (map change was.table) i absent ≡ change (get_or was.table i absent) = row_changed change moves.none was.table i in (
          subst (λ (h : Held). IsThere slots was.place i h.now) (sym row) (moves.now slots was.place i (get_or was.table i absent) (all i).0 (all i).1),
          subst (λ (h : Held). IsThere slots was.place i h.kept) (sym row) (moves.kept slots was.place i (get_or was.table i absent) (all i).0 (all i).1),
        )

    by_test : ((q ≡ pid) ⊎ (q ≡ pid → ⊥)) → AllThere slots pages.place pages.table
    by_test (inl e) =
        let w = was_there change (get nat_cmp m pid) pages (sym (became m n pid _ b q e) ∙ found) in
        subst (λ (x : Pages). AllThere slots x.place x.table) w.2 (moved w.0 (there pid w.0 w.1))
    by_test (inr other) = there q pages (sym (stayed m n pid _ b q other) ∙ found)

-- ---- a process that came without pages

pub admitted : (slots : Slots) (m n : Processes) → Admits m n → (q : ℕ) → account_in slots (get nat_cmp n q) ≡ account_in slots (get nat_cmp m q)
admitted slots m n a q = by_case (a q)
  where
    by_case : ((get nat_cmp n q ≡ get nat_cmp m q) ⊎ ((get nat_cmp m q ≡ None) × ((pages : Pages) × (get nat_cmp n q ≡ Some pages) × (pages.table ≡ []))))
        → account_in slots (get nat_cmp n q) ≡ account_in slots (get nat_cmp m q)
    by_case (inl e) = ap (account_in slots) e
    by_case (inr (none, (pages, found, empty))) =
        ap (account_in slots) found ∙ ap (account_at slots pages.place) empty ∙ ap (account_in slots) (sym none)

none_there : (slots : Slots) (place : ℕ) → AllThere slots place []
none_there slots place i = (tt, tt)

pub admitted_there : (slots : Slots) (m n : Processes) → Admits m n → EachThere slots m → EachThere slots n
admitted_there slots m n a there q pages found = by_case (a q)
  where
    by_case : ((get nat_cmp n q ≡ get nat_cmp m q) ⊎ ((get nat_cmp m q ≡ None) × ((new : Pages) × (get nat_cmp n q ≡ Some new) × (new.table ≡ [])))) → AllThere slots pages.place pages.table
    by_case (inl e) = there q pages (sym e ∙ found)
    by_case (inr (none, (new, here, empty))) =
        let same : new ≡ pages = some_same new pages (sym here ∙ found) in
        subst (λ (x : Pages). AllThere slots x.place x.table) same (subst (AllThere slots new.place) (sym empty) (none_there slots new.place))

-- ---- a page that is put

pub place_few : (m : Processes) (owners : List (Option ℕ)) → Owned m owners → (pid : ℕ) (pages : Pages) → get nat_cmp m pid ≡ Some pages → pages.place < 4194304
place_few m owners own pid pages found =
    let within : pages.place < length owners = in_owners owners pages.place pid (own.owned pid pages found) in
    let few : length owners ≤ 4194304 = own.few in
    omega arith

some_pid : (a b : ℕ) → Some a ≡ Some b → a ≡ b
some_pid a b e = ap (λ o. unwrap_or o a) e

-- two processes have two places
places_differ : (m : Processes) (owners : List (Option ℕ)) → Owned m owners → (p q : ℕ) (a b : Pages) → get nat_cmp m p ≡ Some a → get nat_cmp m q ≡ Some b → (p ≡ q → ⊥) → a.place ≡ b.place → ⊥
places_differ m owners own p q a b at_p at_q other same =
    other (some_pid p q (sym (own.owned p a at_p) ∙ ap (λ k. get_or owners k None) same ∙ own.owned q b at_q))

pub put_owned : (m n : Processes) (owners : List (Option ℕ)) (before after : Slots) (pid i : ℕ) (page : List ℕ) (r : Result (Unit {0}) DiskRefused) → Puts m n before after pid i page r → Owned m owners → Owned n owners
put_owned m n owners before after pid i page r u own = record { few = own.few; owned = λ q pages found. by_test q pages found (same_or_not q pid) }
  where
    by_test : (q : ℕ) (pages : Pages) → get nat_cmp n q ≡ Some pages → ((q ≡ pid) ⊎ (q ≡ pid → ⊥)) → get_or owners pages.place None ≡ Some q
    by_test q pages found (inl e) =
        let same : u.now ≡ pages = some_same u.now pages (sym (became m n pid (Some u.now) u.becomes q e) ∙ found) in
        ap (λ (x : Pages). get_or owners x.place None) (sym same) ∙ ap (λ k. get_or owners k None) u.place ∙ own.owned pid u.was u.found ∙ ap Some (sym e)
    by_test q pages found (inr other) = own.owned q pages (sym (stayed m n pid (Some u.now) u.becomes q other) ∙ found)

-- the accounts after a page was put
pub put_changes : (m n : Processes) (owners : List (Option ℕ)) (before after : Slots) (pid i : ℕ) (page : List ℕ) (d : Unit {0}) → Owned m owners → Puts m n before after pid i page (Ok d) → ChangesIn before after m n pid (with_page i page)
put_changes m n owners before after pid i page d own u q = by_pid q pid (with_page i page) (account_in before (get nat_cmp m q)) (account_in after (get nat_cmp n q)) here there
  where
    few : u.was.place < 4194304
    few = place_few m owners own pid u.was u.found

    at : ℕ
    at = slot u.was.place i (spare (get_or u.was.table i absent).kept)

    here : q ≡ pid → account_in after (get nat_cmp n q) ≡ with_page i page (account_in before (get nat_cmp m q))
    here e =
        ap (account_in after) (became m n pid (Some u.now) u.becomes q e)
        ∙ (λ j. account_at (u.slots j) (u.place j) (u.table j))
        ∙ account_put before u.was.place i page u.was.table few
        ∙ ap (λ o. with_page i page (account_in before o)) (sym (ap (get nat_cmp m) e ∙ u.found))

    other_one : (q ≡ pid → ⊥) → (o : Option Pages) → get nat_cmp m q ≡ o → account_in after o ≡ account_in before o
    other_one other None found = refl
    other_one other (Some pages) found =
        ap (λ s. account_at s pages.place pages.table) u.slots
        ∙ account_elsewhere before u.was.place i (spare (get_or u.was.table i absent).kept) page pages.place pages.table (place_few m owners own q pages found) few
        (places_differ m owners own q pid pages u.was found u.found other)

    there : (q ≡ pid → ⊥) → account_in after (get nat_cmp n q) ≡ account_in before (get nat_cmp m q)
    there other = ap (account_in after) (stayed m n pid (Some u.now) u.becomes q other) ∙ other_one other (get nat_cmp m q) refl

-- a refused one changes nothing
pub put_refused : (m n : Processes) (before after : Slots) (pid i : ℕ) (page : List ℕ) (e : DiskRefused) → Puts m n before after pid i page (Err e)
    → (q : ℕ) → account_in after (get nat_cmp n q) ≡ account_in before (get nat_cmp m q)
put_refused m n before after pid i page refused u q = by_test (same_or_not q pid)
  where
    by_table : (u.now.table ≡ u.was.table) ⊎ (u.now.table ≡ grown u.was.table i) → account_at before u.was.place u.now.table ≡ account_at before u.was.place u.was.table
    by_table (inl e) = ap (account_at before u.was.place) e
    by_table (inr e) = ap (account_at before u.was.place) e ∙ account_grown before u.was.place u.was.table i

    by_test : ((q ≡ pid) ⊎ (q ≡ pid → ⊥)) → account_in after (get nat_cmp n q) ≡ account_in before (get nat_cmp m q)
    by_test (inl e) =
        ap (account_in after) (became m n pid (Some u.now) u.becomes q e)
        ∙ (λ j. account_at (u.slots j) (u.place j) u.now.table)
        ∙ by_table u.table
        ∙ ap (account_in before) (sym (ap (get nat_cmp m) e ∙ u.found))
    by_test (inr other) = (λ j. account_in (u.slots j) (stayed m n pid (Some u.now) u.becomes q other j))

put_row : (table : List Held) (i k : ℕ) → k ≡ i → get_or (set (grown table i) i (put_in (get_or table i absent))) k absent ≡ put_in (get_or table i absent)
put_row table i k e = ap (λ n. get_or (set (grown table i) i (put_in (get_or table i absent))) n absent) e ∙ get_or-set_same (grown table i) i (put_in (get_or table i absent)) absent (has_row table i)

other_row : (table : List Held) (i k : ℕ) → (k ≡ i → ⊥) → get_or (set (grown table i) i (put_in (get_or table i absent))) k absent ≡ get_or table k absent
other_row table i k other = get_or-set_other (grown table i) i k (put_in (get_or table i absent)) absent other ∙ row_grown table i k

is_some_of : (o : Option (List ℕ)) (page : List ℕ) → o ≡ Some page → IsSome o
is_some_of o page e = ap is_some e

there_after : (slots : Slots) (at : ℕ) (page : List ℕ) (place i : ℕ) (which : Option Which) → IsThere slots place i which → IsThere (written slots at page) place i which
there_after slots at page place i None h = tt
there_after slots at page place i (Some b) h = still_there slots at page (slot place i b) h

table_there : (slots : Slots) (place i : ℕ) (page : List ℕ) (table : List Held) → AllThere slots place table
    → AllThere (written slots (slot place i (spare (get_or table i absent).kept)) page) place (set (grown table i) i (put_in (get_or table i absent)))
table_there slots place i page table all k = by_row (same_or_not k i)
  where
    at : ℕ
    at = slot place i (spare (get_or table i absent).kept)

    after : List Held
    after = set (grown table i) i (put_in (get_or table i absent))

    fact : ℕ → Held → Type 0
    fact n h = IsThere (written slots at page) place n h.now × IsThere (written slots at page) place n h.kept

    here : fact i (put_in (get_or table i absent))
    here = (is_some_of (written slots at page at) page (was_written slots at page), there_after slots at page place i (get_or table i absent).kept (all i).1)

    by_row : ((k ≡ i) ⊎ (k ≡ i → ⊥)) → fact k (get_or after k absent)
    by_row (inl e) = subst (fact k) (sym (put_row table i k e)) (subst (λ n. fact n (put_in (get_or table i absent))) (sym e) here)
    by_row (inr other) = subst (fact k) (sym (other_row table i k other)) (there_after slots at page place k (get_or table k absent).now (all k).0, there_after slots at page place k (get_or table k absent).kept (all k).1)

all_there_after : (slots : Slots) (at : ℕ) (page : List ℕ) (place : ℕ) (table : List Held) → AllThere slots place table → AllThere (written slots at page) place table
all_there_after slots at page place table all k =
    (there_after slots at page place k (get_or table k absent).now (all k).0, there_after slots at page place k (get_or table k absent).kept (all k).1)

grown_there : (slots : Slots) (place i : ℕ) (table : List Held) → AllThere slots place table → AllThere slots place (grown table i)
grown_there slots place i table all k =
    subst (λ (h : Held). IsThere slots place k h.now × IsThere slots place k h.kept) (sym (row_grown table i k)) (all k)

pub put_there : (m n : Processes) (before after : Slots) (pid i : ℕ) (page : List ℕ) (r : Result (Unit {0}) DiskRefused) → Puts m n before after pid i page r → EachThere before m → EachThere after n
put_there m n before after pid i page (Ok d) u there q pages found = by_test (same_or_not q pid)
  where
    at : ℕ
    at = slot u.was.place i (spare (get_or u.was.table i absent).kept)

    by_test : ((q ≡ pid) ⊎ (q ≡ pid → ⊥)) → AllThere after pages.place pages.table
    by_test (inl e) =
        let same : u.now ≡ pages = some_same u.now pages (sym (became m n pid (Some u.now) u.becomes q e) ∙ found) in
        let here : AllThere (written before at page) u.was.place (set (grown u.was.table i) i (put_in (get_or u.was.table i absent))) = table_there before u.was.place i page u.was.table (there pid u.was u.found) in
        subst (λ (x : Pages). AllThere after x.place x.table) same
        (subst (λ s. AllThere s u.now.place u.now.table) (sym u.slots)
        (subst (λ k. AllThere (written before at page) k u.now.table) (sym u.place)
        (subst (AllThere (written before at page) u.was.place) (sym u.table) here)))
    by_test (inr other) =
        let was : get nat_cmp m q ≡ Some pages = sym (stayed m n pid (Some u.now) u.becomes q other) ∙ found in
        subst (λ s. AllThere s pages.place pages.table) (sym u.slots) (all_there_after before at page pages.place pages.table (there q pages was))
put_there m n before after pid i page (Err refused) u there q pages found = subst (λ s. AllThere s pages.place pages.table) (sym u.slots) (by_test (same_or_not q pid))
  where
    by_table : (u.now.table ≡ u.was.table) ⊎ (u.now.table ≡ grown u.was.table i) → AllThere before u.was.place u.now.table
    by_table (inl e) = subst (AllThere before u.was.place) (sym e) (there pid u.was u.found)
    by_table (inr e) = subst (AllThere before u.was.place) (sym e) (grown_there before u.was.place i u.was.table (there pid u.was u.found))

    by_test : ((q ≡ pid) ⊎ (q ≡ pid → ⊥)) → AllThere before pages.place pages.table
    by_test (inl e) =
        let same : u.now ≡ pages = some_same u.now pages (sym (became m n pid (Some u.now) u.becomes q e) ∙ found) in
        subst (λ (x : Pages). AllThere before x.place x.table) same (subst (λ k. AllThere before k u.now.table) (sym u.place) (by_table u.table))
    by_test (inr other) = there q pages (sym (stayed m n pid (Some u.now) u.becomes q other) ∙ found)

-- ---- the committed page

-- what lies in a slot, where there is one
abbrev pub at_slot : Slots → Option ℕ → Option (List ℕ)
at_slot slots None = None
at_slot slots (Some s) = slots s

slot_content : (slots : Slots) (place i : ℕ) (which : Option Which) → content slots place i which ≡ at_slot slots (slot_held place i which)
slot_content slots place i None = refl
slot_content slots place i (Some b) = refl

kept_page : (slots : Slots) (o : Option Pages) (i : ℕ) → page_in (account_in slots o).kept i ≡ at_slot slots (kept_slot o i)
kept_page slots None i = refl
kept_page slots (Some pages) i =
    find_page slots pages.place (λ (h : Held). h.kept) 0 i i pages.table refl (omega arith) ∙ slot_content slots pages.place i (get_or pages.table i absent).kept

-- the committed page of a process is what lies in the slot that its account holds
pub committed_page : (slots : Slots) (m : Processes) (accounts : List (Pid × Account)) → accounts ≡ accounts_of slots m.entries → (p : Pid) (i : ℕ)
    → page_in (unwrap_or (find pid_cmp p accounts) no_pages).kept i ≡ at_slot slots (kept_slot (get nat_cmp m p.0) i)
committed_page slots m accounts e p i = ap (λ (a : Account). page_in a.kept i) (account_from slots m accounts e p) ∙ kept_page slots (get nat_cmp m p.0) i

there_is : (slots : Slots) (place i : ℕ) (which : Option Which) → IsThere slots place i which → is_some (at_slot slots (slot_held place i which)) ≡ is_some (slot_held place i which)
there_is slots place i None h = refl
there_is slots place i (Some b) h = h

-- the slot that an account holds has a page
pub slot_is_there : (slots : Slots) (m : Processes) → EachThere slots m → (pid i : ℕ) → is_some (at_slot slots (kept_slot (get nat_cmp m pid) i)) ≡ is_some (kept_slot (get nat_cmp m pid) i)
slot_is_there slots m there pid i = by_found (get nat_cmp m pid) (there pid)
  where
    by_found : (o : Option Pages) → ((pages : Pages) → o ≡ Some pages → AllThere slots pages.place pages.table) → is_some (at_slot slots (kept_slot o i)) ≡ is_some (kept_slot o i)
    by_found None h = refl
    by_found (Some pages) h = there_is slots pages.place i (get_or pages.table i absent).kept (h pages refl i).1

-- so it is with the uncommitted page
now_page : (slots : Slots) (o : Option Pages) (i : ℕ) → page_in (account_in slots o).now i ≡ at_slot slots (now_slot o i)
now_page slots None i = refl
now_page slots (Some pages) i =
    find_page slots pages.place (λ (h : Held). h.now) 0 i i pages.table refl (omega arith) ∙ slot_content slots pages.place i (get_or pages.table i absent).now

pub uncommitted_page : (slots : Slots) (m : Processes) (accounts : List (Pid × Account)) → accounts ≡ accounts_of slots m.entries → (p : Pid) (i : ℕ)
    → page_in (unwrap_or (find pid_cmp p accounts) no_pages).now i ≡ at_slot slots (now_slot (get nat_cmp m p.0) i)
uncommitted_page slots m accounts e p i = ap (λ (a : Account). page_in a.now i) (account_from slots m accounts e p) ∙ now_page slots (get nat_cmp m p.0) i

pub now_is_there : (slots : Slots) (m : Processes) → EachThere slots m → (pid i : ℕ) → is_some (at_slot slots (now_slot (get nat_cmp m pid) i)) ≡ is_some (now_slot (get nat_cmp m pid) i)
now_is_there slots m there pid i = by_found (get nat_cmp m pid) (there pid)
  where
    by_found : (o : Option Pages) → ((pages : Pages) → o ≡ Some pages → AllThere slots pages.place pages.table) → is_some (at_slot slots (now_slot o i)) ≡ is_some (now_slot o i)
    by_found None h = refl
    by_found (Some pages) h = there_is slots pages.place i (get_or pages.table i absent).now (h pages refl i).0

pub not_nothing : (slots : Slots) (o : Option (List ℕ)) (s : Option ℕ) → o ≡ at_slot slots s → s ≡ None → IsSome o → ⊥
not_nothing slots o s e none h = false≢true (subst IsSome (e ∙ ap (at_slot slots) none) h)

-- the accounts after a page was put, or not, of a process that was admitted before
pub put_accounts : (before after : Slots) (l m n : Processes) (owners : List (Option ℕ)) (old new : PagerState) → old.accounts ≡ accounts_of before l.entries → new.accounts ≡ accounts_of after n.entries
    → (pid : Pid) (i : ℕ) (page : List ℕ) (r : Result (Unit {0}) DiskRefused) → Admits l m → Owned m owners → Puts m n before after pid.0 i page r → AccountsAfterPut old new pid i page r
put_accounts before after l m n owners old new e d pid i page (Ok done) a own u = λ p.
    ap (λ x. unwrap_or (find pid_cmp p x) no_pages) d
    ∙ changes before after l n old.accounts e pid (with_page i page)
    (λ q. put_changes m n owners before after pid.0 i page done own u q ∙ ap (λ x. cond (eqb q pid.0) (with_page i page x) x) (admitted before l m a q)) p
put_accounts before after l m n owners old new e d pid i page (Err refused) a own u = λ p.
    ap (λ x. unwrap_or (find pid_cmp p x) no_pages) d
    ∙ sames before after l n old.accounts e (λ q. put_refused m n before after pid.0 i page refused u q ∙ admitted before l m a q) p
