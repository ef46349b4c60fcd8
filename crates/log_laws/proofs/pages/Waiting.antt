-- A fetch that waits is of a process that lacks the page: the page was fetched since a crash moved the process, and has not come since.
use Rattle.std.proofs.Common.{◌≡◌, ℕ, zero, suc, ◌+◌, ◌<◌, add-zero, refl, sym, ◌∙◌, ap, subst, arith, List, [], ◌∷◌, ◌++◌, Bool, true, false, cond, not, ◌&&◌, ◌||◌, eqb, eqb-true, Some, true≢false}
use Rattle.std.specs.Prelude.{option_map}
use Rattle.std.specs.List.{list_any, list_all, range_with_len}
use Rattle.std.proofs.lemmas.Bool.{and_parts}
use Rattle.t32_base.specs.declared.process.Pid.{Pid}
use Rattle.sys_text.specs.declared.system.System.{System}
use Rattle.bus_msg.specs.declared.entry.What.{What}
use Rattle.bus_msg.specs.declared.entry.What.TheVariants.{Fetch, PageIs}
use Rattle.bus_msg.specs.declared.entry.Entry.{Entry}
use Rattle.bus_msg.specs.Places.{same_pid}
use Rattle.bus_msg.specs.PlacedAfter.{what}
use Rattle.cert_sched.specs.Parts.{first_of}
use Rattle.cert_sched.specs.Told.{told, cluster_lost}
use Rattle.cert_sched.specs.Moved.{any_since_moved, moved_with_state, waiting_fetches, is_page_is, is_fetch}
use Rattle.cert_sched.specs.Rules.{has_its_pages, awaits_pages, holds_of}
use Rattle.cert_sched.specs.Steps.{page_count, process_of}
use Rattle.cert_sched.specs.Kinds.{KindHolds, FetchHolds, PageIsHolds}
use Rattle.cert_sched.specs.Legal.{IsLegalBy, Stands, MayStand}
use Rattle.cert_sched.proofs.Induction.{legal_induction}
use Rattle.log_laws.specs.pages.Next.{moves_next, ends_wait_next}
use Rattle.log_laws.specs.pages.Waited.{is_wait_for, is_waited}
use Rattle.log_laws.proofs.pages.OneEntry.{moves_none, any_since-snoc, any_since-goes_on, any_since-kept, moved-goes_on, is_waited-snoc}
use Rattle.log_laws.proofs.pages.PagesStay.{page_count-within}
use Rattle.log_laws.proofs.pages.Keeping.{wait_goes_on}

-- ---- what an entry of these kinds tells

-- the entry asks for this very page
pub fetch_is : (w : What) (p : Pid) (i : ℕ) → is_fetch p i w ≡ true → w ≡ Fetch p i
fetch_is (Fetch q j) p i is =
    let both = and_parts (same_pid q p) (eqb j i) is in
    λ k. Fetch (record { 0 = eqb-true q.0 p.0 both.0 k }) (eqb-true j i both.1 k)
fetch_is _ p i is = absurd (true≢false (sym is))

-- the entry is this very page, with some bytes
pub record PageCame (w : What) (p : Pid) (i : ℕ) : Type 0 where
  pub bytes : List ℕ
  pub is : w ≡ PageIs p i bytes

pub page_came : (w : What) (p : Pid) (i : ℕ) → is_page_is p i w ≡ true → PageCame w p i
page_came (PageIs q j bytes) p i is =
    let both = and_parts (same_pid q p) (eqb j i) is in
    record { bytes = bytes; is = λ k. PageIs (record { 0 = eqb-true q.0 p.0 both.0 k }) (eqb-true j i both.1 k) bytes }
page_came _ p i is = absurd (true≢false (sym is))

pub fetch_holds : (system : System) (log : List Entry) (e : Entry) (p : Pid) (i : ℕ) → Stands system log e → what e ≡ Fetch p i → FetchHolds system log p i
fetch_holds system log e p i stands is = subst (KindHolds system log e) is stands.kind

pub page_is_holds : (system : System) (log : List Entry) (e : Entry) (p : Pid) (i : ℕ) (bytes : List ℕ) → Stands system log e → what e ≡ PageIs p i bytes → PageIsHolds system log p i bytes
page_is_holds system log e p i bytes stands is = subst (KindHolds system log e) is stands.kind

-- the first wait is one
pub first_waited : (p : Pid) (i : ℕ) (fs : List (Pid × ℕ)) → option_map (is_wait_for p i) (first_of fs) ≡ Some true → list_any (is_wait_for p i) fs ≡ true
first_waited p i [] first = cc
first_waited p i (f ∷ fs) first = by_test (is_wait_for p i f) first
  where
    by_test : (b : Bool) → Some b ≡ Some true → (b || list_any (is_wait_for p i) fs) ≡ true
    by_test true h = refl
    by_test false h = cc

-- a page that comes was waited for
pub came_waited : (system : System) (log : List Entry) (e : Entry) (p : Pid) (i : ℕ) (bytes : List ℕ) → Stands system log e → what e ≡ PageIs p i bytes → is_waited system log p i ≡ true
came_waited system log e p i bytes stands is = first_waited p i (waiting_fetches system log) (page_is_holds system log e p i bytes stands is).asked

-- ---- one more entry

-- the page was fetched since the process was moved, and has not come since; it was moved with a state, and has the page
pub record Lacks (system : System) (log : List Entry) (p : Pid) (i : ℕ) : Type 0 where
  pub fetched : any_since_moved system log p (is_fetch p i) ≡ true
  pub not_come : any_since_moved system log p (is_page_is p i) ≡ false
  pub moved : moved_with_state system log p ≡ true
  pub within : i < page_count system log p

record Waits (system : System) (log : List Entry) (p : Pid) (i : ℕ) : Type 0 where
  pub lacks : is_waited system log p i ≡ true → Lacks system log p i
  pub came : any_since_moved system log p (is_page_is p i) ≡ true → any_since_moved system log p (is_fetch p i) ≡ true

-- a test passes or not
data Either (b : Bool) : Type 0 where
  yes : b ≡ true → Either b
  no : b ≡ false → Either b

either : (b : Bool) → Either b
either true = yes refl
either false = no refl

or_parts : (a b : Bool) → (a || b) ≡ true → a ≡ false → b ≡ true
or_parts true b h first = absurd (true≢false first)
or_parts false b h first = h

not_both : (b : Bool) → b ≡ true → b ≡ false → ⊥
not_both b is is_not = true≢false (sym is ∙ is_not)

module _ (system : System) (log : List Entry) (e : Entry) (p : Pid) (i : ℕ) (stands : Stands system log e) (before : Waits system log p i) where
  -- a wait that goes on
  still_lacks : is_waited system log p i ≡ true → ends_wait_next system log e p i ≡ false → Lacks system (log ++ e ∷ []) p i
  still_lacks waited goes =
      let on = wait_goes_on system log e p i goes in
      let had = before.lacks waited in
      record {
        fetched = any_since-kept system log e p (is_fetch p i) on.no_move had.fetched;
        not_come = any_since-goes_on system log e p (is_page_is p i) on.no_move ∙ (λ j. had.not_come j || on.no_page j);
        moved = moved-goes_on system log e p on.no_move ∙ had.moved;
        within = page_count-within system log e p i had.within stands.applies;
      }

  -- a page that did not come was not fetched: what came was fetched
  not_come_before : any_since_moved system log p (is_fetch p i) ≡ false → any_since_moved system log p (is_page_is p i) ≡ false
  not_come_before unasked = by_either (either (any_since_moved system log p (is_page_is p i)))
    where
      by_either : Either (any_since_moved system log p (is_page_is p i)) → any_since_moved system log p (is_page_is p i) ≡ false
      by_either (yes is) = absurd (not_both (any_since_moved system log p (is_fetch p i)) (before.came is) unasked)
      by_either (no is) = is

  -- a wait that begins
  now_lacks : is_fetch p i (what e) ≡ true → Lacks system (log ++ e ∷ []) p i
  now_lacks asks =
      let is = fetch_is (what e) p i asks in
      let holds = fetch_holds system log e p i stands is in
      let stays = moves_none system log e (ap cluster_lost is) p in
      record {
        fetched = any_since-goes_on system log e p (is_fetch p i) stays ∙ (λ j. holds.unasked j || asks j);
        not_come = any_since-goes_on system log e p (is_page_is p i) stays ∙ (λ j. not_come_before holds.unasked j || is_page_is p i (is j));
        moved = moved-goes_on system log e p stays ∙ holds.moved;
        within = page_count-within system log e p i holds.within stands.applies;
      }

  lacks_after : is_waited system (log ++ e ∷ []) p i ≡ true → Lacks system (log ++ e ∷ []) p i
  lacks_after waited = by_either (either (is_waited system log p i && not (ends_wait_next system log e p i)))
    where
      not_true : (b : Bool) → not b ≡ true → b ≡ false
      not_true true h = absurd (true≢false (sym h))
      not_true false h = refl

      by_either : Either (is_waited system log p i && not (ends_wait_next system log e p i)) → Lacks system (log ++ e ∷ []) p i
      by_either (yes is) =
          let both = and_parts (is_waited system log p i) (not (ends_wait_next system log e p i)) is in
          still_lacks both.0 (not_true (ends_wait_next system log e p i) both.1)
      by_either (no is) = now_lacks (or_parts (is_waited system log p i && not (ends_wait_next system log e p i)) (is_fetch p i (what e)) (sym (is_waited-snoc system log e p i) ∙ waited) is)

  came_after : any_since_moved system (log ++ e ∷ []) p (is_page_is p i) ≡ true → any_since_moved system (log ++ e ∷ []) p (is_fetch p i) ≡ true
  came_after come = by_move (either (moves_next system log e p))
    where
      by_seen : moves_next system log e p ≡ false → Either (any_since_moved system log p (is_page_is p i)) → any_since_moved system (log ++ e ∷ []) p (is_fetch p i) ≡ true
      by_seen stays (yes is) = any_since-kept system log e p (is_fetch p i) stays (before.came is)
      by_seen stays (no is) =
          let here = or_parts (any_since_moved system log p (is_page_is p i)) (is_page_is p i (what e)) (sym (any_since-goes_on system log e p (is_page_is p i) stays) ∙ come) is in
          let page = page_came (what e) p i here in
          any_since-kept system log e p (is_fetch p i) stays (before.lacks (came_waited system log e p i page.bytes stands page.is)).fetched

      by_move : Either (moves_next system log e p) → any_since_moved system (log ++ e ∷ []) p (is_fetch p i) ≡ true
      by_move (yes is) = absurd (true≢false (sym come ∙ any_since-snoc system log e p (is_page_is p i) ∙ ap (λ b. cond b false (any_since_moved system log p (is_page_is p i) || is_page_is p i (what e))) is))
      by_move (no is) = by_seen is (either (any_since_moved system log p (is_page_is p i)))

waits_at_start : (system : System) (p : Pid) (i : ℕ) → Waits system [] p i
unfolding told
waits_at_start system p i = record { lacks = λ h. absurd (true≢false (sym h)); came = λ h. absurd (true≢false (sym h)) }

-- in a log in which each entry stands
waits_in : (system : System) (log : List Entry) (p : Pid) (i : ℕ) → IsLegalBy Stands system log → Waits system log p i
waits_in system log p i legal =
    legal_induction Stands system (λ log. Waits system log p i) (waits_at_start system p i)
    (λ log e before stands. record { lacks = lacks_after system log e p i stands before; came = came_after system log e p i stands before }) log legal

-- who waits for a page lacks it
pub waited_lacks : (system : System) (log : List Entry) (p : Pid) (i : ℕ) → IsLegalBy Stands system log → is_waited system log p i ≡ true → Lacks system log p i
waited_lacks system log p i legal = (waits_in system log p i legal).lacks

-- and a page that came was fetched
pub came_fetched : (system : System) (log : List Entry) (p : Pid) (i : ℕ) → IsLegalBy Stands system log → any_since_moved system log p (is_page_is p i) ≡ true → any_since_moved system log p (is_fetch p i) ≡ true
came_fetched system log p i legal = (waits_in system log p i legal).came

-- ---- who waits does nothing

-- a test that fails at one of some numbers in a row does not hold of all
not_all : (t : ℕ → Bool) (a n i : ℕ) → i < n → t (a + i) ≡ false → list_all t (range_with_len a n) ≡ false
not_all t a zero i within fails = absurd (omega (arith, within))
not_all t a (suc n) zero within fails = ap (λ b. b && list_all t (range_with_len (a + 1) n)) (sym (ap t (add-zero a)) ∙ fails)
not_all t a (suc n) (suc i) within fails =
    let less : i < n = omega (arith, within) in
    let same : (a + 1) + i ≡ a + suc i = omega arith in
    ap (λ b. t a && b) (not_all t (a + 1) n i less (ap t same ∙ fails)) ∙ and_false (t a)
  where
    and_false : (b : Bool) → (b && false) ≡ false
    and_false true = refl
    and_false false = refl

pub waited_has_not : (system : System) (log : List Entry) (p : Pid) (i : ℕ) → IsLegalBy Stands system log → is_waited system log p i ≡ true → has_its_pages system log p ≡ false
waited_has_not system log p i legal waited =
    let lacks = waited_lacks system log p i legal waited in
    ap (λ b. not b || list_all (λ i. any_since_moved system log p (is_page_is p i)) (range_with_len 0 (page_count system log p))) lacks.moved
    ∙ not_all (λ i. any_since_moved system log p (is_page_is p i)) 0 (page_count system log p) i lacks.within (ap (λ n. any_since_moved system log p (is_page_is p n)) (zero_more i) ∙ lacks.not_come)
  where
    zero_more : (n : ℕ) → 0 + n ≡ n
    zero_more n = omega arith

pub who_acts_waits_not : (system : System) (log : List Entry) (e : Entry) (p : Pid) (i : ℕ) → IsLegalBy Stands system log → MayStand system log e → awaits_pages (what e) ≡ true → process_of (what e) ≡ Some p → is_waited system log p i ≡ false
who_acts_waits_not system log e p i legal may awaits tells = by_either (either (is_waited system log p i))
  where
    has : has_its_pages system log p ≡ true
    has = sym (λ j. holds_of (awaits j) (tells j) (has_its_pages system log)) ∙ may.pages

    by_either : Either (is_waited system log p i) → is_waited system log p i ≡ false
    by_either (yes is) = absurd (not_both (has_its_pages system log p) has (waited_has_not system log p i legal is))
    by_either (no is) = is
