-- Which pages of a process a log has, entry by entry.
use Rattle.std.proofs.Common.{◌≡◌, ℕ, refl, sym, ◌∙◌, ap, subst, arith, ◌<◌, ◌≤◌, List, [], ◌∷◌, ◌++◌, Bool, true, false, cond, ◌&&◌, ◌||◌, eqb, eqb-true, eq-eqb, true≢false}
use Rattle.std.specs.Prelude.{nat_lt}
use Rattle.std.proofs.lemmas.Bool.{and_parts}
use Rattle.std.proofs.lemmas.Bool.Decides.{nat_tests}
use Rattle.t32_base.specs.declared.process.Pid.{Pid}
use Rattle.t32_base.proofs.Facts.{or_false}
use Rattle.sys_text.specs.declared.system.System.{System}
use Rattle.sys_text.specs.Valid.{is_system}
use Rattle.bus_msg.specs.declared.entry.What.{What}
use Rattle.bus_msg.specs.declared.entry.What.TheVariants.{Birth, Page}
use Rattle.bus_msg.specs.declared.entry.Entry.{Entry}
use Rattle.bus_msg.specs.Places.{same_pid}
use Rattle.bus_msg.specs.PlacedAfter.{what}
use Rattle.cert_sched.specs.Told.{Told, cluster_lost, told}
use Rattle.cert_sched.specs.Moved.{any_since_moved, is_page_at, since_moved}
use Rattle.cert_sched.specs.Kinds.{KindHolds, PageHolds}
use Rattle.cert_sched.specs.Legal.{IsLegalBy, Stands}
use Rattle.cert_sched.specs.Steps.{page_count}
use Rattle.log_laws.specs.pages.Next.{moves_next}
use Rattle.log_laws.proofs.pages.BornSums.{child_not_placed}
use Rattle.log_laws.proofs.pages.OneEntry.{any_since-snoc, moves_none}
use Rattle.log_fetches.specs.Pages.{has_page, is_page_no}
use Rattle.log_fetches.proofs.Keeping.{count_few}
use Rattle.log_fetches.proofs.Notes.{none_there}
use Rattle.checkpoint_laws.specs.marks.Beside.{is_some_page}
use Rattle.checkpoint_laws.proofs.marks.SentPages.{none_passes}
use Rattle.checkpoint_laws.proofs.marks.UnplacedPages.{unplaced_unsent}
use Rattle.log_cuts.specs.SentPages.{IsSentOf, LeavesSent, NoneSent, PutsAt, PutsPage, sent_at, was_sent}

-- a page at a step count is a page
page_is_some : (p : Pid) (i at : ℕ) (w : What) → is_page_at p i at w ≡ true → is_some_page p w ≡ true
page_is_some p i at (Page pid n index bytes) is = (and_parts (same_pid pid p) (eqb index i) (and_parts (same_pid pid p && eqb index i) (eqb n at) is).0).0
page_is_some p i at _ is = is

no_such_page : (p : Pid) (i at : ℕ) (w : What) → is_some_page p w ≡ false → is_page_at p i at w ≡ false
no_such_page p i at w none = by_test (is_page_at p i at w) refl
  where
    by_test : (b : Bool) → is_page_at p i at w ≡ b → b ≡ false
    by_test true is = absurd (true≢false (sym (page_is_some p i at w is) ∙ none))
    by_test false is = refl

-- ---- entries that bring none

pub leaves_sent : LeavesSent
leaves_sent system log e p sent none stays are i at =
    are i at ∙ sym (or_false (any_since_moved system log p (is_page_at p i at)))
    ∙ sym (any_since-snoc system log e p (is_page_at p i at) ∙ (λ j. cond (stays j) false (any_since_moved system log p (is_page_at p i at) || no_such_page p i at (what e) none j)))

-- ---- none

none_at_boot : (system : System) (p : Pid) → IsSentOf system [] p []
unfolding told
none_at_boot system p i at = none_there i

none_born : (system : System) (log : List Entry) (e : Entry) (parent : Pid) (at : ℕ) (child : Pid) (end : ℕ) → is_system system ≡ true → IsLegalBy Stands system log → Stands system log e → what e ≡ Birth parent at child end
    → IsSentOf system (log ++ e ∷ []) child []
none_born system log e parent at child end valid legal stands is i n =
    let unsent = unplaced_unsent system log child legal (child_not_placed system log e parent at child end valid legal stands is) in
    let before : any_since_moved system log child (is_page_at child i n) ≡ false =
    none_passes (λ (t : Told). is_page_at child i n (what t.entry)) (λ (t : Told). is_some_page child (what t.entry)) (since_moved system log child) (λ t. page_is_some child i n (what t.entry)) unsent in
    none_there i
    ∙ sym (any_since-snoc system log e child (is_page_at child i n) ∙ (λ j. cond (moves_none system log e (ap cluster_lost is) child j) false (before j || is_page_at child i n (is j))))

none_moved : (system : System) (log : List Entry) (e : Entry) (p : Pid) → moves_next system log e p ≡ true → IsSentOf system (log ++ e ∷ []) p []
none_moved system log e p moves i at =
    none_there i ∙ sym (any_since-snoc system log e p (is_page_at p i at) ∙ ap (λ b. cond b false (any_since_moved system log p (is_page_at p i at) || is_page_at p i at (what e))) moves)

pub none_sent : NoneSent []
none_sent = record { boot = none_at_boot; born = none_born; moved = none_moved }

-- ---- one more

-- the tests of both sides agree where the page is a low one
put_one : (here low now was : Bool) → low ≡ true → cond now ((here && low) || was) was ≡ (was || ((true && here) && now))
put_one true true true true is = refl
put_one true true true false is = refl
put_one true true false true is = refl
put_one true true false false is = refl
put_one false true true true is = refl
put_one false true true false is = refl
put_one false true false true is = refl
put_one false true false false is = refl
put_one here false now was is = absurd (true≢false (sym is))

low_page : (i n : ℕ) → i < n → n ≤ 256 → nat_lt i 256 ≡ true
low_page i n within few = grind (arith, nat_tests)

module _ (old new : List (ℕ × List ℕ)) (index at : ℕ) (pages : List ℕ) (puts : PutsAt old new at pages) (has : (i : ℕ) → has_page pages i ≡ ((eqb index i && is_page_no i) || has_page (sent_at old at) i)) where
  -- whether it was sent
  sent_now : (i a : ℕ) → was_sent new i a ≡ cond (eqb at a) ((eqb index i && is_page_no i) || was_sent old i a) (was_sent old i a)
  sent_now i a = by_test (eqb at a) refl
    where
      by_test : (b : Bool) → eqb at a ≡ b → was_sent new i a ≡ cond b ((eqb index i && is_page_no i) || was_sent old i a) (was_sent old i a)
      by_test true is =
          let same : at ≡ a = eqb-true at a is in
          ap (λ n. was_sent new i n) (sym same) ∙ ap (λ ps. has_page ps i) puts.this ∙ has i ∙ ap (λ n. (eqb index i && is_page_no i) || was_sent old i n) same
      by_test false is = ap (λ ps. has_page ps i) (puts.others a is)

  low_where : (i : ℕ) → nat_lt index 256 ≡ true → (eqb index i && is_page_no i) ≡ (eqb index i && nat_lt index 256)
  low_where i low = by_test (eqb index i) refl
    where
      by_test : (b : Bool) → eqb index i ≡ b → (b && is_page_no i) ≡ (b && nat_lt index 256)
      by_test true is = ap is_page_no (sym (eqb-true index i is))
      by_test false is = refl

  pub puts_page : PutsPage old new index at
  puts_page system log e p bytes valid stands is are i a =
      let w : What = Page p at index bytes in
      let holds : PageHolds system log p at index bytes = subst (KindHolds system log e) is stands.kind in
      let low : nat_lt index 256 ≡ true = low_page index (page_count system log p) holds.within (count_few system log p valid) in
      let own : same_pid p p ≡ true = eq-eqb p.0 p.0 refl in
      sent_now i a ∙ ap (λ b. cond (eqb at a) (b || was_sent old i a) (was_sent old i a)) (low_where i low) ∙ put_one (eqb index i) (nat_lt index 256) (eqb at a) (was_sent old i a) low
      ∙ (λ j. are i a j || ((sym own j && eqb index i) && eqb at a))
      ∙ sym (any_since-snoc system log e p (is_page_at p i a) ∙ (λ j. cond (moves_none system log e (ap cluster_lost is) p j) false (any_since_moved system log p (is_page_at p i a) || is_page_at p i a (is j))))
