-- A process that was moved with a state and has not asked for a page has done nothing since.
use Rattle.std.proofs.Common.{◌≡◌, ℕ, ◌≤◌, zero, suc, refl, sym, ◌∙◌, ap, subst, arith, List, [], ◌∷◌, ◌++◌, Bool, true, false, cond, not, ◌&&◌, ◌||◌, Some, None, eqb-true, true≢false}
use Rattle.std.specs.Option.{option_map_or}
use Rattle.std.specs.List.{list_all, list_any, range_with_len}
use Rattle.std.proofs.lemmas.Bool.{or_parts}
use Rattle.t32_base.specs.declared.process.Pid.{Pid}
use Rattle.sys_text.specs.declared.system.System.{System}
use Rattle.sys_text.specs.Valid.{is_system}
use Rattle.bus_msg.specs.declared.entry.What.{What}
use Rattle.bus_msg.specs.declared.entry.What.TheVariants.{Mail, Birth, Exit, Page, Sync}
use Rattle.bus_msg.specs.declared.entry.Entry.{Entry}
use Rattle.bus_msg.specs.Places.{same_pid}
use Rattle.bus_msg.specs.PlacedAfter.{what}
use Rattle.cert_sched.specs.Deeds.{is_birth_of}
use Rattle.cert_sched.specs.Legal.{IsLegalBy, MayStand}
use Rattle.cert_sched.specs.Kinds.{KindHolds, is_done_by}
use Rattle.cert_sched.specs.Moved.{any_since_moved, is_fetch, is_page_is, moved_with_state, was_moved}
use Rattle.cert_sched.specs.Rules.{awaits_pages, has_its_pages, holds_of, is_by_right}
use Rattle.cert_sched.specs.Schedule.{placement}
use Rattle.cert_sched.specs.Steps.{page_count, process_of}
use Rattle.cert_sched.specs.Parts.{last_that}
use Rattle.cert_sched.specs.Record.{has_state}
use Rattle.cert_sched.specs.Told.{Told, moves, told}
use Rattle.cert_sched.proofs.CameLaws.{same_of}
use Rattle.cert_sched.proofs.FreshLaws.{Numbered, born_rightly, child_new, numbered_more}
use Rattle.cert_sched.proofs.Induction.{legal_induction}
use Rattle.cert_sched.proofs.LogLaws.{IsLegal-snoc}
use Rattle.cert_sched.proofs.UnplacedLaws.{never_moved}
use Rattle.log_laws.specs.pages.Next.{moves_next}
use Rattle.log_laws.proofs.pages.Keeping.{pages_kept}
use Rattle.log_laws.proofs.pages.OneEntry.{any_since-snoc, moved_with_state-snoc}
use Rattle.log_laws.proofs.pages.Waiting.{came_fetched}
use Rattle.log_laws.proofs.records.Standing.{all_stand}
use Rattle.backup_laws.proofs.Given.{numbered_first}

-- who does something has its pages
done_paged : (system : System) (log : List Entry) (p : Pid) (w : What) → is_done_by p w ≡ true → holds_of (awaits_pages w) (process_of w) (has_its_pages system log) ≡ true → has_its_pages system log p ≡ true
done_paged system log p (Mail at letter) is keeps = ap (has_its_pages system log) (same_of p letter.from is) ∙ keeps
done_paged system log p (Birth parent at child end) is keeps = ap (has_its_pages system log) (same_of p parent is) ∙ keeps
done_paged system log p (Exit pid at end) is keeps = ap (has_its_pages system log) (same_of p pid is) ∙ keeps
done_paged system log p (Page pid at index bytes) is keeps = ap (has_its_pages system log) (same_of p pid is) ∙ keeps
done_paged system log p (Sync pid small read took) is keeps = ap (has_its_pages system log) (same_of p pid is) ∙ keeps
done_paged system log p _ is keeps = absurd (true≢false (sym is))

last_none : {X : Type 0} (t : X → Bool) (xs : List X) → list_any t xs ≡ false → last_that t xs ≡ None
last_none t [] none = refl
last_none t (x ∷ xs) none =
    let parts = or_parts (t x) (list_any t xs) none in
    ap (λ b. cond b (last_that t xs) (cond (t x) (Some x) None)) parts.1 ∙ ap (λ b. cond b (Some x) None) parts.0

-- one that was never moved was not moved with a state
never_stated : (system : System) (log : List Entry) (p : Pid) → was_moved system log p ≡ false → moved_with_state system log p ≡ false
never_stated system log p never = ap (λ o. option_map_or (λ (t : Told). has_state system t.log p) o false) (last_none (moves p) (told system log) never)

-- who lacks pages has done nothing since it was moved
record Quiet (system : System) (log : List Entry) : Type 0 where
  pub numbered : Numbered (placement system log)
  pub legal : IsLegalBy MayStand system log
  pub quiet : (p : Pid) → has_its_pages system log p ≡ false → any_since_moved system log p (is_done_by p) ≡ false

module _ (system : System) (log : List Entry) (e : Entry) (may : MayStand system log e) (all : Quiet system log) (p : Pid) (lacks : has_its_pages system (log ++ e ∷ []) p ≡ false) where
  -- a process that is born was never moved, so it lacks none
  not_born : moves_next system log e p ≡ false → (w : What) → what e ≡ w → is_birth_of p w ≡ false
  not_born stays (Birth parent at child end) is = by_child (same_pid child p) refl
    where
      by_child : (b : Bool) → same_pid child p ≡ b → b ≡ false
      by_child false other = refl
      by_child true same =
          let here = placement system log in
          let right = born_rightly here (e.post).by parent child (subst (λ w. is_by_right here (e.post).by w ≡ true) is (may.stands).by_right)
          (subst (KindHolds system log e) is (may.stands).kind).child_is in
          let one : child ≡ p = λ i. record { 0 = eqb-true child.0 p.0 same i } in
          let never : was_moved system log p ≡ false = ap (was_moved system log) (sym one) ∙ never_moved MayStand system log child all.legal (child_new here parent child all.numbered right) in
          let stateless : moved_with_state system (log ++ e ∷ []) p ≡ false =
          moved_with_state-snoc system log e p ∙ ap (λ b. cond b (has_state system log p) (moved_with_state system log p)) stays ∙ never_stated system log p never in
          absurd (true≢false (sym (ap (λ b. not b || list_all (λ i. any_since_moved system (log ++ e ∷ []) p (is_page_is p i)) (range_with_len 0 (page_count system (log ++ e ∷ []) p))) stateless) ∙ lacks))
  not_born stays _ is = refl

  lacked : moves_next system log e p ≡ false → (b : Bool) → has_its_pages system log p ≡ b → b ≡ false
  lacked stays true has = absurd (true≢false (sym (pages_kept system log e p may.stands (not_born stays (what e) refl) stays has) ∙ lacks))
  lacked stays false has = refl

  not_done : has_its_pages system log p ≡ false → (b : Bool) → is_done_by p (what e) ≡ b → b ≡ false
  not_done lacking true done = absurd (true≢false (sym (done_paged system log p (what e) done may.pages) ∙ lacking))
  not_done lacking false done = refl

  next_quiet : any_since_moved system (log ++ e ∷ []) p (is_done_by p) ≡ false
  next_quiet = any_since-snoc system log e p (is_done_by p) ∙ by_move (moves_next system log e p) refl
    where
      by_move : (b : Bool) → moves_next system log e p ≡ b → cond b false (any_since_moved system log p (is_done_by p) || is_done_by p (what e)) ≡ false
      by_move true moved = refl
      by_move false stays =
          let lacking = lacked stays (has_its_pages system log p) refl in
          λ i. all.quiet p lacking i || not_done lacking (is_done_by p (what e)) refl i

none_legal : (system : System) → IsLegalBy MayStand system []
unfolding IsLegalBy
none_legal system = tt

none_since : (system : System) (p : Pid) → any_since_moved system [] p (is_done_by p) ≡ false
unfolding told
none_since system p = refl

all_quiet : (system : System) (log : List Entry) → is_system system ≡ true → IsLegalBy MayStand system log → Quiet system log
all_quiet system log valid legal =
    legal_induction MayStand system (Quiet system) (record { numbered = numbered_first system valid; legal = none_legal system; quiet = λ p lacks. none_since system p })
    (λ log e before may. record {
      numbered = numbered_more system log e may.stands before.numbered;
      legal = IsLegal-snoc MayStand system log e before.legal may;
      quiet = λ p lacks. next_quiet system log e may before p lacks;
    }) log legal

-- so has one that was moved with a state and has not asked for its first page
pub unasked_quiet : (system : System) (log : List Entry) (p : Pid) → is_system system ≡ true → IsLegalBy MayStand system log → moved_with_state system log p ≡ true → 1 ≤ page_count system log p
    → any_since_moved system log p (is_fetch p 0) ≡ false → any_since_moved system log p (is_done_by p) ≡ false
unasked_quiet system log p valid legal moved some unasked = (all_quiet system log valid legal).quiet p lacks
  where
    not_come : (b : Bool) → any_since_moved system log p (is_page_is p 0) ≡ b → b ≡ false
    not_come false is = refl
    not_come true is = absurd (true≢false (sym (came_fetched system log p 0 (all_stand system log legal) is) ∙ unasked))

    first : (n : ℕ) → 1 ≤ n → list_all (λ i. any_since_moved system log p (is_page_is p i)) (range_with_len 0 n) ≡ false
    first zero none = absurd (omega (arith, none))
    first (suc n) one = ap (λ b. b && list_all (λ i. any_since_moved system log p (is_page_is p i)) (range_with_len 1 n)) (not_come (any_since_moved system log p (is_page_is p 0)) refl)

    lacks : has_its_pages system log p ≡ false
    lacks = ap (λ b. not b || list_all (λ i. any_since_moved system log p (is_page_is p i)) (range_with_len 0 (page_count system log p))) moved ∙ first (page_count system log p) some
