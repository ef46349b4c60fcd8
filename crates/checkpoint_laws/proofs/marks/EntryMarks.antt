-- What the marks of a process are measured by stays with an entry that leaves them: its start, the saved letters that it has received, its account, and the pages that were sent.
use Rattle.std.proofs.Common.{◌≡◌, ℕ, ◌+◌, ◌≤◌, refl, sym, ◌∙◌, ap, subst, arith, List, [], ◌∷◌, ◌++◌, append-nil, length, Bool, true, false, cond, ◌||◌, ◌&&◌, eqb, ltb, Option, Some, None, is_some, true≢false}
use Rattle.std.specs.Prelude.{nat_lt}
use Rattle.std.specs.FinMap.{put}
use Rattle.std.specs.Option.{option_map_or}
use Rattle.std.specs.Ordering.{nat_cmp}
use Rattle.std.proofs.lemmas.Bool.Decides.{nat_tests}
use Rattle.t32_base.specs.declared.process.Pid.{Pid}
use Rattle.t32_base.specs.declared.letter.Letter.{Letter}
use Rattle.t32_base.specs.declared.letter.Arrived.{Arrived}
use Rattle.t32_base.specs.Account.{Account, no_pages, page_in, committed, reverted}
use Rattle.t32_base.proofs.Facts.{or_false}
use Rattle.sys_text.specs.declared.system.System.{System}
use Rattle.sys_text.specs.Valid.{is_system}
use Rattle.proc_state.specs.declared.process.Process.{Process}
use Rattle.proc_state.specs.State.{ProcState}
use Rattle.bus_msg.specs.declared.entry.What.{What}
use Rattle.bus_msg.specs.declared.entry.What.TheVariants.{Page}
use Rattle.bus_msg.specs.declared.entry.Entry.{Entry}
use Rattle.bus_msg.specs.PlacedAfter.{what}
use Rattle.cert_sched.specs.Parts.{after_last}
use Rattle.cert_sched.specs.Schedule.{placement, process_after}
use Rattle.cert_sched.specs.Told.{cluster_lost, is_moved}
use Rattle.cert_sched.specs.Deeds.{starts, is_cut, is_birth_of, letter_for, letters_to, numbered, arrived_count, saved_letters}
use Rattle.cert_sched.specs.Account.{account_after, page_put}
use Rattle.cert_sched.specs.Moved.{any_since_moved, is_page_at}
use Rattle.cert_sched.specs.Steps.{numbers_read, saved_of, start_steps}
use Rattle.cert_sched.specs.Legal.{IsLegalBy, Stands}
use Rattle.cert_sched.specs.Simulation.{IsUnended}
use Rattle.cert_sched.proofs.OpenLaws.{unended_open}
use Rattle.cert_sched.proofs.RecordLaws.{saved_letters-other}
use Rattle.cert_sched.proofs.RollLaws.{Rolls, all_roll}
use Rattle.cert_sched.proofs.ThereLaws.{unended_there}
use Rattle.log_laws.proofs.pages.OneEntry.{any_since-goes_on}
use Rattle.log_laws.proofs.letters.LogReads.{itself}
use Rattle.checkpoint_laws.specs.posts.Marked.{IsMarked, arrived_below}
use Rattle.checkpoint_laws.proofs.posts.Beside.{start_stays}
use Rattle.checkpoint_laws.proofs.posts.PageEntry.{account_next}
use Rattle.checkpoint_laws.specs.marks.Beside.{LeavesMarks, is_some_page}

-- ---- an entry that is no page of the process

pub no_put : (p : Pid) (w : What) (pages : List (ℕ × List ℕ)) → is_some_page p w ≡ false → page_put p w pages ≡ pages
no_put p (Page pid at index bytes) pages none = ap (λ b. cond b (put nat_cmp index bytes pages) pages) none
no_put p _ pages none = refl

not_at : (p : Pid) (i steps : ℕ) (w : What) → is_some_page p w ≡ false → is_page_at p i steps w ≡ false
not_at p i steps (Page pid at index bytes) none = ap (λ b. b && eqb index i && eqb at steps) none
not_at p i steps _ none = refl

-- ---- letters that come

not_below : (m n : ℕ) → n ≤ m → ltb m n ≡ false
not_below m n low = grind (arith, nat_tests)

-- of those that come from number m on none is below
none_below : (n m : ℕ) (letters : List Letter) → n ≤ m → arrived_below n (numbered m letters) ≡ []
none_below n m [] low = refl
none_below n m (l ∷ letters) low =
    ap (λ b. cond b (record { number = m; letter = l } ∷ arrived_below n (numbered (m + 1) letters)) (arrived_below n (numbered (m + 1) letters))) (not_below m n low)
    ∙ none_below n (m + 1) letters (omega (arith, low))

below_append : (n : ℕ) (xs ys : List Arrived) → arrived_below n (xs ++ ys) ≡ arrived_below n xs ++ arrived_below n ys
below_append n [] ys = refl
below_append n (x ∷ xs) ys = by_test (nat_lt x.number n) (below_append n xs ys)
  where
    by_test : (b : Bool) → arrived_below n (xs ++ ys) ≡ arrived_below n xs ++ arrived_below n ys
        → cond b (x ∷ arrived_below n (xs ++ ys)) (arrived_below n (xs ++ ys)) ≡ cond b (x ∷ arrived_below n xs) (arrived_below n xs) ++ arrived_below n ys
    by_test true more = ap (λ l. x ∷ l) more
    by_test false more = more

-- ---- the entry

module _ (system : System) (log : List Entry) (e : Entry) (p : Pid) (leaves : LeavesMarks system log e p) where
  pub steps_stay : start_steps system (log ++ e ∷ []) p ≡ start_steps system log p
  steps_stay = ap (λ (o : Option ProcState). option_map_or (λ (s : ProcState). (s.small).steps) o 0) (start_stays system log e p leaves.no_cut leaves.no_birth)

  pub account_stays : account_after system (log ++ e ∷ []) p ≡ account_after system log p
  account_stays =
      account_next system log e p (what e) refl
      ∙ ap (λ b. cond b no_pages (cond (is_cut p (what e)) (committed a) moved)) leaves.no_exit
      ∙ ap (λ b. cond b (committed a) moved) leaves.no_cut
      ∙ ap (λ b. cond b (reverted a) (record { now = page_put p (what e) a.now; kept = a.kept })) leaves.stays
      ∙ (λ i. record { now = no_put p (what e) a.now leaves.no_page i; kept = a.kept })
    where
      a : Account
      a = account_after system log p

      moved : Account
      moved = cond (option_map_or (is_moved p (placement system log)) (cluster_lost (what e)) false) (reverted a) (record { now = page_put p (what e) a.now; kept = a.kept })

  pub sent_stay : (i steps : ℕ) → any_since_moved system (log ++ e ∷ []) p (is_page_at p i steps) ≡ any_since_moved system log p (is_page_at p i steps)
  sent_stay i steps =
      any_since-goes_on system log e p (is_page_at p i steps) leaves.stays
      ∙ ap (λ b. any_since_moved system log p (is_page_at p i steps) || b) (not_at p i steps (what e) leaves.no_page)
      ∙ or_false (any_since_moved system log p (is_page_at p i steps))

  module _ (valid : is_system system ≡ true) (legal : IsLegalBy Stands system log) (unended : IsUnended system log p) where
    -- the saved letters of the process, from its start
    record Saves : Type 0 where
      pub now : ProcState
      pub rolls : Rolls system log p now

    saves : Saves
    saves = by_process (process_after system log p) refl (unended_there Stands itself system log p valid legal unended)
      where
        by_process : (o : Option ProcState) → process_after system log p ≡ o → is_some o ≡ true → Saves
        by_process None there some = absurd (true≢false (sym some))
        by_process (Some now) there some = record { now = now; rolls = (all_roll Stands itself system log valid legal).rolls p now there (unended_open Stands itself system log p valid legal unended now there) }

    pub below_stay : (next : ℕ) → next ≤ arrived_count log p → arrived_below next (saved_of system (log ++ e ∷ []) p) ≡ arrived_below next (saved_of system log p)
    below_stay next low =
        ap (λ (o : Option ProcState). arrived_below next (option_map_or (saved_letters (log ++ e ∷ []) p) o [])) (start_stays system log e p leaves.no_cut leaves.no_birth ∙ rolls.started)
        ∙ ap (arrived_below next) (saved_letters-other log e p rolls.start quiet)
        ∙ below_append next (saved_letters log p rolls.start) (numbered came (letter_for p (what e)))
        ∙ ap (λ l. arrived_below next (saved_letters log p rolls.start) ++ l) (none_below next came (letter_for p (what e)) (subst (λ n. next ≤ n) rolls.arrived low))
        ∙ append-nil (arrived_below next (saved_letters log p rolls.start))
        ∙ sym (ap (λ (o : Option ProcState). arrived_below next (option_map_or (saved_letters log p) o [])) rolls.started)
      where
        rolls : Rolls system log p saves.now
        rolls = saves.rolls

        came : ℕ
        came = rolls.start.next + length (letters_to p (after_last (starts p) log))

        quiet : starts p e ≡ false
        quiet = ap (λ b. b || is_birth_of p (what e)) leaves.no_cut ∙ leaves.no_birth

-- ---- the marks

pub marks_kept : (system : System) (log : List Entry) (e : Entry) (p : Pid) (process : Process) → is_system system ≡ true → IsLegalBy Stands system log → IsUnended system log p → LeavesMarks system log e p
    → (process.mail).next ≤ arrived_count log p → IsMarked system log p process → IsMarked system (log ++ e ∷ []) p process
marks_kept system log e p process valid legal unended leaves low marked = record {
  since_start = marked.since_start ∙ sym (steps_stay system log e p leaves);
  read = marked.read ∙ sym (ap (λ saved. numbers_read saved (process.mail).letters) (below_stay system log e p leaves valid legal unended (process.mail).next low));
  clean = λ i within unmarked. ap (λ (a : Account). page_in a.now i) (account_stays system log e p leaves) ∙ marked.clean i within unmarked;
  unsent = λ i within is. sent_stay system log e p leaves i (process.small).steps ∙ marked.unsent i within is;
}

pub marks_before : (system : System) (log : List Entry) (e : Entry) (p : Pid) (process : Process) → is_system system ≡ true → IsLegalBy Stands system log → IsUnended system log p → LeavesMarks system log e p
    → (process.mail).next ≤ arrived_count log p → IsMarked system (log ++ e ∷ []) p process → IsMarked system log p process
marks_before system log e p process valid legal unended leaves low marked = record {
  since_start = marked.since_start ∙ steps_stay system log e p leaves;
  read = marked.read ∙ ap (λ saved. numbers_read saved (process.mail).letters) (below_stay system log e p leaves valid legal unended (process.mail).next low);
  clean = λ i within unmarked. sym (ap (λ (a : Account). page_in a.now i) (account_stays system log e p leaves)) ∙ marked.clean i within unmarked;
  unsent = λ i within is. sym (sent_stay system log e p leaves i (process.small).steps) ∙ marked.unsent i within is;
}
