-- A letter that is received is one of those that arrived, and one of the mailbox: of the saved letters the same were read.
use Rattle.std.proofs.Common.{◌≡◌, ℕ, ◌+◌, refl, sym, ◌∙◌, ap, arith, List, [], ◌∷◌, ◌++◌, map, Bool, true, false, cond, not, ◌||◌, eqb, ltb}
use Rattle.std.specs.Prelude.{filter, nat_lt}
use Rattle.std.specs.List.{list_any}
use Rattle.std.proofs.lemmas.Bool.Decides.{nat_tests}
use Rattle.t32_base.specs.declared.process.Pid.{Pid}
use Rattle.t32_base.specs.declared.letter.Arrived.{Arrived}
use Rattle.t32_base.specs.declared.letter.Letter.{Letter}
use Rattle.sys_text.specs.declared.system.System.{System}
use Rattle.proc_state.specs.declared.process.Process.{Process}
use Rattle.bus_msg.specs.declared.entry.Entry.{Entry}
use Rattle.cert_sched.specs.Steps.{numbers_read, saved_of}
use Rattle.log_laws.proofs.pages.OneEntry.{list_any-last}
use Rattle.checkpoint_laws.specs.posts.Marked.{IsMarked, arrived_below}
use Rattle.checkpoint_laws.specs.marks.Received.{with_letter}

module _ (n : ℕ) (letter : Letter) (mail : List Arrived) where
  more : List Arrived
  more = mail ++ record { number = n; letter = letter } ∷ []

  abbrev in_mail : Arrived → Bool
  in_mail a = list_any (λ (b : Arrived). eqb b.number a.number) mail

  abbrev in_more : Arrived → Bool
  in_more a = list_any (λ (b : Arrived). eqb b.number a.number) more

  same_below : (m : ℕ) → ltb m n ≡ true → ltb m (n + 1) ≡ true
  same_below m less = grind (arith, nat_tests)

  other_number : (m : ℕ) → ltb m n ≡ true → eqb n m ≡ false
  other_number m less = grind (arith, nat_tests)

  own_number : (m : ℕ) → ltb m n ≡ false → ltb m (n + 1) ≡ true → eqb n m ≡ true
  own_number m from less = grind (arith, nat_tests)

  or_nothing : (b : Bool) → (b || false) ≡ b
  or_nothing true = refl
  or_nothing false = refl

  or_true : (b : Bool) → (b || true) ≡ true
  or_true true = refl
  or_true false = refl

  number : Arrived → ℕ
  number a = a.number

  same_read : (saved : List Arrived) → numbers_read (arrived_below (n + 1) saved) more ≡ numbers_read (arrived_below n saved) mail
  unfolding more number
  same_read [] = refl
  same_read (a ∷ saved) = by_tests (nat_lt a.number n) (nat_lt a.number (n + 1)) refl refl (same_read saved)
    where
      left : List Arrived
      left = filter (λ (b : Arrived). not (in_mail b)) (arrived_below n saved)

      left_more : List Arrived
      left_more = filter (λ (b : Arrived). not (in_more b)) (arrived_below (n + 1) saved)

      here : (b : Bool) → eqb n a.number ≡ b → in_more a ≡ (in_mail a || b)
      here b is = list_any-last (λ (b : Arrived). eqb b.number a.number) mail (record { number = n; letter = letter }) ∙ ap (λ b. in_mail a || b) is

      by_mail : (b : Bool) → map number left_more ≡ map number left → map number (cond (not b) (a ∷ left_more) left_more) ≡ map number (cond (not b) (a ∷ left) left)
      by_mail true same = same
      by_mail false same = ap (λ l. a.number ∷ l) same

      by_tests : (below below_more : Bool) → nat_lt a.number n ≡ below → nat_lt a.number (n + 1) ≡ below_more → map number left_more ≡ map number left
          → numbers_read (cond below_more (a ∷ arrived_below (n + 1) saved) (arrived_below (n + 1) saved)) more ≡ numbers_read (cond below (a ∷ arrived_below n saved) (arrived_below n saved)) mail
      by_tests true true is is_more same =
          ap (λ b. map number (cond (not b) (a ∷ left_more) left_more)) (here false (other_number a.number is) ∙ or_nothing (in_mail a)) ∙ by_mail (in_mail a) same
      by_tests true false is is_more same = let no : ltb a.number (n + 1) ≡ true = same_below a.number is in cc
      by_tests false true is is_more same =
          ap (λ b. map number (cond (not b) (a ∷ left_more) left_more)) (here true (own_number a.number is is_more) ∙ or_true (in_mail a)) ∙ same
      by_tests false false is is_more same = same

module _ (system : System) (log : List Entry) (p : Pid) (process : Process) (letter : Letter) where
  reads : numbers_read (arrived_below ((process.mail).next + 1) (saved_of system log p)) ((with_letter process letter).mail).letters ≡ numbers_read (arrived_below (process.mail).next (saved_of system log p)) (process.mail).letters
  unfolding more
  reads = same_read (process.mail).next letter (process.mail).letters (saved_of system log p)

  pub letter_kept : IsMarked system log p process → IsMarked system log p (with_letter process letter)
  letter_kept marked = record { since_start = marked.since_start; read = marked.read ∙ sym reads; clean = marked.clean; unsent = marked.unsent }

  pub letter_before : IsMarked system log p (with_letter process letter) → IsMarked system log p process
  letter_before marked = record { since_start = marked.since_start; read = marked.read ∙ reads; clean = marked.clean; unsent = marked.unsent }
