-- What steps of a process that rolls forward leave, and that the letters read stay those that are in the mailbox no more.
use Rattle.std.proofs.Common.{◌≡◌, ℕ, zero, suc, refl, sym, ◌∙◌, ap, subst, List, [], ◌∷◌, length, Bool, true, false, cond, ◌||◌, eqb, Option, Some, None}
use Rattle.std.specs.Prelude.{option_and_then}
use Rattle.std.proofs.lemmas.Option.{same_Some}
use Rattle.t32_base.specs.declared.letter.Arrived.{Arrived}
use Rattle.proc_state.specs.Mail.{without_first}
use Rattle.sys_calls.specs.declared.steps.Emission.TheVariants.{Mail as Sent, Exit as Ended}
use Rattle.sys_calls.specs.Calls.{Next, Silent, Blocked, Forks, Emits, Over}
use Rattle.sys_calls.specs.Next.{letter_taken, next_step, step_marks}
use Rattle.sys_calls.specs.Steps.{read_after}
use Rattle.sys_calls.proofs.Taking.{sends_takes_none}
use Rattle.roll_forward.specs.Advancing.{Going, gone_on, rolled_on}
use Rattle.cert_sched.specs.Parts.{put_rising, rising}
use Rattle.cert_sched.specs.Steps.{numbers_read}
use Rattle.log_laws.proofs.pages.StepSizes.{SameSize, Keeps, next_keeps}
use Rattle.log_laws.specs.letters.Numbered.{are_in_order}
use Rattle.log_laws.proofs.letters.MailNumbers.{without_in_order}
use Rattle.checkpoint_laws.proofs.posts.TakenNumbers.{TakesOut, has, one_more_read, taken_was_there, rising_last}
use Rattle.checkpoint_laws.proofs.marks.TakenLetter.{silent_takes_out, length-step_marks}

-- ---- one step

-- what one step leaves and takes
record StepsOn (g h : Going) : Type 0 where
  pub sizes : SameSize g.state h.state
  pub marks : h.marks ≡ step_marks g.state g.marks
  pub read : h.read ≡ read_after g.read (letter_taken g.state)
  pub takes : TakesOut (letter_taken g.state) (g.state).mail (h.state).mail

steps_on : (g h : Going) (next : Next) → next_step g.state ≡ next → gone_on g next ≡ Some h → StepsOn g h
steps_on g h (Silent t) is gone =
    subst (λ (k : Going). StepsOn g k) (same_Some _ h gone) (record {
      sizes = subst (Keeps g.state) is (next_keeps g.state);
      marks = refl;
      read = refl;
      takes = silent_takes_out g.state t is;
    })
steps_on g h Blocked is gone = cc
steps_on g h Forks is gone = cc
steps_on g h (Emits (Sent letter) t) is gone =
    let none = sends_takes_none g.state t (Sent letter) is in
    subst (λ (k : Going). StepsOn g k) (same_Some _ h gone) (record {
      sizes = subst (Keeps g.state) is (next_keeps g.state);
      marks = refl;
      read = refl;
      takes = subst (λ (o : Option Arrived). TakesOut o (g.state).mail t.mail) (sym none.1) none.0;
    })
steps_on g h (Emits (Ended end) t) is gone = cc
steps_on g h Over is gone = cc

-- ---- the letters

-- a number that is left when a letter goes was there
has_without : (n : ℕ) (wanted : Arrived → Bool) (xs : List Arrived) → has n (without_first wanted xs) ≡ true → has n xs ≡ true
has_without n wanted [] there = there
has_without n wanted (x ∷ xs) there = by_test (wanted x) there (has_without n wanted xs)
  where
    or_true : (b : Bool) → (b || true) ≡ true
    or_true true = refl
    or_true false = refl

    or_more : (b : Bool) → (has n (without_first wanted xs) ≡ true → has n xs ≡ true) → (b || has n (without_first wanted xs)) ≡ true → (b || has n xs) ≡ true
    or_more true more is = refl
    or_more false more is = more is

    by_test : (b : Bool) → has n (cond b xs (x ∷ without_first wanted xs)) ≡ true → (has n (without_first wanted xs) ≡ true → has n xs ≡ true) → (eqb x.number n || has n xs) ≡ true
    by_test true is more = ap (λ b. eqb x.number n || b) is ∙ or_true (eqb x.number n)
    by_test false is more = or_more (eqb x.number n) more is

-- of these saved letters those were read that are in the mailbox no more; those in it are some of them, in order
pub record ReadsOn (saved : List Arrived) (g : Going) : Type 0 where
  pub read : rising g.read ≡ numbers_read saved (g.state).mail
  pub in_order : are_in_order (g.state).mail ≡ true
  pub within : (n : ℕ) → has n (g.state).mail ≡ true → has n saved ≡ true

taken_on : (saved : List Arrived) → are_in_order saved ≡ true → (taken : Option Arrived) (g h : Going) → TakesOut taken (g.state).mail (h.state).mail → h.read ≡ read_after g.read taken → ReadsOn saved g → ReadsOn saved h
taken_on saved rises None g h same read before = record {
  read = ap rising read ∙ before.read ∙ ap (numbers_read saved) (sym same);
  in_order = ap are_in_order same ∙ before.in_order;
  within = λ n there. before.within n (ap (has n) (sym same) ∙ there);
}
taken_on saved rises (Some a) g h taken read before = record {
  read = ap rising read ∙ rising_last g.read a.number ∙ ap (put_rising a.number) before.read
      ∙ sym (one_more_read saved (g.state).mail (h.state).mail a rises before.in_order (before.within a.number (taken_was_there (g.state).mail (h.state).mail a taken)) taken);
  in_order = ap are_in_order taken.left ∙ without_in_order taken.wanted (g.state).mail before.in_order;
  within = λ n there. before.within n (has_without n taken.wanted (g.state).mail (ap (has n) (sym taken.left) ∙ there));
}

-- ---- several steps

pub record RolledOver (g h : Going) : Type 0 where
  pub pages : ((h.state).small).pages ≡ ((g.state).small).pages
  pub marks : length h.marks ≡ length g.marks
  pub reads : (saved : List Arrived) → are_in_order saved ≡ true → ReadsOn saved g → ReadsOn saved h

pub rolled_over : (n : ℕ) (g h : Going) → rolled_on n g ≡ Some h → RolledOver g h
unfolding rolled_on
rolled_over zero g h rolled = subst (λ (k : Going). RolledOver g k) (same_Some g h rolled) (record { pages = refl; marks = refl; reads = λ saved rises reads. reads })
rolled_over (suc n) g h rolled = by_case (rolled_on n g) refl rolled (λ k is. rolled_over n g k is)
  where
    by_case : (o : Option Going) → rolled_on n g ≡ o → option_and_then (λ k. gone_on k (next_step k.state)) o ≡ Some h → ((k : Going) → rolled_on n g ≡ Some k → RolledOver g k) → RolledOver g h
    by_case None is last before = cc
    by_case (Some k) is last before =
        let b = before k is in
        let s = steps_on k h (next_step k.state) refl last in
        record {
          pages = (s.sizes).pages ∙ b.pages;
          marks = ap length s.marks ∙ length-step_marks k.state k.marks ∙ b.marks;
          reads = λ saved rises reads. taken_on saved rises (letter_taken k.state) k h s.takes s.read (b.reads saved rises reads);
        }
