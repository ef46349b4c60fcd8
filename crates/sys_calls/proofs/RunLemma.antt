-- Letters that arrive change no step that can be made without them.
use Rattle.std.proofs.Common.{◌≡◌, ℕ, zero, suc, refl, ap, ◌∙◌, List, [], ◌∷◌, ◌++◌, Bool, true, false, cond, eqb, ltb, not, Option, Some, None, is_none}
use Rattle.std.specs.Prelude.{find, option_and_then, option_map}
use Rattle.std.specs.Option.{option_or}
use Rattle.std.proofs.lemmas.List.Folds.{find-append}
use Rattle.std.proofs.lemmas.Option.{same_Some}
use Rattle.t32_base.specs.declared.process.Status.{Status}
use Rattle.t32_base.specs.declared.process.Status.TheVariants.{Live, Closing, Ended}
use Rattle.t32_base.specs.declared.process.End.{End}
use Rattle.t32_base.specs.declared.letter.Letter.{Letter}
use Rattle.t32_base.specs.declared.letter.Arrived.{Arrived}
use Rattle.t32_base.specs.declared.letter.To.{To}
use Rattle.t32_base.specs.declared.letter.To.TheVariants.{Proc, Tty}
use Rattle.rv_mem.specs.Memory.{is_inside}
use Rattle.t32_base.specs.Registers.{Registers}
use Rattle.rv_cpu.specs.Exec.{Executed, Steps, Calls, Traps, exec, reg}
use Rattle.proc_state.specs.Ends.{free_end, leads_at}
use Rattle.proc_state.specs.Mail.{without_first}
use Rattle.proc_state.specs.State.{ProcState, delivered, with_small}
use Rattle.sys_calls.specs.Small.{lowest_linked, spent}
use Rattle.sys_calls.specs.declared.steps.Emission.{Emission}
use Rattle.sys_calls.specs.declared.reading.Reading.{Reading}
use Rattle.sys_calls.specs.declared.reading.Reading.TheVariants.{Refused, AtEnd, Wants}
use Rattle.sys_calls.specs.declared.reading.Wanted.{Wanted}
use Rattle.sys_calls.specs.declared.reading.Wanted.TheVariants.{On, AnyLinked}
use Rattle.sys_calls.specs.Calls.{Next, Silent, Blocked, Forks, Emits, Over, Call, ExitCall, Write, Read, ReadAny, ForkCall, GetPid, Handler, Kill, SigReturn, Close, Unknown, called, call_of, close_to, first_wanted, is_wanted, letter_read, read_any_checked, read_call, read_checked, read_found, write_to, arg, handled_at, is_aligned, is_signal_number, signalled, sigreturn_call}
use Rattle.sys_calls.specs.Next.{next_step, step_by, live_step, after_exec, closing_step, is_blocked, silently, silent_of, emission_of, last_emission}

-- a step with the process after it changed
abbrev pub with_after : (ProcState → ProcState) → Next → Next
with_after f (Silent t) = Silent (f t)
with_after f Blocked = Blocked
with_after f Forks = Forks
with_after f (Emits e t) = Emits e (f t)
with_after f Over = Over

-- unless x waits, y is x with the letter delivered after it
abbrev SameWith : Letter → Next → Next → Type 0
SameWith l x y = is_blocked x ≡ false → y ≡ with_after (λ t. delivered t l) x

either : (l : Letter) (b : Bool) (x y x' y' : Next) → SameWith l x x' → SameWith l y y' → SameWith l (cond b x y) (cond b x' y')
either l true x y x' y' p q = p
either l false x y x' y' p q = q

-- the letter as it arrives
abbrev arrival : ProcState → Letter → List Arrived
arrival p l = record { number = p.next; letter = l } ∷ []

-- where an element passes, one at the end of the list is not the first that does
without_first-append : {X : Type 0} (t : X → Bool) (xs ys : List X) (x : X) → find t xs ≡ Some x → without_first t (xs ++ ys) ≡ without_first t xs ++ ys
without_first-append t [] ys x h = cc
without_first-append t (y ∷ xs) ys x h =
    elim (t y) as (λ b. cond b (Some y) (find t xs) ≡ Some x → cond b (xs ++ ys) (y ∷ without_first t (xs ++ ys)) ≡ cond b xs (y ∷ without_first t xs) ++ ys) [
      | true ↦ λ _. refl
      | false ↦ λ rest. ap (λ l. y ∷ l) (without_first-append t xs ys x rest)
    ] h

-- the same read with another mailbox left
abbrev read_leaving : ProcState → Wanted → ℕ → ℕ → Arrived → List Arrived → ProcState
read_leaving p wanted ptr room a mail = record (letter_read p wanted ptr room a) { mail = mail }

found-delivered : (l : Letter) (p : ProcState) (wanted : Wanted) (ptr room : ℕ) (o : Option Arrived) → first_wanted p wanted ≡ o
    → SameWith l (read_found p wanted ptr room o) (read_found (delivered p l) wanted ptr room (option_or o (find (is_wanted (p.small).ends wanted) (arrival p l))))
found-delivered l p wanted ptr room None is h = cc
found-delivered l p (On e) ptr room (Some a) is h =
    ap (λ mail. Silent (read_leaving (delivered p l) (On e) ptr room a mail)) (without_first-append (is_wanted (p.small).ends (On e)) p.mail (arrival p l) a is)
found-delivered l p AnyLinked ptr room (Some a) is h =
    ap (λ mail. Silent (read_leaving (delivered p l) AnyLinked ptr room a mail)) (without_first-append (is_wanted (p.small).ends AnyLinked) p.mail (arrival p l) a is)

read-delivered : (l : Letter) (p : ProcState) (reading : Reading) → SameWith l (read_call p reading) (read_call (delivered p l) reading)
read-delivered l p (Refused error) h = refl
read-delivered l p AtEnd h = refl
read-delivered l p (Wants wanted ptr room) h =
    ap (read_found (delivered p l) wanted ptr room) (find-append (is_wanted (p.small).ends wanted) p.mail (arrival p l))
    ∙ found-delivered l p wanted ptr room (first_wanted p wanted) refl h

write-delivered : (l : Letter) (p : ProcState) (e ptr len : ℕ) (o : Option To) → SameWith l (write_to p e ptr len o) (write_to (delivered p l) e ptr len o)
write-delivered l p e ptr len None = λ _. refl
write-delivered l p e ptr len (Some to) =
    either l (ltb 256 len) _ _ _ _ (λ _. refl)
    (either l (not (is_inside p.memory ptr len)) _ _ _ _ (λ _. refl)
    (either l (eqb len 0) _ _ _ _ (λ _. refl) (λ _. refl)))

close-delivered : (l : Letter) (p : ProcState) (e : ℕ) (o : Option To) → SameWith l (close_to p e o) (close_to (delivered p l) e o)
close-delivered l p e None h = refl
close-delivered l p e (Some (Tty t)) h = refl
close-delivered l p e (Some (Proc peer far)) h = refl

handles : (l : Letter) (p : ProcState) (ok : Bool) → SameWith l (handled_at ok p (arg p 0)) (handled_at ok (delivered p l) (arg p 0))
handles l p true = λ _. refl
handles l p false = λ _. refl

signals : (l : Letter) (p : ProcState) (ok : Bool) → SameWith l (signalled ok p (arg p 0) (arg p 1)) (signalled ok (delivered p l) (arg p 0) (arg p 1))
signals l p true = λ _. refl
signals l p false = λ _. refl

returns : (l : Letter) (p : ProcState) (o : Option Registers) → SameWith l (sigreturn_call p o) (sigreturn_call (delivered p l) o)
returns l p None = λ _. refl
returns l p (Some regs) = λ _. refl

-- each call
called-delivered : (l : Letter) (c : Call) (p : ProcState) → SameWith l (called c p) (called c (delivered p l))
called-delivered l ExitCall p = λ _. refl
called-delivered l Write p = write-delivered l p (arg p 0) (arg p 1) (arg p 2) (leads_at (p.small).ends (arg p 0))
called-delivered l Read p = read-delivered l p (read_checked p)
called-delivered l ReadAny p = read-delivered l p (read_any_checked p)
called-delivered l ForkCall p = either l (eqb (p.small).births 0) _ _ _ _ (λ _. refl) (either l (is_none (free_end (p.small).ends)) _ _ _ _ (λ _. refl) (λ _. refl))
called-delivered l GetPid p = λ _. refl
called-delivered l Handler p = handles l p (is_aligned (arg p 0))
called-delivered l Kill p = signals l p (is_signal_number (arg p 1))
called-delivered l SigReturn p = returns l p (p.small).frame
called-delivered l Close p = close-delivered l p (arg p 0) (leads_at (p.small).ends (arg p 0))
called-delivered l Unknown p = λ _. refl

exec-delivered : (l : Letter) (x : Executed) (p : ProcState) → SameWith l (after_exec x p) (after_exec x (delivered p l))
exec-delivered l (Steps regs bytes) p = λ _. refl
exec-delivered l (Traps code) p = λ _. refl
exec-delivered l Calls p = called-delivered l (call_of (reg (p.small).regs 17)) p

live-delivered : (l : Letter) (b : Bool) (p : ProcState) → SameWith l (live_step b p) (live_step b (delivered p l))
live-delivered l true p = λ _. refl
live-delivered l false p = exec-delivered l (exec (p.small).regs p.memory) (with_small p (spent p.small))

closing-delivered : (l : Letter) (o : Option (ℕ × To)) (end : End) (p : ProcState) → SameWith l (closing_step o end p) (closing_step o end (delivered p l))
closing-delivered l (Some found) end p = λ _. refl
closing-delivered l None end p = λ _. refl

status-delivered : (l : Letter) (s : Status) (p : ProcState) → SameWith l (step_by s p) (step_by s (delivered p l))
status-delivered l (Ended end) p = λ _. refl
status-delivered l (Closing end) p = closing-delivered l (lowest_linked (p.small).ends) end p
status-delivered l Live p = live-delivered l (eqb (p.small).left 0) p

-- a step of a process that does not wait is the same with one more letter in its mailbox, and the letter is there after it
pub next_step-delivered : (p : ProcState) (l : Letter) → is_blocked (next_step p) ≡ false → next_step (delivered p l) ≡ with_after (λ t. delivered t l) (next_step p)
next_step-delivered p l = status-delivered l (p.small).status p

-- ---- silent steps

silent_delivered : (p : ProcState) (l : Letter) (next : Next) (t : ProcState) → next_step p ≡ next → silent_of next ≡ Some t → silent_of (next_step (delivered p l)) ≡ Some (delivered t l)
silent_delivered p l (Silent s) t is e =
    ap silent_of (next_step-delivered p l (ap is_blocked is)) ∙ ap (λ n. silent_of (with_after (λ q. delivered q l) n)) is ∙ ap (λ q. Some (delivered q l)) (same_Some s t e)
silent_delivered p l Blocked t is e = cc
silent_delivered p l Forks t is e = cc
silent_delivered p l (Emits x s) t is e = cc
silent_delivered p l Over t is e = cc

-- n silent steps are the same with one more letter in the mailbox
pub silently-delivered : (n : ℕ) (s t : ProcState) (l : Letter) → silently n s ≡ Some t → silently n (delivered s l) ≡ Some (delivered t l)
unfolding silently
silently-delivered zero s t l e = ap (λ q. Some (delivered q l)) (same_Some s t e)
silently-delivered (suc n) s t l e = by_case (silently n s) refl e (λ q is. silently-delivered n s q l is)
  where
    by_case : (o : Option ProcState) → silently n s ≡ o → option_and_then (λ q. silent_of (next_step q)) o ≡ Some t
        → ((q : ProcState) → silently n s ≡ Some q → silently n (delivered s l) ≡ Some (delivered q l))
        → option_and_then (λ q. silent_of (next_step q)) (silently n (delivered s l)) ≡ Some (delivered t l)
    by_case None is f before = cc
    by_case (Some q) is f before = ap (option_and_then (λ r. silent_of (next_step r))) (before q is) ∙ silent_delivered q l (next_step q) t refl f

emits_delivered : (p : ProcState) (l : Letter) (next : Next) (x : Emission) (t : ProcState) → next_step p ≡ next → emission_of next ≡ Some (x, t) → emission_of (next_step (delivered p l)) ≡ Some (x, delivered t l)
emits_delivered p l (Emits y s) x t is e =
    ap emission_of (next_step-delivered p l (ap is_blocked is)) ∙ ap (λ n. emission_of (with_after (λ q. delivered q l) n)) is ∙ ap (option_map (λ (sent : Emission × ProcState). let r : Emission × ProcState = (sent.0, delivered sent.1 l) in r)) e
emits_delivered p l Blocked x t is e = cc
emits_delivered p l Forks x t is e = cc
emits_delivered p l (Silent s) x t is e = cc
emits_delivered p l Over x t is e = cc

-- what the last of n steps sends is the same too
pub last_emission-delivered : (n : ℕ) (s : ProcState) (x : Emission) (t : ProcState) (l : Letter) → last_emission n s ≡ Some (x, t) → last_emission n (delivered s l) ≡ Some (x, delivered t l)
last_emission-delivered zero s x t l e = cc
last_emission-delivered (suc n) s x t l e = by_case (silently n s) refl e
  where
    by_case : (o : Option ProcState) → silently n s ≡ o → option_and_then (λ q. emission_of (next_step q)) o ≡ Some (x, t)
        → option_and_then (λ q. emission_of (next_step q)) (silently n (delivered s l)) ≡ Some (x, delivered t l)
    by_case None is f = cc
    by_case (Some q) is f = ap (option_and_then (λ r. emission_of (next_step r))) (silently-delivered n s q l is) ∙ emits_delivered q l (next_step q) x t refl f

-- ---- several letters

-- letters arrive, one after another
abbrev pub all_delivered : ProcState → List Letter → ProcState
all_delivered p [] = p
all_delivered p (l ∷ letters) = all_delivered (delivered p l) letters

pub silently-all_delivered : (n : ℕ) (s t : ProcState) (letters : List Letter) → silently n s ≡ Some t → silently n (all_delivered s letters) ≡ Some (all_delivered t letters)
silently-all_delivered n s t [] e = e
silently-all_delivered n s t (l ∷ letters) e = silently-all_delivered n (delivered s l) (delivered t l) letters (silently-delivered n s t l e)
