-- The letter that a silent step takes is the first in the mailbox that it wants. A step leaves as many marks as there were.
use Rattle.std.proofs.Common.{◌≡◌, ℕ, refl, sym, ◌∙◌, ap, subst, List, length, Bool, true, false, cond, not, ltb, eqb, Option, Some, None, is_none}
use Rattle.std.specs.Prelude.{find}
use Rattle.t32_base.specs.declared.process.End.{End}
use Rattle.t32_base.specs.declared.process.Status.{Status}
use Rattle.t32_base.specs.declared.process.Status.TheVariants.{Live, Closing, Ended}
use Rattle.t32_base.specs.declared.letter.Arrived.{Arrived}
use Rattle.t32_base.specs.declared.letter.Body.TheVariants.{Said}
use Rattle.t32_base.specs.declared.letter.To.{To}
use Rattle.t32_base.specs.declared.letter.To.TheVariants.{Proc, Tty}
use Rattle.rv_mem.specs.Memory.{is_inside, bytes_at}
use Rattle.rv_mem.proofs.MarkLemmas.{length-touched}
use Rattle.t32_base.specs.Registers.{Registers}
use Rattle.rv_cpu.specs.Exec.{Executed, Steps, Calls, Traps, exec, exec_marks, reg}
use Rattle.rv_cpu.proofs.Marks.{length-exec_marks}
use Rattle.proc_state.specs.Ends.{free_end, leads_at}
use Rattle.proc_state.specs.Mail.{without_first}
use Rattle.proc_state.specs.State.{ProcState, with_small}
use Rattle.sys_calls.specs.Small.{spent, lowest_linked}
use Rattle.sys_calls.specs.declared.steps.Emission.TheVariants.{Mail}
use Rattle.sys_calls.specs.declared.reading.Reading.{Reading}
use Rattle.sys_calls.specs.declared.reading.Reading.TheVariants.{Refused, AtEnd, Wants}
use Rattle.sys_calls.specs.declared.reading.Wanted.{Wanted}
use Rattle.sys_calls.specs.Calls.{Next, Silent, Blocked, Forks, Emits, Over, Call, ExitCall, Write, Read, ReadAny, ForkCall, GetPid, Handler, Kill, SigReturn, Close, Unknown, answers, arg, called, call_of, close_to, first_wanted, is_wanted, letter_called, letter_to, marks_called, marks_found, marks_read, read_any_checked, read_call, read_checked, read_found, refused, said_within, wanted_letter, write_to, handled_at, is_aligned, is_signal_number, signalled, sigreturn_call}
use Rattle.sys_calls.specs.Next.{next_step, step_by, live_step, after_exec, closing_step, letter_by, letter_executed, letter_live, letter_taken, marks_by, marks_executed, marks_live, step_marks}
use Rattle.checkpoint_laws.proofs.posts.TakenNumbers.{TakesOut}

-- what a silent step does
abbrev Takes : ProcState → Next → Option Arrived → Type 0
Takes s (Silent t) o = TakesOut o s.mail t.mail
Takes s Blocked o = Unit {0}
Takes s Forks o = Unit {0}
Takes s (Emits e t) o = Unit {0}
Takes s Over o = Unit {0}

-- ---- a call

module _ (s p : ProcState) (same : p.mail ≡ s.mail) where
  written_some : (e ptr len : ℕ) (to : To) (empty : Bool)
      → Takes s (cond empty (Silent (answers p 0)) (Emits (Mail (letter_to p e to (Said (bytes_at p.memory ptr len)))) (answers p len))) None
  written_some e ptr len to true = same
  written_some e ptr len to false = tt

  written_inside : (e ptr len : ℕ) (to : To) (outside empty : Bool)
      → Takes s (cond outside (refused p 14) (cond empty (Silent (answers p 0)) (Emits (Mail (letter_to p e to (Said (bytes_at p.memory ptr len)))) (answers p len)))) None
  written_inside e ptr len to true empty = same
  written_inside e ptr len to false empty = written_some e ptr len to empty

  written_short : (e ptr len : ℕ) (to : To) (long outside empty : Bool)
      → Takes s (cond long (refused p 22) (cond outside (refused p 14) (cond empty (Silent (answers p 0)) (Emits (Mail (letter_to p e to (Said (bytes_at p.memory ptr len)))) (answers p len))))) None
  written_short e ptr len to true outside empty = same
  written_short e ptr len to false outside empty = written_inside e ptr len to outside empty

  written : (e ptr len : ℕ) (to : Option To) → Takes s (write_to p e ptr len to) None
  written e ptr len None = same
  written e ptr len (Some to) = written_short e ptr len to (ltb 256 len) (not (is_inside p.memory ptr len)) (eqb len 0)

  closed_to : (e : ℕ) (to : Option To) → Takes s (close_to p e to) None
  closed_to e None = same
  closed_to e (Some (Tty t)) = same
  closed_to e (Some (Proc peer far)) = tt

  handles : (ok : Bool) → Takes s (handled_at ok p (arg p 0)) None
  handles true = same
  handles false = same

  signals : (ok : Bool) → Takes s (signalled ok p (arg p 0) (arg p 1)) None
  signals true = tt
  signals false = same

  returns : (o : Option Registers) → Takes s (sigreturn_call p o) None
  returns None = same
  returns (Some regs) = same

  found : (wanted : Wanted) (ptr room : ℕ) (o : Option Arrived) → first_wanted p wanted ≡ o → Takes s (read_found p wanted ptr room o) o
  found wanted ptr room None is = tt
  found wanted ptr room (Some a) is =
      let test = is_wanted (p.small).ends wanted in
      record { wanted = test; found = ap (find test) (sym same) ∙ is; left = ap (without_first test) same }

read : (s : ProcState) (reading : Reading) → Takes s (read_call (with_small s (spent s.small)) reading) (wanted_letter s reading)
read s (Refused error) = refl
read s AtEnd = refl
read s (Wants wanted ptr room) = found s (with_small s (spent s.small)) refl wanted ptr room (first_wanted s wanted) refl

forked : (s p : ProcState) → p.mail ≡ s.mail → (none full : Bool) → Takes s (cond none (refused p 11) (cond full (refused p 24) Forks)) None
forked s p same true full = same
forked s p same false true = same
forked s p same false false = tt

called_takes : (s : ProcState) (c : Call) → Takes s (called c (with_small s (spent s.small))) (letter_called c s)
called_takes s ExitCall = refl
called_takes s Write = let p = with_small s (spent s.small) in written s p refl (arg p 0) (arg p 1) (arg p 2) (leads_at (p.small).ends (arg p 0))
called_takes s Read = read s (read_checked s)
called_takes s ReadAny = read s (read_any_checked s)
called_takes s ForkCall = let p = with_small s (spent s.small) in forked s p refl (eqb (p.small).births 0) (is_none (free_end (p.small).ends))
called_takes s GetPid = refl
called_takes s Handler = let p = with_small s (spent s.small) in handles s p refl (is_aligned (arg p 0))
called_takes s Kill = let p = with_small s (spent s.small) in signals s p refl (is_signal_number (arg p 1))
called_takes s SigReturn = let p = with_small s (spent s.small) in returns s p refl (p.small).frame
called_takes s Close = let p = with_small s (spent s.small) in closed_to s p refl (arg p 0) (leads_at (p.small).ends (arg p 0))
called_takes s Unknown = refl

-- ---- a step

executed : (s : ProcState) (x : Executed) → Takes s (after_exec x (with_small s (spent s.small))) (letter_executed x s)
executed s (Steps regs bytes) = refl
executed s (Traps code) = refl
executed s Calls = called_takes s (call_of (reg (s.small).regs 17))

lived : (s : ProcState) (b : Bool) → Takes s (live_step b s) (letter_live b s)
lived s true = refl
lived s false = executed s (exec (s.small).regs s.memory)

closed : (s : ProcState) (end : End) (o : Option (ℕ × To)) → Takes s (closing_step o end s) None
closed s end None = tt
closed s end (Some f) = tt

by_status : (s : ProcState) (status : Status) → Takes s (step_by status s) (letter_by status s)
by_status s Live = lived s (eqb (s.small).left 0)
by_status s (Closing end) = closed s end (lowest_linked (s.small).ends)
by_status s (Ended end) = tt

pub silent_takes_out : (s t : ProcState) → next_step s ≡ Silent t → TakesOut (letter_taken s) s.mail t.mail
silent_takes_out s t is = subst (λ next. Takes s next (letter_taken s)) is (by_status s (s.small).status)

-- ---- the marks

length-read : (s : ProcState) (dirty : List Bool) (reading : Reading) → length (marks_read s dirty reading) ≡ length dirty
length-read s dirty (Refused error) = refl
length-read s dirty AtEnd = refl
length-read s dirty (Wants wanted ptr room) = by_letter (first_wanted s wanted)
  where
    by_letter : (o : Option Arrived) → length (marks_found ptr room o dirty) ≡ length dirty
    by_letter None = refl
    by_letter (Some a) = length-touched dirty ptr (length (said_within room (a.letter).body))

length-called : (s : ProcState) (dirty : List Bool) (c : Call) → length (marks_called c s dirty) ≡ length dirty
length-called s dirty ExitCall = refl
length-called s dirty Write = refl
length-called s dirty Read = length-read s dirty (read_checked s)
length-called s dirty ReadAny = length-read s dirty (read_any_checked s)
length-called s dirty ForkCall = refl
length-called s dirty GetPid = refl
length-called s dirty Handler = refl
length-called s dirty Kill = refl
length-called s dirty SigReturn = refl
length-called s dirty Close = refl
length-called s dirty Unknown = refl

length-executed : (s : ProcState) (dirty : List Bool) (x : Executed) → length (marks_executed x s dirty) ≡ length dirty
length-executed s dirty (Steps regs bytes) = refl
length-executed s dirty (Traps code) = refl
length-executed s dirty Calls = length-called s dirty (call_of (reg (s.small).regs 17))

length-live : (s : ProcState) (dirty : List Bool) (b : Bool) → length (marks_live b s dirty) ≡ length dirty
length-live s dirty true = refl
length-live s dirty false = length-executed s (exec_marks (s.small).regs s.memory dirty) (exec (s.small).regs s.memory) ∙ length-exec_marks (s.small).regs s.memory dirty

length-by : (s : ProcState) (dirty : List Bool) (status : Status) → length (marks_by status s dirty) ≡ length dirty
length-by s dirty Live = length-live s dirty (eqb (s.small).left 0)
length-by s dirty (Closing end) = refl
length-by s dirty (Ended end) = refl

pub length-step_marks : (s : ProcState) (dirty : List Bool) → length (step_marks s dirty) ≡ length dirty
length-step_marks s dirty = length-by s dirty (s.small).status
