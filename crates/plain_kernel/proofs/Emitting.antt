-- A step that sends something lets no process take a signal that could take none.
use Rattle.std.proofs.Common.{◌≡◌, ℕ, refl, subst, Bool, true, false, cond, not, ltb, eqb, Option, Some, None, is_none}
use Rattle.t32_base.specs.declared.process.End.{End}
use Rattle.t32_base.specs.declared.process.Status.{Status}
use Rattle.t32_base.specs.declared.process.Status.TheVariants.{Live, Closing, Ended}
use Rattle.t32_base.specs.declared.letter.Arrived.{Arrived}
use Rattle.t32_base.specs.declared.letter.Body.TheVariants.{Said}
use Rattle.t32_base.specs.declared.letter.To.{To}
use Rattle.t32_base.specs.declared.letter.To.TheVariants.{Proc, Tty}
use Rattle.t32_base.specs.Registers.{Registers}
use Rattle.rv_mem.specs.Memory.{is_inside, bytes_at}
use Rattle.rv_cpu.specs.Exec.{Executed, Steps, Calls, Traps, exec, reg}
use Rattle.proc_state.specs.Ends.{free_end, leads_at}
use Rattle.proc_state.specs.State.{ProcState, can_take, with_small}
use Rattle.sys_calls.specs.Small.{spent, lowest_linked}
use Rattle.sys_calls.specs.declared.steps.Emission.{Emission}
use Rattle.sys_calls.specs.declared.steps.Emission.TheVariants.{Mail}
use Rattle.sys_calls.specs.declared.reading.Reading.{Reading}
use Rattle.sys_calls.specs.declared.reading.Reading.TheVariants.{Refused, AtEnd, Wants}
use Rattle.sys_calls.specs.declared.reading.Wanted.{Wanted}
use Rattle.sys_calls.specs.Calls.{Next, Silent, Blocked, Forks, Emits, Over, Call, ExitCall, Write, Read, ReadAny, ForkCall, GetPid, Handler, Kill, SigReturn, Close, Unknown, answers, arg, called, call_of, close_to, first_wanted, is_aligned, is_signal_number, handled_at, letter_to, read_any_checked, read_call, read_checked, read_found, refused, signalled, sigreturn_call, write_to}
use Rattle.sys_calls.specs.Next.{next_step, step_by, live_step, after_exec, closing_step}

-- after a step that sends something the process can take none, where it could take none before
abbrev StaysSo : ProcState → Next → Type 0
StaysSo s (Silent t) = Unit {0}
StaysSo s Blocked = Unit {0}
StaysSo s Forks = Unit {0}
StaysSo s (Emits e t) = can_take s ≡ false → can_take t ≡ false
StaysSo s Over = Unit {0}

-- a call keeps the status, the frame and the mailbox
module _ (p : ProcState) where
  written_some : (e ptr len : ℕ) (to : To) (none : Bool) → StaysSo p (cond none (Silent (answers p 0)) (Emits (Mail (letter_to p e to (Said (bytes_at p.memory ptr len)))) (answers p len)))
  written_some e ptr len to true = tt
  written_some e ptr len to false = λ none. none

  written_inside : (e ptr len : ℕ) (to : To) (outside none : Bool) → StaysSo p (cond outside (refused p 14) (cond none (Silent (answers p 0)) (Emits (Mail (letter_to p e to (Said (bytes_at p.memory ptr len)))) (answers p len))))
  written_inside e ptr len to true none = tt
  written_inside e ptr len to false none = written_some e ptr len to none

  written_short : (e ptr len : ℕ) (to : To) (long outside none : Bool)
      → StaysSo p (cond long (refused p 22) (cond outside (refused p 14) (cond none (Silent (answers p 0)) (Emits (Mail (letter_to p e to (Said (bytes_at p.memory ptr len)))) (answers p len)))))
  written_short e ptr len to true outside none = tt
  written_short e ptr len to false outside none = written_inside e ptr len to outside none

  written : (e ptr len : ℕ) (to : Option To) → StaysSo p (write_to p e ptr len to)
  written e ptr len None = tt
  written e ptr len (Some to) = written_short e ptr len to (ltb 256 len) (not (is_inside p.memory ptr len)) (eqb len 0)

  closed_to : (e : ℕ) (to : Option To) → StaysSo p (close_to p e to)
  closed_to e None = tt
  closed_to e (Some (Tty t)) = tt
  closed_to e (Some (Proc peer far)) = λ none. none

  found : (wanted : Wanted) (ptr room : ℕ) (o : Option Arrived) → StaysSo p (read_found p wanted ptr room o)
  found wanted ptr room None = tt
  found wanted ptr room (Some a) = tt

  read : (reading : Reading) → StaysSo p (read_call p reading)
  read (Refused error) = tt
  read AtEnd = tt
  read (Wants wanted ptr room) = found wanted ptr room (first_wanted p wanted)

  forked : (none full : Bool) → StaysSo p (cond none (refused p 11) (cond full (refused p 24) Forks))
  forked true full = tt
  forked false true = tt
  forked false false = tt

  handles : (ok : Bool) → StaysSo p (handled_at ok p (arg p 0))
  handles true = tt
  handles false = tt

  signals : (ok : Bool) → StaysSo p (signalled ok p (arg p 0) (arg p 1))
  signals true = λ none. none
  signals false = tt

  returns : (o : Option Registers) → StaysSo p (sigreturn_call p o)
  returns None = tt
  returns (Some regs) = tt

  called_so : (c : Call) → StaysSo p (called c p)
  called_so ExitCall = tt
  called_so Write = written (arg p 0) (arg p 1) (arg p 2) (leads_at (p.small).ends (arg p 0))
  called_so Read = read (read_checked p)
  called_so ReadAny = read (read_any_checked p)
  called_so ForkCall = forked (eqb (p.small).births 0) (is_none (free_end (p.small).ends))
  called_so GetPid = tt
  called_so Handler = handles (is_aligned (arg p 0))
  called_so Kill = signals (is_signal_number (arg p 1))
  called_so SigReturn = returns (p.small).frame
  called_so Close = closed_to (arg p 0) (leads_at (p.small).ends (arg p 0))
  called_so Unknown = tt

executed : (s : ProcState) (x : Executed) → StaysSo s (after_exec x (with_small s (spent s.small)))
executed s (Steps regs bytes) = tt
executed s (Traps code) = tt
executed s Calls = called_so (with_small s (spent s.small)) (call_of (reg (s.small).regs 17))

lived : (s : ProcState) (b : Bool) → StaysSo s (live_step b s)
lived s true = tt
lived s false = executed s (exec (s.small).regs s.memory)

-- one that closes stays so, and after its exit it has ended
closed : (s : ProcState) (end : End) (found : Option (ℕ × To)) → StaysSo s (closing_step found end s)
closed s end None = λ none. refl
closed s end (Some f) = λ none. none

by_status : (s : ProcState) (status : Status) → StaysSo s (step_by status s)
by_status s Live = lived s (eqb (s.small).left 0)
by_status s (Closing end) = closed s end (lowest_linked (s.small).ends)
by_status s (Ended end) = tt

pub emits_untaken : (s t : ProcState) (e : Emission) → next_step s ≡ Emits e t → can_take s ≡ false → can_take t ≡ false
emits_untaken s t e is = subst (StaysSo s) is (by_status s (s.small).status)
