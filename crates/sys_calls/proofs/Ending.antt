-- A process ends by no instruction: the step by which it ends is one of a process that closes, with no end linked. A live one has a step, or waits.
use Rattle.std.proofs.Common.{◌≡◌, ℕ, refl, sym, Bool, true, false, cond, not, eqb, ltb, Option, Some, None, is_none, ◌∙◌, true≢false}
use Rattle.t32_base.specs.declared.process.End.{End}
use Rattle.t32_base.specs.declared.letter.Arrived.{Arrived}
use Rattle.t32_base.specs.declared.letter.Body.TheVariants.{Said}
use Rattle.t32_base.specs.declared.letter.To.{To}
use Rattle.t32_base.specs.declared.letter.To.TheVariants.{Proc, Tty}
use Rattle.rv_mem.specs.Memory.{is_inside, bytes_at}
use Rattle.t32_base.specs.Registers.{Registers}
use Rattle.rv_cpu.specs.Exec.{Executed, Steps, Calls, Traps, exec, reg}
use Rattle.proc_state.specs.Ends.{free_end, leads_at}
use Rattle.proc_state.specs.State.{ProcState, with_small}
use Rattle.sys_calls.specs.Small.{spent}
use Rattle.sys_calls.specs.declared.steps.Emission.TheVariants.{Mail}
use Rattle.sys_calls.specs.Calls.{Next, Silent, Blocked, Forks, Emits, Over, Call, ExitCall, Write, Read, ReadAny, ForkCall, GetPid, Handler, Kill, SigReturn, Close, Unknown, arg, answers, refused, letter_to, called, call_of, close_to, first_wanted, read_any_checked, read_call, read_checked, read_found, write_to, handled_at, is_signal_number, signalled, sigreturn_call, is_aligned}
use Rattle.sys_calls.specs.declared.reading.Reading.{Reading}
use Rattle.sys_calls.specs.declared.reading.Reading.TheVariants.{Refused, AtEnd, Wants}
use Rattle.sys_calls.specs.declared.reading.Wanted.{Wanted}
use Rattle.sys_calls.specs.Next.{after_exec, has_step, is_blocked, is_end, is_exit, live_step, next_step, step_by}
use Rattle.t32_base.specs.declared.process.Status.{Status}
use Rattle.t32_base.specs.declared.process.Status.TheVariants.{Live, Closing, Ended}

-- it is no exit, and the process has not ended
abbrev lives_on : Next → Bool
lives_on (Silent p) = true
lives_on Blocked = true
lives_on Forks = true
lives_on (Emits e p) = not (is_end e)
lives_on Over = false

module _ (p : ProcState) where
  written_within : (e ptr len : ℕ) (to : To) (long outside none : Bool)
      → lives_on (cond long (refused p 22) (cond outside (refused p 14) (cond none (Silent (answers p 0)) (Emits (Mail (letter_to p e to (Said (bytes_at p.memory ptr len)))) (answers p len))))) ≡ true
  written_within e ptr len to true outside none = refl
  written_within e ptr len to false true none = refl
  written_within e ptr len to false false true = refl
  written_within e ptr len to false false false = refl

  written : (e ptr len : ℕ) (o : Option To) → lives_on (write_to p e ptr len o) ≡ true
  written e ptr len None = refl
  written e ptr len (Some to) = written_within e ptr len to (ltb 256 len) (not (is_inside p.memory ptr len)) (eqb len 0)

  closed : (e : ℕ) (o : Option To) → lives_on (close_to p e o) ≡ true
  closed e None = refl
  closed e (Some (Tty t)) = refl
  closed e (Some (Proc peer far)) = refl

  found : (wanted : Wanted) (ptr room : ℕ) (o : Option Arrived) → lives_on (read_found p wanted ptr room o) ≡ true
  found wanted ptr room None = refl
  found wanted ptr room (Some a) = refl

  read : (reading : Reading) → lives_on (read_call p reading) ≡ true
  read (Refused error) = refl
  read AtEnd = refl
  read (Wants wanted ptr room) = found wanted ptr room (first_wanted p wanted)

  forked : (none full : Bool) → lives_on (cond none (refused p 11) (cond full (refused p 24) Forks)) ≡ true
  forked true full = refl
  forked false true = refl
  forked false false = refl

  handles : (ok : Bool) → lives_on (handled_at ok p (arg p 0)) ≡ true
  handles true = refl
  handles false = refl

  signals : (ok : Bool) → lives_on (signalled ok p (arg p 0) (arg p 1)) ≡ true
  signals true = refl
  signals false = refl

  returns : (o : Option Registers) → lives_on (sigreturn_call p o) ≡ true
  returns None = refl
  returns (Some regs) = refl

  no_call : (c : Call) → lives_on (called c p) ≡ true
  no_call ExitCall = refl
  no_call Write = written (arg p 0) (arg p 1) (arg p 2) (leads_at (p.small).ends (arg p 0))
  no_call Read = read (read_checked p)
  no_call ReadAny = read (read_any_checked p)
  no_call ForkCall = forked (eqb (p.small).births 0) (is_none (free_end (p.small).ends))
  no_call Close = closed (arg p 0) (leads_at (p.small).ends (arg p 0))
  no_call GetPid = refl
  no_call Handler = handles (is_aligned (arg p 0))
  no_call Kill = signals (is_signal_number (arg p 1))
  no_call SigReturn = returns (p.small).frame
  no_call Unknown = refl

executed : (s : ProcState) (x : Executed) → lives_on (after_exec x (with_small s (spent s.small))) ≡ true
executed s (Steps regs bytes) = refl
executed s (Traps code) = refl
executed s Calls = no_call (with_small s (spent s.small)) (call_of (reg (s.small).regs 17))

live_goes_on : (s : ProcState) (spent_up : Bool) → lives_on (live_step spent_up s) ≡ true
live_goes_on s true = refl
live_goes_on s false = executed s (exec (s.small).regs s.memory)

no_exit : (next : Next) → lives_on next ≡ true → is_exit next ≡ false
no_exit (Silent p) is = refl
no_exit Blocked is = refl
no_exit Forks is = refl
no_exit (Emits e p) is = by_end (is_end e) is
  where
    by_end : (b : Bool) → not b ≡ true → b ≡ false
    by_end true h = sym h
    by_end false h = refl
no_exit Over is = refl

step_or_wait : (next : Next) → lives_on next ≡ true → not (is_blocked next) ≡ has_step next
step_or_wait (Silent p) is = refl
step_or_wait Blocked is = refl
step_or_wait Forks is = refl
step_or_wait (Emits e p) is = refl
step_or_wait Over is = sym is

-- a live process does not end by its next step
pub live_stays : (s : ProcState) (spent_up : Bool) → is_exit (live_step spent_up s) ≡ false
live_stays s spent_up = no_exit (live_step spent_up s) (live_goes_on s spent_up)

-- it has one unless it waits
pub live_steps : (s : ProcState) (spent_up : Bool) → not (is_blocked (live_step spent_up s)) ≡ has_step (live_step spent_up s)
live_steps s spent_up = step_or_wait (live_step spent_up s) (live_goes_on s spent_up)

-- a process that ends by its next step is closing
pub exit_closes : (s : ProcState) → is_exit (next_step s) ≡ true → (end : End) × ((s.small).status ≡ Closing end)
exit_closes s exits = by_status (s.small).status refl exits
  where
    by_status : (status : Status) → (s.small).status ≡ status → is_exit (step_by status s) ≡ true → (end : End) × ((s.small).status ≡ Closing end)
    by_status Live is h = absurd (true≢false (sym h ∙ live_stays s (eqb (s.small).left 0)))
    by_status (Closing end) is h = (end, is)
    by_status (Ended end) is h = absurd (true≢false (sym h))
