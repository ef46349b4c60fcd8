-- What each step counts, whose letter it sends, and which step is the last of a process.
use Rattle.std.proofs.Common.{◌≡◌, ℕ, zero, suc, ◌+◌, refl, sym, ◌∙◌, ap, subst, arith, Bool, true, false, cond, eqb, ltb, not, Option, Some, None, is_none, option_and_then, true≢false, add-zero}
use Rattle.std.proofs.lemmas.Option.{same_Some}
use Rattle.t32_base.specs.declared.process.End.{End}
use Rattle.t32_base.specs.declared.process.Status.{Status}
use Rattle.t32_base.specs.declared.process.Status.TheVariants.{Live, Closing, Ended}
use Rattle.t32_base.specs.declared.letter.Letter.{Letter}
use Rattle.t32_base.specs.declared.letter.Body.TheVariants.{Said}
use Rattle.t32_base.specs.declared.letter.Arrived.{Arrived}
use Rattle.t32_base.specs.declared.letter.To.{To}
use Rattle.t32_base.specs.declared.letter.To.TheVariants.{Proc, Tty}
use Rattle.rv_mem.specs.Memory.{is_inside, bytes_at}
use Rattle.t32_base.specs.Registers.{Registers}
use Rattle.rv_cpu.specs.Exec.{Executed, Steps, Calls, Traps, exec, reg}
use Rattle.proc_state.specs.Ends.{free_end, leads_at}
use Rattle.proc_state.specs.State.{ProcState, with_small, has_ended}
use Rattle.sys_calls.specs.Small.{spent, lowest_linked}
use Rattle.sys_calls.specs.declared.steps.Emission.{Emission}
use Rattle.sys_calls.specs.declared.steps.Emission.TheVariants.{Mail, Exit}
use Rattle.sys_calls.specs.Calls.{Next, Silent, Blocked, Forks, Emits, Over, Call, ExitCall, Write, Read, ReadAny, ForkCall, GetPid, Handler, Kill, SigReturn, Close, Unknown, arg, answers, refused, letter_to, called, call_of, close_to, first_wanted, read_any_checked, read_call, read_checked, read_found, write_to, handled_at, is_signal_number, signalled, sigreturn_call, is_aligned}
use Rattle.sys_calls.specs.declared.reading.Reading.{Reading}
use Rattle.sys_calls.specs.declared.reading.Reading.TheVariants.{Refused, AtEnd, Wants}
use Rattle.sys_calls.specs.declared.reading.Wanted.{Wanted}
use Rattle.sys_calls.specs.declared.reading.Wanted.TheVariants.{On, AnyLinked}
use Rattle.sys_calls.specs.Next.{next_step, step_by, live_step, after_exec, closing_step, silent_of, silently, emission_of, last_emission}

-- one step was counted, the process is the same, and no letter has arrived
pub record CountsOne (s t : ProcState) : Type 0 where
  pub steps : (t.small).steps ≡ (s.small).steps + 1
  pub pid : (t.small).pid ≡ (s.small).pid
  pub next : t.next ≡ s.next

-- what each kind of step does: a letter is the process's own, and its exit alone ends it
abbrev pub Sends : ProcState → Emission → ProcState → Type 0
Sends s (Mail letter) t = (letter.from ≡ (s.small).pid) × (has_ended (t.small).status ≡ false)
Sends s (Exit end) t = (t.small).status ≡ Ended end

abbrev pub Counts : ProcState → Next → Type 0
Counts s (Silent t) = CountsOne s t × (has_ended (t.small).status ≡ false)
Counts s Blocked = Unit {0}
Counts s Forks = Unit {0}
Counts s (Emits e t) = CountsOne s t × Sends s e t
Counts s Over = Unit {0}

module _ (s p : ProcState) (one : CountsOne s p) (open_still : has_ended (p.small).status ≡ false) where
  written_some : (e ptr len : ℕ) (to : To) (none : Bool)
      → Counts s (cond none (Silent (answers p 0)) (Emits (Mail (letter_to p e to (Said (bytes_at p.memory ptr len)))) (answers p len)))
  written_some e ptr len to true = (record { steps = one.steps; pid = one.pid; next = one.next }, open_still)
  written_some e ptr len to false = (record { steps = one.steps; pid = one.pid; next = one.next }, (one.pid, open_still))

  written_inside : (e ptr len : ℕ) (to : To) (outside none : Bool)
      → Counts s (cond outside (refused p 14) (cond none (Silent (answers p 0)) (Emits (Mail (letter_to p e to (Said (bytes_at p.memory ptr len)))) (answers p len))))
  written_inside e ptr len to true none = (record { steps = one.steps; pid = one.pid; next = one.next }, open_still)
  written_inside e ptr len to false none = written_some e ptr len to none

  written_short : (e ptr len : ℕ) (to : To) (long outside none : Bool)
      → Counts s (cond long (refused p 22) (cond outside (refused p 14) (cond none (Silent (answers p 0)) (Emits (Mail (letter_to p e to (Said (bytes_at p.memory ptr len)))) (answers p len)))))
  written_short e ptr len to true outside none = (record { steps = one.steps; pid = one.pid; next = one.next }, open_still)
  written_short e ptr len to false outside none = written_inside e ptr len to outside none

  written : (e ptr len : ℕ) (to : Option To) → Counts s (write_to p e ptr len to)
  written e ptr len None = (record { steps = one.steps; pid = one.pid; next = one.next }, open_still)
  written e ptr len (Some to) = written_short e ptr len to (ltb 256 len) (not (is_inside p.memory ptr len)) (eqb len 0)

  closed_to : (e : ℕ) (to : Option To) → Counts s (close_to p e to)
  closed_to e None = (record { steps = one.steps; pid = one.pid; next = one.next }, open_still)
  closed_to e (Some (Tty t)) = (record { steps = one.steps; pid = one.pid; next = one.next }, open_still)
  closed_to e (Some (Proc peer far)) = (record { steps = one.steps; pid = one.pid; next = one.next }, (one.pid, open_still))

  found : (wanted : Wanted) (ptr room : ℕ) (o : Option Arrived) → Counts s (read_found p wanted ptr room o)
  found wanted ptr room None = tt
  found (On e) ptr room (Some a) = (record { steps = one.steps; pid = one.pid; next = one.next }, open_still)
  found AnyLinked ptr room (Some a) = (record { steps = one.steps; pid = one.pid; next = one.next }, open_still)

  read : (reading : Reading) → Counts s (read_call p reading)
  read (Refused error) = (record { steps = one.steps; pid = one.pid; next = one.next }, open_still)
  read AtEnd = (record { steps = one.steps; pid = one.pid; next = one.next }, open_still)
  read (Wants wanted ptr room) = found wanted ptr room (first_wanted p wanted)

  forked : (none full : Bool) → Counts s (cond none (refused p 11) (cond full (refused p 24) Forks))
  forked true full = (record { steps = one.steps; pid = one.pid; next = one.next }, open_still)
  forked false true = (record { steps = one.steps; pid = one.pid; next = one.next }, open_still)
  forked false false = tt

  handles : (ok : Bool) → Counts s (handled_at ok p (arg p 0))
  handles true = (record { steps = one.steps; pid = one.pid; next = one.next }, open_still)
  handles false = (record { steps = one.steps; pid = one.pid; next = one.next }, open_still)

  signals : (ok : Bool) → Counts s (signalled ok p (arg p 0) (arg p 1))
  signals true = (record { steps = one.steps; pid = one.pid; next = one.next }, (one.pid, open_still))
  signals false = (record { steps = one.steps; pid = one.pid; next = one.next }, open_still)

  returns : (o : Option Registers) → Counts s (sigreturn_call p o)
  returns None = (record { steps = one.steps; pid = one.pid; next = one.next }, open_still)
  returns (Some regs) = (record { steps = one.steps; pid = one.pid; next = one.next }, open_still)

  called_counts : (c : Call) → Counts s (called c p)
  called_counts ExitCall = (record { steps = one.steps; pid = one.pid; next = one.next }, refl)
  called_counts Write = written (arg p 0) (arg p 1) (arg p 2) (leads_at (p.small).ends (arg p 0))
  called_counts Read = read (read_checked p)
  called_counts ReadAny = read (read_any_checked p)
  called_counts ForkCall = forked (eqb (p.small).births 0) (is_none (free_end (p.small).ends))
  called_counts Close = closed_to (arg p 0) (leads_at (p.small).ends (arg p 0))
  called_counts GetPid = (record { steps = one.steps; pid = one.pid; next = one.next }, open_still)
  called_counts Handler = handles (is_aligned (arg p 0))
  called_counts Kill = signals (is_signal_number (arg p 1))
  called_counts SigReturn = returns (p.small).frame
  called_counts Unknown = (record { steps = one.steps; pid = one.pid; next = one.next }, open_still)

executed : (s : ProcState) → has_ended (s.small).status ≡ false → (x : Executed) → Counts s (after_exec x (with_small s (spent s.small)))
executed s open_still (Steps regs bytes) = (record { steps = refl; pid = refl; next = refl }, open_still)
executed s open_still (Traps code) = (record { steps = refl; pid = refl; next = refl }, refl)
executed s open_still Calls = called_counts s (with_small s (spent s.small)) (record { steps = refl; pid = refl; next = refl }) open_still (call_of (reg (s.small).regs 17))

lived : (s : ProcState) → has_ended (s.small).status ≡ false → (b : Bool) → Counts s (live_step b s)
lived s open_still true = (record { steps = refl; pid = refl; next = refl }, refl)
lived s open_still false = executed s open_still (exec (s.small).regs s.memory)

closed : (s : ProcState) (end : End) → has_ended (s.small).status ≡ false → (found : Option (ℕ × To)) → Counts s (closing_step found end s)
closed s end open_still None = (record { steps = refl; pid = refl; next = refl }, refl)
closed s end open_still (Some f) = (record { steps = refl; pid = refl; next = refl }, (refl, open_still))

by_status : (s : ProcState) (status : Status) → (s.small).status ≡ status → Counts s (step_by status s)
by_status s Live is = lived s (ap has_ended is) (eqb (s.small).left 0)
by_status s (Closing end) is = closed s end (ap has_ended is) (lowest_linked (s.small).ends)
by_status s (Ended end) is = tt

-- the next step of a process is counted once, whatever it is
pub next_counts : (s : ProcState) → Counts s (next_step s)
next_counts s = by_status s (s.small).status refl

-- ---- one step

-- a silent step is counted once
pub silent_counts : (s t : ProcState) → next_step s ≡ Silent t → CountsOne s t
silent_counts s t is = (subst (Counts s) is (next_counts s)).0

-- and leaves a process that has not ended
pub silent_goes_on : (s t : ProcState) → next_step s ≡ Silent t → has_ended (t.small).status ≡ false
silent_goes_on s t is = (subst (Counts s) is (next_counts s)).1

-- a step that sends something is counted once
pub emits_counts : (s t : ProcState) (e : Emission) → next_step s ≡ Emits e t → CountsOne s t
emits_counts s t e is = (subst (Counts s) is (next_counts s)).0

-- a letter that is sent is from the process itself
pub letter_is_own : (s t : ProcState) (letter : Letter) → next_step s ≡ Emits (Mail letter) t → letter.from ≡ (s.small).pid
letter_is_own s t letter is = (subst (Counts s) is (next_counts s)).1.0

-- and leaves a process that has not ended
pub letter_goes_on : (s t : ProcState) (letter : Letter) → next_step s ≡ Emits (Mail letter) t → has_ended (t.small).status ≡ false
letter_goes_on s t letter is = (subst (Counts s) is (next_counts s)).1.1

-- an exit leaves one that has, by this end
pub exit_status : (s t : ProcState) (end : End) → next_step s ≡ Emits (Exit end) t → (t.small).status ≡ Ended end
exit_status s t end is = (subst (Counts s) is (next_counts s)).1

pub exit_ends : (s t : ProcState) (end : End) → next_step s ≡ Emits (Exit end) t → has_ended (t.small).status ≡ true
exit_ends s t end is = ap has_ended (exit_status s t end is)

-- a process that has ended makes no step
pub ended_is_over : (s : ProcState) → has_ended (s.small).status ≡ true → next_step s ≡ Over
ended_is_over s ended = by_case (s.small).status ended
  where
    by_case : (status : Status) → has_ended status ≡ true → step_by status s ≡ Over
    by_case Live e = absurd (true≢false (sym e))
    by_case (Closing end) e = absurd (true≢false (sym e))
    by_case (Ended end) e = refl

-- ---- several steps

-- n steps were counted, the process is the same, and no letter has arrived
pub record CountsMany (n : ℕ) (s t : ProcState) : Type 0 where
  pub steps : (t.small).steps ≡ (s.small).steps + n
  pub pid : (t.small).pid ≡ (s.small).pid
  pub next : t.next ≡ s.next

one_more : (n : ℕ) (s q t : ProcState) → CountsMany n s q → CountsOne q t → CountsMany (suc n) s t
one_more n s q t many one = record { steps = omega (arith, many.steps, one.steps); pid = one.pid ∙ many.pid; next = one.next ∙ many.next }

none_more : (s t : ProcState) → Some s ≡ Some t → CountsMany 0 s t
none_more s t e = let same : s ≡ t = same_Some s t e in record { steps = ap (λ (p : ProcState). (p.small).steps) (sym same) ∙ sym (add-zero (s.small).steps); pid = ap (λ (p : ProcState). (p.small).pid) (sym same); next = ap (λ (p : ProcState). p.next) (sym same) }

silent_is : (next : Next) (t : ProcState) → silent_of next ≡ Some t → next ≡ Silent t
silent_is (Silent s) t e = ap Silent (same_Some s t e)
silent_is Blocked t e = cc
silent_is Forks t e = cc
silent_is (Emits what s) t e = cc
silent_is Over t e = cc

emission_is : (next : Next) (e : Emission) (t : ProcState) → emission_of next ≡ Some (e, t) → next ≡ Emits e t
emission_is (Silent s) e t is = cc
emission_is Blocked e t is = cc
emission_is Forks e t is = cc
emission_is (Emits what s) e t is = let same : ◌≡◌ {A = Emission × ProcState} (what, s) (e, t) = same_Some _ _ is in λ i. Emits (same i).0 (same i).1
emission_is Over e t is = cc

-- n silent steps are counted n times
pub silently_counts : (n : ℕ) (s t : ProcState) → silently n s ≡ Some t → CountsMany n s t
unfolding silently
silently_counts zero s t is = none_more s t is
silently_counts (suc n) s t is = by_case (silently n s) refl is (λ q. silently_counts n s q)
  where
    by_case : (o : Option ProcState) → silently n s ≡ o → option_and_then (λ q. silent_of (next_step q)) o ≡ Some t → ((q : ProcState) → silently n s ≡ Some q → CountsMany n s q) → CountsMany (suc n) s t
    by_case None from e ih = cc
    by_case (Some q) from e ih = one_more n s q t (ih q from) (silent_counts q t (silent_is (next_step q) t e))

-- what the last of n steps sends, with the process before it
pub record LastSent (n : ℕ) (s : ProcState) (e : Emission) (t : ProcState) : Type 0 where
  pub earlier : ℕ
  pub before : ProcState
  pub count : n ≡ suc earlier
  pub silent : silently earlier s ≡ Some before
  pub last : next_step before ≡ Emits e t

pub last_sent : (n : ℕ) (s : ProcState) (e : Emission) (t : ProcState) → last_emission n s ≡ Some (e, t) → LastSent n s e t
last_sent zero s e t is = cc
last_sent (suc n) s e t is = by_case (silently n s) refl is
  where
    by_case : (o : Option ProcState) → silently n s ≡ o → option_and_then (λ q. emission_of (next_step q)) o ≡ Some (e, t) → LastSent (suc n) s e t
    by_case None from f = cc
    by_case (Some q) from f = record { earlier = n; before = q; count = refl; silent = from; last = emission_is (next_step q) e t f }

-- n steps of which the last sends something are counted n times
pub last_counts : (n : ℕ) (s : ProcState) (e : Emission) (t : ProcState) → last_emission n s ≡ Some (e, t) → CountsMany n s t
last_counts n s e t is =
    let last = last_sent n s e t is in
    subst (λ m. CountsMany m s t) (sym last.count) (one_more last.earlier s last.before t (silently_counts last.earlier s last.before last.silent) (emits_counts last.before t e last.last))

-- the letter that the last of n steps sends is from the process itself
pub last_letter_is_own : (n : ℕ) (s : ProcState) (letter : Letter) (t : ProcState) → last_emission n s ≡ Some (Mail letter, t) → letter.from ≡ (s.small).pid
last_letter_is_own n s letter t is =
    let last = last_sent n s (Mail letter) t is in
    letter_is_own last.before t letter last.last ∙ (silently_counts last.earlier s last.before last.silent).pid
