-- A step of a process reads the first letter that waits for one of its ends, or leaves the mailbox as it is.
use Rattle.std.proofs.Common.{◌≡◌, ℕ, ◌<◌, refl, sym, ◌∙◌, subst, List, length, Bool, true, false, cond, not, ◌||◌, eqb, ltb, find, slice_get, Option, Some, None, is_none, option_map, true≢false}
use Rattle.std.specs.List.{list_any}
use Rattle.std.specs.Option.{option_map_or}
use Rattle.std.proofs.lemmas.Option.{slice_get_within}
use Rattle.t32_base.specs.declared.process.End.{End}
use Rattle.t32_base.specs.declared.process.EndState.{EndState}
use Rattle.t32_base.specs.declared.process.Status.{Status}
use Rattle.t32_base.specs.declared.process.Status.TheVariants.{Live, Closing, Ended}
use Rattle.t32_base.specs.declared.letter.Arrived.{Arrived}
use Rattle.t32_base.specs.declared.letter.Body.TheVariants.{Said}
use Rattle.t32_base.specs.declared.letter.To.{To}
use Rattle.t32_base.specs.declared.letter.To.TheVariants.{Proc, Tty}
use Rattle.rv_mem.specs.Memory.{is_inside, bytes_at}
use Rattle.t32_base.specs.Registers.{Registers}
use Rattle.rv_cpu.specs.Exec.{Executed, Steps, Calls, Traps, exec, reg}
use Rattle.proc_state.specs.Ends.{free_end, is_linked, is_open_at, is_unfinished, is_unfinished_at, leads_at}
use Rattle.proc_state.specs.Mail.{is_on, is_on_linked, without_first}
use Rattle.proc_state.specs.State.{ProcState, with_small}
use Rattle.proc_state.proofs.LinkedLaws.{end_of_letter, find_passes, found_on}
use Rattle.sys_calls.specs.Small.{spent, lowest_linked}
use Rattle.sys_calls.specs.declared.steps.Emission.{Emission}
use Rattle.sys_calls.specs.declared.steps.Emission.TheVariants.{Mail}
use Rattle.sys_calls.specs.declared.reading.Reading.{Reading}
use Rattle.sys_calls.specs.declared.reading.Reading.TheVariants.{Refused, AtEnd, Wants}
use Rattle.sys_calls.specs.declared.reading.Wanted.{Wanted}
use Rattle.sys_calls.specs.declared.reading.Wanted.TheVariants.{On, AnyLinked}
use Rattle.sys_calls.specs.Calls.{Next, Silent, Blocked, Forks, Emits, Over, Call, ExitCall, Write, Read, ReadAny, ForkCall, GetPid, Handler, Kill, SigReturn, Close, Unknown, arg, answers, refused, letter_to, called, call_of, close_to, first_wanted, read_any_checked, read_call, read_checked, read_found, room, write_to, handled_at, is_aligned, is_signal_number, signalled, sigreturn_call}
use Rattle.sys_calls.specs.Next.{next_step, step_by, live_step, after_exec, closing_step}

-- the mailbox stayed, or the first letter for one of so many ends was taken out
pub data Took (ends : ℕ) (before after : List Arrived) : Type 0 where
  none : after ≡ before → Took ends before after
  first : (end : ℕ) (letter : Arrived) → find (is_on end) before ≡ Some letter → end < ends → after ≡ without_first (is_on end) before → Took ends before after

-- what each kind of step does
abbrev pub StepReads : ProcState → Next → Type 0
StepReads s (Silent t) = Took (length (s.small).ends) s.mail t.mail
StepReads s Blocked = Unit {0}
StepReads s Forks = Unit {0}
StepReads s (Emits e t) = t.mail ≡ s.mail
StepReads s Over = Unit {0}

-- ---- the end of a letter that is wanted

passes_within : (test : EndState → Bool) (ends : List EndState) (e : ℕ) → option_map_or test (slice_get ends e) false ≡ true → e < length ends
passes_within test ends e is = by_end (slice_get ends e) refl is
  where
    by_end : (o : Option EndState) → slice_get ends e ≡ o → option_map_or test o false ≡ true → e < length ends
    by_end None there passes = absurd (true≢false (sym passes))
    by_end (Some end) there passes = slice_get_within ends e end there

-- a read at an end asks whether it is there
abbrev AsksWithin : ProcState → Reading → Type 0
AsksWithin p (Refused error) = Unit {0}
AsksWithin p AtEnd = Unit {0}
AsksWithin p (Wants (On e) ptr room) = e < length (p.small).ends
AsksWithin p (Wants AnyLinked ptr room) = Unit {0}

module _ (p : ProcState) where
  read_asks : AsksWithin p (read_checked p)
  read_asks = by_tests (eqb (arg p 0) 0 || not (is_open_at (p.small).ends (arg p 0))) (not (is_inside p.memory (arg p 1) (room (arg p 2)))) (is_unfinished_at (p.small).ends (arg p 0)) refl
    where
      by_tests : (a b c : Bool) → is_unfinished_at (p.small).ends (arg p 0) ≡ c
          → AsksWithin p (cond a (Refused 9) (cond b (Refused 14) (cond c (Wants (On (arg p 0)) (arg p 1) (room (arg p 2))) AtEnd)))
      by_tests true b c is = tt
      by_tests false true c is = tt
      by_tests false false true is = passes_within is_unfinished (p.small).ends (arg p 0) is
      by_tests false false false is = tt

  any_asks : AsksWithin p (read_any_checked p)
  any_asks = by_tests (not (is_inside p.memory (arg p 0) (room (arg p 1)))) (not (list_any is_unfinished (p.small).ends))
    where
      by_tests : (a b : Bool) → AsksWithin p (cond a (Refused 14) (cond b (Refused 9) (Wants AnyLinked (arg p 0) (room (arg p 1)))))
      by_tests true b = tt
      by_tests false true = tt
      by_tests false false = tt

  -- ---- a call

  written_some : (e ptr len : ℕ) (to : To) (empty : Bool) → StepReads p (cond empty (Silent (answers p 0)) (Emits (Mail (letter_to p e to (Said (bytes_at p.memory ptr len)))) (answers p len)))
  written_some e ptr len to true = none refl
  written_some e ptr len to false = refl

  written_inside : (e ptr len : ℕ) (to : To) (outside empty : Bool)
      → StepReads p (cond outside (refused p 14) (cond empty (Silent (answers p 0)) (Emits (Mail (letter_to p e to (Said (bytes_at p.memory ptr len)))) (answers p len))))
  written_inside e ptr len to true empty = none refl
  written_inside e ptr len to false empty = written_some e ptr len to empty

  written_short : (e ptr len : ℕ) (to : To) (long outside empty : Bool)
      → StepReads p (cond long (refused p 22) (cond outside (refused p 14) (cond empty (Silent (answers p 0)) (Emits (Mail (letter_to p e to (Said (bytes_at p.memory ptr len)))) (answers p len)))))
  written_short e ptr len to true outside empty = none refl
  written_short e ptr len to false outside empty = written_inside e ptr len to outside empty

  written : (e ptr len : ℕ) (to : Option To) → StepReads p (write_to p e ptr len to)
  written e ptr len None = none refl
  written e ptr len (Some to) = written_short e ptr len to (ltb 256 len) (not (is_inside p.memory ptr len)) (eqb len 0)

  closed_to : (e : ℕ) (to : Option To) → StepReads p (close_to p e to)
  closed_to e None = none refl
  closed_to e (Some (Tty t)) = none refl
  closed_to e (Some (Proc peer far)) = refl

  found : (wanted : Wanted) (ptr count : ℕ) (o : Option Arrived) → AsksWithin p (Wants wanted ptr count) → first_wanted p wanted ≡ o → StepReads p (read_found p wanted ptr count o)
  found wanted ptr count None asks is = tt
  found (On e) ptr count (Some a) within is = first e a is within refl
  found AnyLinked ptr count (Some a) asks is =
      let on = found_on (p.small).ends p.mail (end_of_letter a) (λ i. option_map end_of_letter (sym is i)) in
      first (end_of_letter a) a (on.found ∙ is) (passes_within is_linked (p.small).ends (end_of_letter a) (find_passes (is_on_linked (p.small).ends) p.mail a is)) (sym on.left)

  read : (reading : Reading) → AsksWithin p reading → StepReads p (read_call p reading)
  read (Refused error) asks = none refl
  read AtEnd asks = none refl
  read (Wants wanted ptr count) asks = found wanted ptr count (first_wanted p wanted) asks refl

  forked : (few full : Bool) → StepReads p (cond few (refused p 11) (cond full (refused p 24) Forks))
  forked true full = none refl
  forked false true = none refl
  forked false false = tt

  handles : (ok : Bool) → StepReads p (handled_at ok p (arg p 0))
  handles true = none refl
  handles false = none refl

  signals : (ok : Bool) → StepReads p (signalled ok p (arg p 0) (arg p 1))
  signals true = refl
  signals false = none refl

  returns : (o : Option Registers) → StepReads p (sigreturn_call p o)
  returns None = none refl
  returns (Some regs) = none refl

  called_reads : (c : Call) → StepReads p (called c p)
  called_reads ExitCall = none refl
  called_reads Write = written (arg p 0) (arg p 1) (arg p 2) (leads_at (p.small).ends (arg p 0))
  called_reads Read = read (read_checked p) read_asks
  called_reads ReadAny = read (read_any_checked p) any_asks
  called_reads ForkCall = forked (eqb (p.small).births 0) (is_none (free_end (p.small).ends))
  called_reads Close = closed_to (arg p 0) (leads_at (p.small).ends (arg p 0))
  called_reads GetPid = none refl
  called_reads Handler = handles (is_aligned (arg p 0))
  called_reads Kill = signals (is_signal_number (arg p 1))
  called_reads SigReturn = returns (p.small).frame
  called_reads Unknown = none refl

-- ---- a step

-- the instruction that is spent changes neither mailbox nor ends
same_reads : (s : ProcState) (next : Next) → StepReads (with_small s (spent s.small)) next → StepReads s next
same_reads s (Silent t) reads = reads
same_reads s Blocked reads = tt
same_reads s Forks reads = tt
same_reads s (Emits e t) reads = reads
same_reads s Over reads = tt

executed : (s : ProcState) (x : Executed) → StepReads s (after_exec x (with_small s (spent s.small)))
executed s (Steps regs bytes) = none refl
executed s (Traps code) = none refl
executed s Calls =
    let c : Call = call_of (reg (s.small).regs 17) in
    same_reads s (called c (with_small s (spent s.small))) (called_reads (with_small s (spent s.small)) c)

lived : (s : ProcState) (b : Bool) → StepReads s (live_step b s)
lived s true = none refl
lived s false = executed s (exec (s.small).regs s.memory)

closed : (s : ProcState) (end : End) (o : Option (ℕ × To)) → StepReads s (closing_step o end s)
closed s end None = refl
closed s end (Some f) = refl

by_status : (s : ProcState) (status : Status) → StepReads s (step_by status s)
by_status s Live = lived s (eqb (s.small).left 0)
by_status s (Closing end) = closed s end (lowest_linked (s.small).ends)
by_status s (Ended end) = tt

pub next_reads : (s : ProcState) → StepReads s (next_step s)
next_reads s = by_status s (s.small).status

pub silent_takes : (s t : ProcState) → next_step s ≡ Silent t → Took (length (s.small).ends) s.mail t.mail
silent_takes s t is = subst (StepReads s) is (next_reads s)

pub sent_leaves : (s t : ProcState) (e : Emission) → next_step s ≡ Emits e t → t.mail ≡ s.mail
sent_leaves s t e is = subst (StepReads s) is (next_reads s)
