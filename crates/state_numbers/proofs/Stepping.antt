-- A step of a process, whatever it is, leaves its numbers small, and so does a take, a fork and a letter that arrives.
use Rattle.std.proofs.Common.{◌≡◌, ℕ, zero, suc, ◌+◌, ◌-◌, ◌^◌, ◌<◌, refl, arith, List, [], ◌∷◌, length, replicate, slice_get, Bool, true, false, cond, not, eqb, ltb, Option, Some, None, is_none}
use Rattle.std.specs.Prelude.{unwrap_or}
use Rattle.t32_base.specs.declared.process.Pid.{Pid}
use Rattle.t32_base.specs.declared.process.End.{End}
use Rattle.t32_base.specs.declared.process.Status.{Status}
use Rattle.t32_base.specs.declared.process.Status.TheVariants.{Live, Closing, Ended}
use Rattle.t32_base.specs.declared.process.EndState.{EndState}
use Rattle.t32_base.specs.declared.process.EndState.TheVariants.{Never, Shut}
use Rattle.t32_base.specs.declared.letter.Arrived.{Arrived}
use Rattle.t32_base.specs.declared.letter.Letter.{Letter}
use Rattle.t32_base.specs.declared.letter.Body.{Body}
use Rattle.t32_base.specs.declared.letter.Body.TheVariants.{Said, EndOf, Signal}
use Rattle.t32_base.specs.declared.letter.To.{To}
use Rattle.t32_base.specs.declared.letter.To.TheVariants.{Proc, Tty}
use Rattle.t32_base.specs.Registers.{Registers}
use Rattle.t32_base.specs.Small.{SmallState}
use Rattle.rv_mem.specs.Memory.{bytes_at, is_inside, with_bytes}
use Rattle.rv_cpu.specs.Exec.{Executed, Steps, Calls, Traps, exec, reg, set_reg}
use Rattle.proc_state.specs.Ends.{free_end, leads_at}
use Rattle.proc_state.specs.Mail.{end_of, first_signal, is_on}
use Rattle.proc_state.specs.State.{ProcState, delivered, linked_to, with_small}
use Rattle.sys_calls.specs.Small.{lowest_linked, spent, with_regs}
use Rattle.sys_calls.specs.declared.steps.Emission.TheVariants.{Mail}
use Rattle.sys_calls.specs.declared.reading.Reading.{Reading}
use Rattle.sys_calls.specs.declared.reading.Reading.TheVariants.{Refused, AtEnd, Wants}
use Rattle.sys_calls.specs.declared.reading.Wanted.{Wanted}
use Rattle.sys_calls.specs.declared.reading.Wanted.TheVariants.{On, AnyLinked}
use Rattle.sys_calls.specs.Calls.{Silent, Forks, Emits, Call, ExitCall, Write, Read, ReadAny, ForkCall, GetPid, Handler, Kill, SigReturn, Close, Unknown, answers, arg, call_of, called, close_to, ends_after, first_wanted, handled_at, is_aligned, is_signal_number, is_wanted, letter_read, letter_to, read_any_checked, read_call, read_checked, read_found, refused, room, said_within, shut_end, signalled, sigreturn_call, write_to}
use Rattle.sys_calls.specs.Next.{after_exec, closing_step, live_step, next_step, step_by}
use Rattle.sys_calls.specs.Fork.{fork_child, fork_end, fork_parent, fork_regs}
use Rattle.sys_calls.specs.Take.{struck, taken}
use Rattle.state_numbers.specs.Fits.{AllBelow, AreBytes, BodyFits, EndFits, FrameFits, IsWord, LetterFits, LinkFits, LinksFit, NextFits, StateFits, StatusFits, ToFits}
use Rattle.state_numbers.proofs.Below.{below_drop, below_index, below_take}
use Rattle.state_numbers.proofs.Executing.{ExecFits, exec_fits, set_fits, with_bytes_fit}
use Rattle.state_numbers.proofs.Parts.{EndsFit, LeadsFit, end_word, ends_after_fit, ends_set, first_word, found_letter, free_below, leads_fit, linked_ends_fit, linked_found, mail_more, rest_fits, said_fits, said_length}

-- ---- a process with other registers, or other ends

answers_fit : (p : ProcState) (v : ℕ) → IsWord v → StateFits p → StateFits (answers p v)
answers_fit p v less f = record { pid = f.pid; pages = f.pages; regs = set_fits (p.small).regs 10 v less f.regs; frame = f.frame; ends = f.ends; few = f.few; status = f.status; memory = f.memory; mail = f.mail }

refused_fits : (p : ProcState) (error : ℕ) → 0 < error → StateFits p → NextFits (refused p error)
refused_fits p error some f = answers_fit p (2 ^ 32 - error) (omega (arith, some)) f

ends_fit : (p : ProcState) → StateFits p → EndsFit (p.small).ends
ends_fit p f = record { fit = f.ends; few = f.few }

shut_fits : (p : ProcState) (e : ℕ) → StateFits p → StateFits (shut_end p e)
shut_fits p e f =
    let ends = ends_set (p.small).ends e Shut tt (ends_fit p f) in
    record { pid = f.pid; pages = f.pages; regs = f.regs; frame = f.frame; ends = ends.fit; few = ends.few; status = f.status; memory = f.memory; mail = f.mail }

-- ---- the calls

abbrev ReadingFits : Reading → Type 0
ReadingFits (Refused error) = 0 < error
ReadingFits AtEnd = Unit {0}
ReadingFits (Wants wanted ptr most) = IsWord most

room_word : (n : ℕ) → IsWord (room n)
room_word n = omega arith

module _ (p : ProcState) (f : StateFits p) where
  arg_word : (i : ℕ) → IsWord (arg p i)
  arg_word i = below_index (2 ^ 32) ((p.small).regs).x (10 + i) (omega arith) f.regs

  letter_fits : (out : ℕ) (to : To) (body : Body) → IsWord out → ToFits to → BodyFits body → LetterFits (letter_to p out to body)
  letter_fits out to body less goes says = record { from = f.pid; out = less; to = goes; body = says }

  written_some : (e ptr len : ℕ) (to : To) (none : Bool) → IsWord e → IsWord len → ToFits to
      → NextFits (cond none (Silent (answers p 0)) (Emits (Mail (letter_to p e to (Said (bytes_at p.memory ptr len)))) (answers p len)))
  written_some e ptr len to true own less goes = answers_fit p 0 (omega arith) f
  written_some e ptr len to false own less goes =
      (letter_fits e to (Said (bytes_at p.memory ptr len)) own goes (below_take 256 len _ (below_drop 256 (ptr - 0x10000) p.memory f.memory)), answers_fit p len less f)

  written_inside : (e ptr len : ℕ) (to : To) (outside none : Bool) → IsWord e → IsWord len → ToFits to
      → NextFits (cond outside (refused p 14) (cond none (Silent (answers p 0)) (Emits (Mail (letter_to p e to (Said (bytes_at p.memory ptr len)))) (answers p len))))
  written_inside e ptr len to true none own less goes = refused_fits p 14 (omega arith) f
  written_inside e ptr len to false none own less goes = written_some e ptr len to none own less goes

  written_short : (e ptr len : ℕ) (to : To) (long outside none : Bool) → IsWord e → IsWord len → ToFits to
      → NextFits (cond long (refused p 22) (cond outside (refused p 14) (cond none (Silent (answers p 0)) (Emits (Mail (letter_to p e to (Said (bytes_at p.memory ptr len)))) (answers p len)))))
  written_short e ptr len to true outside none own less goes = refused_fits p 22 (omega arith) f
  written_short e ptr len to false outside none own less goes = written_inside e ptr len to outside none own less goes

  written : (e ptr len : ℕ) (to : Option To) → IsWord e → IsWord len → LeadsFit to → NextFits (write_to p e ptr len to)
  written e ptr len None own less goes = refused_fits p 9 (omega arith) f
  written e ptr len (Some to) own less goes = written_short e ptr len to (ltb 256 len) (not (is_inside p.memory ptr len)) (eqb len 0) own less goes

  closed_to : (e : ℕ) (to : Option To) → IsWord e → LeadsFit to → NextFits (close_to p e to)
  closed_to e None own goes = refused_fits p 9 (omega arith) f
  closed_to e (Some (Tty t)) own goes = answers_fit (shut_end p e) 0 (omega arith) (shut_fits p e f)
  closed_to e (Some (Proc peer far)) own goes = (letter_fits e (Proc peer far) EndOf own goes tt, answers_fit (shut_end p e) 0 (omega arith) (shut_fits p e f))

  letter_read_fits : (wanted : Wanted) (ptr most : ℕ) (a : Arrived) → IsWord most → LetterFits a.letter → StateFits (letter_read p wanted ptr most a)
  letter_read_fits wanted ptr most a less l = by_wanted wanted
    where
      count : IsWord (length (said_within most (a.letter).body))
      count = let few = said_length most (a.letter).body in omega (arith, few, less)

      links : EndsFit (ends_after (a.letter).body (end_of (a.letter).to) (p.small).ends)
      links = ends_after_fit (a.letter).body (end_of (a.letter).to) (p.small).ends (ends_fit p f)

      memory : AreBytes (with_bytes p.memory ptr (said_within most (a.letter).body))
      memory = with_bytes_fit (p.small).regs p.memory f.regs f.memory ptr (said_within most (a.letter).body) (said_fits most (a.letter).body l.body)

      by_wanted : (w : Wanted) → StateFits (letter_read p w ptr most a)
      by_wanted (On e) = record {
        pid = f.pid;
        pages = f.pages;
        regs = set_fits (p.small).regs 10 (length (said_within most (a.letter).body)) count f.regs;
        frame = f.frame;
        ends = links.fit;
        few = links.few;
        status = f.status;
        memory = memory;
        mail = rest_fits (is_wanted (p.small).ends (On e)) p.mail f.mail;
      }
      by_wanted AnyLinked = record {
        pid = f.pid;
        pages = f.pages;
        regs = set_fits (set_reg (p.small).regs 10 (length (said_within most (a.letter).body))) 11 (end_of (a.letter).to) (end_word (a.letter).to l.to) (set_fits (p.small).regs 10 (length (said_within most (a.letter).body)) count f.regs);
        frame = f.frame;
        ends = links.fit;
        few = links.few;
        status = f.status;
        memory = memory;
        mail = rest_fits (is_wanted (p.small).ends AnyLinked) p.mail f.mail;
      }

  read : (reading : Reading) → ReadingFits reading → NextFits (read_call p reading)
  read (Refused error) some = refused_fits p error some f
  read AtEnd fits = answers_fit p 0 (omega arith) f
  read (Wants wanted ptr most) less = by_letter (first_wanted p wanted) refl
    where
      by_letter : (o : Option Arrived) → first_wanted p wanted ≡ o → NextFits (read_found p wanted ptr most o)
      by_letter None is = tt
      by_letter (Some a) is = letter_read_fits wanted ptr most a less (found_letter (is_wanted (p.small).ends wanted) p.mail a f.mail is)

  reading : ReadingFits (read_checked p)
  reading = by_open _ _ _
    where
      by_open : (shut outside unfinished : Bool) → ReadingFits (cond shut (Refused 9) (cond outside (Refused 14) (cond unfinished (Wants (On (arg p 0)) (arg p 1) (room (arg p 2))) AtEnd)))
      by_open true outside unfinished = omega arith
      by_open false true unfinished = omega arith
      by_open false false true = room_word (arg p 2)
      by_open false false false = tt

  reading_any : ReadingFits (read_any_checked p)
  reading_any = by_open _ _
    where
      by_open : (outside none : Bool) → ReadingFits (cond outside (Refused 14) (cond none (Refused 9) (Wants AnyLinked (arg p 0) (room (arg p 1)))))
      by_open true none = omega arith
      by_open false true = omega arith
      by_open false false = room_word (arg p 1)

  forked : (none full : Bool) → NextFits (cond none (refused p 11) (cond full (refused p 24) Forks))
  forked true full = refused_fits p 11 (omega arith) f
  forked false true = refused_fits p 24 (omega arith) f
  forked false false = tt

  handles : (ok : Bool) → NextFits (handled_at ok p (arg p 0))
  handles true = record { pid = f.pid; pages = f.pages; regs = set_fits (p.small).regs 10 0 (omega arith) f.regs; frame = f.frame; ends = f.ends; few = f.few; status = f.status; memory = f.memory; mail = f.mail }
  handles false = refused_fits p 22 (omega arith) f

  signals : (ok : Bool) → NextFits (signalled ok p (arg p 0) (arg p 1))
  signals true = (letter_fits 0 (Proc (record { 0 = arg p 0 }) 0) (Signal (arg p 1)) (omega arith) (arg_word 0, omega arith) (arg_word 1), answers_fit p 0 (omega arith) f)
  signals false = refused_fits p 22 (omega arith) f

  returns : (o : Option Registers) → FrameFits o → NextFits (sigreturn_call p o)
  returns None fits = refused_fits p 22 (omega arith) f
  returns (Some regs) fits = record { pid = f.pid; pages = f.pages; regs = fits; frame = tt; ends = f.ends; few = f.few; status = f.status; memory = f.memory; mail = f.mail }

  called_fits : (c : Call) → NextFits (called c p)
  called_fits ExitCall = record { pid = f.pid; pages = f.pages; regs = f.regs; frame = f.frame; ends = f.ends; few = f.few; status = omega arith; memory = f.memory; mail = f.mail }
  called_fits Write = written (arg p 0) (arg p 1) (arg p 2) (leads_at (p.small).ends (arg p 0)) (arg_word 0) (arg_word 2) (leads_fit (p.small).ends (arg p 0) f.ends)
  called_fits Read = read (read_checked p) reading
  called_fits ReadAny = read (read_any_checked p) reading_any
  called_fits ForkCall = forked (eqb (p.small).births 0) (is_none (free_end (p.small).ends))
  called_fits Close = closed_to (arg p 0) (leads_at (p.small).ends (arg p 0)) (arg_word 0) (leads_fit (p.small).ends (arg p 0) f.ends)
  called_fits GetPid = answers_fit p ((p.small).pid).0 f.pid f
  called_fits Handler = handles (is_aligned (arg p 0))
  called_fits Kill = signals (is_signal_number (arg p 1))
  called_fits SigReturn = returns (p.small).frame f.frame
  called_fits Unknown = refused_fits p 22 (omega arith) f

-- ---- a step

spent_fits : (s : ProcState) → StateFits s → StateFits (with_small s (spent s.small))
spent_fits s f = record { pid = f.pid; pages = f.pages; regs = f.regs; frame = f.frame; ends = f.ends; few = f.few; status = f.status; memory = f.memory; mail = f.mail }

executed_step : (s : ProcState) → StateFits s → (x : Executed) → ExecFits x → NextFits (after_exec x (with_small s (spent s.small)))
executed_step s f (Steps regs bytes) x = record { pid = f.pid; pages = f.pages; regs = x.0; frame = f.frame; ends = f.ends; few = f.few; status = f.status; memory = x.1; mail = f.mail }
executed_step s f (Traps code) x = record { pid = f.pid; pages = f.pages; regs = f.regs; frame = f.frame; ends = f.ends; few = f.few; status = x; memory = f.memory; mail = f.mail }
executed_step s f Calls x = called_fits (with_small s (spent s.small)) (spent_fits s f) (call_of (reg (s.small).regs 17))

lived : (s : ProcState) → StateFits s → (b : Bool) → NextFits (live_step b s)
lived s f true = record { pid = f.pid; pages = f.pages; regs = f.regs; frame = f.frame; ends = f.ends; few = f.few; status = tt; memory = f.memory; mail = f.mail }
lived s f false = executed_step s f (exec (s.small).regs s.memory) (exec_fits (s.small).regs s.memory f.regs f.memory)

closed : (s : ProcState) (end : End) → StateFits s → EndFits end → (found : Option (ℕ × To)) → lowest_linked (s.small).ends ≡ found → NextFits (closing_step found end s)
closed s end f ends None is = (ends, record { pid = f.pid; pages = f.pages; regs = f.regs; frame = f.frame; ends = f.ends; few = f.few; status = ends; memory = f.memory; mail = f.mail })
closed s end f ends (Some found) is =
    let at = linked_found 0 (s.small).ends found f.ends is in
    let links = ends_set (s.small).ends found.0 Shut tt (ends_fit s f) in (
      record { from = f.pid; out = (let less = at.end in let few = f.few in omega (arith, less, few)); to = at.to; body = tt },
      record { pid = f.pid; pages = f.pages; regs = f.regs; frame = f.frame; ends = links.fit; few = links.few; status = f.status; memory = f.memory; mail = f.mail },
    )

by_status : (s : ProcState) → StateFits s → (status : Status) → StatusFits status → NextFits (step_by status s)
by_status s f Live fits = lived s f (eqb (s.small).left 0)
by_status s f (Closing end) fits = closed s end f fits (lowest_linked (s.small).ends) refl
by_status s f (Ended end) fits = tt

pub next_fits : (s : ProcState) → StateFits s → NextFits (next_step s)
next_fits s f = by_status s f (s.small).status f.status

-- ---- what else changes it

pub take_fits : (s : ProcState) → StateFits s → StateFits (taken s)
take_fits s f = by_handler (eqb (s.small).handler 0)
  where
    by_handler : (b : Bool) → StateFits (record s { small = struck b (unwrap_or (first_signal s.mail) 0) s.small; mail = (taken s).mail })
    by_handler true = record { pid = f.pid; pages = f.pages; regs = f.regs; frame = f.frame; ends = f.ends; few = f.few; status = first_word s.mail f.mail; memory = f.memory; mail = rest_fits (is_on 0) s.mail f.mail }
    by_handler false = record {
      pid = f.pid;
      pages = f.pages;
      regs = set_fits (s.small).regs 10 (unwrap_or (first_signal s.mail) 0) (first_word s.mail f.mail) f.regs;
      frame = f.regs;
      ends = f.ends;
      few = f.few;
      status = f.status;
      memory = f.memory;
      mail = rest_fits (is_on 0) s.mail f.mail;
    }

pub delivered_fits : (s : ProcState) (letter : Letter) → LetterFits letter → StateFits s → StateFits (delivered s letter)
delivered_fits s letter l f = record { pid = f.pid; pages = f.pages; regs = f.regs; frame = f.frame; ends = f.ends; few = f.few; status = f.status; memory = f.memory; mail = mail_more s.mail (record { number = s.next; letter = letter }) f.mail l }

pub linked_fits : (s : ProcState) (peer : Pid) (far : ℕ) → IsWord peer.0 → IsWord far → StateFits s → StateFits (linked_to s peer far)
linked_fits s peer far near less f =
    let ends = linked_ends_fit (s.small).ends peer far near less (ends_fit s f) in
    record { pid = f.pid; pages = f.pages; regs = f.regs; frame = f.frame; ends = ends.fit; few = ends.few; status = f.status; memory = f.memory; mail = f.mail }

pub fork_word : (s : SmallState) → EndsFit s.ends → IsWord (fork_end s)
fork_word s e = by_free (free_end s.ends) refl
  where
    by_free : (o : Option ℕ) → free_end s.ends ≡ o → IsWord (unwrap_or o 0)
    by_free None is = omega arith
    by_free (Some i) is = let less = free_below s.ends i is in let few = e.few in omega (arith, less, few)

fork_regs_fit : (regs : Registers) (a0 a1 : ℕ) → IsWord a0 → IsWord a1 → AllBelow (2 ^ 32) regs.x → AllBelow (2 ^ 32) (fork_regs regs a0 a1).x
fork_regs_fit regs a0 a1 one two all = set_fits (set_reg regs 10 a0) 11 a1 two (set_fits regs 10 a0 one all)

pub parent_fits : (s : ProcState) (child : Pid) → IsWord child.0 → StateFits s → StateFits (fork_parent s child)
parent_fits s child less f =
    let ends = linked_ends_fit (s.small).ends child 1 less (omega arith) (ends_fit s f) in
    record {
      pid = f.pid;
      pages = f.pages;
      regs = fork_regs_fit (s.small).regs child.0 (fork_end s.small) less (fork_word s.small (ends_fit s f)) f.regs;
      frame = f.frame;
      ends = ends.fit;
      few = ends.few;
      status = f.status;
      memory = f.memory;
      mail = f.mail;
    }

pub never_fit : (n : ℕ) → LinksFit (replicate n Never)
never_fit zero = tt
never_fit (suc n) = (tt, never_fit n)

first_fits : (ends : List EndState) → LinksFit ends → LinkFits (unwrap_or (slice_get ends 0) Shut)
first_fits [] fit = tt
first_fits (x ∷ ends) fit = fit.0

pub child_fits : (s : ProcState) (child : Pid) → IsWord child.0 → StateFits s → StateFits (fork_child s child)
child_fits s child less f = record {
  pid = less;
  pages = f.pages;
  regs = fork_regs_fit (s.small).regs 0 1 (omega arith) (omega arith) f.regs;
  frame = f.frame;
  ends = (first_fits (s.small).ends f.ends, ((f.pid, fork_word s.small (ends_fit s f)), never_fit 30));
  few = omega arith;
  status = tt;
  memory = f.memory;
  mail = tt;
}
