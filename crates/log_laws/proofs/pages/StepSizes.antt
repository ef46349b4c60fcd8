-- A step leaves the number of pages and the size of the memory.
use Rattle.std.proofs.Common.{◌≡◌, ℕ, refl, ◌∙◌, List, length, Bool, true, false, cond, not, eqb, ltb, Option, Some, None, is_none}
use Rattle.t32_base.specs.declared.process.End.{End}
use Rattle.t32_base.specs.declared.process.Status.{Status}
use Rattle.t32_base.specs.declared.process.Status.TheVariants.{Live, Closing, Ended}
use Rattle.t32_base.specs.declared.letter.Body.{Body}
use Rattle.t32_base.specs.declared.letter.Body.TheVariants.{Said}
use Rattle.t32_base.specs.declared.letter.Arrived.{Arrived}
use Rattle.t32_base.specs.declared.letter.To.{To}
use Rattle.t32_base.specs.declared.letter.To.TheVariants.{Proc, Tty}
use Rattle.rv_mem.specs.Memory.{is_inside, bytes_at, with_bytes}
use Rattle.rv_mem.proofs.PageLaws.{less_inside}
use Rattle.t32_base.specs.Registers.{Registers}
use Rattle.rv_cpu.specs.Exec.{Executed, Steps, Calls, Traps, exec, reg}
use Rattle.proc_state.specs.Ends.{free_end, leads_at}
use Rattle.proc_state.specs.State.{ProcState, with_small}
use Rattle.sys_calls.specs.Small.{spent, lowest_linked}
use Rattle.sys_calls.specs.declared.steps.Emission.TheVariants.{Mail}
use Rattle.sys_calls.specs.Calls.{Next, Silent, Blocked, Forks, Emits, Over, Call, ExitCall, Write, Read, ReadAny, ForkCall, GetPid, Handler, Kill, SigReturn, Close, Unknown, arg, answers, refused, room, letter_to, called, call_of, close_to, first_wanted, said_within, read_any_checked, read_call, read_checked, read_found, write_to, handled_at, is_aligned, is_signal_number, signalled, sigreturn_call}
use Rattle.sys_calls.specs.declared.reading.Reading.{Reading}
use Rattle.sys_calls.specs.declared.reading.Reading.TheVariants.{Refused, AtEnd, Wants}
use Rattle.sys_calls.specs.declared.reading.Wanted.{Wanted}
use Rattle.sys_calls.specs.declared.reading.Wanted.TheVariants.{On, AnyLinked}
use Rattle.sys_calls.specs.Next.{next_step, step_by, live_step, after_exec, closing_step}
use Rattle.log_laws.proofs.pages.InsnSizes.{SizeAfter, exec_size, put_size}
use Rattle.sys_calls.proofs.Clean.{length-said, room_of_read, room_of_read_any}

-- as many pages, and as many bytes of memory
pub record SameSize (s t : ProcState) : Type 0 where
  pub pages : (t.small).pages ≡ (s.small).pages
  pub bytes : length t.memory ≡ length s.memory

-- what each kind of step leaves
abbrev pub Keeps : ProcState → Next → Type 0
Keeps s (Silent t) = SameSize s t
Keeps s Blocked = Unit {0}
Keeps s Forks = Unit {0}
Keeps s (Emits e t) = SameSize s t
Keeps s Over = Unit {0}

-- ---- what a read may write

-- a read that passed its checks has its room in memory
abbrev HasRoom : List ℕ → Reading → Type 0
HasRoom memory (Refused error) = Unit {0}
HasRoom memory AtEnd = Unit {0}
HasRoom memory (Wants wanted ptr room) = is_inside memory ptr room ≡ true

-- ---- a step

module _ (s p : ProcState) (pages : (p.small).pages ≡ (s.small).pages) (bytes : length p.memory ≡ length s.memory) where
  written_some : (e ptr len : ℕ) (to : To) (none : Bool)
      → Keeps s (cond none (Silent (answers p 0)) (Emits (Mail (letter_to p e to (Said (bytes_at p.memory ptr len)))) (answers p len)))
  written_some e ptr len to true = record { pages = pages; bytes = bytes }
  written_some e ptr len to false = record { pages = pages; bytes = bytes }

  written_inside : (e ptr len : ℕ) (to : To) (outside none : Bool)
      → Keeps s (cond outside (refused p 14) (cond none (Silent (answers p 0)) (Emits (Mail (letter_to p e to (Said (bytes_at p.memory ptr len)))) (answers p len))))
  written_inside e ptr len to true none = record { pages = pages; bytes = bytes }
  written_inside e ptr len to false none = written_some e ptr len to none

  written_short : (e ptr len : ℕ) (to : To) (long outside none : Bool)
      → Keeps s (cond long (refused p 22) (cond outside (refused p 14) (cond none (Silent (answers p 0)) (Emits (Mail (letter_to p e to (Said (bytes_at p.memory ptr len)))) (answers p len)))))
  written_short e ptr len to true outside none = record { pages = pages; bytes = bytes }
  written_short e ptr len to false outside none = written_inside e ptr len to outside none

  written : (e ptr len : ℕ) (to : Option To) → Keeps s (write_to p e ptr len to)
  written e ptr len None = record { pages = pages; bytes = bytes }
  written e ptr len (Some to) = written_short e ptr len to (ltb 256 len) (not (is_inside p.memory ptr len)) (eqb len 0)

  closed_to : (e : ℕ) (to : Option To) → Keeps s (close_to p e to)
  closed_to e None = record { pages = pages; bytes = bytes }
  closed_to e (Some (Tty t)) = record { pages = pages; bytes = bytes }
  closed_to e (Some (Proc peer far)) = record { pages = pages; bytes = bytes }

  put : (ptr room : ℕ) → is_inside p.memory ptr room ≡ true → (body : Body) → length (with_bytes p.memory ptr (said_within room body)) ≡ length s.memory
  put ptr room inside body = put_size p.memory ptr (said_within room body) (less_inside p.memory ptr room (length (said_within room body)) (length-said room body) inside) ∙ bytes

  found : (wanted : Wanted) (ptr room : ℕ) → is_inside p.memory ptr room ≡ true → (o : Option Arrived) → Keeps s (read_found p wanted ptr room o)
  found wanted ptr room inside None = tt
  found (On e) ptr room inside (Some a) = record { pages = pages; bytes = put ptr room inside (a.letter).body }
  found AnyLinked ptr room inside (Some a) = record { pages = pages; bytes = put ptr room inside (a.letter).body }

  read : (reading : Reading) → HasRoom p.memory reading → Keeps s (read_call p reading)
  read (Refused error) inside = record { pages = pages; bytes = bytes }
  read AtEnd inside = record { pages = pages; bytes = bytes }
  read (Wants wanted ptr room) inside = found wanted ptr room inside (first_wanted p wanted)

  forked : (none full : Bool) → Keeps s (cond none (refused p 11) (cond full (refused p 24) Forks))
  forked true full = record { pages = pages; bytes = bytes }
  forked false true = record { pages = pages; bytes = bytes }
  forked false false = tt

  handles : (ok : Bool) → Keeps s (handled_at ok p (arg p 0))
  handles true = record { pages = pages; bytes = bytes }
  handles false = record { pages = pages; bytes = bytes }

  signals : (ok : Bool) → Keeps s (signalled ok p (arg p 0) (arg p 1))
  signals true = record { pages = pages; bytes = bytes }
  signals false = record { pages = pages; bytes = bytes }

  returns : (o : Option Registers) → Keeps s (sigreturn_call p o)
  returns None = record { pages = pages; bytes = bytes }
  returns (Some regs) = record { pages = pages; bytes = bytes }

  called_keeps : (c : Call) → Keeps s (called c p)
  called_keeps ExitCall = record { pages = pages; bytes = bytes }
  called_keeps Write = written (arg p 0) (arg p 1) (arg p 2) (leads_at (p.small).ends (arg p 0))
  called_keeps Read = read (read_checked p) (room_of_read p)
  called_keeps ReadAny = read (read_any_checked p) (room_of_read_any p)
  called_keeps ForkCall = forked (eqb (p.small).births 0) (is_none (free_end (p.small).ends))
  called_keeps Close = closed_to (arg p 0) (leads_at (p.small).ends (arg p 0))
  called_keeps GetPid = record { pages = pages; bytes = bytes }
  called_keeps Handler = handles (is_aligned (arg p 0))
  called_keeps Kill = signals (is_signal_number (arg p 1))
  called_keeps SigReturn = returns (p.small).frame
  called_keeps Unknown = record { pages = pages; bytes = bytes }

executed : (s : ProcState) (x : Executed) → SizeAfter x s.memory → Keeps s (after_exec x (with_small s (spent s.small)))
executed s (Steps regs bytes) size = record { pages = refl; bytes = size }
executed s (Traps code) size = record { pages = refl; bytes = refl }
executed s Calls size = called_keeps s (with_small s (spent s.small)) refl refl (call_of (reg (s.small).regs 17))

lived : (s : ProcState) (b : Bool) → Keeps s (live_step b s)
lived s true = record { pages = refl; bytes = refl }
lived s false = executed s (exec (s.small).regs s.memory) (exec_size (s.small).regs s.memory)

closed : (s : ProcState) (end : End) (found : Option (ℕ × To)) → Keeps s (closing_step found end s)
closed s end None = record { pages = refl; bytes = refl }
closed s end (Some f) = record { pages = refl; bytes = refl }

by_status : (s : ProcState) (status : Status) → Keeps s (step_by status s)
by_status s Live = lived s (eqb (s.small).left 0)
by_status s (Closing end) = closed s end (lowest_linked (s.small).ends)
by_status s (Ended end) = tt

-- the next step leaves them
pub next_keeps : (s : ProcState) → Keeps s (next_step s)
next_keeps s = by_status s (s.small).status
