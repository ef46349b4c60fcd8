-- The system calls that are built: their numbers, what each checks, in this order, and what each does.
use Rattle.std.specs.Prelude.{◌≡◌, ℕ, ◌<◌, ◌+◌, ◌-◌, ◌%◌, ◌^◌, min, Bool, true, false, not, ◌&&◌, ◌||◌, ◌==◌, nat_lt, if◌then◌else◌, List, [], length, take, find, Option, Some, None, is_none, option_and_then}
use Rattle.std.specs.List.{list_any}
use Rattle.std.specs.Option.{option_map_or}
use Rattle.t32_base.specs.declared.process.End.TheVariants.{Exit}
use Rattle.t32_base.specs.declared.process.Status.TheVariants.{Closing}
use Rattle.t32_base.specs.declared.process.EndState.{EndState}
use Rattle.t32_base.specs.declared.process.EndState.TheVariants.{Shut}
use Rattle.t32_base.specs.declared.letter.Arrived.{Arrived}
use Rattle.t32_base.specs.declared.letter.Letter.{Letter}
use Rattle.t32_base.specs.declared.letter.Body.{Body}
use Rattle.t32_base.specs.declared.letter.Body.TheVariants.{Said, EndOf, Signal}
use Rattle.t32_base.specs.declared.letter.To.{To}
use Rattle.t32_base.specs.declared.letter.To.TheVariants.{Proc, Tty}
use Rattle.t32_base.specs.Registers.{Registers}
use Rattle.t32_base.specs.Small.{SmallState}
use Rattle.rv_mem.specs.Memory.{is_inside, bytes_at, with_bytes, touched}
use Rattle.rv_cpu.specs.Exec.{reg, onward}
use Rattle.proc_state.specs.Ends.{free_end, is_open_at, is_unfinished, is_unfinished_at, finished_at, leads_at}
use Rattle.proc_state.specs.Mail.{end_of, is_on, is_on_linked, without_first}
use Rattle.proc_state.specs.State.{ProcState, with_small}
use Rattle.sys_calls.specs.Small.{answered, both_answered, with_end, with_ends, with_frame, with_handler, with_status, with_regs}
use Rattle.sys_calls.specs.declared.steps.Emission.{Emission}
use Rattle.sys_calls.specs.declared.steps.Emission.TheVariants.{Mail}
use Rattle.sys_calls.specs.declared.reading.Reading.{Reading}
use Rattle.sys_calls.specs.declared.reading.Reading.TheVariants.{Refused, AtEnd, Wants}
use Rattle.sys_calls.specs.declared.reading.Wanted.{Wanted}
use Rattle.sys_calls.specs.declared.reading.Wanted.TheVariants.{On, AnyLinked}

-- what the next step of a process is: it changes the process, or sends something too; or there is none, since it waits, forks or has ended
pub data Next : Type 0 where
  Silent : (after : ProcState) → Next
  Blocked : Next
  Forks : Next
  Emits : (what : Emission) (after : ProcState) → Next
  Over : Next

pub data Call : Type 0 where
  ExitCall : Call
  Write : Call
  Read : Call
  ReadAny : Call
  ForkCall : Call
  GetPid : Call
  Handler : Call
  Kill : Call
  SigReturn : Call
  Close : Call
  Unknown : Call

-- the call with a number, which is in a7
abbrev pub call_of : ℕ → Call
call_of n =
    if n == 1 then ExitCall else if n == 2 then Write else if n == 3 then Read else if n == 4 then ReadAny
    else if n == 5 then ForkCall else if n == 6 then GetPid else if n == 7 then Handler else if n == 8 then Kill
    else if n == 9 then SigReturn else if n == 10 then Close else Unknown

-- ---- what a call is made of; p is the process after its instruction was spent

-- argument i is in the register 10 + i
abbrev pub arg : ProcState → ℕ → ℕ
arg p i = reg (p.small).regs (10 + i)

abbrev pub answers : ProcState → ℕ → ProcState
answers p v = with_small p (answered p.small v)

-- the answer of a call that a check refuses: minus the error's number, on 32 bits
abbrev pub refused : ProcState → ℕ → Next
refused p error = Silent (answers p (2 ^ 32 - error))

abbrev pub letter_to : ProcState → ℕ → To → Body → Letter
letter_to p out to body = record { from = (p.small).pid; out = out; to = to; body = body }

-- ---- write and close

-- a write of len bytes from ptr on, where the end leads
abbrev pub write_to : ProcState → ℕ → ℕ → ℕ → Option To → Next
write_to p e ptr len None = refused p 9
write_to p e ptr len (Some to) =
    if nat_lt 256 len then refused p 22
    else if not (is_inside p.memory ptr len) then refused p 14
    else if len == 0 then Silent (answers p 0)
    else Emits (Mail (letter_to p e to (Said (bytes_at p.memory ptr len)))) (answers p len)

-- write(end, ptr, len): the end is open, at most 256 bytes, and each in memory
abbrev pub write_call : ProcState → ℕ → ℕ → ℕ → Next
write_call p e ptr len = write_to p e ptr len (leads_at (p.small).ends e)

abbrev pub shut_end : ProcState → ℕ → ProcState
shut_end p e = with_small p (with_end p.small e Shut)

-- an open end is shut; where it leads to a peer, an end letter goes there
abbrev pub close_to : ProcState → ℕ → Option To → Next
close_to p e None = refused p 9
close_to p e (Some (Tty t)) = Silent (answers (shut_end p e) 0)
close_to p e (Some (Proc peer far)) = Emits (Mail (letter_to p e (Proc peer far) EndOf)) (answers (shut_end p e) 0)

-- close(end): the end is open
abbrev pub close_call : ProcState → ℕ → Next
close_call p e = close_to p e (leads_at (p.small).ends e)

-- ---- reads

-- how many bytes of a letter a read may copy
abbrev pub room : ℕ → ℕ
room max = min max 256

-- read(end, ptr, max): the end is open and not the terminal, and each byte that may be copied to is in memory; a finished end has no more letters
abbrev pub read_checked : ProcState → Reading
read_checked p =
    if (arg p 0 == 0) || not (is_open_at (p.small).ends (arg p 0)) then Refused 9
    else if not (is_inside p.memory (arg p 1) (room (arg p 2))) then Refused 14
    else if is_unfinished_at (p.small).ends (arg p 0) then Wants (On (arg p 0)) (arg p 1) (room (arg p 2))
    else AtEnd

-- read_any(ptr, max): each byte that may be copied to is in memory, and an end is linked and not finished
abbrev pub read_any_checked : ProcState → Reading
read_any_checked p =
    if not (is_inside p.memory (arg p 0) (room (arg p 1))) then Refused 14
    else if not (list_any is_unfinished (p.small).ends) then Refused 9
    else Wants AnyLinked (arg p 0) (room (arg p 1))

abbrev pub is_wanted : List EndState → Wanted → Arrived → Bool
is_wanted ends (On e) a = is_on e a
is_wanted ends AnyLinked a = is_on_linked ends a

-- the first letter in the mailbox that a read wants
abbrev pub first_wanted : ProcState → Wanted → Option Arrived
first_wanted p wanted = find (is_wanted (p.small).ends wanted) p.mail

-- the bytes that are copied of what a letter says: as many as there is room for
abbrev pub said_within : ℕ → Body → List ℕ
said_within room (Said bytes) = take room bytes
said_within room EndOf = []
said_within room (Signal g) = []

-- an end letter for end e makes that end finished
abbrev pub ends_after : Body → ℕ → List EndState → List EndState
ends_after (Said bytes) e ends = ends
ends_after EndOf e ends = finished_at ends e
ends_after (Signal g) e ends = ends

-- the answers: how many bytes were copied, and the number of the letter's end where any linked end would do
abbrev pub read_answered : Wanted → SmallState → ℕ → ℕ → SmallState
read_answered (On e) s count end = answered s count
read_answered AnyLinked s count end = both_answered s count end

-- the first letter that is wanted is taken out of the mailbox and read to ptr
abbrev pub letter_read : ProcState → Wanted → ℕ → ℕ → Arrived → ProcState
letter_read p wanted ptr room a = record p {
  small = read_answered wanted (with_ends p.small (ends_after (a.letter).body (end_of (a.letter).to) (p.small).ends)) (length (said_within room (a.letter).body)) (end_of (a.letter).to);
  memory = with_bytes p.memory ptr (said_within room (a.letter).body);
  mail = without_first (is_wanted (p.small).ends wanted) p.mail;
}

-- an error has a number above 0, and each byte that may be copied to is in memory
abbrev pub IsSound : List ℕ → Reading → Type 0
IsSound memory (Refused error) = 0 < error
IsSound memory AtEnd = Unit {0}
IsSound memory (Wants wanted ptr room) = is_inside memory ptr room ≡ true

-- a read waits where no letter is there that it wants
abbrev pub read_found : ProcState → Wanted → ℕ → ℕ → Option Arrived → Next
read_found p wanted ptr room None = Blocked
read_found p wanted ptr room (Some a) = Silent (letter_read p wanted ptr room a)

abbrev pub read_call : ProcState → Reading → Next
read_call p (Refused error) = refused p error
read_call p AtEnd = Silent (answers p 0)
read_call p (Wants wanted ptr room) = read_found p wanted ptr room (first_wanted p wanted)

-- ---- fork

-- fork(): a birth is left, and an end that was never linked; the fork itself is a step of its own kind
abbrev pub fork_call : ProcState → Next
fork_call p =
    if (p.small).births == 0 then refused p 11
    else if is_none (free_end (p.small).ends) then refused p 24
    else Forks

-- ---- signals

-- an instruction's address is a multiple of 4
abbrev pub is_aligned : ℕ → Bool
is_aligned addr = addr % 4 == 0

abbrev pub handled_at : Bool → ProcState → ℕ → Next
handled_at true p addr = Silent (answers (with_small p (with_handler p.small addr)) 0)
handled_at false p addr = refused p 22

-- handler(addr): signals are handled at a multiple of 4, and 0 says that they are not
abbrev pub handler_call : ProcState → ℕ → Next
handler_call p addr = handled_at (is_aligned addr) p addr

-- a signal is a number from 1 to 31
abbrev pub is_signal_number : ℕ → Bool
is_signal_number sig = nat_lt 0 sig && nat_lt sig 32

abbrev pub signalled : Bool → ProcState → ℕ → ℕ → Next
signalled true p pid sig = Emits (Mail (letter_to p 0 (Proc (record { 0 = pid }) 0) (Signal sig))) (answers p 0)
signalled false p pid sig = refused p 22

-- kill(pid, sig): a signal is sent to a process, whether or not it lives
abbrev pub kill_call : ProcState → ℕ → ℕ → Next
kill_call p pid sig = signalled (is_signal_number sig) p pid sig

-- sigreturn(): the registers from before the handler are those of the process again
abbrev pub sigreturn_call : ProcState → Option Registers → Next
sigreturn_call p None = refused p 22
sigreturn_call p (Some regs) = Silent (with_small p (with_frame (with_regs p.small regs) None))

-- ---- the calls

-- p makes the call
abbrev pub called : Call → ProcState → Next
called ExitCall p = Silent (with_small p (with_regs (with_status p.small (Closing (Exit (arg p 0 % 256)))) (onward (p.small).regs)))
called Write p = write_call p (arg p 0) (arg p 1) (arg p 2)
called Read p = read_call p (read_checked p)
called ReadAny p = read_call p (read_any_checked p)
called ForkCall p = fork_call p
called GetPid p = Silent (answers p ((p.small).pid).0)
called Handler p = handler_call p (arg p 0)
called Kill p = kill_call p (arg p 0) (arg p 1)
called SigReturn p = sigreturn_call p (p.small).frame
called Close p = close_call p (arg p 0)
called Unknown p = refused p 22

-- the read that a call is, after its checks
abbrev pub reading_of : Call → ProcState → Option Reading
reading_of ExitCall p = None
reading_of Write p = None
reading_of Read p = Some (read_checked p)
reading_of ReadAny p = Some (read_any_checked p)
reading_of ForkCall p = None
reading_of GetPid p = None
reading_of Handler p = None
reading_of Kill p = None
reading_of SigReturn p = None
reading_of Close p = None
reading_of Unknown p = None

-- the letter that a read takes
abbrev pub wanted_letter : ProcState → Reading → Option Arrived
wanted_letter p (Refused error) = None
wanted_letter p AtEnd = None
wanted_letter p (Wants wanted ptr room) = first_wanted p wanted

-- the letter that a call takes
abbrev pub letter_called : Call → ProcState → Option Arrived
letter_called call p = option_and_then (wanted_letter p) (reading_of call p)

-- the marks of the pages after a letter was read to ptr: those that have its bytes are set
abbrev pub marks_found : ℕ → ℕ → Option Arrived → List Bool → List Bool
marks_found ptr room None dirty = dirty
marks_found ptr room (Some a) dirty = touched dirty ptr (length (said_within room (a.letter).body))

abbrev pub marks_read : ProcState → List Bool → Reading → List Bool
marks_read p dirty (Refused error) = dirty
marks_read p dirty AtEnd = dirty
marks_read p dirty (Wants wanted ptr room) = marks_found ptr room (first_wanted p wanted) dirty

-- the marks after a call
abbrev pub marks_called : Call → ProcState → List Bool → List Bool
marks_called call p dirty = option_map_or (marks_read p dirty) (reading_of call p) dirty
