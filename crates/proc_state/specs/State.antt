-- A process as the definitions see it: no marks of pages, no list of letters read and no point of last synchronisation.
use Rattle.std.specs.Prelude.{ℕ, ◌≡◌, ◌+◌, ◌-◌, ◌*◌, Bool, true, false, List, [], ◌∷◌, ◌++◌, length, replicate, slice_set, ◌&&◌, None, is_some, is_none}
use Rattle.t32_base.specs.declared.process.Pid.{Pid}
use Rattle.t32_base.specs.declared.process.Status.{Status}
use Rattle.t32_base.specs.declared.process.Status.TheVariants.{Live, Closing, Ended}
use Rattle.t32_base.specs.declared.process.EndState.TheVariants.{Never, Tty}
use Rattle.t32_base.specs.declared.letter.Arrived.{Arrived}
use Rattle.t32_base.specs.declared.letter.Letter.{Letter}
use Rattle.t32_base.specs.Registers.{Registers}
use Rattle.t32_base.specs.Small.{SmallState}
use Rattle.proc_state.specs.declared.process.Process.{Process}
use Rattle.proc_state.specs.Ends.{ends_linked_to}
use Rattle.proc_state.specs.Mail.{first_signal}

-- its state, the bytes of its memory, the letters that arrived and were not read in order of arrival, and how many have arrived
pub record ProcState : Type 0 where
  pub small : SmallState
  pub memory : List ℕ
  pub mail : List Arrived
  pub next : ℕ

-- what a process that a kernel runs is
abbrev pub state_of : Process → ProcState
state_of p = record { small = p.small; memory = (p.ram).bytes; mail = (p.mail).letters; next = (p.mail).next }

abbrev pub with_small : ProcState → SmallState → ProcState
with_small p s = record p { small = s }

-- the memory, the letters read and the point of last synchronisation stay
pub record SameRest (old new : Process) : Type 0 where
  pub ram : new.ram ≡ old.ram
  pub read : new.read ≡ old.read
  pub since : new.since ≡ old.since

abbrev pub is_live : Status → Bool
is_live Live = true
is_live (Closing end) = false
is_live (Ended end) = false

abbrev pub has_ended : Status → Bool
has_ended Live = false
has_ended (Closing end) = false
has_ended (Ended end) = true

-- a letter arrives: last in the mailbox, with the next number
abbrev pub delivered : ProcState → Letter → ProcState
delivered p letter = record p { mail = p.mail ++ record { number = p.next; letter = letter } ∷ []; next = p.next + 1 }

-- a signal can be taken: the process is live, no handler of it runs, and a signal waits
abbrev pub can_take : ProcState → Bool
can_take p = is_live (p.small).status && is_none (p.small).frame && is_some (first_signal p.mail)

-- the lowest end that was never linked is linked to an end of a peer, and no end letter was read; where there is none, the process is as it was
abbrev pub linked_to : ProcState → Pid → ℕ → ProcState
linked_to p peer far = with_small p (record (p.small) { ends = ends_linked_to (p.small).ends peer far })

-- ---- a root at its start

-- it has made no step, was sent nothing and read nothing, counts its steps from the first, and no page is marked
pub record IsFresh (p : Process) : Type 0 where
  pub steps : (p.small).steps ≡ 0
  pub letters : (p.mail).letters ≡ []
  pub next : (p.mail).next ≡ 0
  pub unread : p.read ≡ []
  pub synced : p.since ≡ 0
  pub clean : (p.ram).dirty ≡ replicate (p.small).pages false

-- all 0 but x2, which is the address after the memory; the next instruction is the one at the entry
abbrev pub first_registers : (entry pages : ℕ) → Registers
first_registers entry pages = record { x = slice_set (replicate 32 0) 2 (0x10000 + 256 * pages); pc = entry }

abbrev pub root_small : Pid → (entry pages limit births tty : ℕ) → SmallState
root_small pid entry pages limit births tty = record {
  pid = pid;
  regs = first_registers entry pages;
  ends = slice_set (replicate 32 Never) 0 (Tty tty);
  handler = 0;
  frame = None;
  left = limit;
  steps = 0;
  births = births;
  status = Live;
  pages = pages;
}

-- in a state with nothing in the mailbox; the memory is the image, followed by zero bytes
abbrev pub started : SmallState → List ℕ → ProcState
started small image = record {
  small = small;
  memory = image ++ replicate (256 * small.pages - length image) 0;
  mail = [];
  next = 0;
}

abbrev pub root_state : Pid → (entry pages : ℕ) → List ℕ → (limit births tty : ℕ) → ProcState
root_state pid entry pages image limit births tty = started (root_small pid entry pages limit births tty) image
