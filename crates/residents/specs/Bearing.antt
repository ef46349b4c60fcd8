-- A process here that is to have a child: its birth is queued while it stands before its fork, which is made where the birth is taken in.
use Rattle.std.specs.Prelude.{◌≡◌, true, false, List, [], length, replicate, Option, Some, None, ⊤}
use Rattle.std.specs.List.{list_any}
use Rattle.std.specs.Option.{option_map_or}
use Rattle.t32_base.specs.declared.process.Pid.{Pid}
use Rattle.proc_state.specs.declared.process.Process.{Process}
use Rattle.proc_state.specs.State.{state_of}
use Rattle.sys_calls.specs.Fork.{CanFork, child_small, fork_parent}
use Rattle.bus_msg.specs.Places.{same_pid}
use Rattle.residents.specs.Changed.{with_changed, with_more}
use Rattle.residents.specs.Held.{Held, Runs, Rolls, Waits, held_of}

-- ---- the fork

-- the process after its fork
abbrev pub forked : Process → Pid → Process
forked p child = record p { small = (fork_parent (state_of p) child).small }

-- its child as it is born: it has the memory, of which each page is marked, no letters, and no steps made
abbrev pub newborn : Process → Pid → Process
newborn p child = record {
  small = child_small p.small child;
  ram = record { bytes = (p.ram).bytes; dirty = replicate (length (p.ram).dirty) true };
  mail = record { letters = []; next = 0 };
  read = [];
  since = 0;
}

-- a process that runs has forked, and its child runs beside it
abbrev pub with_fork : Pid → Pid → Held → List (Pid × Held) → List (Pid × Held)
with_fork p child (Runs process) here = with_more child (Runs (newborn process child)) (with_changed p (Runs (forked process child)) here)
with_fork p child (Rolls process counts births) here = here
with_fork p child (Waits waiting) here = here

-- so it is where the parent is here
abbrev pub with_born : Pid → Pid → List (Pid × Held) → List (Pid × Held)
with_born p child here = option_map_or (λ (h : Held). with_fork p child h here) (held_of here p) here

-- ---- the calls

-- one that runs can fork
abbrev pub CanForkNow : Held → Type 0
CanForkNow (Runs p) = CanFork (state_of p)
CanForkNow (Rolls p counts births) = ⊤
CanForkNow (Waits waiting) = ⊤

-- it has forked, and this is its child; one that does not run has none
abbrev pub HasForked : Pid → Held → Option Process → Held → Type 0
HasForked child (Runs p) born new = (born ≡ Some (newborn p child)) × (new ≡ Runs (forked p child))
HasForked child (Rolls p counts births) born new = (born ≡ None) × (new ≡ Rolls p counts births)
HasForked child (Waits waiting) born new = (born ≡ None) × (new ≡ Waits waiting)

-- the parent can fork, if it is here,
abbrev pub CanForkAt : Pid → List (Pid × Held) → Type 0
CanForkAt p here = (h : Held) → held_of here p ≡ Some h → CanForkNow h

-- and then the child is not
abbrev pub CanBear : Pid → Pid → List (Pid × Held) → Type 0
CanBear p child here = CanForkAt p here × ((h : Held) → held_of here p ≡ Some h → list_any (λ (e : Pid × Held). same_pid e.0 child) here ≡ false)

-- the parent is held so: it has forked where it runs, and this is its child
abbrev pub ForksFrom : Pid → Pid → List (Pid × Held) → Option Held → Option Process → List (Pid × Held) → Type 0
ForksFrom p child old None born new = (born ≡ None) × (new ≡ old)
ForksFrom p child old (Some (Runs process)) born new = (born ≡ Some (newborn process child)) × (new ≡ with_changed p (Runs (forked process child)) old)
ForksFrom p child old (Some (Rolls process counts births)) born new = (born ≡ None) × (new ≡ old)
ForksFrom p child old (Some (Waits waiting)) born new = (born ≡ None) × (new ≡ old)

-- the same by what is held of it
abbrev pub ForksAt : Pid → Pid → List (Pid × Held) → Option Process → List (Pid × Held) → Type 0
ForksAt p child old born new = ForksFrom p child old (held_of old p) born new
